-- `card::super_block::LiveInterval::write` meets its contract: fields, zeros, and the checksum of both in front.
-- Assumes nothing.
use mathlib.Core.Path.{◌∙◌}
use Rattle.words.proofs.Splice.{put_mid_front}
use Rattle.card.proofs.Zeros.{zeros_are}
use Rattle.card.proofs.Written.{superblock_written}
use borrow.Author.Rules.{rules}
use Rattle.card.proofs.super_block.LiveInterval.write.Goals as goal

pub returns : goal.returns
returns c =
    superblock_written c.args.block.now c.args.self.start c.args.self.len c.requires c.fields-fields.result
    c.copy_from_slice.new.self c.zero_fill.new.dst c.checksum-sum.result
    _ c.fields-fields.ensures c.copy_from_slice.ensures.after
    (c.zero_fill.ensures ∙ zeros_are _) c.checksum-sum.ensures
    (put_mid_front _ c.checksum-sum.result _ 32 c.copy_from_slice-2.ensures.after (search rules))
