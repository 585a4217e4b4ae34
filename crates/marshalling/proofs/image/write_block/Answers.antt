-- `marshalling::image::write_block` meets its contract: the payload is filled, and its checksum goes in front.
-- Assumes nothing.
use lib.ListN.{drop}
use Rattle.words.proofs.Splice.{put_mid_front}
use Rattle.marshalling.specs.Forms.{batch_bytes}
use Rattle.marshalling.proofs.Writing.{block_written}
use borrow.Author.Rules.{rules}
use Rattle.marshalling.proofs.image.write_block.Goals as goal

pub returns-clause-out_new : goal.returns-clause-out_new
returns-clause-out_new c =
    let a = c.args in
    block_written a.out.now c.fill_payload-runs.new.dst _ c.checksum-sum.result
    (drop a.from (batch_bytes a.batch.now)) c.requires.0
    c.fill_payload-runs.ensures.dst_new c.checksum-sum.ensures
    (put_mid_front _ c.checksum-sum.result _ 32 c.copy_from_slice.ensures.after (search rules))
