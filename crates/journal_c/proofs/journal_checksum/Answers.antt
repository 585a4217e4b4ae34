-- `journal_c::journal_checksum` meets its contract: the two laws of `checksum_call`, by whether there is room.
-- Assumes nothing.
use borrow.Author.Rules.{rules}
use Rattle.words.proofs.Splice.{put_mid_front}
use Rattle.journal_c.proofs.Heads.{no_room, room}
use Rattle.journal_c.proofs.journal_checksum.Goals as goal

pub returns-then-out-lt32 : goal.returns-then-out-lt32
returns-then-out-lt32 c =
    let told = no_room c.args.s.now c.args.out.now _ c.if-out-lt32.true c.into.ensures in
    record { value = told.0; out_new = told.1 }

pub returns : goal.returns
returns c =
    let told = room c.args.s.now c.args.out.now c.checksum-head.result _
    c.if-out-lt32.false
    c.checksum-head.ensures
    (put_mid_front c.args.out.now c.checksum-head.result _ 32 c.copy_from_slice.ensures.after (search rules)) in
    record { value = told.0; out_new = told.1 }
