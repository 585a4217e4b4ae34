-- Four pieces, one straight behind the other, are one overwrite of the wire form.
-- Assumes nothing.
use Rattle.journal_entry.specs.Places.{is_clone_kind}
use Rattle.journal_ring.proofs.Runs.{write_form}
use Rattle.journal_ring.proofs.put_form.Goals as goal

pub returns : goal.returns
returns c =
    write_form c.args.ring.now c.args.at (is_clone_kind c.args.kind) c.args.first.now
    c.args.second.now c.mark.result
    c.put_word-first_at.new.ring c.put_bytes-second_word_at.new.ring c.put_word-second_at.new.ring
    c.put_bytes.new.ring c.put_word-first_at.result c.put_bytes-second_word_at.result c.put_word-second_at.result
    c.requires.at_in_bounds.0 c.requires.at_in_bounds.1 c.mark.ensures.value
    c.put_word-first_at.ensures.ring_new c.put_word-first_at.ensures.value
    c.put_bytes-second_word_at.ensures.ring_new c.put_bytes-second_word_at.ensures.value
    c.put_word-second_at.ensures.ring_new c.put_word-second_at.ensures.value
    c.put_bytes.ensures.ring_new
