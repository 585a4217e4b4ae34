-- Two slices read as one byte sequence. Assumes nothing.
use Rattle.std.specs.Prelude.{List, ◌++◌, ℕ}
use Rattle.journal_entry.specs.declared.sequence.Joined.{Joined}

abbrev pub joined : Joined → List ℕ
joined s = s.front.now ++ s.back.now
