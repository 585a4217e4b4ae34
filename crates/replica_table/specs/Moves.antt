-- Rows with their first key bytes replaced, by their places in a table, as the code goes. `Moving` in proofs/ has that
-- these are the rows that a clone makes. Assumes nothing.
use Rattle.std.specs.Prelude.{Bool, true, false, ◌&&◌, List, [], ◌++◌, ℕ, zero, suc, ◌+◌, ◌-◌, leb, length}
use Rattle.words.specs.Words.{word}
use Rattle.journal_entry.specs.Places.{part}
use Rattle.journal_entry.specs.declared.EntryPlace.{EntryPlace}
use Rattle.table_rows.specs.Places.{row_at, case_row}

-- so many rows from `at` on have at least so many key bytes, and at most `room` behind these
unfoldable pub moves_fit : (t : List ℕ) (at n fromLen room : ℕ) → Bool
moves_fit t at zero fromLen room = true
moves_fit t at (suc n) fromLen room =
    case_row (row_at t at) (λ p. leb fromLen p.first_len
    && (leb (p.first_len - fromLen) room && moves_fit t p.next n fromLen room)) false

-- the wire form of a row with its first key bytes replaced: the new length word, `to`, and the row's bytes behind
-- those replaced
abbrev pub moved_form : (t : List ℕ) (p : EntryPlace) (fromLen : ℕ) (to : List ℕ) → List ℕ
moved_form t p fromLen to =
    word (length to + (p.first_len - fromLen)) ++ (to ++ part t (p.first_at + fromLen) p.next)

unfoldable pub moved_forms : (t : List ℕ) (at n fromLen : ℕ) (to : List ℕ) → List ℕ
moved_forms t at zero fromLen to = []
moved_forms t at (suc n) fromLen to =
    case_row (row_at t at) (λ p. moved_form t p fromLen to ++ moved_forms t p.next n fromLen to) []
