-- A loaded range replayed: the record that a load gives hands out the range's entries, so the table has the map of its
-- list. Assumes nothing.
use mathlib.Core.Bool.{true}
use mathlib.Core.Path.{◌≡◌, sym, ap, ◌∙◌, subst}
use mathlib.Core.List.{List, ◌++◌}
use Rattle.std.specs.Prelude.{Some}
use Prim.Native.Nat.{ℕ}
use borrow.Author.Tests.{le-leb}
use lib.ListN.{length, drop}
use Rattle.refusals.specs.Outcome.{gives, into}
use Rattle.journal_entry.specs.Entry.{JournalEntry, AllWithin, value_limit, wires}
use Rattle.journal_range.proofs.Limits.{range_within}
use Rattle.replay_cursor.proofs.HandedOut.{loaded_holds}
use Rattle.journalist.specs.declared.Journalist.{Journalist}
use Rattle.journalist.specs.Record.{hangs_together}
use Rattle.journalist.specs.Changes.{loaded_record}
use Rattle.journalist.specs.Recovery.{sides_range, parse_journals_call, replay_loaded}
use Rattle.journalist.proofs.RecoveryLaws.{sides_entries, load_taken, loaded_hangs}
use Rattle.journalist.proofs.Replaying.{RecordHandsOut, record_hands_out}
use Rattle.key_map.specs.Map.{replay_map}
use Rattle.table_rows.specs.Rows.{Row, lookup, replayed}
use Rattle.table_rows.specs.Table.{table_rows}
use Rattle.replica.specs.Replay.{Centre, replay_all, left_by, left_of, leaves, steps_rows}
use Rattle.replica.proofs.Whole.{replay_exactly, replay_whole, ranges_joined}

module _ (j : Journalist) (front back d : List ℕ) (k : Journalist)
    (done : parse_journals_call j front back d ≡ gives k) where
  abbrev es : List JournalEntry
  es = sides_entries j front back

  pub loaded_within : AllWithin es
  loaded_within = range_within value_limit (sides_range j front back) es (load_taken j front back d k done).0.read

  buffer_is : replay_loaded j front back d ≡ wires es ++ drop (length (wires es)) d
  unfolding replay_loaded
  buffer_is =
      let t = (load_taken j front back d k done).0 in
      rw (done, t.read, le-leb _ _ t.room)

  pub loaded_hands_out : RecordHandsOut k (replay_loaded j front back d) es
  unfolding loaded_record
  loaded_hands_out =
      let (t, is) = load_taken j front back d k done in
      subst (λ (s : List ℕ). RecordHandsOut k s es) (sym buffer_is)
      (subst (λ (r : Journalist). RecordHandsOut r (wires es ++ drop (length (wires es)) d) es) is
      (record_hands_out (loaded_record j es) (wires es ++ drop (length (wires es)) d) es
      (subst (λ (r : Journalist). hangs_together r ≡ true) (sym is) (loaded_hangs j front back d k done))
      (loaded_holds es (drop (length (wires es)) d) loaded_within)))

  handed : (a : Centre) → a.journal ≡ k → RecordHandsOut a.journal (replay_loaded j front back d) es
  handed a at =
      subst (λ (r : Journalist). RecordHandsOut r (replay_loaded j front back d) es) (sym at) loaded_hands_out

  -- THE LOAD REPLAYED: as many calls as it has entries come to its entries' steps
  pub load_replayed : (a : Centre) (rows : List Row) → a.journal ≡ k → table_rows a.count a.table ≡ Some rows
      → length a.work ≡ length a.table
      → left_of (replay_all (length es) a (replay_loaded j front back d))
      ≡ into (leaves (length a.table)) (steps_rows (length a.table) rows es)
  load_replayed a rows at is long =
      replay_exactly es a (replay_loaded j front back d) rows (handed a at) loaded_within is long

  -- where every call is accepted, of every key what the map of the list has
  pub load_map : (a b : Centre) (rows : List Row) → a.journal ≡ k → table_rows a.count a.table ≡ Some rows
      → length a.work ≡ length a.table → replay_all (length es) a (replay_loaded j front back d) ≡ gives b
      → (table_rows b.count b.table ≡ Some (replayed rows es))
      × ((key : List ℕ) → lookup (replayed rows es) key ≡ replay_map (lookup rows) es key)
  load_map a b rows at is long done' =
      replay_whole es a b (replay_loaded j front back d) rows (handed a at) loaded_within is long done'

-- THE CENTRE'S SENTENCE, of loads: the second range replayed on what the first left comes to what their joined range
-- does. (That this reads as the first list and then the second is the law `joining` of ranges.)
module _ (j₁ j₂ j₃ : Journalist) (f₁ b₁ d₁ f₂ b₂ d₂ f₃ b₃ d₃ : List ℕ) (k₁ k₂ k₃ : Journalist)
    (l₁ : parse_journals_call j₁ f₁ b₁ d₁ ≡ gives k₁) (l₂ : parse_journals_call j₂ f₂ b₂ d₂ ≡ gives k₂)
    (l₃ : parse_journals_call j₃ f₃ b₃ d₃ ≡ gives k₃)
    (joined : sides_entries j₃ f₃ b₃ ≡ sides_entries j₁ f₁ b₁ ++ sides_entries j₂ f₂ b₂) where
  pub loads_joined : (a b c u : Centre) (rows : List Row) → a.journal ≡ k₁ → c.journal ≡ k₂ → u.journal ≡ k₃
      → table_rows a.count a.table ≡ Some rows → length a.work ≡ length a.table
      → replay_all (length (sides_entries j₁ f₁ b₁)) a (replay_loaded j₁ f₁ b₁ d₁) ≡ gives b
      → left_by c ≡ left_by b → left_by u ≡ left_by a
      → left_of (replay_all (length (sides_entries j₂ f₂ b₂)) c (replay_loaded j₂ f₂ b₂ d₂))
      ≡ left_of (replay_all (length (sides_entries j₃ f₃ b₃)) u (replay_loaded j₃ f₃ b₃ d₃))
  loads_joined a b c u rows at₁ at₂ at₃ is long done at_b at_a =
      let xs : List JournalEntry = sides_entries j₁ f₁ b₁ in
      let ys : List JournalEntry = sides_entries j₂ f₂ b₂ in
      ranges_joined xs ys a b c u (replay_loaded j₁ f₁ b₁ d₁) (replay_loaded j₂ f₂ b₂ d₂)
      (replay_loaded j₃ f₃ b₃ d₃) rows
      (handed j₁ f₁ b₁ d₁ k₁ l₁ a at₁) (handed j₂ f₂ b₂ d₂ k₂ l₂ c at₂)
      (subst (RecordHandsOut u.journal (replay_loaded j₃ f₃ b₃ d₃)) joined (handed j₃ f₃ b₃ d₃ k₃ l₃ u at₃))
      (loaded_within j₁ f₁ b₁ d₁ k₁ l₁) (loaded_within j₂ f₂ b₂ d₂ k₂ l₂) is long done at_b at_a
      ∙ ap (λ (l : List JournalEntry). left_of (replay_all (length l) u (replay_loaded j₃ f₃ b₃ d₃))) (sym joined)
