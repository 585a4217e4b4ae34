-- A row read by its two length words: an insert within its limits that ends in the table, and nothing else. Assumes
-- nothing.
use mathlib.Core.Path.{◌≡◌, refl, ap}
use mathlib.Core.Bool.{Bool, true, false}
use mathlib.Core.List.{List}
use mathlib.Core.Logic.{⊎_elim}
use Rattle.std.specs.Prelude.{Option, None, Some}
use Prim.Native.Nat.{ℕ, ◌+◌, ◌-◌, ◌≤◌}
use native.Mathlib.Omega.{arith}
use borrow.Author.Tests.{lt-leb}
use lib.Dec.{leb}
use lib.ListN.{length}
use Rattle.journal_entry.specs.declared.Kind.TheVariants.{Insert}
use Rattle.journal_entry.specs.declared.EntryPlace.{EntryPlace}
use Rattle.journal_entry.specs.Entry.{clone_mark, first_limit, value_limit, second_limit}
use Rattle.journal_entry.specs.Places.{word_at, kind_of, entry_at, place_at, first_at, second_at}
use Rattle.journal_entry.proofs.Readable.{Readable, read_yes, read_no, decided, first_at_lem, second_at_lem}
use Rattle.journal_entry.proofs.Readable.{place_at_lem}
use Rattle.table_rows.specs.Places.{row_of_kind, row_of_entry, row_at}

module _ (t : List ℕ) (at : ℕ) where
  abbrev first_word : ℕ
  first_word = word_at t at

  abbrev second_word : ℕ
  second_word = word_at t (at + 4 + first_word)

  -- what the two words are to be
  pub record Reads : Type 0 where
    pub first_fits : first_word ≤ first_limit
    pub second_fits : second_word ≤ value_limit
    pub before : at + 8 + first_word + second_word ≤ length t

  -- of an insert they are the lengths
  module _ (insert : leb 4096 first_word ≡ false) where
    whole : first_word ≡ first_word - clone_mark (leb 4096 first_word)
    whole = rw insert (omega arith)

    is_first : first_word ≡ first_at t at
    is_first = first_at_lem t at first_word refl first_word whole

    is_second : second_word ≡ second_at t at
    is_second = second_at_lem t at first_word refl first_word whole second_word refl

    insert_place : ◌≡◌ {A = EntryPlace}
        (record {
          kind = Insert;
          first_at = at + 4;
          first_len = first_word;
          second_at = at + 8 + first_word;
          second_len = second_word;
          next = at + 8 + first_word + second_word;
        })
        (place_at t at)
    insert_place = place_at_lem t at first_word refl first_word whole Insert (rw insert) second_word refl

  pub not_read : (Reads → ⊥) → None ≡ row_at t at
  unfolding row_at place_at
  not_read never = ⊎_elim readable unreadable (decided t at (length t))
    where
      unreadable : (Readable t at (length t) → ⊥) → None ≡ row_of_entry (entry_at t at (length t))
      unreadable n = rw (read_no t at (length t) n)

      -- a clone is no row
      kinds : (clone : Bool) → leb 4096 first_word ≡ clone → Readable t at (length t)
          → None ≡ row_of_kind (kind_of clone) (place_at t at)
      kinds true e h = refl
      kinds false e h =
          let limit : second_limit (leb 4096 first_word) ≡ value_limit = ap second_limit e in
          absurd (never (record {
            first_fits = omega (arith, is_first e, h.first_fits);
            second_fits = omega (arith, is_second e, h.second_fits, limit);
            before = omega (arith, is_first e, is_second e, h.before);
          }))

      readable : Readable t at (length t) → None ≡ row_of_entry (entry_at t at (length t))
      readable h = rw (read_yes t at (length t) h) (kinds (leb 4096 first_word) refl h)

  pub read : Reads
      → ◌≡◌ {A = Option EntryPlace}
      (Some (record {
        kind = Insert;
        first_at = at + 4;
        first_len = first_word;
        second_at = at + 8 + first_word;
        second_len = second_word;
        next = at + 8 + first_word + second_word;
      }))
      (row_at t at)
  unfolding row_at
  read r =
      let insert : leb 4096 first_word ≡ false = lt-leb 4096 first_word (omega (arith, r.first_fits)) in
      let limit : second_limit (leb 4096 first_word) ≡ value_limit = ap second_limit insert in
      let h : Readable t at (length t) =
      record {
        inside = omega arith;
        before = omega (arith, is_first insert, is_second insert, r.before);
        first_fits = omega (arith, is_first insert, r.first_fits);
        second_fits = omega (arith, is_second insert, r.second_fits, limit);
      } in
      rw (read_yes t at (length t) h, ← (insert_place insert)) refl
