-- Whether a slice is a table, row by row: what is left tells the same of the whole after each row, and none where
-- no row follows. Assumes nothing.
use mathlib.Core.Path.{◌≡◌, refl, sym, ap, ◌∙◌, subst}
use mathlib.Core.Bool.{Bool, true, false, cond, ◌&&◌}
use mathlib.Core.List.{List, [], ◌∷◌}
use Rattle.std.specs.Prelude.{Option, None, Some}
use Prim.Native.Nat.{ℕ, suc, ◌+◌, ◌-◌, ◌<◌}
use native.Mathlib.Omega.{arith}
use lib.ListN.{length, drop}
use Rattle.refusals.proofs.Tests.{impossible}
use Rattle.words.specs.Lists.{all_zero}
use Rattle.journal_entry.specs.declared.EntryPlace.{EntryPlace}
use Rattle.journal_entry.specs.Entry.{JournalEntry, journal_insert, journal_clone}
use Rattle.journal_entry.specs.Parse.{◌>>=◌, provided, parse_entry, read_entries, read_entries_at}
use Rattle.key_map.specs.Keys.{before}
use Rattle.table_rows.specs.declared.rest.Rest.{Rest}
use Rattle.table_rows.specs.Rows.{Row, row_of, ascending_from}
use Rattle.table_rows.specs.Table.{rows_of, table_rows}
use Rattle.table_rows.specs.Places.{row_at, key_in, value_in, case_row, rows_from, used_of}
use Rattle.table_rows.specs.Rest.{prior_key, is_behind, next_row, rest_behind, tested, rest_rows, taken, Lies}
use Rattle.table_rows.proofs.RowPlaces.{RowThere, row_told, no_row, key_inside, long_part}

abbrev Pairs : Type 0
Pairs = List JournalEntry × List ℕ

abbrev with_entry : JournalEntry → Pairs → Option Pairs
with_entry e x = Some (e ∷ x.0, x.1)

abbrev as_rows : Option (List ℕ) → Pairs → Option (List Row)
as_rows prior x = rows_of x.0 >>= tested prior x.1

abbrev cons_row : Row → Option (List Row) → Option (List Row)
cons_row r None = None
cons_row r (Some rows) = Some (r ∷ rows)

-- one row more
tested_more : (prior : Option (List ℕ)) (k v rest : List ℕ) (rows : List Row)
    → tested prior rest (row_of k v ∷ rows)
    ≡ provided (is_behind prior k) (cons_row (row_of k v) (tested (Some k) rest rows))
tested_more None k v rest rows = go (ascending_from k rows && all_zero rest)
  where
    go : (t : Bool) → provided t (Some (row_of k v ∷ rows)) ≡ cons_row (row_of k v) (provided t (Some rows))
    go true = refl
    go false = refl
tested_more (Some j) k v rest rows = go (before j k) (ascending_from k rows) (all_zero rest)
  where
    go : (s t z : Bool) → provided ((s && t) && z) (Some (row_of k v ∷ rows))
        ≡ provided s (cons_row (row_of k v) (provided (t && z) (Some rows)))
    go true true true = refl
    go true true false = refl
    go true false z = refl
    go false t z = refl

nothing : (prior : Option (List ℕ)) (k : List ℕ) → ◌≡◌ {A = Option (List Row)} None (provided (is_behind prior k) None)
nothing prior k = go (is_behind prior k)
  where
    go : (t : Bool) → ◌≡◌ {A = Option (List Row)} None (provided t None)
    go true = refl
    go false = refl

rest_more : (prior : Option (List ℕ)) (n : ℕ) (s k v s₁ : List ℕ) → parse_entry s ≡ Some (journal_insert k v, s₁)
    → rest_rows prior (suc n) s ≡ provided (is_behind prior k) (cons_row (row_of k v) (rest_rows (Some k) n s₁))
unfolding rest_rows read_entries_at
rest_more prior n s k v s₁ e = rw e (go (read_entries n s₁))
  where
    all : (o : Option (List Row)) (rest : List ℕ)
        → ((o >>= (λ rows. Some (row_of k v ∷ rows))) >>= tested prior rest)
        ≡ provided (is_behind prior k) (cons_row (row_of k v) (o >>= tested (Some k) rest))
    all None rest = nothing prior k
    all (Some rows) rest = tested_more prior k v rest rows

    go : (o : Option Pairs)
        → ((o >>= with_entry (journal_insert k v)) >>= as_rows prior)
        ≡ provided (is_behind prior k) (cons_row (row_of k v) (o >>= as_rows (Some k)))
    go None = nothing prior k
    go (Some x) = all (rows_of x.0) x.1

-- no insert in front: no table
rest_none : (prior : Option (List ℕ)) (n : ℕ) (s : List ℕ)
    → ((k v rest : List ℕ) → parse_entry s ≡ Some (journal_insert k v, rest) → ⊥)
    → rest_rows prior (suc n) s ≡ None
unfolding rest_rows read_entries_at
rest_none prior n s never = go (parse_entry s) refl
  where
    clones : (from to : List ℕ) (o : Option Pairs)
        → ((o >>= with_entry (journal_clone from to)) >>= as_rows prior) ≡ None
    clones from to None = refl
    clones from to (Some x) = refl

    go : (o : Option (JournalEntry × List ℕ)) → parse_entry s ≡ o
        → ((o >>= (λ (y : JournalEntry × List ℕ). read_entries n y.1 >>= with_entry y.0)) >>= as_rows prior) ≡ None
    go None e = refl
    go (Some (journal_insert k v, rest)) e = absurd (never k v rest e)
    go (Some (journal_clone from to, rest)) e = clones from to (read_entries n rest)

used_cons : (here : ℕ) (r : Row) (o : Option (List Row))
    → used_of here (cons_row r o) ≡ used_of (here + (8 + length r.key + length r.value)) o
used_cons here r None = refl
used_cons here r (Some rows) = ap Some (omega arith)

module _ (t : List ℕ) where
  abbrev pub all_rows : (count : ℕ) → Rest
  all_rows count = record { rows = rows_from 0 count; prior = None }

  pub all_tell : (count : ℕ) → taken t (all_rows count) ≡ used_of 0 (table_rows count t)
  unfolding taken rest_rows table_rows
  all_tell count = refl

  module _ (r : Rest) (w : Lies t r) where
    -- behind the last row
    pub last : r.rows.left ≡ 0 → (z : Bool) → z ≡ all_zero (drop r.rows.at t)
        → cond z (Some r.rows.at) None ≡ taken t r
    unfolding taken rest_rows read_entries_at
    last e z is =
        go (prior_key t r.prior) z is
        ∙ ap (λ (n : ℕ). used_of r.rows.at (rest_rows (prior_key t r.prior) n (drop r.rows.at t))) (sym e)
      where
        here : (z : Bool) → cond z (Some r.rows.at) None ≡ used_of r.rows.at (provided z (Some []))
        here true = ap Some (omega arith)
        here false = refl

        go : (prior : Option (List ℕ)) (z : Bool) → z ≡ all_zero (drop r.rows.at t)
            → cond z (Some r.rows.at) None ≡ used_of r.rows.at (rest_rows prior 0 (drop r.rows.at t))
        go None z is = here z ∙ ap (λ (b : Bool). used_of r.rows.at (provided b (Some []))) is
        go (Some k) z is = here z ∙ ap (λ (b : Bool). used_of r.rows.at (provided b (Some []))) is

    module _ (some_left : 0 < r.rows.left) where
      left_is : suc (r.rows.left - 1) ≡ r.rows.left
      left_is = omega arith

      no_row_told : row_at t r.rows.at ≡ None → taken t r ≡ None
      unfolding taken
      no_row_told e =
          let m = left_is in
          ap (used_of r.rows.at)
          (rw m at (rest_none (prior_key t r.prior) (r.rows.left - 1) (drop r.rows.at t)
          (λ k v rest. no_row t r.rows.at k v rest w.inside e)))

      module _ (p : EntryPlace) (e : row_at t r.rows.at ≡ Some p) where
        there : RowThere t r.rows.at p
        there = row_told t r.rows.at p e

        with_row : taken t r
            ≡ used_of r.rows.at (provided (is_behind (prior_key t r.prior) (key_in t p))
            (cons_row (row_of (key_in t p) (value_in t p))
            (rest_rows (Some (key_in t p)) (r.rows.left - 1) (drop p.next t))))
        unfolding taken
        with_row =
            let m = left_is in
            ap (used_of r.rows.at)
            (rw m at (rest_more (prior_key t r.prior) (r.rows.left - 1) (drop r.rows.at t) (key_in t p) (value_in t p)
            (drop p.next t) there.parses))

        row_tells : is_behind (prior_key t r.prior) (key_in t p) ≡ true → taken t (rest_behind r p) ≡ taken t r
        unfolding taken
        row_tells h =
            let x : RowThere t r.rows.at p = there in
            let kl : length (key_in t p) ≡ p.first_len =
            long_part t p.first_len p.first_at (omega (arith, x.inside, x.key_starts, x.next_is)) in
            let vl : length (value_in t p) ≡ p.second_len =
            long_part t p.second_len p.second_at (omega (arith, x.inside, x.value_starts, x.next_is)) in
            let at_next : r.rows.at + (8 + length (key_in t p) + length (value_in t p)) ≡ p.next =
            omega (arith, x.next_is) in
            ap (λ (n : ℕ). used_of n (rest_rows (Some (key_in t p)) (r.rows.left - 1) (drop p.next t))) (sym at_next)
            ∙ sym (used_cons r.rows.at (row_of (key_in t p) (value_in t p))
            (rest_rows (Some (key_in t p)) (r.rows.left - 1) (drop p.next t)))
            ∙ sym (rw h at with_row)

        row_stops : is_behind (prior_key t r.prior) (key_in t p) ≡ false → taken t r ≡ None
        row_stops h = rw h at with_row

      abbrev tried : Option EntryPlace → Option EntryPlace
      tried o = case_row o (λ p. cond (is_behind (prior_key t r.prior) (key_in t p)) (Some p) None) None

      pub none_follows : None ≡ next_row t r → None ≡ taken t r
      none_follows e = go (row_at t r.rows.at) refl e
        where
          row : (p : EntryPlace) (b : Bool) → row_at t r.rows.at ≡ Some p
              → is_behind (prior_key t r.prior) (key_in t p) ≡ b → None ≡ cond b (Some p) None → None ≡ taken t r
          row p true f g h = impossible cc
          row p false f g h = sym (row_stops p f g)

          go : (o : Option EntryPlace) → row_at t r.rows.at ≡ o → None ≡ tried o → None ≡ taken t r
          go None f h = sym (no_row_told f)
          go (Some p) f h = row p (is_behind (prior_key t r.prior) (key_in t p)) f refl h

      -- a row that follows
      pub record Follows (p : EntryPlace) : Type 0 where
        pub is_row : row_at t r.rows.at ≡ Some p
        pub lies : Lies t (rest_behind r p)
        pub tells : taken t (rest_behind r p) ≡ taken t r

      pub row_follows : (p : EntryPlace) → Some p ≡ next_row t r → Follows p
      row_follows p e = go (row_at t r.rows.at) refl e
        where
          row : (q : EntryPlace) (b : Bool) → row_at t r.rows.at ≡ Some q
              → is_behind (prior_key t r.prior) (key_in t q) ≡ b → Some p ≡ cond b (Some q) None → Follows p
          row q false f g h = impossible cc
          row q true f g h =
              let same : q ≡ p = cc in
              subst Follows same
              (record {
                is_row = f;
                lies = record { inside = (there q f).inside; prior_inside = key_inside t r.rows.at q f };
                tells = row_tells q f g;
              })

          go : (o : Option EntryPlace) → row_at t r.rows.at ≡ o → Some p ≡ tried o → Follows p
          go None f h = impossible cc
          go (Some q) f h = row q (is_behind (prior_key t r.prior) (key_in t q)) f refl h
