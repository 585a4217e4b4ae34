-- A row at its place is the entry that `parse_entry` reads there, and a row of a table stands where the rows before
-- it end. Assumes nothing.
use mathlib.Core.Path.{◌≡◌, refl, sym, ap, ◌∙◌, subst}
use mathlib.Core.List.{List, ◌++◌}
use Rattle.std.specs.Prelude.{Option, None, Some}
use Prim.Native.Nat.{ℕ, ◌+◌, ◌≤◌}
use native.Mathlib.Omega.{arith}
use lib.ListN.{length, take, drop, length-drop}
use lib.Seq.{length-take-le}
use Rattle.refusals.proofs.Tests.{impossible}
use Rattle.words.proofs.Slices.{tail}
use Rattle.journal_entry.specs.declared.Kind.{Kind}
use Rattle.journal_entry.specs.declared.Kind.TheVariants.{Insert, Clone}
use Rattle.journal_entry.specs.declared.EntryPlace.{EntryPlace}
use Rattle.journal_entry.specs.Entry.{JournalEntry, journal_insert, journal_clone, Within, first_limit}
use Rattle.journal_entry.specs.Entry.{wire}
use Rattle.journal_entry.specs.Parse.{parse_entry}
use Rattle.journal_entry.specs.Places.{entry_at, entry_at_place, place_at, first_at}
use Rattle.journal_entry.proofs.Readable.{read_told}
use Rattle.journal_entry.proofs.Bridge.{EntryThere, bridge_read, bridge_unread}
use Rattle.journal_entry.proofs.Reading.{parse_entry_wire}
use Rattle.table_rows.specs.Rows.{Row, insert_of}
use Rattle.table_rows.specs.Places.{row_of_kind, row_of_entry, row_at, key_in, value_in}

abbrev Parsed : Type 0
Parsed = Option (JournalEntry × List ℕ)

parsed_same : (d e : JournalEntry) (q r : List ℕ) → ◌≡◌ {A = Parsed} (Some (d, q)) (Some (e, r)) → (d ≡ e) × (q ≡ r)
parsed_same d e q r x =
    let y : ◌≡◌ {A = JournalEntry × List ℕ} (d, q) (e, r) = cc in
    (ap (λ (z : JournalEntry × List ℕ). z.0) y, ap (λ (z : JournalEntry × List ℕ). z.1) y)

insert_same : (k v j w : List ℕ) → journal_insert k v ≡ journal_insert j w → (k ≡ j) × (v ≡ w)
insert_same k v j w e = (cc, cc)

no_insert : {C : Type 0} (from to k v : List ℕ) → journal_clone from to ≡ journal_insert k v → C
no_insert from to k v e = impossible cc

-- the row at p, which was read at `at`
pub record RowThere (t : List ℕ) (at : ℕ) (p : EntryPlace) : Type 0 where
  pub parses : parse_entry (drop at t) ≡ Some (journal_insert (key_in t p) (value_in t p), drop p.next t)
  pub key_starts : p.first_at ≡ at + 4
  pub value_starts : p.second_at ≡ at + 8 + p.first_len
  pub next_is : p.next ≡ at + 8 + p.first_len + p.second_len
  pub inside : p.next ≤ length t
  pub key_fits : p.first_len ≤ first_limit

module _ (t : List ℕ) (at : ℕ) where
  entry_there : (q : EntryPlace) → entry_at t at (length t) ≡ Some q
      → parse_entry (drop at t) ≡ Some (entry_at_place t q, drop q.next t)
  entry_there q e =
      let b : EntryThere t at (length t) q = bridge_read t at (length t) q e in
      ap parse_entry (sym (tail at t)) ∙ b.parses ∙ ap (λ (l : List ℕ). Some (entry_at_place t q, l)) (tail q.next t)

  placed : (q : EntryPlace) → q ≡ place_at t at
      → (q.first_at ≡ at + 4) × (q.second_at ≡ at + 8 + q.first_len)
      × (q.next ≡ at + 8 + q.first_len + q.second_len) × (q.first_len ≡ first_at t at)
  unfolding place_at
  placed q e =
      subst
      (λ (q : EntryPlace). (q.first_at ≡ at + 4) × (q.second_at ≡ at + 8 + q.first_len)
      × (q.next ≡ at + 8 + q.first_len + q.second_len) × (q.first_len ≡ first_at t at))
      (sym e) (refl, refl, refl, refl)

  insert_there : (q : EntryPlace) → entry_at t at (length t) ≡ Some q → q.kind ≡ Insert → RowThere t at q
  insert_there q is kind_is =
      let (h, e) = read_told t at (length t) q is in
      let (a, b, n, f) = placed q e in
      let inside : q.next ≤ length t = (bridge_read t at (length t) q is).next_before in
      record {
        parses = rw kind_is at (entry_there q is);
        key_starts = a;
        value_starts = b;
        next_is = n;
        inside = inside;
        key_fits = rw f h.first_fits;
      }

  row_kinds : (p : EntryPlace) (k : Kind) (q : EntryPlace) → entry_at t at (length t) ≡ Some q → q.kind ≡ k
      → row_of_kind k q ≡ Some p → RowThere t at p
  row_kinds p Insert q is kind_is e =
      let same : q ≡ p = cc in subst (RowThere t at) same (insert_there q is kind_is)
  row_kinds p Clone q is kind_is e = impossible cc

  row_reads : (p : EntryPlace) (o : Option EntryPlace) → entry_at t at (length t) ≡ o → row_of_entry o ≡ Some p
      → RowThere t at p
  row_reads p (Some q) is e = row_kinds p q.kind q is refl e
  row_reads p None is e = impossible cc

  pub row_told : (p : EntryPlace) → row_at t at ≡ Some p → RowThere t at p
  unfolding row_at
  row_told p e = row_reads p (entry_at t at (length t)) refl e

  -- the key of a row that was read lies in the table
  pub key_inside : (p : EntryPlace) → row_at t at ≡ Some p → p.first_at + p.first_len ≤ length t
  key_inside p e = let h : RowThere t at p = row_told p e in omega (arith, h.inside, h.key_starts, h.next_is)

  clone_there : (k : Kind) (q : EntryPlace) (key value rest : List ℕ) → q.kind ≡ k → row_of_kind k q ≡ None
      → ◌≡◌ {A = Parsed} (Some (entry_at_place t q, drop q.next t)) (Some (journal_insert key value, rest)) → ⊥
  clone_there Insert q key value rest kind_is e x = impossible cc
  clone_there Clone q key value rest kind_is e x =
      let y : ◌≡◌ {A = Parsed} (Some (
        journal_clone (take q.first_len (drop q.first_at t))
            (take q.second_len (drop q.second_at t)),
        drop q.next t,
      ))
      (Some (journal_insert key value, rest)) =
      rw kind_is at x in
      no_insert _ _ key value (parsed_same _ (journal_insert key value) _ rest y).0

  none_there : (o : Option EntryPlace) (key value rest : List ℕ) → at ≤ length t → entry_at t at (length t) ≡ o
      → row_of_entry o ≡ None
      → parse_entry (drop at t) ≡ Some (journal_insert key value, rest) → ⊥
  none_there (Some q) key value rest h is e x =
      clone_there q.kind q key value rest refl e (sym (entry_there q is) ∙ x)
  none_there None key value rest h is e x =
      let y : parse_entry (drop at t) ≡ None =
      ap parse_entry (sym (tail at t)) ∙ bridge_unread t at (length t) (omega arith) h is in
      impossible cc

  -- where there is no row, no insert reads
  pub no_row : (key value rest : List ℕ) → at ≤ length t → row_at t at ≡ None
      → parse_entry (drop at t) ≡ Some (journal_insert key value, rest) → ⊥
  unfolding row_at
  no_row key value rest h e x = none_there (entry_at t at (length t)) key value rest h refl e x

-- a row that stands in a table, found there
pub record RowHere (t : List ℕ) (at : ℕ) (r : Row) (rest : List ℕ) (p : EntryPlace) : Type 0 where
  pub found : row_at t at ≡ Some p
  pub there : RowThere t at p
  pub key_is : key_in t p ≡ r.key
  pub value_is : value_in t p ≡ r.value
  pub key_long : p.first_len ≡ length r.key
  pub value_long : p.second_len ≡ length r.value
  pub behind_is : drop p.next t ≡ rest

pub long_part : (t : List ℕ) (n at : ℕ) → at + n ≤ length t → length (take n (drop at t)) ≡ n
long_part t n at h = length-take-le n (drop at t) (rw length-drop (omega arith))

pub row_here : {C : Type 0} (t : List ℕ) (at : ℕ) (r : Row) (rest : List ℕ) → at ≤ length t → Within (insert_of r)
    → drop at t ≡ wire (insert_of r) ++ rest
    → ((p : EntryPlace) → RowHere t at r rest p → C) → C
row_here {C} t at r rest h w e k = go (row_at t at) refl
  where
    parsed : parse_entry (drop at t) ≡ Some (insert_of r, rest)
    parsed = ap parse_entry e ∙ parse_entry_wire (insert_of r) rest w

    here : (p : EntryPlace) → row_at t at ≡ Some p → RowHere t at r rest p
    here p f =
        let there : RowThere t at p = row_told t at p f in
        let both : ◌≡◌ {A = Parsed} (Some (journal_insert (key_in t p) (value_in t p), drop p.next t))
        (Some (journal_insert r.key r.value, rest)) = sym there.parses ∙ parsed in
        let (es, bs) =
        parsed_same (journal_insert (key_in t p) (value_in t p)) (insert_of r) (drop p.next t) rest both in
        let (ks, vs) = insert_same (key_in t p) (value_in t p) r.key r.value es in
        let inside = there.inside in
        let next_is = there.next_is in
        let key_starts = there.key_starts in
        let value_starts = there.value_starts in
        record {
          found = f;
          there = there;
          key_is = ks;
          value_is = vs;
          key_long = sym (long_part t p.first_len p.first_at (omega arith)) ∙ ap length ks;
          value_long = sym (long_part t p.second_len p.second_at (omega arith)) ∙ ap length vs;
          behind_is = bs;
        }

    go : (o : Option EntryPlace) → row_at t at ≡ o → C
    go (Some p) f = k p (here p f)
    go None f = absurd (no_row t at r.key r.value rest h f parsed)
