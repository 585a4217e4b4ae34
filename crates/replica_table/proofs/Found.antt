-- What lookup hands back is the value as it is there. Assumes nothing.
use mathlib.Core.Path.{◌≡◌, refl, sym, ap, ap₂, ◌∙◌, subst}
use mathlib.Core.List.{List, [], ◌∷◌, ◌++◌, append_assoc}
use Rattle.std.specs.Prelude.{Option, None, Some}
use Prim.Native.Nat.{ℕ, ◌+◌, ◌-◌}
use native.Mathlib.Omega.{arith}
use lib.ListN.{length, take, drop, replicate}
use Rattle.words.proofs.Slices.{Bytes}
use Rattle.refusals.specs.Outcome.{gives, refuses, given◌else◌then◌}
use Rattle.refusals.proofs.Tests.{impossible}
use Rattle.refusals.proofs.Outcomes.{gives_same}
use Rattle.journal_entry.specs.Entry.{AllWithin, wire, wires}
use Rattle.table_rows.specs.declared.Reach.TheVariants.{Only}
use Rattle.replica_table.specs.declared.ValuePlace.{ValuePlace}
use Rattle.table_rows.specs.Rows.{Row, row_of, insert_of, inserts, forms, weight, lookup, ahead, met, behind}
use Rattle.table_rows.specs.Table.{table_rows}
use Rattle.replica_table.specs.Calls.{lookup_call}
use Rattle.table_rows.proofs.Ascending.{sorted}
use Rattle.table_rows.proofs.Tables.{table_told}
use Rattle.table_rows.proofs.RowPlaces.{row_here}
use Rattle.table_rows.proofs.Spans.{Runs, runs, one_row, drop_met, later_within}

module _ (count : ℕ) (t key : List ℕ) (rows : List Row) (bytes : Bytes t) (is : table_rows count t ≡ Some rows) where
  first_form : (v : List ℕ) → met Only key rows ≡ row_of key v ∷ []
      → drop (weight (ahead key rows)) t
      ≡ wire (insert_of (row_of key v)) ++ (forms (behind Only key rows) ++ replicate (length t - weight rows) 0)
  unfolding wires
  first_form v m =
      let pad : List ℕ = replicate (length t - weight rows) 0 in
      drop_met count t Only key rows bytes is
      ∙ ap (λ (l : List Row). forms (l ++ behind Only key rows) ++ pad) m
      ∙ append_assoc (wire (insert_of (row_of key v))) (forms (behind Only key rows)) pad

  here : (v : List ℕ) → met Only key rows ≡ row_of key v ∷ []
      → take (length v) (drop (weight (ahead key rows) + 8 + length key) t) ≡ v
  here v m =
      let r : Runs count t Only key rows = runs count t Only key rows bytes is in
      let w = r.weighs in
      let f = r.fits in
      let within : AllWithin (inserts (met Only key rows ++ behind Only key rows)) =
      later_within count t Only key rows bytes is in
      let own = subst (λ (l : List Row). AllWithin (inserts (l ++ behind Only key rows))) m within in
      row_here t (weight (ahead key rows)) (row_of key v)
      (forms (behind Only key rows) ++ replicate (length t - weight rows) 0) (omega arith) own.0
      (first_form v m) λ q h.
      let there = h.there in
      let kl = h.key_long in
      let vl : q.second_len ≡ length v = h.value_long in
      let at : q.second_at ≡ weight (ahead key rows) + 8 + length key = omega arith in
      ap₂ (λ (n a : ℕ). take n (drop a t)) (sym vl) (sym at) ∙ h.value_is

  -- the bytes at the place are the value that the key has
  pub value_there : (p : ValuePlace) → lookup_call count t key ≡ gives p
      → lookup rows key ≡ Some (take p.len (drop p.at t))
  unfolding lookup_call
  value_there p e =
      let e₁ : (given lookup rows key else 8 then λ (v : List ℕ). gives (placed v)) ≡ gives p = rw is at e in
      one_row key rows (sorted rows (table_told count t rows is).ascending_is)
      (λ m l. let z : refuses 8 ≡ gives p = rw l at e₁ in impossible cc)
      (λ v m l.
      let z : gives (placed v) ≡ gives p = rw l at e₁ in
      let p-is : placed v ≡ p = gives_same z in
      l ∙ ap Some (sym (here v m) ∙ ap (λ (x : ValuePlace). take x.len (drop x.at t)) p-is))
    where
      placed : List ℕ → ValuePlace
      placed v = record { at = weight (ahead key rows) + 8 + length key; len = length v }

  -- and 8 is for a key that is absent, and only for one
  pub absent_refused : lookup rows key ≡ None → lookup_call count t key ≡ refuses 8
  unfolding lookup_call
  absent_refused e = rw (is, e)

  module _ (place : List ℕ → ValuePlace) where
    refused_none : (o : Option (List ℕ)) → (given o else 8 then λ (v : List ℕ). gives (place v)) ≡ refuses 8 → o ≡ None
    refused_none None f = refl
    refused_none (Some v) f = impossible cc

  pub absent_there : lookup_call count t key ≡ refuses 8 → lookup rows key ≡ None
  unfolding lookup_call
  absent_there e =
      refused_none (λ v. record { at = weight (ahead key rows) + 8 + length key; len = length v }) (lookup rows key)
      (rw is at e)
