-- Rows moved one by one, as the loop of `Moved::put` goes; and what is moved are the wire forms of the rows
-- that a clone makes. Assumes nothing.
use mathlib.Core.Path.{◌≡◌, refl, sym, ap, ap₂, ◌∙◌}
use mathlib.Core.Bool.{true, false, ◌&&◌}
use Rattle.std.specs.Prelude.{Option, None, Some}
use mathlib.Core.List.{List, [], ◌∷◌, ◌++◌, append_assoc}
use Prim.Native.Nat.{ℕ, suc, ◌+◌, ◌-◌, ◌*◌, ◌≤◌, ◌<◌}
use native.Mathlib.Omega.{arith}
use borrow.Author.Tests.{leb-true, le-leb}
use lib.Dec.{leb}
use lib.ListN.{length, take, drop, length-append, length-drop}
use lib.Seq.{length-take-le, drop-drop, drop_at, take_at, drop-append-le}
use Rattle.refusals.proofs.Tests.{both, leb_same}
use Rattle.words.specs.Words.{word}
use Rattle.words.specs.Lists.{splice}
use Rattle.words.proofs.Words.{length_word}
use Rattle.words.proofs.Splice.{splice_nil, splice_splice, length_splice}
use Rattle.journal_entry.specs.Entry.{journal_insert, AllWithin, first_limit, wire, wires}
use Rattle.journal_entry.specs.Places.{part}
use Rattle.journal_entry.specs.declared.EntryPlace.{EntryPlace}
use Rattle.key_map.specs.Keys.{begins}
use Rattle.table_rows.specs.Rows.{Row, insert_of, inserts, forms, weight, moved, moved_all, keys_fit}
use Rattle.table_rows.specs.Places.{row_at}
use Rattle.replica_table.specs.Moves.{moves_fit, moved_form, moved_forms}
use Rattle.key_map.proofs.Keys.{clash, begins_told}
use Rattle.table_rows.proofs.Ascending.{AllKeys}
use Rattle.table_rows.proofs.RowPlaces.{RowThere, row_told, row_here}

-- one row of what fits, and of what is moved
module _ (t : List ℕ) (here n f : ℕ) (to : List ℕ) (room : ℕ) (p : EntryPlace) (e : row_at t here ≡ Some p) where
  pub fits_first : moves_fit t here (suc n) f room
      ≡ (leb f p.first_len && (leb (p.first_len - f) room && moves_fit t p.next n f room))
  unfolding moves_fit
  fits_first = rw e

  pub forms_row : moved_forms t here (suc n) f to ≡ moved_form t p f to ++ moved_forms t p.next n f to
  unfolding moved_forms
  forms_row = rw e

fits_none : (t : List ℕ) (here n f room : ℕ) → row_at t here ≡ None → moves_fit t here (suc n) f room ≡ false
unfolding moves_fit
fits_none t here n f room e = rw e

pub record Moving (t : List ℕ) (from rows f : ℕ) (to w₀ : List ℕ) (at : ℕ) (w : List ℕ)
    (here left place : ℕ) : Type 0 where
  pub fits : moves_fit t here left f (first_limit - length to) ≡ true
  pub long : length w ≡ length w₀
  pub room : place + length (moved_forms t here left f to) ≤ length w
  pub whole : splice w place (moved_forms t here left f to) ≡ splice w₀ at (moved_forms t from rows f to)
  pub ends : place + length (moved_forms t here left f to) ≡ at + length (moved_forms t from rows f to)

-- what is known of the row at hand
pub record MovingRow (t : List ℕ) (f : ℕ) (to w : List ℕ) (here left place : ℕ) (p : EntryPlace) : Type 0 where
  pub there : RowThere t here p
  pub long_enough : f ≤ p.first_len
  pub short_enough : length to + (p.first_len - f) ≤ first_limit
  pub rest_from : p.first_at + f ≤ p.next
  pub inside : p.next ≤ length t
  pub rest_long : length (part t (p.first_at + f) p.next) ≡ p.next - (p.first_at + f)
  pub further : moves_fit t p.next (left - 1) f (first_limit - length to) ≡ true
  pub formed : moved_forms t here left f to ≡ moved_form t p f to ++ moved_forms t p.next (left - 1) f to
  pub room : place + (4 + length to + length (part t (p.first_at + f) p.next)) ≤ length w

length_moved : (t : List ℕ) (p : EntryPlace) (f : ℕ) (to : List ℕ)
    → length (moved_form t p f to) ≡ 4 + length to + length (part t (p.first_at + f) p.next)
length_moved t p f to =
    let r : List ℕ = part t (p.first_at + f) p.next in
    let n : ℕ = length to + (p.first_len - f) in
    let a : length (word n ++ (to ++ r)) ≡ length (word n) + length (to ++ r) = length-append (word n) (to ++ r) in
    let b : length (to ++ r) ≡ length to + length r = length-append to r in
    let c = length_word n in
    omega arith

module _ (t : List ℕ) (from rows f : ℕ) (to w₀ : List ℕ) (at : ℕ) where
  module _ (w : List ℕ) (here left place : ℕ) (v : Moving t from rows f to w₀ at w here left place) where
    module _ (some_left : 0 < left) (o : Option EntryPlace) (is : o ≡ row_at t here) where
      pub moving_none : o ≡ None → ⊥
      moving_none e =
          let m : suc (left - 1) ≡ left = omega arith in
          let no_fit : moves_fit t here left f (first_limit - length to) ≡ false =
          rw m at (fits_none t here (left - 1) f (first_limit - length to) (sym is ∙ e)) in
          clash (sym v.fits ∙ no_fit)

      module _ (to_fits : length to ≤ first_limit) (p : EntryPlace) (e : o ≡ Some p) where
        pub moving_row : MovingRow t f to w here left place p
        moving_row =
            let m : suc (left - 1) ≡ left = omega arith in
            let found : row_at t here ≡ Some p = sym is ∙ e in
            let there : RowThere t here p = row_told t here p found in
            let fit : (leb f p.first_len
            && (leb (p.first_len - f) (first_limit - length to)
            && moves_fit t p.next (left - 1) f (first_limit - length to))) ≡ true =
            sym (rw m at (fits_first t here (left - 1) f to (first_limit - length to) p found)) ∙ v.fits in
            let (a, b) = both (leb f p.first_len) _ fit in
            let (c, d) = both (leb (p.first_len - f) (first_limit - length to)) _ b in
            let a' : f ≤ p.first_len = leb-true f p.first_len a in
            let c' : p.first_len - f ≤ first_limit - length to =
            leb-true (p.first_len - f) (first_limit - length to) c in
            let i = there.inside in
            let n = there.next_is in
            let k = there.key_starts in
            let formed : moved_forms t here left f to ≡ moved_form t p f to ++ moved_forms t p.next (left - 1) f to =
            rw m at (forms_row t here (left - 1) f to 0 p found) in
            let lf : length (moved_forms t here left f to)
            ≡ length (moved_form t p f to) + length (moved_forms t p.next (left - 1) f to) =
            ap length formed ∙ length-append (moved_form t p f to) (moved_forms t p.next (left - 1) f to) in
            let lm = length_moved t p f to in
            let vr = v.room in
            record {
              there = there;
              long_enough = a';
              short_enough = omega arith;
              rest_from = omega arith;
              inside = i;
              rest_long = length-take-le (p.next - (p.first_at + f)) (drop (p.first_at + f) t)
                  (rw length-drop (omega arith));
              further = d;
              formed = formed;
              room = omega arith;
            }

        pub moving_more : (r : ℕ) (w₁ : List ℕ)
            → r ≡ place + (4 + length to + length (part t (p.first_at + f) p.next))
            → w₁ ≡ splice w place (moved_form t p f to) → Moving t from rows f to w₀ at w₁ p.next (left - 1) r
        moving_more r w₁ r_is w₁_is =
            let x : MovingRow t f to w here left place p = moving_row in
            let rest : List ℕ = moved_forms t p.next (left - 1) f to in
            let lm = length_moved t p f to in
            let xr = x.room in
            let lf : length (moved_forms t here left f to) ≡ length (moved_form t p f to) + length rest =
            ap length x.formed ∙ length-append (moved_form t p f to) rest in
            let room : place + length (moved_form t p f to) ≤ length w = omega arith in
            let lw : length w₁ ≡ length w = ap length w₁_is ∙ length_splice w place (moved_form t p f to) room in
            let at_r : r ≡ place + length (moved_form t p f to) = omega arith in
            let vl = v.long in
            let vr = v.room in
            let ve = v.ends in
            record {
              fits = x.further;
              long = omega arith;
              room = omega arith;
              whole =
                  ap₂ (λ (l : List ℕ) (k : ℕ). splice l k rest) w₁_is at_r
                  ∙ splice_splice w place (moved_form t p f to) room rest
                  ∙ ap (splice w place) (sym x.formed)
                  ∙ v.whole;
              ends = omega arith;
            }

    pub moving_ends : left ≡ 0 → (place ≡ at + length (moved_forms t from rows f to))
        × (w ≡ splice w₀ at (moved_forms t from rows f to))
    unfolding moved_forms
    moving_ends e =
        let nothing : moved_forms t here left f to ≡ [] = ap (λ (n : ℕ). moved_forms t here n f to) e in
        let none_long : length (moved_forms t here left f to) ≡ 0 = ap length nothing in
        let ve = v.ends in
        (omega arith, sym (ap (splice w place) nothing ∙ splice_nil w place) ∙ v.whole)

-- the bytes of a row behind its first f key bytes
rest_bytes : (t q key value : List ℕ) (at f next : ℕ) → f ≤ length key
    → drop at t ≡ wire (journal_insert key value) ++ q → next ≡ at + 8 + length key + length value
    → part t (at + 4 + f) next ≡ drop f key ++ (word (length value) ++ value)
unfolding wire
rest_bytes t q key value at f next h e n =
    let tail : List ℕ = word (length value) ++ value in
    let behind : drop (at + 4 + f) t ≡ (drop f key ++ tail) ++ q =
    sym (drop-drop f (at + 4) t)
    ∙ ap (drop f) (sym (drop-drop 4 at t) ∙ ap (drop 4) (e ∙ append_assoc (word (length key + 0)) (key ++ tail) q)
    ∙ drop_at (word (length key + 0)) ((key ++ tail) ++ q) 4 (length_word (length key + 0)))
    ∙ ap (drop f) (append_assoc key tail q)
    ∙ drop-append-le f key (tail ++ q) h
    ∙ sym (append_assoc (drop f key) tail q) in
    let lt : length tail ≡ length (word (length value)) + length value = length-append (word (length value)) value in
    let lw = length_word (length value) in
    let ld = length-drop f key in
    let la : length (drop f key ++ tail) ≡ length (drop f key) + length tail = length-append (drop f key) tail in
    let long : length (drop f key ++ tail) ≡ next - (at + 4 + f) = omega arith in
    ap (take (next - (at + 4 + f))) behind ∙ take_at (drop f key ++ tail) q (next - (at + 4 + f)) long

moved_wire : (key value to : List ℕ) (f n : ℕ) → n ≡ length to + (length key - f)
    → word n ++ (to ++ (drop f key ++ (word (length value) ++ value))) ≡ wire (journal_insert (to ++ drop f key) value)
unfolding wire
moved_wire key value to f n e =
    let a : length (to ++ drop f key) ≡ length to + length (drop f key) = length-append to (drop f key) in
    let b = length-drop f key in
    let m : n ≡ length (to ++ drop f key) + 0 = omega arith in
    ap₂ (λ (k : ℕ) (l : List ℕ). word k ++ l) m (sym (append_assoc to (drop f key) (word (length value) ++ value)))

begins_long : (p k : List ℕ) → begins p k ≡ true → length p ≤ length k
begins_long p k t = let e : length (p ++ drop (length p) k) ≡ length k = ap length (begins_told p k t) in
    omega (arith, length-append p (drop (length p) k))

forms_first : (r : Row) (rows : List Row) (q : List ℕ) → forms (r ∷ rows) ++ q ≡ wire (insert_of r) ++ (forms rows ++ q)
unfolding wires
forms_first r rows q = append_assoc (wire (insert_of r)) (forms rows) q

forms_more : (r : Row) (rows : List Row) → forms (r ∷ rows) ≡ wire (insert_of r) ++ forms rows
unfolding wires
forms_more r rows = refl

-- WHAT IS MOVED: the wire forms of the rows re-prefixed
pub moved_are : (t from to : List ℕ) (xs ys : List Row) (at : ℕ) (rest : List ℕ) → at ≤ length t
    → drop at t ≡ forms (xs ++ ys) ++ rest
    → AllWithin (inserts (xs ++ ys)) → AllKeys (λ k. begins from k ≡ true) xs
    → moved_forms t at (length xs) (length from) to ≡ forms (moved_all from to xs)
unfolding moved_forms wires
moved_are t from to [] ys at rest h e w a = refl
moved_are t from to (x ∷ xs) ys at rest h e w a =
    row_here t at x (forms (xs ++ ys) ++ rest) h w.0 (e ∙ forms_first x (xs ++ ys) rest) λ p here.
    let there = here.there in
    let f : ℕ = length from in
    let key_at : p.first_at + f ≡ at + 4 + f = ap (λ (n : ℕ). n + f) there.key_starts in
    let kl = here.key_long in
    let vl = here.value_long in
    let nx : p.next ≡ at + 8 + length x.key + length x.value = omega arith in
    let form : moved_form t p f to ≡ wire (insert_of (moved from to x)) =
    ap (λ (n : ℕ). word (length to + (p.first_len - f)) ++ (to ++ part t n p.next)) key_at
    ∙ ap (λ (l : List ℕ). word (length to + (p.first_len - f)) ++ (to ++ l))
    (rest_bytes t (forms (xs ++ ys) ++ rest) x.key x.value at f p.next (begins_long from x.key a.0)
    (e ∙ forms_first x (xs ++ ys) rest) nx)
    ∙ moved_wire x.key x.value to f (length to + (p.first_len - f)) (ap (λ (n : ℕ). length to + (n - f)) kl) in
    forms_row t at (length xs) f to 0 p here.found
    ∙ ap₂ ◌++◌ form (moved_are t from to xs ys p.next rest there.inside here.behind_is w.1 a.1)

-- 20: no key over the limit
pub fits_are : (t from to : List ℕ) → length to ≤ first_limit → (xs ys : List Row) (at : ℕ) (rest : List ℕ)
    → at ≤ length t → drop at t ≡ forms (xs ++ ys) ++ rest
    → AllWithin (inserts (xs ++ ys)) → AllKeys (λ k. begins from k ≡ true) xs
    → moves_fit t at (length xs) (length from) (first_limit - length to) ≡ keys_fit (moved_all from to xs)
unfolding moves_fit
fits_are t from to to_fits [] ys at rest h e w a = refl
fits_are t from to to_fits (x ∷ xs) ys at rest h e w a =
    row_here t at x (forms (xs ++ ys) ++ rest) h w.0 (e ∙ forms_first x (xs ++ ys) rest) λ p here.
    let f : ℕ = length from in
    let kl = here.key_long in
    let bl : f ≤ length x.key = begins_long from x.key a.0 in
    let enough : f ≤ p.first_len = omega arith in
    let la : length (to ++ drop f x.key) ≡ length to + length (drop f x.key) =
    length-append to (drop f x.key) in
    let ld = length-drop f x.key in
    let one : leb (p.first_len - f) (first_limit - length to) ≡ leb (length (to ++ drop f x.key)) first_limit =
    leb_same (p.first_len - f) (first_limit - length to) (length (to ++ drop f x.key)) first_limit
    (λ i. omega arith) (λ i. omega arith) in
    fits_first t at (length xs) f to (first_limit - length to) p here.found
    ∙ rw (le-leb f p.first_len enough)
    (ap₂ ◌&&◌ one (fits_are t from to to_fits xs ys p.next rest here.there.inside here.behind_is w.1
    a.1))

-- what the moved rows weigh
pub weight_moved : (from to : List ℕ) (xs : List Row) → AllKeys (λ k. begins from k ≡ true) xs
    → weight (moved_all from to xs) + length xs * length from ≡ weight xs + length xs * length to
weight_moved from to [] a = omega arith
weight_moved from to (x ∷ xs) a =
    let f : ℕ = length from in
    let bl : f ≤ length x.key = begins_long from x.key a.0 in
    let la : length (to ++ drop f x.key) ≡ length to + length (drop f x.key) =
    length-append to (drop f x.key) in
    let ld = length-drop f x.key in
    let ih = weight_moved from to xs a.1 in
    let mf : suc (length xs) * length from ≡ length from + length xs * length from = omega arith in
    let mt : suc (length xs) * length to ≡ length to + length xs * length to = omega arith in
    omega arith

pub length_moved_all : (from to : List ℕ) (xs : List Row) → length (moved_all from to xs) ≡ length xs
length_moved_all from to [] = refl
length_moved_all from to (x ∷ xs) = ap suc (length_moved_all from to xs)
