-- Images joined, and taken apart at a block: their payloads, and their lowest damaged blocks. Assumes nothing.
use mathlib.Core.Path.{◌≡◌, refl, sym, ap, ◌∙◌}
use mathlib.Core.Bool.{Bool, true, false, cond}
use mathlib.Core.List.{List, [], ◌∷◌, ◌++◌, append_assoc}
use Rattle.std.specs.Prelude.{Option, None, Some, option_map}
use Prim.Native.Nat.{ℕ, zero, suc, ◌+◌, ◌*◌, ◌≤◌}
use native.Mathlib.Omega.{arith}
use lib.ListN.{length, take, drop, length-drop, take-append-drop}
use lib.Seq.{length-take-le, take-append-le, drop-append-le, drop_at}
use Rattle.journal_image.specs.Image.{checksum_checks_out, without_checksums, lowest_damaged, or_else}
use Rattle.journal_image.proofs.Payloads.{length_without}

-- so many bytes of p are a blocks: their payloads come first
pub without_append : (a b : ℕ) (p q : List ℕ) → length p ≡ 4096 * a
    → without_checksums (a + b) (p ++ q) ≡ without_checksums a p ++ without_checksums b q
unfolding without_checksums
without_append zero b [] q h = let e : 0 + b ≡ b = omega arith in rw e
without_append zero b (x ∷ p) q h = absurd (omega arith)
without_append (suc a) b p q h =
    let e : suc a + b ≡ suc (a + b) = omega arith in
    let long : 4096 ≤ length p = omega arith in
    let rest = without_append a b (drop 4096 p) q (rw length-drop (omega arith)) in
    rw (e, take-append-le 4096 p q long, drop-append-le 4096 p q long, rest)
    (sym (append_assoc (drop 32 (take 4096 p)) (without_checksums a (drop 4096 p)) (without_checksums b q)))

-- no block in front
from_none : (o : Option ℕ) → o ≡ or_else 0 None o
from_none None = refl
from_none (Some i) = let e : i ≡ 0 + i = omega arith in ap Some e

-- one block more in front of both
one_more : (t : Bool) (a : ℕ) (o p : Option ℕ)
    → cond t (option_map suc (or_else a o p)) (Some 0) ≡ or_else (suc a) (cond t (option_map suc o) (Some 0)) p
one_more false a o p = refl
one_more true a (Some i) p = refl
one_more true a None None = refl
one_more true a None (Some i) = let e : suc (a + i) ≡ suc a + i = omega arith in ap Some e

pub lowest_append : (a b : ℕ) (p q : List ℕ) → length p ≡ 4096 * a
    → lowest_damaged (a + b) (p ++ q) ≡ or_else a (lowest_damaged a p) (lowest_damaged b q)
unfolding lowest_damaged
lowest_append zero b [] q h = let e : 0 + b ≡ b = omega arith in rw e (from_none (lowest_damaged b q))
lowest_append zero b (x ∷ p) q h = absurd (omega arith)
lowest_append (suc a) b p q h =
    let e : suc a + b ≡ suc (a + b) = omega arith in
    let long : 4096 ≤ length p = omega arith in
    let rest = lowest_append a b (drop 4096 p) q (rw length-drop (omega arith)) in
    rw (e, take-append-le 4096 p q long, drop-append-le 4096 p q long, rest)
    (one_more (checksum_checks_out (take 4096 p)) a (lowest_damaged a (drop 4096 p)) (lowest_damaged b q))

-- both parts agree, so all does
pub agrees_append : (a b : ℕ) (p q : List ℕ) → length p ≡ 4096 * a → lowest_damaged a p ≡ None
    → lowest_damaged b q ≡ None → lowest_damaged (a + b) (p ++ q) ≡ None
agrees_append a b p q h x y = lowest_append a b p q h ∙ rw (x, y)

-- Behind the first a blocks.

module _ (a b : ℕ) (p : List ℕ) (h : 4096 * a ≤ length p) where
  front_long : length (take (4096 * a) p) ≡ 4096 * a
  front_long = length-take-le (4096 * a) p h

  pub without_drop : without_checksums b (drop (4096 * a) p) ≡ drop (4064 * a) (without_checksums (a + b) p)
  without_drop =
      let front = take (4096 * a) p in
      let rest = drop (4096 * a) p in
      let long : length (without_checksums a front) ≡ 4064 * a = length_without a front (omega (arith, front_long)) in
      sym (ap (drop (4064 * a))
      (ap (without_checksums (a + b)) (sym (take-append-drop (4096 * a) p))
      ∙ without_append a b front rest front_long)
      ∙ drop_at (without_checksums a front) (without_checksums b rest) (4064 * a) long)

  pub agrees_drop : lowest_damaged (a + b) p ≡ None → lowest_damaged b (drop (4096 * a) p) ≡ None
  agrees_drop x =
      behind (lowest_damaged a (take (4096 * a) p)) (lowest_damaged b (drop (4096 * a) p))
      (sym (lowest_append a b (take (4096 * a) p) (drop (4096 * a) p) front_long)
      ∙ ap (lowest_damaged (a + b)) (take-append-drop (4096 * a) p)
      ∙ x)
    where
      behind : (o q : Option ℕ) → or_else a o q ≡ None → q ≡ None
      behind (Some i) q e = absurd (let z : ◌≡◌ {A = ℕ} 0 1 = cc in omega arith)
      behind None None e = refl
      behind None (Some i) e = absurd (let z : ◌≡◌ {A = ℕ} 0 1 = cc in omega arith)
