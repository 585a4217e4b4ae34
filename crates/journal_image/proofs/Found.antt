-- The search for the lowest damaged block by an iterator over an image's whole blocks. Assumes nothing.
use mathlib.Core.Path.{◌≡◌, sym, ap, ◌∙◌}
use mathlib.Core.Bool.{Bool, true, false}
use mathlib.Core.List.{List, [], ◌∷◌}
use Prim.Native.Nat.{ℕ, ◌+◌, ◌*◌, ◌/◌, ◌≤◌, ◌<◌}
use native.Mathlib.Omega.{arith}
use lib.ListN.{length, take, drop}
use denote.Ref.{Bor}
use denote.Param.Members.{Mut, Called}
use Rattle.std.specs.List.{IsSubsliceAt}
use Rattle.std.specs.Prelude.{Option, None, Some, option_map, MatchOption, IsTrue, IfSome, IsSomeAnd}
use Rattle.std.specs.Iterator.Runs.{Run, ItemsMapToExactChunks, CallKeepsClosure, AllItemsGive, IsFirstToGive}
use Rattle.journal_image.specs.Image.{checksum_checks_out, lowest_damaged}
use Rattle.journal_image.proofs.Damaged.{told_lowest, agrees_at}

module _ {S F : Type 0} {steps : S → Option (Bor (List ℕ)) → S → Type 0}
    (g : Mut F (Bor (List ℕ) × Unit {0}) Bool) (f : F)
    (p : Run steps) (image : List ℕ) (runs : ItemsMapToExactChunks p (λ x. x.now) 4096 image)
    (keeps : CallKeepsClosure g f)
    (hit : (x : Bor (List ℕ)) → Called g f (x, tt) true f → checksum_checks_out x.now ≡ false)
    (miss : (x : Bor (List ℕ)) → Called g f (x, tt) false f → checksum_checks_out x.now ≡ true) where
  -- there is an item at each place below their number
  there : (P : Bor (List ℕ) → Type 0) (k : ℕ) → k < p.len → IfSome (p.at k) P → IsSomeAnd (p.at k) P
  there P k below each = from (p.at k) (p.reads k (first p.items (omega (arith, p.long))) below) each
    where
      first : (xs : List (Bor (List ℕ))) → 0 < length xs → Bor (List ℕ)
      first [] h = absurd (omega arith)
      first (x ∷ xs) h = x

      from : {d : Bor (List ℕ)} (o : Option (Bor (List ℕ))) → option_map (λ y. y) o ≡ Some d → IfSome o P
          → IsSomeAnd o P
      from None e h = absurd cc
      from (Some x) e h = h

  -- what the k-th block's checksum tells is what the call for the k-th item told
  at_item : (P : Bor (List ℕ) → Type 0) (b : Bool) (k : ℕ) → IsSomeAnd (p.at k) P
      → ((x : Bor (List ℕ)) → P x → checksum_checks_out x.now ≡ b) → agrees_at image k ≡ b
  at_item P b k at_k gives = from (p.at k) at_k (runs.2 k)
    where
      same_place : k * 4096 ≡ 4096 * k
      same_place = omega arith

      from : (o : Option (Bor (List ℕ))) → IsSomeAnd o P
          → IfSome o (λ x. (length x.now ≡ 4096) × (k * 4096 + 4096 ≤ length image)
          × IsSubsliceAt 4096 image (k * 4096) x.now)
          → agrees_at image k ≡ b
      from None h r = absurd h
      from (Some x) h (long, within, part) =
          ap checksum_checks_out (sym (part.0 ∙ ap (λ (i : ℕ). take 4096 (drop i image)) same_place)) ∙ gives x h

  pub found : (o : Option ℕ) → MatchOption o (IsTrue p.whole × AllItemsGive p g f false)
      (λ i. (p.len ≡ i + 1) × IsFirstToGive p g f true false i) → o ≡ lowest_damaged (length image / 4096) image
  found None (whole, all) =
      told_lowest (length image / 4096) image None
      (λ k below. at_item (λ x. Called g f (x, tt) false f) true k
      (there (λ x. Called g f (x, tt) false f) k (omega (arith, runs.1 whole)) (all keeps k)) miss)
  found (Some i) (size, first) =
      told_lowest (length image / 4096) image (Some i) (
        omega (arith, runs.0, size),
        at_item (λ x. Called g f (x, tt) true f) false i (first keeps).0 hit,
        λ k below. at_item (λ x. Called g f (x, tt) false f) true k ((first keeps).1 k below) miss,
      )
