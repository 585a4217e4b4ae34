-- What a step is about, in the order of keys: such keys stand together. Assumes nothing.
use mathlib.Core.Path.{◌≡◌, refl, sym, ◌∙◌}
use mathlib.Core.Bool.{Bool, true, false}
use mathlib.Core.List.{List}
use Prim.Native.Nat.{ℕ}
use lib.ListN.{length, drop}
use Rattle.key_map.specs.Keys.{before, same}
use Rattle.key_map.proofs.Keys.{clash, same_told, same_sym, same_begins, begins_told, before_never, before_other}
use Rattle.key_map.proofs.Keys.{before_longer, under_before, under_not_before}
use Rattle.table_rows.specs.declared.Reach.{Reach}
use Rattle.table_rows.specs.declared.Reach.TheVariants.{Only, Under}
use Rattle.table_rows.specs.Rows.{meets}

pub met_not_before : (r : Reach) (p k : List ℕ) → meets r p k ≡ true → before k p ≡ false
met_not_before Only p k t = rw (← (same_told p k t)) (before_never p)
met_not_before Under p k t = rw (begins_told p k t) at (under_not_before p (drop (length p) k))

pub unmet_other : (r : Reach) (p k : List ℕ) → meets r p k ≡ false → before k p ≡ false → before p k ≡ true
unmet_other Only p k t u = before_other k p u (same_sym k p ∙ t)
unmet_other Under p k t u = before_other k p u (same_sym k p ∙ go (same p k) refl)
  where
    go : (v : Bool) → same p k ≡ v → v ≡ false
    go true e = clash (sym (same_begins p k e) ∙ t)
    go false e = refl

pub ahead_met : (r : Reach) (p j k : List ℕ) → before j p ≡ true → meets r p k ≡ true → before j k ≡ true
ahead_met Only p j k t u = rw (← (same_told p k u)) t
ahead_met Under p j k t u = rw (begins_told p k u) at (before_longer j p (drop (length p) k) t)

pub met_behind : (r : Reach) (p j k : List ℕ) → meets r p j ≡ true → before p k ≡ true → meets r p k ≡ false
    → before j k ≡ true
met_behind Only p j k t u v = rw (← (same_told p j t)) u
met_behind Under p j k t u v = rw (begins_told p j t) at (under_before p (drop (length p) j) k u v)
