-- Blocks of a cyclic interval: the one behind it is none of its, nor are those that it was shortened by. Assumes
-- nothing.
use mathlib.Core.Path.{◌≡◌}
use mathlib.Core.Bool.{true, false}
use Prim.Native.Nat.{ℕ, ◌+◌, ◌-◌, ◌≤◌, ◌<◌}
use native.Mathlib.Omega.{arith}
use Rattle.disk_layout.specs.JournalInterval.{interval, in_cyclic_range}
use Rattle.disk_layout.proofs.Intervals.{in_told, in_not}
use Rattle.journal_entry.proofs.Options.{by_order}
use Rattle.journal_ring.specs.Ring.{advance}
use Rattle.journal_ring.proofs.Rotation.{advance_near, advance_far}

-- behind the interval
pub behind_outside : (n start len m : ℕ) → start < n → len + m < n
    → in_cyclic_range n (advance n start (len + m)) (interval start len) ≡ false
behind_outside n start len m s h =
    by_order n (start + (len + m))
    (λ far. rw (advance_far n start (len + m) far)
    (in_not n (start + (len + m) - n) (interval start len) (λ a b. omega arith) (λ a b. omega arith)))
    (λ near. rw (advance_near n start (len + m) near)
    (in_not n (start + (len + m)) (interval start len) (λ a b. omega arith) (λ a b. omega arith)))

-- dropped from its front
pub dropped_outside : (n i start len d : ℕ) → i < n → start < n → len ≤ n → d ≤ len
    → in_cyclic_range n i (interval start d) ≡ true
    → in_cyclic_range n i (interval (advance n start d) (len - d)) ≡ false
dropped_outside n i start len d hi s l hd h =
    by_order n (start + d)
    (λ far. rw (advance_far n start d far)
    (in_told n i (interval start d) h
    (λ a b. in_not n i (interval (start + d - n) (len - d)) (λ x y. omega arith) (λ x y. omega arith))
    (λ a b. in_not n i (interval (start + d - n) (len - d)) (λ x y. omega arith) (λ x y. omega arith))))
    (λ near. rw (advance_near n start d near)
    (in_told n i (interval start d) h
    (λ a b. in_not n i (interval (start + d) (len - d)) (λ x y. omega arith) (λ x y. omega arith))
    (λ a b. in_not n i (interval (start + d) (len - d)) (λ x y. omega arith) (λ x y. omega arith))))
