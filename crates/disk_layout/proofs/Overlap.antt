-- Laws of overlap. Assumes nothing.
use Prim.Native.Nat.{ℕ, ◌+◌, ◌-◌, ◌<◌}
use mathlib.Core.Bool.{Bool, true, false, not, ◌&&◌, ◌||◌, cond, and_comm, and-true, and-false, or-false}
use mathlib.Core.Path.{◌≡◌, refl}
use lib.Dec.{ltb, eqb}
use native.Mathlib.Omega.{arith}
use Rattle.std.proofs.Common.{zero-add}
use borrow.Author.Tests.{le-leb, lt-leb, lt-ltb, le-ltb, ne_eqb, ltb-true, ltb-false, eqb-true, eqb-false}
use Rattle.disk_layout.specs.declared.JournalInterval.{JournalInterval}
use Rattle.disk_layout.specs.JournalInterval.{interval, valid_journal_interval, in_cyclic_range}
use Rattle.disk_layout.specs.JournalInterval.{journal_interval_overlap, wrapped_overlap}
use Rattle.disk_layout.specs.JournalInterval.{journal_cyclic_interval_overlap}
use Rattle.refusals.proofs.Tests.{ltb_same}
use Rattle.disk_layout.proofs.Intervals.{valid_facts}

-- overlap does not look at the order of its two intervals
pub overlap_symmetric : (n : ℕ) (a b : JournalInterval)
    → journal_cyclic_interval_overlap n a b ≡ journal_cyclic_interval_overlap n b a
unfolding journal_cyclic_interval_overlap journal_interval_overlap
overlap_symmetric n a b = go (ltb n (a.start + a.len)) (ltb n (b.start + b.len))
  where
    go : (s t : Bool) →
        cond s (cond t true (wrapped_overlap n a b)) (cond t (wrapped_overlap n b a) (journal_interval_overlap a b))
        ≡ cond t (cond s true (wrapped_overlap n b a)) (cond s (wrapped_overlap n a b) (journal_interval_overlap b a))
    go true true = refl
    go true false = refl
    go false true = refl
    go false false = and_comm (ltb b.start (a.start + a.len)) (ltb a.start (b.start + b.len))

some_block : (s : ℕ) → ltb 0 (s + 0) ≡ not (eqb s 0)
some_block s = go (eqb s 0) refl
  where
    go : (t : Bool) → eqb s 0 ≡ t → ltb 0 (s + 0) ≡ not t
    go true q = le-ltb 0 (s + 0) (omega (arith, eqb-true s 0 q))
    go false q = lt-ltb 0 (s + 0) (omega (arith, eqb-false s 0 q))

-- an empty interval strictly inside another overlaps it, save at block 0, where it never does
pub empty_overlap : (n s : ℕ) (b : JournalInterval) → s < n → valid_journal_interval n b ≡ true →
    journal_cyclic_interval_overlap n (interval s 0) b
    ≡ (not (eqb s 0) && (in_cyclic_range n s b && not (eqb s b.start)))
unfolding journal_cyclic_interval_overlap wrapped_overlap journal_interval_overlap in_cyclic_range
empty_overlap n s b h v = go (ltb n (b.start + b.len)) (ltb b.start s) (eqb s b.start) refl refl refl
  where
    go : (w x z : Bool) → ltb n (b.start + b.len) ≡ w → ltb b.start s ≡ x → eqb s b.start ≡ z →
        journal_cyclic_interval_overlap n (interval s 0) b
        ≡ (not (eqb s 0) && (in_cyclic_range n s b && not (eqb s b.start)))
    go true true z p q r =
        let f = valid_facts n b v in
        let k = ltb-true n (b.start + b.len) p in
        let l = ltb-true b.start s q in
        simp (
          le-ltb n (s + 0) (omega arith),
          p,
          lt-ltb s (b.start + (n - b.start)) (omega arith),
          lt-ltb b.start (s + 0) (omega arith),
          ne_eqb s 0 (λ e. omega arith),
          le-leb b.start s (omega arith),
          lt-ltb s (b.start + b.len) (omega arith),
          ne_eqb s b.start (λ e. omega arith),
        )
    go false true z p q r =
        let k = ltb-false n (b.start + b.len) p in
        let l = ltb-true b.start s q in
        simp (
          le-ltb n (s + 0) (omega arith),
          p,
          lt-ltb b.start (s + 0) (omega arith),
          ne_eqb s 0 (λ e. omega arith),
          le-leb b.start s (omega arith),
          le-ltb (s + n) (b.start + b.len) (omega arith),
          ne_eqb s b.start (λ e. omega arith),
          and-false,
          or-false,
          and-true,
        )
    go true false true p q r =
        let f = valid_facts n b v in
        let l = eqb-true s b.start r in
        simp (
          le-ltb n (s + 0) (omega arith),
          p,
          le-ltb b.start (s + 0) (omega arith),
          le-ltb s (0 + (b.len - (n - b.start))) (omega arith),
          r,
          and-false,
        )
    go false false true p q r =
        let l = eqb-true s b.start r in
        simp (le-ltb n (s + 0) (omega arith), p, le-ltb b.start (s + 0) (omega arith), r, and-false)
    go true false false p q r =
        let f = valid_facts n b v in
        let k = ltb-true n (b.start + b.len) p in
        let l : s < b.start = omega (arith, ltb-false b.start s q, eqb-false s b.start r) in
        simp (
          le-ltb n (s + 0) (omega arith),
          p,
          le-ltb b.start (s + 0) (omega arith),
          lt-leb b.start s l,
          le-leb b.start (s + n) (omega arith),
          ltb_same (s + n) (b.start + b.len) s (0 + (b.len - (n - b.start))) (omega arith) (omega arith),
          some_block s,
          r,
          and-false,
          and-true,
        )
        (and_comm (ltb s (0 + (b.len - (n - b.start)))) (not (eqb s 0)))
    go false false false p q r =
        let k = ltb-false n (b.start + b.len) p in
        let l : s < b.start = omega (arith, ltb-false b.start s q, eqb-false s b.start r) in
        simp (
          le-ltb n (s + 0) (omega arith),
          p,
          le-ltb b.start (s + 0) (omega arith),
          lt-leb b.start s l,
          le-ltb (s + n) (b.start + b.len) (omega arith),
          and-false,
        )

-- the tests of an interval that wraps, and the cases of overlap
pub wrapped_tests : (n : ℕ) (a b : JournalInterval) → wrapped_overlap n a b
    ≡ (ltb b.start (a.start + (n - a.start)) && ltb a.start (b.start + b.len)
    || ltb b.start (a.len - (n - a.start)) && ltb 0 (b.start + b.len))
unfolding wrapped_overlap journal_interval_overlap
wrapped_tests n a b = rw zero-add

pub overlap_cases : (n : ℕ) (a b : JournalInterval) → journal_cyclic_interval_overlap n a b
    ≡ cond (ltb n (a.start + a.len))
    (cond (ltb n (b.start + b.len)) true (wrapped_overlap n a b))
    (cond (ltb n (b.start + b.len)) (wrapped_overlap n b a)
    (ltb b.start (a.start + a.len) && ltb a.start (b.start + b.len)))
unfolding journal_cyclic_interval_overlap journal_interval_overlap
overlap_cases n a b = refl
