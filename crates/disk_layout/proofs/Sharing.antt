-- Laws of blocks shared: document 02, paper 6. Assumes nothing.
use Prim.Native.Nat.{ℕ, zero, suc, ◌+◌, ◌-◌, ◌≤◌, ◌<◌}
use mathlib.Core.Bool.{Bool, true, false, ◌&&◌, ◌||◌, cond, and_comm, or-true}
use mathlib.Core.Logic.{◌↔◌}
use mathlib.Core.Path.{◌≡◌, refl, ◌∙◌}
use lib.Dec.{leb, ltb, eqb}
use native.Mathlib.Omega.{arith}
use borrow.Author.Tests.{lt-ltb, leb-true, leb-false, ltb-true, ltb-false, eqb-true, eqb-false}
use Rattle.disk_layout.specs.declared.JournalInterval.{JournalInterval}
use Rattle.disk_layout.specs.JournalInterval.{interval, valid_journal_interval, in_cyclic_range}
use Rattle.disk_layout.specs.JournalInterval.{journal_interval_overlap, wrapped_overlap}
use Rattle.disk_layout.specs.JournalInterval.{journal_cyclic_interval_overlap, some_below, shares_block}
use Rattle.refusals.proofs.Tests.{both, either, same, never, impossible}
use Rattle.disk_layout.proofs.Intervals.{BothValid, both_facts, valid_true, in_told, in_here, in_on}

-- where `some_below` says so, there is a number below k that passes the test,
below_told : (k : ℕ) (test : ℕ → Bool) → some_below k test ≡ true → (i : ℕ) × (i < k) × (test i ≡ true)
unfolding some_below
below_told zero test h = impossible cc
below_told (suc k) test h =
    either (test k) (some_below k test) h (λ e. (k, omega arith, e))
    (λ e. let r = below_told k test e in (r.0, omega (arith, r.1), r.2))

-- and back
below_true : (k i : ℕ) (test : ℕ → Bool) → i < k → test i ≡ true → some_below k test ≡ true
unfolding some_below
below_true zero i test h e = absurd (omega arith)
below_true (suc k) i test h e = go (eqb i k) refl (λ l. below_true k i test l e)
  where
    go : (t : Bool) → eqb i k ≡ t → (i < k → some_below k test ≡ true) → (test k || some_below k test) ≡ true
    go true q earlier = let is = eqb-true i k q in rw (← is, e) refl
    go false q earlier = simp (earlier (omega (arith, eqb-false i k q)), or-true)

-- a block number below N that lies in both intervals
abbrev pub Common : (n : ℕ) (a b : JournalInterval) → Type 0
Common n a b = (i : ℕ) × (i < n) × (in_cyclic_range n i a ≡ true) × (in_cyclic_range n i b ≡ true)

-- "yes exactly when some block number below N lies in both intervals, cyclically"
pub shares_exactly : (n : ℕ) (a b : JournalInterval) → (shares_block n a b ≡ true) ↔ Common n a b
unfolding shares_block
shares_exactly n a b = (
  λ h.
      let r = below_told n (λ i. in_cyclic_range n i a && in_cyclic_range n i b) h in
      let p = both (in_cyclic_range n r.0 a) (in_cyclic_range n r.0 b) r.2 in
      (r.0, r.1, p.0, p.1),
  λ s. below_true n s.0 (λ i. in_cyclic_range n i a && in_cyclic_range n i b) s.1 (simp (s.2, s.3)),
)

-- it does not look at the order of its two intervals
pub shares_symmetric : (n : ℕ) (a b : JournalInterval) → shares_block n a b ≡ shares_block n b a
unfolding shares_block
shares_symmetric n a b = λ j. some_below n (λ i. and_comm (in_cyclic_range n i a) (in_cyclic_range n i b) j)

-- an empty interval shares nothing
pub empty_shares : (n : ℕ) (a b : JournalInterval) → a.len ≡ 0 → shares_block n a b ≡ false
empty_shares n a b z =
    never (shares_block n a b) λ h.
    let s = (shares_exactly n a b).0 h in in_told n s.0 a s.2 (λ e f. omega arith) (λ e f. omega arith)

pub shares_empty : (n : ℕ) (a b : JournalInterval) → b.len ≡ 0 → shares_block n a b ≡ false
shares_empty n a b z = shares_symmetric n a b ∙ empty_shares n b a z

-- Of two intervals that do not wrap: where they overlap and have blocks, a block lies in both,
between_told : (x y : JournalInterval) → 0 < x.len → 0 < y.len → journal_interval_overlap x y ≡ true → (i : ℕ)
    × (x.start ≤ i) × (i < x.start + x.len) × (y.start ≤ i) × (i < y.start + y.len)
unfolding journal_interval_overlap
between_told x y k l h = go (leb x.start y.start) refl
  where
    facts : (y.start < x.start + x.len) × (x.start < y.start + y.len)
    facts =
        let p = both (ltb y.start (x.start + x.len)) (ltb x.start (y.start + y.len)) h in
        (ltb-true y.start (x.start + x.len) p.0, ltb-true x.start (y.start + y.len) p.1)

    go : (t : Bool) → leb x.start y.start ≡ t → (i : ℕ)
        × (x.start ≤ i) × (i < x.start + x.len) × (y.start ≤ i) × (i < y.start + y.len)
    go true q = let f = facts in let g = leb-true x.start y.start q in
        (y.start, omega arith, omega arith, omega arith, omega arith)
    go false q = let f = facts in let g = leb-false x.start y.start q in
        (x.start, omega arith, omega arith, omega arith, omega arith)

-- and where one does, they overlap
between_true : (i : ℕ) (x y : JournalInterval) → x.start ≤ i → i < x.start + x.len → y.start ≤ i
    → i < y.start + y.len → journal_interval_overlap x y ≡ true
unfolding journal_interval_overlap
between_true i x y a b c d =
    simp (lt-ltb y.start (x.start + x.len) (omega arith), lt-ltb x.start (y.start + y.len) (omega arith))

-- a block of an interval that does not wrap
contiguous_told : (n i : ℕ) (x : JournalInterval) → x.start + x.len ≤ n → in_cyclic_range n i x ≡ true
    → (x.start ≤ i) × (i < x.start + x.len)
contiguous_told n i x c h = in_told n i x h (λ s e. (s, e)) (λ s e. absurd (omega arith))

-- An interval that wraps, taken as its two parts, neither of them empty, and one that does not.
wrapped_agree : (n : ℕ) (a b : JournalInterval) → BothValid n a b → n < a.start + a.len → b.start + b.len ≤ n
    → 0 < b.len → shares_block n a b ≡ wrapped_overlap n a b
unfolding wrapped_overlap
wrapped_agree n a b v w c l =
    same (shares_block n a b) (wrapped_overlap n a b) (λ h. overlaps ((shares_exactly n a b).0 h))
    (λ h. (shares_exactly n a b).1 (either (journal_interval_overlap front b) _ h in_front in_back))
  where
    front : JournalInterval
    front = interval a.start (n - a.start)

    back : JournalInterval
    back = interval 0 (a.len - (n - a.start))

    in_front : journal_interval_overlap front b ≡ true → Common n a b
    in_front h =
        let r = between_told front b (omega (arith, v)) l h in
        let i = r.0 in
        (i, omega (arith, r), in_here n i a r.1 (omega (arith, v, r)), in_here n i b r.3 r.4)

    in_back : journal_interval_overlap back b ≡ true → Common n a b
    in_back h =
        let r = between_told back b (omega (arith, v)) l h in
        let i = r.0 in (
          i,
          omega (arith, r),
          in_on n i a (omega (arith, v)) (omega (arith, v, r)),
          in_here n i b r.3 r.4,
        )

    overlaps : Common n a b → wrapped_overlap n a b ≡ true
    overlaps s =
        let i = s.0 in
        let below = s.1 in
        let f = contiguous_told n i b c s.3 in
        in_told n i a s.2 (λ x y. simp (between_true i front b x (omega (arith, v)) f.0 f.1))
        (λ x y. simp (between_true i back b (omega arith) (omega (arith, v)) f.0 f.1, or-true))

-- "The two agree whenever both are non-empty."
pub shares_overlap : (n : ℕ) (a b : JournalInterval) → (valid_journal_interval n a && valid_journal_interval n b) ≡ true
    → 0 < a.len → 0 < b.len → shares_block n a b ≡ journal_cyclic_interval_overlap n a b
unfolding journal_cyclic_interval_overlap
shares_overlap n a b valid k l = go (ltb n (a.start + a.len)) (ltb n (b.start + b.len)) refl refl
  where
    v : BothValid n a b
    v = both_facts n a b valid

    u : BothValid n b a
    u = record { a_start = v.b_start; a_len = v.b_len; b_start = v.a_start; b_len = v.a_len }

    go : (s t : Bool) → ltb n (a.start + a.len) ≡ s → ltb n (b.start + b.len) ≡ t →
        shares_block n a b
        ≡ cond s (cond t true (wrapped_overlap n a b)) (cond t (wrapped_overlap n b a) (journal_interval_overlap a b))
    go true true p q =
        let e = ltb-true n (a.start + a.len) p in
        let f = ltb-true n (b.start + b.len) q in
        (shares_exactly n a b).1 (
          0,
          omega (arith, v),
          in_on n 0 a (omega (arith, v)) (omega arith),
          in_on n 0 b (omega (arith, v)) (omega arith),
        )
    go true false p q =
        wrapped_agree n a b v (ltb-true n (a.start + a.len) p) (ltb-false n (b.start + b.len) q) l
    go false true p q =
        shares_symmetric n a b
        ∙ wrapped_agree n b a u (ltb-true n (b.start + b.len) q) (ltb-false n (a.start + a.len) p) k
    go false false p q =
        let c = ltb-false n (a.start + a.len) p in
        let d = ltb-false n (b.start + b.len) q in
        same (shares_block n a b) (journal_interval_overlap a b)
        (λ h.
        let s = (shares_exactly n a b).0 h in
        let e = contiguous_told n s.0 a c s.2 in
        let f = contiguous_told n s.0 b d s.3 in
        between_true s.0 a b e.0 e.1 f.0 f.1)
        (λ h.
        let r = between_told a b k l h in
        let i = r.0 in
        (shares_exactly n a b).1 (
          i,
          omega (arith, r),
          in_here n i a r.1 r.2,
          in_here n i b r.3 r.4,
        ))

-- the same by the intervals' numbers
pub shares_nonempty : (n : ℕ) (a b : JournalInterval) → a.start < n → a.len ≤ n → b.start < n → b.len ≤ n
    → 0 < a.len → 0 < b.len → shares_block n a b ≡ journal_cyclic_interval_overlap n a b
shares_nonempty n a b p q r s k l = shares_overlap n a b (simp (valid_true n a p q, valid_true n b r s)) k l

-- what the code's cases are
pub ruleset shares_cases = (empty_shares, shares_empty, shares_nonempty)
