-- Front and back are the interval, cut at the region's end. Assumes nothing.
use Prim.Native.Nat.{ℕ, ◌+◌, ◌-◌, ◌≤◌, ◌<◌}
use mathlib.Core.Bool.{Bool, true, false, cond, ◌||◌, and-true, and-false, or-false}
use Rattle.std.specs.Prelude.{Option, None, Some}
use mathlib.Core.Path.{◌≡◌, refl}
use lib.Dec.{leb, eqb}
use native.Mathlib.Omega.{arith}
use borrow.Author.Tests.{le-leb, lt-leb, lt-ltb, le-ltb, ne_eqb, leb-true, leb-false, eqb-true}
use Rattle.disk_layout.specs.declared.JournalInterval.{JournalInterval}
use Rattle.disk_layout.specs.DiskLayout.{blocks_in_range, journal_range_location}
use Rattle.disk_layout.specs.JournalInterval.{interval, valid_journal_interval, contiguous_journal_interval}
use Rattle.disk_layout.specs.JournalInterval.{in_cyclic_range, journal_front_interval, journal_back_interval}
use Rattle.disk_layout.specs.Calls.{front_call, back_call, location_call}
use Rattle.refusals.specs.Outcome.{Outcome, gives, require◌else◌then◌}
use Rattle.refusals.proofs.Tests.{ltb_same, impossible}
use Rattle.refusals.proofs.Outcomes.{gives_same, require_told}
use Rattle.disk_layout.proofs.Intervals.{valid_facts, contiguous_true, in_not}

-- the back by the room behind the start alone: no blocks are within any room
pub back_none : (n start len : ℕ) → len ≤ n - start → journal_back_interval n start len ≡ None
unfolding journal_back_interval
back_none n start len h = go (eqb len 0)
  where
    go : (t : Bool) → cond t None (cond (leb len (n - start)) None (Some (interval 0 (len - (n - start))))) ≡ None
    go true = refl
    go false = simp (le-leb len (n - start) h)

-- the rest past that room
pub back_some : (n start len : ℕ) → n - start < len
    → journal_back_interval n start len ≡ Some (interval 0 (len - (n - start)))
unfolding journal_back_interval
back_some n start len h = simp (ne_eqb len 0 (λ z. omega arith), lt-leb len (n - start) h)

-- the blocks of a part, none where it is absent
abbrev pub length_of : Option JournalInterval → ℕ
length_of None = 0
length_of (Some i) = i.len

-- block k is one of the part's
abbrev pub in_part : (n k : ℕ) → Option JournalInterval → Bool
in_part n k None = false
in_part n k (Some i) = in_cyclic_range n k i

-- the parts have as many blocks as the interval
pub parts_length : (n start len : ℕ)
    → length_of (journal_front_interval n start len) + length_of (journal_back_interval n start len) ≡ len
unfolding journal_front_interval journal_back_interval
parts_length n start len = go (eqb len 0) (leb len (n - start)) refl refl
  where
    go : (s t : Bool) → eqb len 0 ≡ s → leb len (n - start) ≡ t →
        length_of (cond s None (Some (interval start (cond t len (n - start)))))
        + length_of (cond s None (cond t None (Some (interval 0 (len - (n - start))))))
        ≡ len
    go true t p q = omega (arith, eqb-true len 0 p)
    go false true p q = omega arith
    go false false p q = omega (arith, leb-false len (n - start) q)

-- and the same blocks
pub parts_blocks : (n start len k : ℕ) → valid_journal_interval n (interval start len) ≡ true → k < n →
    in_cyclic_range n k (interval start len)
    ≡ (in_part n k (journal_front_interval n start len) || in_part n k (journal_back_interval n start len))
unfolding journal_front_interval journal_back_interval in_cyclic_range
parts_blocks n start len k v h = go (eqb len 0) (leb len (n - start)) refl refl
  where
    go : (s t : Bool) → eqb len 0 ≡ s → leb len (n - start) ≡ t →
        in_cyclic_range n k (interval start len)
        ≡ (in_part n k (cond s None (Some (interval start (cond t len (n - start)))))
        || in_part n k (cond s None (cond t None (Some (interval 0 (len - (n - start)))))))
    go true t p q =
        let z = eqb-true len 0 p in in_not n k (interval start len) (λ a b. omega arith) (λ a b. omega arith)
    go false true p q = simp or-false
    go false false p q =
        let f = valid_facts n (interval start len) v in
        let l = leb-false len (n - start) q in
        simp (
          lt-ltb k (start + len) (omega arith),
          le-leb start (k + n) (omega arith),
          lt-ltb k (start + (n - start)) (omega arith),
          le-ltb (k + n) (start + (n - start)) (omega arith),
          le-leb 0 k (omega arith),
          le-ltb (k + n) (0 + (len - (n - start))) (omega arith),
          ltb_same (k + n) (start + len) k (0 + (len - (n - start))) (omega arith) (omega arith),
          and-true,
          and-false,
          or-false,
        )

-- Neither part wraps, so the location of neither is refused.

front_contiguous : (n start len : ℕ) (i : JournalInterval) → valid_journal_interval n (interval start len) ≡ true
    → journal_front_interval n start len ≡ Some i
    → contiguous_journal_interval n i ≡ true
unfolding journal_front_interval
front_contiguous n start len i v e = go (eqb len 0) (leb len (n - start)) refl e
  where
    go : (s t : Bool) → leb len (n - start) ≡ t
        → cond s None (Some (interval start (cond t len (n - start)))) ≡ Some i → contiguous_journal_interval n i ≡ true
    go true t q e = impossible cc
    go false true q e =
        let f = valid_facts n (interval start len) v in
        let l = leb-true len (n - start) q in
        let is : interval start len ≡ i = cc in
        rw (← is) (contiguous_true n (interval start len) f.0 (omega arith))
    go false false q e =
        let f = valid_facts n (interval start len) v in
        let is : interval start (n - start) ≡ i = cc in
        rw (← is) (contiguous_true n (interval start (n - start)) f.0 (omega arith))

back_contiguous : (n start len : ℕ) (i : JournalInterval) → valid_journal_interval n (interval start len) ≡ true
    → journal_back_interval n start len ≡ Some i
    → contiguous_journal_interval n i ≡ true
unfolding journal_back_interval
back_contiguous n start len i v e = go (eqb len 0) (leb len (n - start)) e
  where
    go : (s t : Bool) → cond s None (cond t None (Some (interval 0 (len - (n - start))))) ≡ Some i
        → contiguous_journal_interval n i ≡ true
    go true t e = impossible cc
    go false true e = impossible cc
    go false false e =
        let f = valid_facts n (interval start len) v in
        let is : interval 0 (len - (n - start)) ≡ i = cc in
        rw (← is) (contiguous_true n (interval 0 (len - (n - start))) (omega arith) (omega arith))

-- a part that is there has a location
abbrev pub Located : (n : ℕ) → Outcome (Option JournalInterval) → Type 0
Located n call = (i : JournalInterval) → call ≡ gives (Some i)
    → location_call n i ≡ gives (journal_range_location i.start i.len)

located : (n start len : ℕ) (part : Option JournalInterval)
    → ((i : JournalInterval) → valid_journal_interval n (interval start len) ≡ true → part ≡ Some i
    → contiguous_journal_interval n i ≡ true)
    → Located n (require blocks_in_range n else 1 then require valid_journal_interval n (interval start len)
    else 16 then gives part)
unfolding location_call
located n start len part contiguous i e =
    require_told (blocks_in_range n) 1 _ (Some i) e λ range e₁.
    require_told (valid_journal_interval n (interval start len)) 16 (gives part) (Some i) e₁ λ valid e₂.
    rw (range, contiguous i valid (gives_same e₂))

pub front_located : (n start len : ℕ) → Located n (front_call n start len)
unfolding front_call
front_located n start len = located n start len (journal_front_interval n start len) (front_contiguous n start len)

pub back_located : (n start len : ℕ) → Located n (back_call n start len)
unfolding back_call
back_located n start len = located n start len (journal_back_interval n start len) (back_contiguous n start len)
