-- Laws of the definitions on intervals. Assumes nothing.
use Prim.Native.Nat.{ℕ, ◌+◌, ◌-◌, ◌≤◌, ◌<◌}
use mathlib.Core.Bool.{Bool, true, false, cond, ◌&&◌, or-true}
use mathlib.Core.Path.{◌≡◌, refl}
use lib.Dec.{leb, ltb}
use native.Mathlib.Omega.{arith}
use borrow.Author.Tests.{leb-true, ltb-true, le-leb, lt-ltb}
use Rattle.disk_layout.specs.declared.JournalInterval.{JournalInterval}
use Rattle.disk_layout.specs.DiskLayout.{blocks_in_range}
use Rattle.disk_layout.specs.JournalInterval.{valid_journal_interval, contiguous_journal_interval, in_cyclic_range}
use Rattle.disk_layout.specs.JournalInterval.{next_start_point}
use Rattle.refusals.proofs.Tests.{both, either, never}

-- what each test tells of its numbers, and back
pub range_facts : (n : ℕ) → blocks_in_range n ≡ true → (1 ≤ n) × (n ≤ 1024)
range_facts n h = let p = both (leb 1 n) (leb n 1024) h in (leb-true 1 n p.0, leb-true n 1024 p.1)

pub valid_facts : (n : ℕ) (i : JournalInterval) → valid_journal_interval n i ≡ true → (i.start < n) × (i.len ≤ n)
unfolding valid_journal_interval
valid_facts n i h =
    let p = both (ltb i.start n) (leb i.len n) h in (ltb-true i.start n p.0, leb-true i.len n p.1)

pub valid_true : (n : ℕ) (i : JournalInterval) → i.start < n → i.len ≤ n → valid_journal_interval n i ≡ true
unfolding valid_journal_interval
valid_true n i s l = simp (lt-ltb i.start n s, le-leb i.len n l)

pub contiguous_facts : (n : ℕ) (i : JournalInterval) → contiguous_journal_interval n i ≡ true
    → (i.start < n) × (i.start + i.len ≤ n)
unfolding contiguous_journal_interval
contiguous_facts n i h =
    let p = both (valid_journal_interval n i) (leb (i.start + i.len) n) h in
    ((valid_facts n i p.0).0, leb-true (i.start + i.len) n p.1)

pub contiguous_true : (n : ℕ) (i : JournalInterval) → i.start < n → i.start + i.len ≤ n
    → contiguous_journal_interval n i ≡ true
unfolding contiguous_journal_interval
contiguous_true n i s e = simp (valid_true n i s (omega arith), le-leb (i.start + i.len) n e)

-- the numbers of two valid intervals
pub record BothValid (n : ℕ) (a b : JournalInterval) : Type 0 where
  pub a_start : a.start < n
  pub a_len : a.len ≤ n
  pub b_start : b.start < n
  pub b_len : b.len ≤ n

pub both_facts : (n : ℕ) (a b : JournalInterval) → (valid_journal_interval n a && valid_journal_interval n b) ≡ true
    → BothValid n a b
both_facts n a b h =
    let p = both (valid_journal_interval n a) (valid_journal_interval n b) h in
    let f = valid_facts n a p.0 in
    let g = valid_facts n b p.1 in
    record { a_start = f.0; a_len = f.1; b_start = g.0; b_len = g.1 }

-- a block is one of the interval's as it stands or N places further on,
pub in_told : {C : Type 0} (n i : ℕ) (x : JournalInterval) → in_cyclic_range n i x ≡ true
    → (x.start ≤ i → i < x.start + x.len → C) → (x.start ≤ i + n → i + n < x.start + x.len → C) → C
unfolding in_cyclic_range
in_told n i x h here on =
    either (leb x.start i && ltb i (x.start + x.len)) _ h
    (λ e. let (a, b) = both (leb x.start i) _ e in here (leb-true _ _ a) (ltb-true _ _ b))
    (λ e. let (a, b) = both (leb x.start (i + n)) _ e in on (leb-true _ _ a) (ltb-true _ _ b))

-- and back;
pub in_here : (n i : ℕ) (x : JournalInterval) → x.start ≤ i → i < x.start + x.len → in_cyclic_range n i x ≡ true
unfolding in_cyclic_range
in_here n i x s e = simp (le-leb x.start i s, lt-ltb i (x.start + x.len) e)

pub in_on : (n i : ℕ) (x : JournalInterval) → x.start ≤ i + n → i + n < x.start + x.len → in_cyclic_range n i x ≡ true
unfolding in_cyclic_range
in_on n i x s e = simp (le-leb x.start (i + n) s, lt-ltb (i + n) (x.start + x.len) e, or-true)

-- it is none where it is neither
pub in_not : (n i : ℕ) (x : JournalInterval) → (x.start ≤ i → i < x.start + x.len → ⊥)
    → (x.start ≤ i + n → i + n < x.start + x.len → ⊥) → in_cyclic_range n i x ≡ false
in_not n i x here on = never (in_cyclic_range n i x) λ h. in_told n i x h here on

-- next start is a block of the region
pub next_start_below : (n : ℕ) (i : JournalInterval) → valid_journal_interval n i ≡ true → next_start_point n i < n
unfolding next_start_point
next_start_below n i v = go (ltb (i.start + i.len) n) refl
  where
    go : (t : Bool) → ltb (i.start + i.len) n ≡ t → cond t (i.start + i.len) (i.start + i.len - n) < n
    go true q = ltb-true (i.start + i.len) n q
    go false q = omega (arith, valid_facts n i v)
