-- JOINING: a range that reads, followed by one that reads, reads as the first list followed by the second; and the
-- source's own recursion, as an equation, for a reader who compares `parseJournalRange` with JournalRange.i.dfy.
-- Assumes nothing.
use mathlib.Core.Path.{◌≡◌, refl, sym, ap, ◌∙◌}
use mathlib.Core.Bool.{◌&&◌}
use Rattle.std.specs.Prelude.{Some}
use mathlib.Core.List.{List, [], ◌∷◌, ◌++◌, append_assoc}
use Prim.Native.Nat.{ℕ, zero, suc, ◌-◌, ◌≤◌}
use native.Mathlib.Nat.{not-suc-le-zero, le_of_suc-le-suc}
use native.Mathlib.Omega.{arith}
use borrow.Author.Tests.{le-leb}
use lib.Dec.{leb}
use lib.ListN.{length, take, drop, length-append}
use lib.Seq.{take-append-le}
use Rattle.words.specs.Lists.{concat_seq}
use Rattle.journal_entry.specs.Entry.{JournalEntry}
use Rattle.journal_entry.specs.Parse.{◌>>=◌, provided}
use Rattle.journal_entry.proofs.Options.{bind_parts, provided_parts}
use Rattle.journal_range.specs.Range.{JournalBlock, JournalRange, parse_header, parse_journal_range_of_bytes}
use Rattle.journal_range.specs.Range.{parse_from, parse_from_at, parse_journal_range, parse_journal_range_at}
use Rattle.journal_range.proofs.Same.{bind_same, provided_same, both}

-- a range's first blocks belong to a batch that is read: what is left is the range behind them
pub parse_from_drop : (k : ℕ) (jr : JournalRange) → parse_from k jr ≡ parse_journal_range (drop k jr)
unfolding parse_from_at parse_journal_range_at
parse_from_drop zero jr = refl
parse_from_drop (suc k) [] = refl
parse_from_drop (suc k) (b ∷ bs) = parse_from_drop k bs

-- no blocks read as no entries
pub parse_journal_range_nil : parse_journal_range [] ≡ Some []
unfolding parse_journal_range_at
parse_journal_range_nil = refl

pub drop_behind : (k : ℕ) (b : JournalBlock) (bs : JournalRange) → 1 ≤ k → drop (k - 1) bs ≡ drop k (b ∷ bs)
drop_behind zero b bs h = absurd (not-suc-le-zero h)
drop_behind (suc k) b bs h = let e : suc k - 1 ≡ k = omega arith in rw e

-- else the batch in front is read, and then the blocks behind it
pub parse_journal_range_cons : (b : JournalBlock) (bs : JournalRange) → parse_journal_range (b ∷ bs) ≡ (do
  (nentries, nblocks) ← parse_header b
  provided (leb 1 nblocks && leb nblocks (length (b ∷ bs))) do
    es₁ ← parse_journal_range_of_bytes (concat_seq (take nblocks (b ∷ bs))) nentries
    es₂ ← parse_journal_range (drop nblocks (b ∷ bs))
    Some (es₁ ++ es₂))
unfolding parse_from_at
parse_journal_range_cons b bs =
    sym (parse_from_drop 0 (b ∷ bs))
    ∙ bind_same (parse_header b) _ _ λ hdr. provided_same (leb 1 hdr.1 && leb hdr.1 (length (b ∷ bs))) _ _ λ fits.
    let h = both 1 hdr.1 hdr.1 (length (b ∷ bs)) fits in
    rw (parse_from_drop (hdr.1 - 1) bs, drop_behind hdr.1 b bs h.0)

-- joining, where the first k blocks of the first range are read already
joining_from : (k : ℕ) (a b : JournalRange) (es fs : List JournalEntry) → k ≤ length a
    → parse_from k a ≡ Some es → parse_from 0 b ≡ Some fs → parse_from k (a ++ b) ≡ Some (es ++ fs)
unfolding parse_from_at
joining_from zero [] b es fs h p q = q ∙ ap Some (ap (λ (l : List JournalEntry). l ++ fs) (let e : [] ≡ es = cc in e))
joining_from (suc k) [] b es fs h p q = absurd (not-suc-le-zero h)
joining_from (suc k) (x ∷ a) b es fs h p q = joining_from k a b es fs (le_of_suc-le-suc h) p q
joining_from zero (x ∷ a) b es fs h p q =
    bind_parts (parse_header x) _ es p λ hdr e₀ p₀.
    provided_parts (leb 1 hdr.1 && leb hdr.1 (length (x ∷ a))) _ es p₀ λ fits p₁.
    bind_parts (parse_journal_range_of_bytes (concat_seq (take hdr.1 (x ∷ a))) hdr.0) _ es p₁ λ es₁ e₁ p₂.
    bind_parts (parse_from (hdr.1 - 1) a) _ es p₂ λ es₂ e₂ p₃.
    let (h₁, h₂) = both 1 hdr.1 hdr.1 (length (x ∷ a)) fits in
    let h₃ : hdr.1 ≤ length (x ∷ (a ++ b)) = rw length-append (omega arith) in
    let r : parse_from (hdr.1 - 1) (a ++ b) ≡ Some (es₂ ++ fs) =
    joining_from (hdr.1 - 1) a b es₂ fs (omega arith) e₂ q in
    let e₃ : es₁ ++ es₂ ≡ es = cc in
    rw (e₀, le-leb _ _ h₁, le-leb _ _ h₃, take-append-le hdr.1 (x ∷ a) b h₂, e₁, r)
    (rw (← append_assoc es₁ es₂ fs, e₃))

-- JOINING, of `parse_journal_range` itself; either range may be empty
pub joining : (a b : JournalRange) (es fs : List JournalEntry) → parse_journal_range a ≡ Some es
    → parse_journal_range b ≡ Some fs
    → parse_journal_range (a ++ b) ≡ Some (es ++ fs)
unfolding parse_journal_range_at
joining a b es fs p q = joining_from 0 a b es fs (omega arith) p q
