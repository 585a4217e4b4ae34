-- What a range reads as is within limits; and ranges read at two limits of values (document 02, paper 4): whatever
-- reads at one reads as the same list at a larger one, and does not read at one that a value is longer than.
-- Assumes nothing.
use mathlib.Core.Path.{◌≡◌, refl, sym, subst}
use mathlib.Core.Bool.{true, ◌&&◌}
use Rattle.std.specs.Prelude.{Option, None, Some}
use mathlib.Core.List.{List, [], ◌∷◌, ◌++◌}
use Prim.Native.Nat.{ℕ, zero, suc, ◌-◌, ◌/◌, ◌%◌, ◌≤◌}
use native.Mathlib.Omega.{arith}
use lib.Dec.{leb, eqb}
use lib.ListN.{length, take, drop}
use Rattle.words.specs.Lists.{chunks, concat_seq}
use Rattle.words.proofs.All.{all_append, all_split}
use Rattle.journal_entry.specs.Entry.{JournalEntry, value_limit, WithinAt, AllWithinAt, AllWithin, HasLonger}
use Rattle.journal_entry.specs.Parse.{parse_entries_at}
use Rattle.journal_entry.proofs.Options.{T→true, by_order, bind_parts, provided_parts}
use Rattle.journal_entry.proofs.Limits.{all_larger, longer_out, none_longer, entries_within}
use Rattle.journal_entry.proofs.Limits.{entries_again}
use Rattle.journal_range.specs.Range.{JournalRange, parse_header, parse_journal_range_of_bytes_at, parse_from_at}
use Rattle.journal_range.specs.Range.{parse_journal_range_at, parse_journal_range}
use Rattle.journal_range.specs.Payload.{parse_payload, range_of}

within_from : (limit k : ℕ) (jr : JournalRange) (es : List JournalEntry) → parse_from_at limit k jr ≡ Some es
    → AllWithinAt limit es
unfolding parse_from_at parse_journal_range_of_bytes_at
within_from limit zero [] es e = let ee : [] ≡ es = cc in subst (AllWithinAt limit) ee tt
within_from limit (suc k) [] es e = let ee : [] ≡ es = cc in subst (AllWithinAt limit) ee tt
within_from limit (suc k) (b ∷ bs) es e = within_from limit k bs es e
within_from limit zero (b ∷ bs) es e =
    bind_parts (parse_header b) _ es e λ hdr e₀ p₀.
    provided_parts (leb 1 hdr.1 && leb hdr.1 (length (b ∷ bs))) _ es p₀ λ fits p₁.
    bind_parts (parse_entries_at limit hdr.0 (drop 8 (concat_seq (take hdr.1 (b ∷ bs))))) _ es p₁ λ es₁ e₁ p₂.
    bind_parts (parse_from_at limit (hdr.1 - 1) bs) _ es p₂ λ es₂ e₂ p₃.
    let ee : es₁ ++ es₂ ≡ es = cc in
    subst (AllWithinAt limit) ee
    (all_append (WithinAt limit) es₁ es₂ (entries_within limit hdr.0 _ es₁ e₁)
    (within_from limit (hdr.1 - 1) bs es₂ e₂))

pub range_within : (limit : ℕ) (jr : JournalRange) (es : List JournalEntry) → parse_journal_range_at limit jr ≡ Some es
    → AllWithinAt limit es
unfolding parse_journal_range_at
range_within limit jr es e = within_from limit 0 jr es e

pub range_of_limits : (s : List ℕ) (es : List JournalEntry) → range_of s ≡ Some es → AllWithin es
unfolding range_of parse_payload
range_of_limits s es e =
    provided_parts (eqb (length s % 4064) 0) (parse_payload s) es e λ whole p. range_within value_limit
    (chunks 4064 (length s / 4064) s) es p

-- TWO LIMITS

again_from : (a b k : ℕ) (jr : JournalRange) (es : List JournalEntry) → parse_from_at a k jr ≡ Some es
    → AllWithinAt b es
    → parse_from_at b k jr ≡ Some es
unfolding parse_from_at parse_journal_range_of_bytes_at
again_from a b zero [] es e w = e
again_from a b (suc k) [] es e w = e
again_from a b (suc k) (x ∷ bs) es e w = again_from a b k bs es e w
again_from a b zero (x ∷ bs) es e w =
    bind_parts (parse_header x) _ es e λ hdr e₀ p₀.
    provided_parts (leb 1 hdr.1 && leb hdr.1 (length (x ∷ bs))) _ es p₀ λ fits p₁.
    bind_parts (parse_entries_at a hdr.0 (drop 8 (concat_seq (take hdr.1 (x ∷ bs))))) _ es p₁ λ es₁ e₁ p₂.
    bind_parts (parse_from_at a (hdr.1 - 1) bs) _ es p₂ λ es₂ e₂ p₃.
    let ee : es₁ ++ es₂ ≡ es = cc in
    let (v, u) = all_split (WithinAt b) es₁ es₂ (subst (AllWithinAt b) (sym ee) w) in
    let ok : (leb 1 hdr.1 && leb hdr.1 (length (x ∷ bs))) ≡ true = T→true fits in
    rw (e₀, ok, entries_again a b hdr.0 _ es₁ e₁ v, again_from a b (hdr.1 - 1) bs es₂ e₂ u) p₃

range_again : (a b : ℕ) (jr : JournalRange) (es : List JournalEntry) → parse_journal_range_at a jr ≡ Some es
    → AllWithinAt b es → parse_journal_range_at b jr ≡ Some es
unfolding parse_journal_range_at
range_again a b jr es e w = again_from a b 0 jr es e w

-- whatever reads at a limit reads as the same list at any larger one
pub larger_reads : (a b : ℕ) → a ≤ b → (jr : JournalRange) (es : List JournalEntry)
    → parse_journal_range_at a jr ≡ Some es
    → parse_journal_range_at b jr ≡ Some es
larger_reads a b h jr es e = range_again a b jr es e (all_larger a b h es (range_within a jr es e))

-- and at any smaller one that no value is longer than
pub smaller_reads : (a b : ℕ) (jr : JournalRange) (es : List JournalEntry) → parse_journal_range_at b jr ≡ Some es
    → (HasLonger a es → ⊥) → parse_journal_range_at a jr ≡ Some es
smaller_reads a b jr es e short = range_again b a jr es e (none_longer a b es (range_within b jr es e) short)

-- what reads at two limits reads as one list
pub read_alike : (a b : ℕ) (jr : JournalRange) (es fs : List JournalEntry) → parse_journal_range_at a jr ≡ Some es
    → parse_journal_range_at b jr ≡ Some fs → es ≡ fs
read_alike a b jr es fs p q =
    by_order a b
    (λ h. let r = larger_reads a b h jr es p in cc)
    (λ h. let r = larger_reads b a (omega arith) jr fs q in cc)

-- so a longer value is refused, never read as a shorter one
pub longer_refused : (a b : ℕ) (jr : JournalRange) (es : List JournalEntry) → parse_journal_range_at b jr ≡ Some es
    → HasLonger a es → parse_journal_range_at a jr ≡ None
longer_refused a b jr es e l = go (parse_journal_range_at a jr) refl
  where
    go : (o : Option (List JournalEntry)) → parse_journal_range_at a jr ≡ o → o ≡ None
    go None q = refl
    go (Some fs) q =
        let same : fs ≡ es = read_alike a b jr fs es q e in
        absurd (longer_out a es l (subst (AllWithinAt a) same (range_within a jr fs q)))

-- IMAGES IN STORE, written at 1,024, read as before
pub stored_read : (jr : JournalRange) (es : List JournalEntry) → parse_journal_range_at 1024 jr ≡ Some es
    → parse_journal_range jr ≡ Some es
stored_read jr es e = larger_reads 1024 value_limit (omega arith) jr es e

-- A READER STILL AT 1,024 does not read a longer value
pub old_reader : (jr : JournalRange) (es : List JournalEntry) → parse_journal_range jr ≡ Some es → HasLonger 1024 es
    → parse_journal_range_at 1024 jr ≡ None
old_reader jr es e l = longer_refused 1024 value_limit jr es e l
