-- The other half of joining: where a range reads and both joined read, the second reads too, as what is behind the
-- first's list. Assumes nothing.
use mathlib.Core.Path.{◌≡◌, sym, ap, ◌∙◌}
use mathlib.Core.Bool.{◌&&◌}
use Rattle.std.specs.Prelude.{Some}
use mathlib.Core.List.{List, [], ◌∷◌, ◌++◌, append_assoc}
use Prim.Native.Nat.{ℕ, zero, suc, ◌+◌, ◌-◌, ◌/◌, ◌%◌, ◌≤◌}
use native.Mathlib.Nat.{not-suc-le-zero, le_of_suc-le-suc}
use native.Mathlib.Omega.{arith}
use borrow.Author.Tests.{le-leb}
use lib.Dec.{leb}
use lib.ListN.{length, take, length-append}
use lib.Seq.{take-append-le}
use Rattle.words.specs.Lists.{chunks, concat_seq}
use Rattle.journal_entry.specs.Entry.{JournalEntry}
use Rattle.journal_entry.proofs.Options.{bind_parts, provided_parts}
use Rattle.journal_range.specs.Range.{JournalRange, parse_header, parse_journal_range_of_bytes, parse_from}
use Rattle.journal_range.specs.Range.{parse_from_at}
use Rattle.journal_range.specs.Range.{parse_journal_range_at}
use Rattle.journal_range.specs.Payload.{parse_payload}
use Rattle.journal_range.proofs.Same.{both}
use Rattle.journal_range.proofs.Payload.{chunks_append}

behind_from : {C : Type 0} (k : ℕ) (a b : JournalRange) (es fs : List JournalEntry) → k ≤ length a
    → parse_from k a ≡ Some es → parse_from k (a ++ b) ≡ Some fs
    → ((gs : List JournalEntry) → parse_from 0 b ≡ Some gs → es ++ gs ≡ fs → C) → C
unfolding parse_from_at
behind_from zero [] b es fs h p q next = let e : [] ≡ es = cc in
    next fs q (ap (λ (l : List JournalEntry). l ++ fs) (sym e))
behind_from (suc k) [] b es fs h p q next = absurd (not-suc-le-zero h)
behind_from (suc k) (x ∷ a) b es fs h p q next = behind_from k a b es fs (le_of_suc-le-suc h) p q next
behind_from zero (x ∷ a) b es fs h p q next =
    bind_parts (parse_header x) _ es p λ hdr e₀ p₀.
    provided_parts (leb 1 hdr.1 && leb hdr.1 (length (x ∷ a))) _ es p₀ λ fits p₁.
    bind_parts (parse_journal_range_of_bytes (concat_seq (take hdr.1 (x ∷ a))) hdr.0) _ es p₁ λ es₁ e₁ p₂.
    bind_parts (parse_from (hdr.1 - 1) a) _ es p₂ λ es₂ e₂ p₃.
    let (h₁, h₂) = both 1 hdr.1 hdr.1 (length (x ∷ a)) fits in
    let h₃ : hdr.1 ≤ length (x ∷ (a ++ b)) = rw length-append (omega arith) in
    let e₃ : es₁ ++ es₂ ≡ es = cc in
    bind_parts (parse_from (hdr.1 - 1) (a ++ b)) (λ (l : List JournalEntry). Some (es₁ ++ l)) fs
    (rw (e₀, le-leb _ _ h₁, le-leb _ _ h₃, take-append-le hdr.1 (x ∷ a) b h₂, e₁) at q) λ fs₂ e₄ q₁.
    behind_from (hdr.1 - 1) a b es₂ fs₂ (omega arith) e₂ e₄ λ gs e₅ e₆.
    let e₇ : es₁ ++ fs₂ ≡ fs = cc in
    next gs e₅ (ap (λ (l : List JournalEntry). l ++ gs) (sym e₃) ∙ append_assoc es₁ es₂ gs
    ∙ ap (λ (l : List JournalEntry). es₁ ++ l) e₆ ∙ e₇)

-- of bytes
pub reads_behind : {C : Type 0} (p q : List ℕ) (es fs : List JournalEntry) → length p % 4064 ≡ 0 → length q % 4064 ≡ 0
    → parse_payload p ≡ Some es → parse_payload (p ++ q) ≡ Some fs
    → ((gs : List JournalEntry) → parse_payload q ≡ Some gs → es ++ gs ≡ fs → C) → C
unfolding parse_payload parse_journal_range_at
reads_behind p q es fs hp hq ep eq next =
    let n : ℕ = length p / 4064 in
    let m : ℕ = length q / 4064 in
    let e : length (p ++ q) / 4064 ≡ n + m = rw length-append (omega arith) in
    behind_from 0 (chunks 4064 n p) (chunks 4064 m q) es fs (omega arith) ep
    (rw (e, chunks_append 4064 n m p q (omega arith)) at eq) next
