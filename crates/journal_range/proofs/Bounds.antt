-- What a range reads as weighs no more than the range has bytes; so the source's cap of 33,554,432 entries cannot
-- bite in a load. Assumes nothing.
use mathlib.Core.Path.{◌≡◌, refl, sym, ap, ◌∙◌, subst}
use mathlib.Core.Bool.{◌&&◌}
use Rattle.std.specs.Prelude.{Some}
use mathlib.Core.List.{List, [], ◌∷◌, ◌++◌, append_assoc}
use Prim.Native.Nat.{ℕ, zero, suc, ◌+◌, ◌-◌, ◌*◌, ◌/◌, ◌≤◌}
use native.Mathlib.Omega.{arith}
use lib.Dec.{leb}
use lib.ListN.{length, take, drop, length-append, length-drop, length-take}
use Rattle.words.specs.Lists.{chunks, concat_seq}
use Rattle.journal_entry.specs.Entry.{JournalEntry, value_limit, sum_journal_entries}
use Rattle.journal_entry.specs.Parse.{read_entries, parse_entries, parse_entries_at}
use Rattle.journal_entry.proofs.Options.{bind_parts, provided_parts}
use Rattle.journal_entry.proofs.Reading.{eight_each, sum_append}
use Rattle.journal_entry.proofs.Sound.{AllStand, read_entries_sound}
use Rattle.journal_range.specs.Range.{JournalRange, parse_header, parse_journal_range_of_bytes_at, parse_from}
use Rattle.journal_range.specs.Range.{parse_from_at}
use Rattle.journal_range.specs.Range.{parse_journal_range, parse_journal_range_at}
use Rattle.journal_range.specs.Payload.{parse_payload}
use Rattle.journal_range.proofs.Same.{both}
use Rattle.journal_range.proofs.Joining.{drop_behind}
use Rattle.journal_range.proofs.Payload.{concat_chunks}

entries_weigh : (n : ℕ) (s : List ℕ) (es : List JournalEntry) → parse_entries n s ≡ Some es
    → sum_journal_entries es ≤ length s
unfolding parse_entries_at
entries_weigh n s es e =
    bind_parts (read_entries n s) _ es e λ r e₁ e₂.
    let k : AllStand value_limit n s r = read_entries_sound value_limit n s r e₁ in
    let ee : r.0 ≡ es = cc in
    subst (λ (l : List JournalEntry). sum_journal_entries l ≤ length s) ee (omega (arith, k.weighs))

-- the first k blocks, and those behind them
concat_split : (k : ℕ) (jr : JournalRange) → concat_seq (take k jr) ++ concat_seq (drop k jr) ≡ concat_seq jr
concat_split zero jr = refl
concat_split (suc k) [] = refl
concat_split (suc k) (b ∷ bs) =
    append_assoc b (concat_seq (take k bs)) (concat_seq (drop k bs)) ∙ ap (λ (l : List ℕ). b ++ l) (concat_split k bs)

weigh_from : (k : ℕ) (jr : JournalRange) (es : List JournalEntry) → parse_from k jr ≡ Some es
    → sum_journal_entries es ≤ length (concat_seq (drop k jr))
unfolding parse_from_at parse_journal_range_of_bytes_at
weigh_from zero [] es e = let ee : [] ≡ es = cc in
    subst (λ (l : List JournalEntry). sum_journal_entries l ≤ 0) ee (omega arith)
weigh_from (suc k) [] es e = let ee : [] ≡ es = cc in
    subst (λ (l : List JournalEntry). sum_journal_entries l ≤ 0) ee (omega arith)
weigh_from (suc k) (b ∷ bs) es e = weigh_from k bs es e
weigh_from zero (b ∷ bs) es e =
    bind_parts (parse_header b) _ es e λ hdr e₀ p₀.
    provided_parts (leb 1 hdr.1 && leb hdr.1 (length (b ∷ bs))) _ es p₀ λ fits p₁.
    bind_parts (parse_entries hdr.0 (drop 8 (concat_seq (take hdr.1 (b ∷ bs))))) _ es p₁ λ es₁ e₁ p₂.
    bind_parts (parse_from (hdr.1 - 1) bs) _ es p₂ λ es₂ e₂ p₃.
    let k = hdr.1 in
    let front = concat_seq (take k (b ∷ bs)) in
    let back = concat_seq (drop (k - 1) bs) in
    let h = both 1 k k (length (b ∷ bs)) fits in
    let split : front ++ back ≡ concat_seq (b ∷ bs) =
    ap (λ (l : JournalRange). front ++ concat_seq l) (drop_behind k b bs h.0) ∙ concat_split k (b ∷ bs) in
    let el : length front + length back ≡ length (concat_seq (b ∷ bs)) =
    sym (length-append front back) ∙ ap length split in
    let a : sum_journal_entries es₁ ≤ length (drop 8 front) = entries_weigh hdr.0 (drop 8 front) es₁ e₁ in
    let r : sum_journal_entries es₂ ≤ length back = weigh_from (k - 1) bs es₂ e₂ in
    let ed : length (drop 8 front) ≡ length front - 8 = length-drop 8 front in
    let ee : es₁ ++ es₂ ≡ es = cc in
    subst (λ (l : List JournalEntry). sum_journal_entries l ≤ length (concat_seq (b ∷ bs))) ee
    (rw sum_append (omega arith))

pub range_weighs : (jr : JournalRange) (es : List JournalEntry) → parse_journal_range jr ≡ Some es
    → sum_journal_entries es ≤ length (concat_seq jr)
unfolding parse_journal_range_at
range_weighs jr es e = weigh_from 0 jr es e

pub payload_weighs : (s : List ℕ) (es : List JournalEntry) → parse_payload s ≡ Some es
    → sum_journal_entries es ≤ length s
unfolding parse_payload
payload_weighs s es e =
    let n : ℕ = length s / 4064 in
    let w = range_weighs (chunks 4064 n s) es e in
    let l : length (concat_seq (chunks 4064 n s)) ≤ length s = rw (concat_chunks 4064 n s, length-take) (omega arith) in
    omega arith

-- front and back of at most 1,024 blocks each: at most 1,040,384 entries
pub entries_few : (s : List ℕ) (es : List JournalEntry) → length s ≤ 2 * 1024 * 4064 → parse_payload s ≡ Some es
    → length es ≤ 1040384
entries_few s es h e = omega (arith, payload_weighs s es e, eight_each es)
