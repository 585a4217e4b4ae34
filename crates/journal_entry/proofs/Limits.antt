-- Entries read at two limits of values: what reads at one and is within the other reads there as the same. Document
-- 02, paper 4; for ranges see `Limits` in journal_range. Assumes nothing.
use mathlib.Core.Path.{◌≡◌, sym, subst}
use mathlib.Core.Bool.{true}
use Rattle.std.specs.Prelude.{Some}
use mathlib.Core.List.{List, [], ◌∷◌}
use Prim.Native.Nat.{ℕ, zero, suc, ◌-◌, ◌≤◌}
use native.Mathlib.Omega.{arith}
use lib.Dec.{leb}
use lib.ListN.{length}
use Rattle.words.proofs.All.{all_map}
use Rattle.journal_entry.specs.Entry.{JournalEntry, journal_insert, journal_clone, entry_of, clone_mark}
use Rattle.journal_entry.specs.Entry.{within_limits_at, WithinAt, AllWithinAt, Within, HasLonger, here, behind}
use Rattle.journal_entry.specs.Entry.{weight_journal_entry}
use Rattle.journal_entry.specs.Parse.{read_bytes, read_word, parse_entry_at, read_entries_at, parse_entries_at}
use Rattle.journal_entry.proofs.Options.{by_order, bind_parts, provided_parts}
use Rattle.journal_entry.proofs.Steps.{within_true}
use Rattle.journal_entry.proofs.Sound.{read_entries_sound}

-- the largest entry weighs 16,904
pub heaviest : (e : JournalEntry) → Within e → weight_journal_entry e ≤ 16904
heaviest (journal_insert key value) w = omega (arith, w.first_fits, w.second_fits)
heaviest (journal_clone from to) w = omega (arith, w.first_fits, w.second_fits)

-- Lists within a limit.

-- a larger limit takes what a smaller one takes
pub all_larger : (a b : ℕ) → a ≤ b → (es : List JournalEntry) → AllWithinAt a es → AllWithinAt b es
all_larger a b h = all_map (WithinAt a) (WithinAt b) one
  where
    one : (e : JournalEntry) → WithinAt a e → WithinAt b e
    one (journal_insert key value) w =
        let l : length value ≤ a = w.second_fits in
        record { first_fits = w.first_fits; second_fits = omega arith }
    one (journal_clone from to) w = record { first_fits = w.first_fits; second_fits = w.second_fits }

-- a list is within a limit or has a value longer than it, and not both
pub longer_out : (limit : ℕ) (es : List JournalEntry) → HasLonger limit es → AllWithinAt limit es → ⊥
longer_out limit [] x w = elim x [ ]
longer_out limit (e ∷ es) (here l) w = let h = w.0.second_fits in omega arith
longer_out limit (e ∷ es) (behind l) w = longer_out limit es l w.1

pub none_longer : (a b : ℕ) (es : List JournalEntry) → AllWithinAt b es → (HasLonger a es → ⊥) → AllWithinAt a es
none_longer a b [] w short = tt
none_longer a b (journal_insert key value ∷ es) w short =
    let fits : length value ≤ a = by_order (length value) a (λ h. h) (λ h. absurd (short (here h))) in
    (record { first_fits = w.0.first_fits; second_fits = fits }, none_longer a b es w.1 (λ l. short (behind l)))
none_longer a b (journal_clone from to ∷ es) w short = (
  record { first_fits = w.0.first_fits; second_fits = w.0.second_fits },
  none_longer a b es w.1 (λ l. short (behind l)),
)

-- What reads at a, and is within b, reads at b as the same: an entry, so many of them with what is behind, and without.

entry_again : (a b : ℕ) (s : List ℕ) (r : JournalEntry × List ℕ) → parse_entry_at a s ≡ Some r → WithinAt b r.0
    → parse_entry_at b s ≡ Some r
unfolding parse_entry_at
entry_again a b s r e w =
    bind_parts (read_word s) _ r e λ x₁ f₁ e₁.
    bind_parts (read_bytes (x₁.0 - clone_mark (leb 4096 x₁.0)) x₁.1) _ r e₁ λ x₂ f₂ e₂.
    bind_parts (read_word x₂.1) _ r e₂ λ x₃ f₃ e₃.
    bind_parts (read_bytes x₃.0 x₃.1) _ r e₃ λ x₄ f₄ e₄.
    let it = entry_of (leb 4096 x₁.0) x₂.0 x₄.0 in
    provided_parts (within_limits_at a it) _ r e₄ λ t e₅.
    let er : ◌≡◌ {A = JournalEntry × List ℕ} (it, x₄.1) r = cc in
    let ok : within_limits_at b it ≡ true =
    within_true b it (subst (λ (x : JournalEntry × List ℕ). WithinAt b x.0) (sym er) w) in
    rw (f₁, f₂, f₃, f₄, ok) e₅

read_again : (a b n : ℕ) (s : List ℕ) (r : List JournalEntry × List ℕ) → read_entries_at a n s ≡ Some r
    → AllWithinAt b r.0 → read_entries_at b n s ≡ Some r
unfolding read_entries_at
read_again a b zero s r e w = e
read_again a b (suc n) s r e w =
    bind_parts (parse_entry_at a s) _ r e λ x₁ f₁ e₁.
    bind_parts (read_entries_at a n x₁.1) _ r e₁ λ x₂ f₂ e₂.
    let er : ◌≡◌ {A = List JournalEntry × List ℕ} (x₁.0 ∷ x₂.0, x₂.1) r = cc in
    let v : AllWithinAt b (x₁.0 ∷ x₂.0) =
    subst (λ (x : List JournalEntry × List ℕ). AllWithinAt b x.0) (sym er) w in
    rw (entry_again a b s x₁ f₁ v.0, read_again a b n x₁.1 x₂ f₂ v.1) e₂

pub entries_again : (a b n : ℕ) (s : List ℕ) (es : List JournalEntry) → parse_entries_at a n s ≡ Some es
    → AllWithinAt b es → parse_entries_at b n s ≡ Some es
unfolding parse_entries_at
entries_again a b n s es e w =
    bind_parts (read_entries_at a n s) _ es e λ r e₁ e₂.
    let ee : r.0 ≡ es = cc in
    rw (read_again a b n s r e₁ (subst (AllWithinAt b) (sym ee) w)) e₂

-- and what reads at a limit is within it
pub entries_within : (limit n : ℕ) (s : List ℕ) (es : List JournalEntry) → parse_entries_at limit n s ≡ Some es
    → AllWithinAt limit es
unfolding parse_entries_at
entries_within limit n s es e =
    bind_parts (read_entries_at limit n s) _ es e λ r e₁ e₂.
    let ee : r.0 ≡ es = cc in
    subst (AllWithinAt limit) ee (read_entries_sound limit n s r e₁).limits
