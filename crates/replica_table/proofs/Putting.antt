-- Runs of bytes put behind each other, and the second buffer brought back. Assumes nothing.
use mathlib.Core.Path.{◌≡◌, refl, sym, ap, ap₂, ◌∙◌}
use mathlib.Core.List.{List, ◌++◌, append_assoc}
use Prim.Native.Nat.{ℕ, ◌+◌, ◌-◌, ◌≤◌}
use native.Mathlib.Omega.{arith}
use Rattle.std.proofs.lemmas.List.{drop-replicate, replicate-append-replicate, drop-drop}
use lib.ListN.{length, take, drop, replicate, length-append, length-take, length-replicate}
use Rattle.journal_entry.proofs.Options.{by_order}
use Rattle.words.specs.Words.{word}
use Rattle.words.specs.Lists.{splice}
use Rattle.words.proofs.Words.{length_word}
use Rattle.words.proofs.Splice.{splice_nil, splice_zero, splice_splice, take_splice}
use Rattle.table_rows.specs.Table.{padded}
use Rattle.journal_entry.specs.Entry.{journal_insert, wire}
use Rattle.journal_entry.specs.Places.{part}

-- one run behind the other is their join
pub put_two : (d : List ℕ) (at : ℕ) (x y d₁ d₂ : List ℕ) (p : ℕ) → p ≡ at + length x
    → at + (length x + length y) ≤ length d
    → d₁ ≡ splice d at x → d₂ ≡ splice d₁ p y → d₂ ≡ splice d at (x ++ y)
put_two d at x y d₁ d₂ p ep h e₁ e₂ =
    e₂ ∙ ap₂ (λ (l : List ℕ) (n : ℕ). splice l n y) e₁ ep ∙ splice_splice d at x (omega arith) y

pub word_run : (n : ℕ) (s : List ℕ) → length (word n ++ s) ≡ 4 + length s
word_run n s = length-append (word n) s ∙ rw (length_word n)

-- a row's wire form, its two pieces each behind their length word
pub put_form : (d : List ℕ) (at : ℕ) (key value d₁ d₂ : List ℕ) (p : ℕ) → p ≡ at + (4 + length key)
    → at + (8 + length key + length value) ≤ length d
    → d₁ ≡ splice d at (word (length key) ++ key) → d₂ ≡ splice d₁ p (word (length value) ++ value)
    → d₂ ≡ splice d at (wire (journal_insert key value))
unfolding wire
put_form d at key value d₁ d₂ p ep h e₁ e₂ =
    let lk = word_run (length key) key in
    let lv = word_run (length value) value in
    let zero_more : length key ≡ length key + 0 = omega arith in
    put_two d at (word (length key) ++ key) (word (length value) ++ value) d₁ d₂ p (omega arith) (omega arith) e₁ e₂
    ∙ ap (splice d at) (append_assoc (word (length key)) key (word (length value) ++ value))
    ∙ ap (λ (n : ℕ). splice d at (word n ++ (key ++ (word (length value) ++ value)))) zero_more

-- behind zeros are zeros
zeros_from : (t : List ℕ) (k used : ℕ) → drop used t ≡ replicate (length t - used) 0
    → drop (used + k) t ≡ replicate (length t - used - k) 0
zeros_from t k used zeros =
    sym (drop-drop k used t) ∙ ap (drop k) zeros ∙ drop-replicate k (length t - used) 0

zeros_behind : (t : List ℕ) (n used : ℕ) → used ≤ n → drop used t ≡ replicate (length t - used) 0
    → drop n t ≡ replicate (length t - n) 0
zeros_behind t n used h zeros =
    let behind : used + (n - used) ≡ n = omega arith in
    let left : length t - used - (n - used) ≡ length t - n = omega arith in
    rw (behind, left) at (zeros_from t (n - used) used zeros)

-- bytes brought to the table's front, and zeros behind them up to where its rows ended
module _ (t x : List ℕ) (n used : ℕ) (long : length x ≡ n) (fits : n ≤ length t) (inside : used ≤ length t)
    (zeros : drop used t ≡ replicate (length t - used) 0) where
  more : used ≤ n → splice (splice t 0 x) n (replicate (used - n) 0) ≡ x ++ replicate (length t - n) 0
  more h =
      let none : used - n ≡ 0 = omega arith in
      rw none (splice_nil (splice t 0 x) n) ∙ splice_zero t x
      ∙ ap (λ (l : List ℕ). x ++ l) (rw long (zeros_behind t n used h zeros))

  less : n ≤ used → splice (splice t 0 x) n (replicate (used - n) 0) ≡ x ++ replicate (length t - n) 0
  less h =
      let whole : length (x ++ replicate (used - n) 0) ≡ used =
      omega (arith, long, length-append x (replicate (used - n) 0), length-replicate {A = ℕ} (used - n) 0) in
      let sum : used - n + (length t - used) ≡ length t - n = omega arith in
      put_two t 0 x (replicate (used - n) 0) (splice t 0 x) (splice (splice t 0 x) n (replicate (used - n) 0)) n
      (omega (arith, long)) (omega (arith, long, length-replicate {A = ℕ} (used - n) 0)) refl refl
      ∙ splice_zero t (x ++ replicate (used - n) 0)
      ∙ ap (λ (l : List ℕ). (x ++ replicate (used - n) 0) ++ l) (rw whole zeros)
      ∙ append_assoc x (replicate (used - n) 0) (replicate (length t - used) 0)
      ∙ ap (λ (l : List ℕ). x ++ l)
      (rw sum at (replicate-append-replicate {A = ℕ} (used - n) (length t - used) 0))

  pub settled : (t₁ t₂ : List ℕ) → t₁ ≡ splice t 0 x → t₂ ≡ splice t₁ n (replicate (used - n) 0)
      → t₂ ≡ x ++ replicate (length t - n) 0
  settled t₁ t₂ e₁ e₂ =
      e₂ ∙ ap (λ (l : List ℕ). splice l n (replicate (used - n) 0)) e₁ ∙ by_order used n more λ h. less (omega arith)

-- the bytes put behind the first `at`, with these, and zeros behind them
pub brought_back : (t w p : List ℕ) (at : ℕ) (w₁ : List ℕ) (n : ℕ) → n ≡ at + length p → at + length p ≤ length w
    → w₁ ≡ splice w at p
    → take n w₁ ++ replicate (length t - n) 0 ≡ padded (length t) (take at w ++ p)
brought_back t w p at w₁ n n_is fits w₁_is =
    let front : take n w₁ ≡ take at w ++ p = ap₂ take n_is w₁_is ∙ take_splice w at p fits in
    let long : length (take at w ++ p) ≡ n = simp (length-append, length-take) (omega arith) in
    ap₂ (λ (l : List ℕ) (k : ℕ). l ++ replicate (length t - k) 0) front (sym long)

-- THE NEW TABLE'S BYTES: the front of the old one and m put from the front on, and the rest brought back with them
pub put_new : (t w m w₁ w₂ y : List ℕ) (at end used p q : ℕ) → p ≡ 0 + length (take (at - 0) t) → q ≡ p + length m
    → p + length m ≤ length w → w₁ ≡ splice w 0 (take (at - 0) t) → w₂ ≡ splice w₁ p m
    → y ≡ padded (length t) (take q w₂ ++ part t end used)
    → y ≡ padded (length t) (take at t ++ (m ++ part t end used))
put_new t w m w₁ w₂ y at end used p q p_is q_is fits e₁ e₂ y_is =
    let nothing_off : at - 0 ≡ at = omega arith in
    let a : List ℕ = take at t in
    let p_at : p ≡ 0 + length a = rw nothing_off at p_is in
    let both : w₂ ≡ splice w 0 (a ++ m) =
    put_two w 0 a m w₁ w₂ p p_at (omega arith) (rw nothing_off at e₁) e₂ in
    let long : q ≡ 0 + length (a ++ m) = omega (arith, length-append a m) in
    let front : take q w₂ ≡ a ++ m =
    ap₂ take long both ∙ take_splice w 0 (a ++ m) (omega (arith, length-append a m)) in
    y_is ∙ ap (λ (l : List ℕ). padded (length t) (l ++ part t end used)) front
    ∙ ap (padded (length t)) (append_assoc a m (part t end used))
