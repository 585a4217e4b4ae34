-- Lists of bytes, and what a part of a slice holds. Assumes nothing.
pub use Rattle.words.specs.Lists.{Bytes}
use mathlib.Core.Path.{◌≡◌, refl, sym, ap, ◌∙◌, subst}
use mathlib.Core.List.{List, [], ◌∷◌}
use Prim.Native.Nat.{ℕ, zero, suc, ◌+◌, ◌-◌, ◌≤◌, ◌<◌}
use native.Mathlib.Nat.{le_of_eq}
use native.Mathlib.Omega.{arith}
use lib.ListN.{length, take, drop, get_or, length-drop}
use lib.Seq.{drop-cons, take_all, take-nil, get_or-drop}

pub bytes_drop : (i : ℕ) (s : List ℕ) → Bytes s → Bytes (drop i s)
bytes_drop i s bytes k = subst (λ (x : ℕ). x < 256) (sym (get_or-drop i s k 0)) (bytes (i + k))

pub bytes_take : (n : ℕ) (s : List ℕ) → Bytes s → Bytes (take n s)
bytes_take zero s bytes k = omega arith
bytes_take (suc n) [] bytes k = omega arith
bytes_take (suc n) (b ∷ bs) bytes zero = bytes zero
bytes_take (suc n) (b ∷ bs) bytes (suc k) = bytes_take n bs (λ j. bytes (suc j)) k

-- a part of the first n elements
pub drop_take : {A : Type 0} (i n : ℕ) (l : List A) → drop i (take n l) ≡ take (n - i) (drop i l)
drop_take zero n l = let e : n ≡ n - 0 = omega arith in ap (λ (k : ℕ). take k l) e
drop_take (suc i) zero l = let e : 0 ≡ 0 - suc i = omega arith in ap (λ (k : ℕ). take k (drop (suc i) l)) e
drop_take (suc i) (suc n) [] = sym (take-nil (suc n - suc i))
drop_take (suc i) (suc n) (x ∷ l) =
    let e : n - i ≡ suc n - suc i = omega arith in drop_take i n l ∙ ap (λ (k : ℕ). take k (drop i l)) e

-- what `&s[i..]` holds
pub tail : {A : Type 0} (i : ℕ) (s : List A) → take (length s - i) (drop i s) ≡ drop i s
tail i s = take_all (length s - i) (drop i s) (le_of_eq (length-drop i s))

next : (i j : ℕ) (s : List ℕ) → j ≡ i + 1 → i < length s → drop i s ≡ get_or s i 0 ∷ drop j s
next i j s e h =
    let more : suc i ≡ j = omega arith in
    drop-cons s i 0 h ∙ ap (λ (k : ℕ). get_or s i 0 ∷ drop k s) more

-- four bytes from place i on, one by one
pub four : (i : ℕ) (s : List ℕ) → i + 4 ≤ length s
    → take 4 (drop i s) ≡ get_or s i 0 ∷ get_or s (i + 1) 0 ∷ get_or s (i + 2) 0 ∷ get_or s (i + 3) 0 ∷ []
four i s fits =
    let with : (k : ℕ) → List ℕ → List ℕ = λ k l. get_or s k 0 ∷ l in
    ap (take 4)
    (next i (i + 1) s refl (omega arith)
    ∙ ap (with i) (next (i + 1) (i + 2) s (omega arith) (omega arith)
    ∙ ap (with (i + 1)) (next (i + 2) (i + 3) s (omega arith) (omega arith)
    ∙ ap (with (i + 2)) (next (i + 3) (i + 4) s (omega arith) (omega arith)))))
