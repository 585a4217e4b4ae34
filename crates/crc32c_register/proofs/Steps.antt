-- The register's steps are linear over `bit_xor`, and a number that is shifted up comes down again: so a number's
-- low digit, of any width, and its other digits step by themselves, each through a table of its own. Assumes
-- nothing.
use mathlib.Core.Path.{◌≡◌, refl, sym, ap, ap₂, ◌∙◌}
use Prim.Native.Nat.{ℕ, zero, suc, ◌+◌, ◌*◌, ◌/◌, ◌%◌, ◌^◌, ◌<◌}
use native.Mathlib.Nat.{mul-mod_left, zero-add, suc-add, mul_assoc, pow-suc, mod-lt, div-div-eq-div-mul}
use native.Mathlib.Omega.{arith}
use lib.Bits.{bit_xor, xor_comm, xor_shifted, xor_shr}
use lib.Pow.{split, pow_pos}
use Rattle.std.proofs.Common.{pow-add}
use Rattle.std.proofs.lemmas.Nat.{xor_mod}
use Rattle.crc32c_register.specs.Register.{polynomial, step_bit, step_bits, step_byte}
use Rattle.crc32c_register.proofs.Xor.{xor_cross, xor_assoc}

-- ---- linearity

times : (u v : ℕ) → u < 2 → v < 2 → bit_xor u v * polynomial ≡ bit_xor (u * polynomial) (v * polynomial)
times zero v hu hv = refl
times (suc zero) zero hu hv = refl
times (suc zero) (suc zero) hu hv = refl
times (suc zero) (suc (suc v)) hu hv = absurd (omega arith)
times (suc (suc u)) v hu hv = absurd (omega arith)

step_bit_xor : (x y : ℕ) → step_bit (bit_xor x y) ≡ bit_xor (step_bit x) (step_bit y)
unfolding step_bit
step_bit_xor x y =
    ap₂ bit_xor
    (ap (λ (u : ℕ). u * polynomial) (xor_mod x y 1) ∙ times (x % 2) (y % 2) (omega arith) (omega arith))
    (xor_shr x y 1)
    ∙ xor_cross (x % 2 * polynomial) (y % 2 * polynomial) (x / 2) (y / 2)

pub step_bits_xor : (n x y : ℕ) → step_bits n (bit_xor x y) ≡ bit_xor (step_bits n x) (step_bits n y)
unfolding step_bits
step_bits_xor zero x y = refl
step_bits_xor (suc n) x y = ap (step_bits n) (step_bit_xor x y) ∙ step_bits_xor n (step_bit x) (step_bit y)

-- ---- steps one after the other

pub step_bits_add : (n m r : ℕ) → step_bits (n + m) r ≡ step_bits m (step_bits n r)
unfolding step_bits
step_bits_add zero m r = ap (λ (k : ℕ). step_bits k r) (zero-add m)
step_bits_add (suc n) m r = ap (λ (k : ℕ). step_bits k r) (suc-add n m) ∙ step_bits_add n m (step_bit r)

-- a number that is shifted up by n places is itself again n steps on

step_bit_even : (y : ℕ) → step_bit (y * 2) ≡ y
unfolding step_bit
step_bit_even y = ap₂ (λ (u v : ℕ). bit_xor (u * polynomial) v) (mul-mod_left y 2) (omega arith)

step_bits_up : (n y : ℕ) → step_bits n (y * 2 ^ n) ≡ y
unfolding step_bits
step_bits_up zero y = omega arith
step_bits_up (suc n) y =
    ap (λ (u : ℕ). step_bits n (step_bit u)) (ap (λ (u : ℕ). y * u) (pow-suc 2 n) ∙ sym (mul_assoc y (2 ^ n) 2))
    ∙ ap (step_bits n) (step_bit_even (y * 2 ^ n)) ∙ step_bits_up n y

-- ---- the low digit and the others, over the digit's width

digits : (w x : ℕ) → x ≡ bit_xor (x / 2 ^ w * 2 ^ w) (x % 2 ^ w)
digits w x = sym (xor_shifted (x / 2 ^ w) w (x % 2 ^ w) (mod-lt x (pow_pos w)) ∙ split x w)

-- THE TABLES' RULE: the low digit takes w + m steps, as its table says, and the others m
pub step_bits_digit : (w m x : ℕ)
    → step_bits (w + m) x ≡ bit_xor (step_bits (w + m) (x % 2 ^ w)) (step_bits m (x / 2 ^ w))
step_bits_digit w m x =
    ap (step_bits (w + m)) (digits w x)
    ∙ step_bits_xor (w + m) (x / 2 ^ w * 2 ^ w) (x % 2 ^ w)
    ∙ xor_comm (step_bits (w + m) (x / 2 ^ w * 2 ^ w)) (step_bits (w + m) (x % 2 ^ w))
    ∙ ap (bit_xor (step_bits (w + m) (x % 2 ^ w)))
    (step_bits_add w m (x / 2 ^ w * 2 ^ w) ∙ ap (step_bits m) (step_bits_up w (x / 2 ^ w)))

-- the same of what tables answered: t for the low digit, u for the others
pub by_digit : (w m x : ℕ) {t u : ℕ} → t ≡ step_bits (w + m) (x % 2 ^ w) → u ≡ step_bits m (x / 2 ^ w)
    → bit_xor t u ≡ step_bits (w + m) x
by_digit w m x low high = ap₂ bit_xor low high ∙ sym (step_bits_digit w m x)

further : (k w x : ℕ) → x / 2 ^ (k + w) ≡ x / 2 ^ k / 2 ^ w
further k w x = ap (λ (u : ℕ). x / u) (pow-add 2 k w) ∙ sym (div-div-eq-div-mul x (2 ^ k) (2 ^ w))

-- the same at a place of x
pub by_digit_at : (w m place x : ℕ) {t u : ℕ} → t ≡ step_bits (w + m) (x / 2 ^ place % 2 ^ w)
    → u ≡ step_bits m (x / 2 ^ (place + w)) → bit_xor t u ≡ step_bits (w + m) (x / 2 ^ place)
by_digit_at w m place x low high =
    by_digit w m (x / 2 ^ place) low (high ∙ ap (step_bits m) (further place w x))

-- a byte's steps are those of its two halves
pub by_halves : (register byte : ℕ) {half whole : ℕ} → half ≡ step_bits 4 (bit_xor register byte)
    → whole ≡ step_bits 4 half → whole ≡ step_byte register byte
unfolding step_byte
by_halves register byte first second =
    second ∙ ap (step_bits 4) first ∙ sym (step_bits_add 4 4 (bit_xor register byte))

-- a number that is added to the register may be added digit by digit: the low one now, the others w steps later
pub step_bits_later : (w m c x : ℕ)
    → step_bits (w + m) (bit_xor c x) ≡ step_bits m (bit_xor (step_bits w (bit_xor c (x % 2 ^ w))) (x / 2 ^ w))
step_bits_later w m c x =
    let low = x % 2 ^ w in
    let high = step_bits m (x / 2 ^ w) in
    step_bits_xor (w + m) c x
    ∙ ap (bit_xor (step_bits (w + m) c)) (step_bits_digit w m x)
    ∙ sym (xor_assoc (step_bits (w + m) c) (step_bits (w + m) low) high)
    ∙ ap (λ (y : ℕ). bit_xor y high) (sym (step_bits_xor (w + m) c low) ∙ step_bits_add w m (bit_xor c low))
    ∙ sym (step_bits_xor m (step_bits w (bit_xor c low)) (x / 2 ^ w))
