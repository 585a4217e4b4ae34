-- A word is four bytes, and says its number whole. Assumes nothing.
use mathlib.Core.Path.{◌≡◌, refl}
use Prim.Native.Nat.{ℕ, ◌^◌, ◌<◌}
use native.Mathlib.Omega.{arith}
use lib.ListN.{length}
use Rattle.words.specs.Words.{unpack, word}

pub length_word : (n : ℕ) → length (word n) ≡ 4
unfolding word
length_word n = refl

pub unpack_word : (n : ℕ) → n < 2 ^ 32 → unpack (word n) ≡ n
unfolding word
unpack_word n h = omega arith
