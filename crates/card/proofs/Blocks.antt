-- Places in blocks and in bytes, and a block written behind the live run. Assumes nothing.
use mathlib.Core.Path.{◌≡◌, sym, ap, ◌∙◌}
use mathlib.Core.List.{List, [], ◌++◌, append_assoc}
use Prim.Native.Nat.{ℕ, ◌+◌, ◌-◌, ◌*◌, ◌≤◌}
use native.Mathlib.Omega.{arith}
use lib.ListN.{length, take, drop}
use lib.Seq.{take-append-add, drop-append-add, take_at}
use Rattle.words.specs.Lists.{splice}
use Rattle.journal_entry.proofs.Options.{by_order}
use Rattle.journal_ring.specs.Ring.{cyclic_slice, advance, overwritten}
use Rattle.journal_ring.proofs.Rotation.{advance_near, advance_far, rotated_back}
use Rattle.journal_ring.proofs.RingLaws.{length_cyclic_slice, write_behind, take_front, length_overwritten}
use Rattle.journal_ring.proofs.Runs.{overwritten_fits}

-- Places in blocks and in bytes.

pub advance_scaled : (n s l : ℕ) → 4096 * advance n s l ≡ advance (4096 * n) (4096 * s) (4096 * l)
advance_scaled n s l =
    by_order n (s + l)
    (λ far. rw (advance_far n s l far, advance_far (4096 * n) (4096 * s) (4096 * l) (omega arith)) (omega arith))
    (λ near. rw (advance_near n s l near, advance_near (4096 * n) (4096 * s) (4096 * l) (omega arith)) (omega arith))

-- WRITING

-- behind the first n bytes nothing of them changes
pub live_kept : (l : List ℕ) (start n : ℕ) (f : List ℕ) → start ≤ length l - 1 → n + length f ≤ length l
    → cyclic_slice (overwritten l (advance (length l) start n) f) start n ≡ cyclic_slice l start n
live_kept l start n f hs h =
    let p = advance (length l) start n in
    let o = overwritten l p f in
    let lo : length o ≡ length l = length_overwritten l p f (omega arith) in
    take_front o start n (length f) (omega arith) (omega arith)
    ∙ ap (take n) (write_behind l start n f hs h)
    ∙ take_at (cyclic_slice l start n) f n (length_cyclic_slice l start n (omega arith))

-- a block put at a place behind a front part
pub splice_behind : (a b : List ℕ) (i k : ℕ) (x : List ℕ) → k ≡ length a + i → splice (a ++ b) k x ≡ a ++ splice b i x
unfolding splice
splice_behind a b i k x e =
    let f : length a + i + length x ≡ length a + (i + length x) = omega arith in
    rw (e, take-append-add a b i, f, drop-append-add a b (i + length x))
    (append_assoc a (take i b) (x ++ drop (i + length x) b))

-- and it is an overwrite of the part behind
pub splice_overwritten : (l : List ℕ) (at : ℕ) (f : List ℕ) → at + length f ≤ length l
    → splice l at f ≡ overwritten l at f
unfolding splice
splice_overwritten l at f h = sym (overwritten_fits l at f h)

pub overwritten_nothing : (l : List ℕ) (at : ℕ) → overwritten l at [] ≡ l
unfolding overwritten
overwritten_nothing l at = rotated_back l at
