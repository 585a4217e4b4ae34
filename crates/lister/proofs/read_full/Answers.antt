-- What a turn reads lies behind what lay in front. Assumes nothing.
use mathlib.Core.Path.{◌≡◌, sym, ap, ◌∙◌}
use mathlib.Core.List.{List, ◌++◌, append_assoc}
use Prim.Native.Nat.{ℕ, ◌+◌, ◌-◌, ◌≤◌}
use native.Mathlib.Omega.{arith}
use lib.ListN.{length, take, length-append}
use lib.Seq.{length-take-le, take-append-add, take-append-le}
use borrow.Rule.Slice.PartMut.{put_mid, post_of}
use Rattle.std.proofs.Common.{subst}
use Rattle.std.proofs.KnownBytes.{Consumes-trans}
use Rattle.std.specs.Io.KnownBytes.{Consumes}
use Rattle.lister.proofs.read_full.Goals as goal

-- n bytes of p, put into d at `at`
module _ (d p : List ℕ) (at k n : ℕ) (i : at ≤ length d) (h : n ≤ length p) where
  front : length (take at d) ≡ at
  front = length-take-le at d i

  fits : at + n ≤ length (put_mid at k d p)
  fits =
      omega (arith, front, h, length-append (take at d) (p ++ post_of at k d), length-append p (post_of at k d))

  front_more : take (at + n) (put_mid at k d p) ≡ take at d ++ take n p
  front_more =
      ap (take (at + n)) (sym (append_assoc (take at d) p (post_of at k d)))
      ∙ take-append-le (at + n) (take at d ++ p) (post_of at k d) (omega (arith, front, h, length-append (take at d) p))
      ∙ ap (λ (m : ℕ). take (m + n) (take at d ++ p)) (sym front)
      ∙ take-append-add (take at d) p n

pub loop-done-preserved : goal.loop-done-preserved
loop-done-preserved g c =
    let l = c.loop-done in
    let n = c.in_ok-n.n in
    let inside = c.in_ok-n.ensures.bound.0 in (
      fits l.buffer c.read.new.buf l.done (length l.buffer - l.done) n l.invariant.0 inside,
      subst (Consumes (g.R.Read.remaining c.args.input.now) (g.R.Read.remaining c.read.new.self))
          (sym (front_more l.buffer c.read.new.buf l.done (length l.buffer - l.done) n l.invariant.0 inside))
          (Consumes-trans _ _ _ _ _ l.invariant.1 c.in_ok-n.ensures.bytes.0),
    )
