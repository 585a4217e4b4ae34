-- A card on which bytes were put behind the live blocks, and block 0 still names those: its live blocks are as they
-- were. Assumes nothing.
use mathlib.Core.Path.{◌≡◌, sym, ap, ◌∙◌}
use mathlib.Core.List.{List, [], ◌++◌}
use Prim.Native.Nat.{ℕ, ◌+◌, ◌-◌, ◌*◌, ◌≤◌, ◌<◌}
use native.Mathlib.Omega.{arith}
use lib.ListN.{length, take, length-append, take-append-drop}
use lib.Seq.{length-take-le, take_at, drop_at, take-take}
use Rattle.words.specs.Lists.{splice}
use Rattle.disk_layout.specs.DiskLayout.{journal_point}
use Rattle.journal_entry.specs.Entry.{JournalEntry}
use Rattle.journal_ring.specs.Ring.{cyclic_slice, advance, overwritten}
use Rattle.journal_ring.proofs.Rotation.{advance_lt, advance_advance}
use Rattle.journal_ring.proofs.RingLaws.{length_overwritten, overwritten_join, write_behind}
use Rattle.card.specs.Card.{live_start, live_len, journal_part, live_image, live_payload}
use Rattle.card.proofs.Formed.{Formed, formed_holds, same_start, same_len, formed_same}
use Rattle.card.proofs.Blocks.{advance_scaled, live_kept, splice_behind, splice_overwritten, overwritten_nothing}
use Rattle.card.proofs.Live.{Live, length_journal}

-- the byte of the journal part straight behind the live blocks
abbrev pub behind : (n : ℕ) (card : List ℕ) → ℕ
behind n card = advance (4096 * n) (4096 * live_start card) (4096 * live_len card)

-- the card with f put there
unfoldable pub put_behind : (n : ℕ) (card f : List ℕ) → List ℕ
put_behind n card f = take 8192 card ++ overwritten (journal_part card) (behind n card) f

pub put_nothing : (n : ℕ) (card : List ℕ) → put_behind n card [] ≡ card
unfolding put_behind
put_nothing n card = rw overwritten_nothing (take-append-drop 8192 card)

module _ (n : ℕ) (card f : List ℕ) (fm : Formed n card) (room : 4096 * live_len card + length f ≤ 4096 * n) where
  journal_long : length (journal_part card) ≡ 4096 * n
  journal_long = length_journal n card fm

  front_long : length (take 8192 card) ≡ 8192
  front_long = length-take-le 8192 card (omega (arith, fm.size))

  written_long : length (overwritten (journal_part card) (behind n card) f) ≡ 4096 * n
  written_long =
      length_overwritten (journal_part card) (behind n card) f (let l = journal_long in omega arith) ∙ journal_long

  pub put_length : length (put_behind n card f) ≡ length card
  unfolding put_behind
  put_length =
      let s = fm.size in
      let a = front_long in
      let b = written_long in
      rw length-append (omega arith)

  pub put_journal : journal_part (put_behind n card f) ≡ overwritten (journal_part card) (behind n card) f
  unfolding put_behind
  put_journal = drop_at (take 8192 card) (overwritten (journal_part card) (behind n card) f) 8192 front_long

  pub put_two : take 8192 (put_behind n card f) ≡ take 8192 card
  unfolding put_behind
  put_two = take_at (take 8192 card) (overwritten (journal_part card) (behind n card) f) 8192 front_long

  pub put_front : take 4096 (put_behind n card f) ≡ take 4096 card
  put_front =
      sym (take-take 4096 8192 (put_behind n card f) (omega arith)) ∙ ap (take 4096) put_two
      ∙ take-take 4096 8192 card (omega arith)

  pub put_formed : Formed n (put_behind n card f)
  put_formed = formed_same n (put_behind n card f) card fm put_length put_front

  pub put_start : live_start (put_behind n card f) ≡ live_start card
  put_start = let s = fm.size in let l = put_length in
      same_start (put_behind n card f) card (omega arith) (omega arith) put_front

  pub put_len : live_len (put_behind n card f) ≡ live_len card
  put_len = let s = fm.size in let l = put_length in
      same_len (put_behind n card f) card (omega arith) (omega arith) put_front

  -- THE LIVE BLOCKS ARE KEPT
  pub put_live : live_image (put_behind n card f) ≡ live_image card
  unfolding live_image
  put_live =
      let J = journal_part card in
      let j = journal_long in
      let s = fm.start_in in
      let kept : cyclic_slice (overwritten J (advance (length J) (4096 * live_start card) (4096 * live_len card)) f)
      (4096 * live_start card) (4096 * live_len card)
      ≡ cyclic_slice J (4096 * live_start card) (4096 * live_len card) =
      live_kept J (4096 * live_start card) (4096 * live_len card) f (omega arith) (omega arith) in
      rw (put_start, put_len, put_journal) (rw j at kept)

  -- the next block, put behind f, is f and the block put behind the live ones
  pub put_block : (m : ℕ) (g : List ℕ) → length f ≡ 4096 * m → length g ≡ 4096 → live_len card + m < n
      → splice (put_behind n card f) (journal_point (advance n (live_start card) (live_len card + m))) g
      ≡ put_behind n card (f ++ g)
  unfolding put_behind
  put_block m g lf lg h =
      let J = journal_part card in
      let j = journal_long in
      let p = behind n card in
      let o = overwritten J p f in
      let lo = written_long in
      let fr = front_long in
      let s = fm.start_in in
      let q = advance n (live_start card) (live_len card + m) in
      let qn : q < n = advance_lt n (live_start card) (live_len card + m) s (omega arith) in
      let at : journal_point q ≡ length (take 8192 card) + 4096 * q = omega arith in
      let sc : 4096 * (live_len card + m) ≡ 4096 * live_len card + length f = omega arith in
      let place : 4096 * q ≡ advance (length J) p (length f) =
      advance_scaled n (live_start card) (live_len card + m)
      ∙ ap (advance (4096 * n) (4096 * live_start card)) sc
      ∙ sym (advance_advance (4096 * n) (4096 * live_start card) (4096 * live_len card) (length f) (omega arith)
      (omega arith))
      ∙ ap (λ (z : ℕ). advance z p (length f)) (sym j) in
      let pin : p ≤ length J - 1 =
      let a = advance_lt (4096 * n) (4096 * live_start card) (4096 * live_len card) (omega arith) (omega arith) in
      omega arith in
      let run : splice o (4096 * q) g ≡ overwritten o (4096 * q) g = splice_overwritten o (4096 * q) g (omega arith) in
      splice_behind (take 8192 card) o (4096 * q) (journal_point q) g at
      ∙ ap (λ (l : List ℕ). take 8192 card ++ l) (run ∙ rw place (overwritten_join J p f g pin (omega arith)))

  -- with the interval longer by f, the live image is the old one and f
  pub put_joined : cyclic_slice (journal_part (put_behind n card f)) (4096 * live_start card)
      (4096 * live_len card + length f) ≡ live_image card ++ f
  unfolding live_image
  put_joined =
      let J = journal_part card in
      let j = journal_long in
      let s = fm.start_in in
      let w : cyclic_slice (overwritten J (advance (length J) (4096 * live_start card) (4096 * live_len card)) f)
      (4096 * live_start card) (4096 * live_len card + length f)
      ≡ cyclic_slice J (4096 * live_start card) (4096 * live_len card) ++ f =
      write_behind J (4096 * live_start card) (4096 * live_len card) f (omega arith) (omega arith) in
      rw put_journal (rw j at w)

  -- and what is found is as before
  pub put_kept : (es : List JournalEntry) → Live n card es → Live n (put_behind n card f) es
  unfolding live_payload
  put_kept es v =
      record {
        range = v.range;
        is_formed = formed_holds n (put_behind n card f) put_formed;
        agrees = rw (put_len, put_live) v.agrees;
        reads = rw (put_len, put_live) v.reads;
      }
