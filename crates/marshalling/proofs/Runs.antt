-- The runs of a list: none is empty, they add up to the list, and there are few of them. Then, of a ring as it is lent,
-- how many are left behind the next one. Assumes nothing.
use mathlib.Core.Path.{◌≡◌, refl, ap, ◌∙◌}
use mathlib.Core.List.{List, [], ◌∷◌}
use mathlib.Core.Logic.{dite, ◌⊎◌, inl, inr}
use Prim.Native.Nat.{ℕ, zero, suc, ◌+◌, ◌-◌, ◌/◌, ◌%◌, ◌≤◌, ◌<◌, min}
use native.Mathlib.Decide.{dec_lt}
use native.Mathlib.Omega.{arith}
use borrow.Author.Tests.{lt-ltb, le-ltb}
use lib.ListN.{length, take, drop, length-drop}
use lib.Seq.{length-take-le}
use Rattle.journal_ring.specs.Ring.{advance}
use Rattle.journal_ring.proofs.Rotation.{advance_near, advance_far}
use Rattle.marshalling.specs.Runs.{to_block_end, run_at, runs_within, runs_from, runs_of}
use Rattle.marshalling.specs.Runs.{NoneEmpty, total, most_runs, place_in, runs_left, Takes}

-- The next run, before the ring's end and behind it.

run_near : (size place b done : ℕ) → place + done < size
    → run_at size place b done ≡ min (size - (place + done)) (min (to_block_end done) (b - done))
unfolding run_at
run_near size place b done h = rw (advance_near size place done h)

run_far : (size place b done : ℕ) → size ≤ place + done
    → run_at size place b done ≡ min (size - (place + done - size)) (min (to_block_end done) (b - done))
unfolding run_at
run_far size place b done h = rw (advance_far size place done h)

-- behind some bytes of a block, so much less is left to its end
pub block_left : (done filled : ℕ) → filled < to_block_end done
    → to_block_end (done + filled) ≡ to_block_end done - filled
block_left done filled h = omega arith

-- from the second byte of a run on, the rest of it is the next one
run_rest : (size place b done : ℕ) → 1 < run_at size place b done
    → done + 1 + run_at size place b (done + 1) ≡ done + run_at size place b done
run_rest size place b done h = dite (dec_lt (place + done) size) near (λ k. far (omega arith))
  where
    near : place + done < size → done + 1 + run_at size place b (done + 1) ≡ done + run_at size place b done
    near k =
        let r = run_near size place b done k in
        let s = run_near size place b (done + 1) (omega arith) in
        let e = block_left done 1 (omega arith) in omega arith

    far : size ≤ place + done → done + 1 + run_at size place b (done + 1) ≡ done + run_at size place b done
    far k =
        let r = run_far size place b done k in
        let s = run_far size place b (done + 1) (omega arith) in
        let e = block_left done 1 (omega arith) in omega arith

-- Turns.

no_turn : (turns size place b done : ℕ) → b ≤ done → runs_within turns size place b done ≡ []
unfolding runs_within
no_turn zero size place b done h = refl
no_turn (suc turns) size place b done h = rw (le-ltb _ _ h)

one_turn : (turns size place b done : ℕ) → done < b
    → runs_within (suc turns) size place b done
    ≡ run_at size place b done ∷ runs_within turns size place b (done + run_at size place b done)
unfolding runs_within
one_turn turns size place b done h = rw (lt-ltb _ _ h)

module _ (size place b : ℕ) (inside : place ≤ size) (fits : b ≤ size) where
  -- a run that starts before the list's end is not empty, and passes neither that end nor the block's
  run_long : (done : ℕ) → done < b
      → (0 < run_at size place b done)
      × (run_at size place b done ≤ b - done)
      × (run_at size place b done ≤ to_block_end done)
  run_long done h =
      dite (dec_lt (place + done) size)
      (λ near. rw (run_near size place b done near) (omega arith, omega arith, omega arith))
      (λ far. rw (run_far size place b done (omega arith)) (omega arith, omega arith, omega arith))

  -- what holds of no runs at the list's end, and of one run more in front, holds of the runs that are left
  by_turns : (P : ℕ → List ℕ → Type 0) → ((done : ℕ) → b ≤ done → P done [])
      → ((done : ℕ) (ns : List ℕ) → done < b → P (done + run_at size place b done) ns
      → P done (run_at size place b done ∷ ns))
      → (t done : ℕ) → b ≤ done + t → P done (runs_within t size place b done)
  by_turns P end next zero done h =
      let e : b ≤ done = omega arith in rw (no_turn 0 size place b done e) (end done e)
  by_turns P end next (suc t) done h =
      dite (dec_lt done b)
      (λ more.
      let l = (run_long done more).0 in
      rw (one_turn t size place b done more)
      (next done _ more (by_turns P end next t (done + run_at size place b done) (omega arith))))
      (λ none. let e : b ≤ done = omega arith in rw (no_turn (suc t) size place b done e) (end done e))

  -- turns beyond those that the list needs change nothing
  enough : (t u done : ℕ) → b ≤ done + t → b ≤ done + u
      → runs_within u size place b done ≡ runs_within t size place b done
  enough t u done h k =
      by_turns (λ (d : ℕ) (ns : List ℕ). (v : ℕ) → b ≤ d + v → runs_within v size place b d ≡ ns)
      (λ d e v k. no_turn v size place b d e) next t done h u k
    where
      next : (d : ℕ) (ns : List ℕ) → d < b
          → ((v : ℕ) → b ≤ d + run_at size place b d + v → runs_within v size place b (d + run_at size place b d) ≡ ns)
          → (v : ℕ) → b ≤ d + v → runs_within v size place b d ≡ run_at size place b d ∷ ns
      next d ns more ih zero k = absurd (omega arith)
      next d ns more ih (suc v) k =
          let l = (run_long d more).0 in
          one_turn v size place b d more ∙ ap (λ (ms : List ℕ). run_at size place b d ∷ ms) (ih v (omega arith))

  -- the next run, and those after it
  pub runs_next : (done : ℕ) → done < b
      → runs_from size place b done
      ≡ run_at size place b done ∷ runs_from size place b (done + run_at size place b done)
  runs_next done h = enough (suc b) b done (omega arith) (omega arith) ∙ one_turn b size place b done h

  -- The runs of the whole list.

  pub runs_none_empty : NoneEmpty (runs_of size place b)
  runs_none_empty =
      by_turns (λ (d : ℕ) (ns : List ℕ). NoneEmpty ns) (λ d e. tt) (λ d ns more ih. ((run_long d more).0, ih)) b 0
      (omega arith)

  pub runs_add_up : total (runs_of size place b) ≡ b
  unfolding total
  runs_add_up =
      by_turns (λ (d : ℕ) (ns : List ℕ). d ≤ b → total ns ≡ b - d) (λ d e k. omega arith)
      (λ d ns more ih k. let l = (run_long d more).1 in let r = ih (omega arith) in omega arith)
      b 0 (omega arith) (omega arith) ∙ omega arith

  -- How many there are: one for each block that is begun, and one more where the ring's end cuts one in two.
  record Few (done : ℕ) (ns : List ℕ) : Type 0 where
    none : b ≤ done → length ns ≡ 0
    behind : done < b → size ≤ place + done → length ns + (8 + done) / 4064 + 1 ≤ most_runs b
    before : done < b → length ns + (8 + done) / 4064 ≤ most_runs b

  few_next : (done : ℕ) (ns : List ℕ) → done < b → Few (done + run_at size place b done) ns
      → Few done (run_at size place b done ∷ ns)
  few_next done ns more ih = record {
    none = λ e. absurd (omega arith);
    behind = λ h far. at_far far;
    before = λ h. dite (dec_lt (place + done) size) at_near (λ far. let f = at_far (omega arith) in omega arith);
  }
    where
      n : ℕ
      n = run_at size place b done

      -- the run ends with the block
      at_block : done + n < b → size ≤ place + done ⊎ place + (done + n) < size → n + (8 + done) % 4064 ≡ 4064
      at_block on (inl far) = let r = run_far size place b done far in omega arith
      at_block on (inr near) = let r = run_near size place b done (omega arith) in omega arith

      at_far : size ≤ place + done → suc (length ns) + (8 + done) / 4064 + 1 ≤ most_runs b
      at_far far =
          dite (dec_lt (done + n) b)
          (λ on. let e = at_block on (inl far) in let f = ih.behind on (omega arith) in omega arith)
          (λ off. let f = ih.none (omega arith) in omega arith)

      at_near : place + done < size → suc (length ns) + (8 + done) / 4064 ≤ most_runs b
      at_near near =
          dite (dec_lt (done + n) b)
          (λ on. dite (dec_lt (place + (done + n)) size)
          (λ near'. let e = at_block on (inr near') in let f = ih.before on in omega arith)
          (λ far. let f = ih.behind on (omega arith) in omega arith))
          (λ off. let f = ih.none (omega arith) in omega arith)

  pub runs_few : length (runs_of size place b) ≤ most_runs b
  runs_few =
      let f = by_turns Few (λ d e. record {
        none = λ e. refl;
        behind = λ h far. absurd (omega arith);
        before = λ h. absurd (omega arith);
      }) few_next b 0 (omega arith) in
      dite (dec_lt 0 b) (λ h. let g = f.before h in omega arith) (λ h. let g = f.none (omega arith) in omega arith)

-- A ring as it is lent: x up to its end, y from its start; the list starts `at` bytes on in x ++ y.

-- a run that passes neither end from there passes neither from the first of those bytes
pub run_within : (n done filled end r : ℕ) → end ≡ min (to_block_end done) (n - done) → filled < end
    → r ≤ n - (done + filled) → r ≤ to_block_end (done + filled)
    → filled + r ≤ end
run_within n done filled end r e h hn hb =
    ends (to_block_end done) e (rw (block_left done filled (omega arith)) at hb)
  where
    ends : (block : ℕ) → end ≡ min block (n - done) → r ≤ block - filled → filled + r ≤ end
    ends block e hb = omega arith

-- bytes that no run leads over, and runs one behind the other
pub takes_none : (x y : List ℕ) (at n done : ℕ) → Takes x y at n done done 0
unfolding Takes
takes_none x y at n done = omega arith

pub takes_then : (x y : List ℕ) (at n done mid next r s : ℕ) → Takes x y at n done mid r → Takes x y at n mid next s
    → Takes x y at n done next (r + s)
unfolding Takes
takes_then x y at n done mid next r s e f = omega arith

module _ (x y : List ℕ) (at n : ℕ) (there : at + n ≤ length x + length y) where
  abbrev size : ℕ
  size = length x + length y

  abbrev place : ℕ
  place = place_in x y at

  inside : place ≤ size
  inside =
      dite (dec_lt (length y + at) size)
      (λ near. rw (advance_near size (length y) at near) (omega arith))
      (λ far. rw (advance_far size (length y) at (omega arith)) (omega arith))

  -- a run that starts in x,
  pub run_in_first : (done : ℕ) → at + done < length x
      → run_at size place n done ≡ min (length x - (at + done)) (min (to_block_end done) (n - done))
  run_in_first done h =
      rw (advance_near size (length y) at (omega arith), run_near size (length y + at) n done (omega arith)) (
      ap (λ (k : ℕ). min k (min (to_block_end done) (n - done))) (omega arith))

  -- and one that starts in y: the list's end is nearer than the ring's next one
  pub run_in_second : (done : ℕ) → length x ≤ at + done → done < n
      → run_at size place n done ≡ min (to_block_end done) (n - done)
  run_in_second done h more =
      dite (dec_lt at (length x))
      (λ k. rw (advance_near size (length y) at (omega arith), run_far size (length y + at) n done (omega arith))
      (nearer (size - (length y + at + done - size)) (to_block_end done) (n - done) (omega arith)))
      (λ k. rw (
        advance_far size (length y) at (omega arith),
        run_near size (length y + at - size) n done (omega arith),
      )
      (nearer (size - (length y + at - size + done)) (to_block_end done) (n - done) (omega arith)))
    where
      nearer : (ring block list : ℕ) → list ≤ ring → min ring (min block list) ≡ min block list
      nearer ring block list h = omega arith

  -- none is left behind the list's end
  left_none : (done : ℕ) → n ≤ done → runs_left x y at n done ≡ 0
  unfolding runs_left
  left_none done h = ap length (no_turn n size place n done h)

  -- the next run is one, not empty, and passes neither the list's end nor the block's
  pub takes_one : (done r : ℕ) → done < n → r ≡ run_at size place n done
      → (0 < r) × (r ≤ n - done) × (r ≤ to_block_end done) × Takes x y at n done (done + r) 1
  unfolding Takes runs_left
  takes_one done r more is =
      let l = run_long size place n inside (omega arith) done more in
      let next : runs_left x y at n done ≡ suc (runs_left x y at n (done + run_at size place n done)) =
      ap length (runs_next size place n inside (omega arith) done more) in
      rw is (l.0, l.1, l.2, omega arith)

  -- a byte more that is copied is one run fewer at most
  one_fewer : (done : ℕ) → runs_left x y at n done ≤ suc (runs_left x y at n (done + 1))
  unfolding runs_left
  one_fewer done = dite (dec_lt done n) more (λ k. let e = left_none done (omega arith) in omega arith)
    where
      more : done < n → runs_left x y at n done ≤ suc (runs_left x y at n (done + 1))
      more h =
          let l = run_long size place n inside (omega arith) done h in
          let next : runs_left x y at n done ≡ suc (runs_left x y at n (done + run_at size place n done)) =
          ap length (runs_next size place n inside (omega arith) done h) in
          dite (dec_lt 1 (run_at size place n done))
          (λ k.
          let again : runs_left x y at n (done + 1)
          ≡ suc (runs_left x y at n (done + 1 + run_at size place n (done + 1))) =
          ap length (runs_next size place n inside (omega arith) (done + 1) (omega arith)) in
          let same = rw (run_rest size place n done k) at again in omega arith)
          (λ k. let one : run_at size place n done ≡ 1 = omega arith in let e = rw one at next in omega arith)

  -- so runs are at most as many as the bytes that they lead over: none is empty
  pub takes_few : (k done r : ℕ) → Takes x y at n done (done + k) r → r ≤ k
  unfolding Takes
  takes_few k done r t = let f = fewer k done in omega arith
    where
      fewer : (k done : ℕ) → runs_left x y at n done ≤ k + runs_left x y at n (done + k)
      fewer zero done = let e : done + 0 ≡ done = omega arith in rw e (omega arith)
      fewer (suc k) done =
          let e : done + 1 + k ≡ done + suc k = omega arith in
          let f = rw e at (fewer k (done + 1)) in let g = one_fewer done in omega arith

  -- behind the list's end there are none up to the block's
  pub takes_block : (done end r : ℕ) → end ≡ min (to_block_end done) (n - done) → Takes x y at n done (done + end) r
      → Takes x y at n done (done + to_block_end done) r
  unfolding Takes
  takes_block done end r e t =
      dite (dec_lt (n - done) (to_block_end done))
      (λ h. let left = left_none (done + end) (omega arith) in
      let right = left_none (done + to_block_end done) (omega arith) in omega arith)
      (λ h. let q : end ≡ to_block_end done = omega arith in rw q at t)

  -- all of them are as many as the definition says, and few
  pub takes_all : (next r : ℕ) → n ≤ next → Takes x y at n 0 next r
      → (r ≡ length (runs_of size place n)) × (r ≤ most_runs n)
  unfolding Takes runs_left
  takes_all next r h e =
      let none = left_none next h in
      let same : r ≡ length (runs_of size place n) = omega arith in
      (same, rw same (runs_few size place n inside (omega arith)))

-- a ring that is lent as its bytes from start on and those before start: the runs are those of the ring itself
pub ring_runs : (ring : List ℕ) (start n : ℕ) → start < length ring
    → let x = drop start ring in
    let y = take start ring in
    runs_of (length x + length y) (place_in x y 0) n ≡ runs_of (length ring) start n
ring_runs ring start n h =
    let s : length ring - start + start ≡ length ring = omega arith in
    let p : start + 0 ≡ start = omega arith in
    rw (length-drop, length-take-le start ring (omega arith), s, advance_near (length ring) start 0 (omega arith), p)

-- the bound is reached: a list that fills its block, and lies across the ring's end
pub bound_reached : length (runs_of 5000 4000 4056) ≡ most_runs 4056
unfolding runs_within run_at advance
bound_reached = refl
