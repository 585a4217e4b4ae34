-- The runs by which a list goes from the ring into its image: document 02, paper 5. A list of b bytes lies in a ring
-- of `size` bytes from `place` on, and goes behind the header's 8 bytes of the first block; `done` of its bytes are
-- copied. Assumes nothing.
use Rattle.std.specs.Prelude.{◌≡◌, cond, List, [], ◌∷◌, ℕ, zero, suc, ◌+◌, ◌-◌, ◌/◌, ◌%◌, ◌<◌, min, ltb, length}
use Rattle.journal_ring.specs.Ring.{advance}

-- how far it is to the ring's end,
abbrev pub to_ring_end : (size place done : ℕ) → ℕ
to_ring_end size place done = size - advance size place done

-- to the end of the block's payload,
abbrev pub to_block_end : (done : ℕ) → ℕ
to_block_end done = 4064 - (8 + done) % 4064

-- and to the list's end
abbrev pub to_list_end : (b done : ℕ) → ℕ
to_list_end b done = b - done

-- "A run goes on to the nearest of the ring's end, the block's end and the list's end."
unfoldable pub run_at : (size place b done : ℕ) → ℕ
run_at size place b done = min (to_ring_end size place done) (min (to_block_end done) (to_list_end b done))

-- the lengths of the runs that are left, of at most `turns` of them
unfoldable pub runs_within : (turns size place b done : ℕ) → List ℕ
runs_within zero size place b done = []
runs_within (suc turns) size place b done =
    let run : ℕ = run_at size place b done in
    cond (ltb done b) (run ∷ runs_within turns size place b (done + run)) []

-- of all that are left: no run is empty, so there are at most b
abbrev pub runs_from : (size place b done : ℕ) → List ℕ
runs_from size place b done = runs_within b size place b done

-- the runs of the whole list
abbrev pub runs_of : (size place b : ℕ) → List ℕ
runs_of size place b = runs_from size place b 0

-- What is claimed of them, `Runs` in proofs/: none is empty,
abbrev pub NoneEmpty : List ℕ → Type 0
NoneEmpty [] = Unit {0}
NoneEmpty (n ∷ ns) = (0 < n) × NoneEmpty ns

-- they add up to b,
unfoldable pub total : List ℕ → ℕ
total [] = 0
total (n ∷ ns) = n + total ns

-- and "a list of b bytes takes at most (b + 8) / 4064, rounded up, plus 1 runs"
abbrev pub most_runs : (b : ℕ) → ℕ
most_runs b = (b + 8 + 4063) / 4064 + 1

-- The ring as it is lent: x goes on to the ring's end, y starts at the ring's place 0, and the list starts `at` bytes
-- on in x ++ y.

-- the list's place in that ring
abbrev pub place_in : (x y : List ℕ) (at : ℕ) → ℕ
place_in x y at = advance (length x + length y) (length y) at

-- how many runs are left of its n bytes
unfoldable pub runs_left : (x y : List ℕ) (at n done : ℕ) → ℕ
runs_left x y at n done = length (runs_from (length x + length y) (place_in x y at) n done)

-- r of these runs lead from `done` bytes copied to `next`
unfoldable pub Takes : (x y : List ℕ) (at n done next r : ℕ) → Type 0
Takes x y at n done next r = r + runs_left x y at n next ≡ runs_left x y at n done
