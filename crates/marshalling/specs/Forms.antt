-- A list's wire forms where they lie in the ring as it is lent, and their runs. Assumes nothing.
use Rattle.std.specs.Prelude.{List, ℕ, ◌++◌, ◌+◌, length, take, drop}
use Rattle.journal_entry.specs.Sequence.{joined}
use Rattle.marshalling.specs.declared.forms.Forms.{Forms}
use Rattle.marshalling.specs.declared.forms.Batch.{Batch}
use Rattle.marshalling.specs.Runs.{run_at, runs_of, place_in, Takes}

-- their bytes
abbrev pub forms_bytes : Forms → List ℕ
forms_bytes f = take f.len (drop f.at (joined f.ring))

-- a batch's bytes: the header's, and behind them the forms'
abbrev pub batch_bytes : Batch → List ℕ
batch_bytes b = b.header ++ forms_bytes b.forms

-- their place in the ring, and its size
abbrev pub ring_size : Forms → ℕ
ring_size f = length f.ring.front.now + length f.ring.back.now

abbrev pub forms_place : Forms → ℕ
forms_place f = place_in f.ring.front.now f.ring.back.now f.at

-- the next run, where `done` of the bytes are copied
abbrev pub next_run : (f : Forms) (done : ℕ) → ℕ
next_run f done = run_at (ring_size f) (forms_place f) f.len done

-- how many runs they take
abbrev pub forms_runs : Forms → ℕ
forms_runs f = length (runs_of (ring_size f) (forms_place f) f.len)

-- r of these runs lead from `done` bytes copied to `next`
abbrev pub FormsTake : (f : Forms) (done next r : ℕ) → Type 0
FormsTake f done next r = Takes f.ring.front.now f.ring.back.now f.at f.len done next r
