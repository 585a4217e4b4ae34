-- Small updates of the record, in which the calls' changes are written down. Assumes nothing.
use Rattle.std.specs.Prelude.{Option, ℕ, ◌+◌, ◌-◌}
use Rattle.replay_cursor.specs.declared.Replay.{Replay}
use Rattle.journalist.specs.declared.Pending.{Pending}
use Rattle.journalist.specs.declared.Last.{Last}
use Rattle.journalist.specs.declared.Journalist.{Journalist}

-- a list with no entries, one list behind another, and a list without the entries at its end
abbrev pub empty : Pending
empty = record { entries = 0; bytes = 0 }

abbrev pub joined : Pending → Pending → Pending
joined a b = record { entries = a.entries + b.entries; bytes = a.bytes + b.bytes }

abbrev pub less : Pending → Pending → Pending
less a b = record { entries = a.entries - b.entries; bytes = a.bytes - b.bytes }

-- the list that the last freeze moved; and no freeze that is remembered
abbrev pub moved : Last → Pending
moved l = record { entries = l.entries; bytes = l.bytes }

abbrev pub no_freeze : Last
no_freeze = record { entries = 0; bytes = 0; blocks = 0 }

-- What the calls on pending entries may change: the place of the first pending byte, the lists, the last freeze, the
-- clones in both lists, written and frozen blocks. The updates behind it each change a few of these, so a new number
-- of the record is named here and in them.
abbrev pub with_pending : Journalist → (start : ℕ) (frozen memory : Pending) (last : Last) (clones written held : ℕ)
    → Journalist
with_pending j start frozen memory last clones written held =
    record {
      blocks = j.blocks;
      ring = j.ring;
      start = start;
      frozen = frozen;
      memory = memory;
      last = last;
      clones = clones;
      written = written;
      held = held;
      replay = j.replay;
      front = j.front;
      back = j.back;
    }

-- other lists
abbrev pub with_lists : Journalist → (frozen memory : Pending) → Journalist
with_lists j frozen memory = with_pending j j.start frozen memory j.last j.clones j.written j.held

-- another last freeze
abbrev pub with_last : Journalist → Last → Journalist
with_last j last = with_pending j j.start j.frozen j.memory last j.clones j.written j.held

-- other numbers of written and of frozen blocks
abbrev pub with_blocks : Journalist → (written held : ℕ) → Journalist
with_blocks j written held = with_pending j j.start j.frozen j.memory j.last j.clones written held

-- another place of the first pending byte
abbrev pub with_start : Journalist → (start : ℕ) → Journalist
with_start j start = with_pending j start j.frozen j.memory j.last j.clones j.written j.held

-- another number of clones
abbrev pub with_clones : Journalist → (clones : ℕ) → Journalist
with_clones j clones = with_pending j j.start j.frozen j.memory j.last clones j.written j.held

-- What the calls of a recovery may change: replay, front and back.
abbrev pub with_recovery : Journalist → Replay → (front back : Option ℕ) → Journalist
with_recovery j replay front back =
    record {
      blocks = j.blocks;
      ring = j.ring;
      start = j.start;
      frozen = j.frozen;
      memory = j.memory;
      last = j.last;
      clones = j.clones;
      written = j.written;
      held = j.held;
      replay = replay;
      front = front;
      back = back;
    }

-- another replay
abbrev pub with_replay : Journalist → Replay → Journalist
with_replay j replay = with_recovery j replay j.front j.back

-- another front and back
abbrev pub with_sides : Journalist → (front back : Option ℕ) → Journalist
with_sides j front back = with_recovery j j.replay front back
