-- The record as words of 64 bits. Assumes nothing.
use Rattle.std.specs.Prelude.{Bool, true, false, cond, ◌&&◌, List, [], ◌∷◌, ℕ, leb, eqb, length, get_or}
use Rattle.std.specs.Prelude.{Option, None, Some}
use Rattle.journalist.specs.Calls.{present}
use Rattle.journalist.specs.Recovery.{side_blocks}
use Rattle.journalist.specs.declared.Journalist.{Journalist}

-- the version of the layout, and how many words it has
abbrev pub layout : ℕ
layout = 3

abbrev pub word_count : ℕ
word_count = 21

-- a yes or a no as a word
abbrev pub flag_of : Bool → ℕ
flag_of true = 1
flag_of false = 0

-- the version, then the record's counts; front and back are two words each, whether there is one and its blocks
abbrev pub words_of : Journalist → List ℕ
words_of j =
    layout
    ∷ j.blocks
    ∷ j.ring
    ∷ j.start
    ∷ j.frozen.entries
    ∷ j.frozen.bytes
    ∷ j.memory.entries
    ∷ j.memory.bytes
    ∷ j.written
    ∷ j.held
    ∷ j.replay.place
    ∷ j.replay.bytes
    ∷ j.replay.entries
    ∷ flag_of (present j.front)
    ∷ side_blocks j.front
    ∷ flag_of (present j.back)
    ∷ side_blocks j.back
    ∷ j.clones
    ∷ j.last.entries
    ∷ j.last.bytes
    ∷ j.last.blocks
    ∷ []

-- two words say a side: 1 with any number of blocks, or 0 with none
unfoldable pub side_reads : (flag blocks : ℕ) → Bool
side_reads flag blocks = cond (eqb flag 0) (eqb blocks 0) (eqb flag 1)

unfoldable pub side_of : (flag blocks : ℕ) → Option ℕ
side_of flag blocks = cond (eqb flag 0) None (Some blocks)

-- the word at a place
abbrev at : List ℕ → ℕ → ℕ
at words i = get_or words i 0

-- words say a record: enough of them, of this version, with two sides. Words behind them are not looked at
unfoldable pub words_read : List ℕ → Bool
words_read words =
    leb word_count (length words) && eqb (at words 0) layout && side_reads (at words 13) (at words 14)
    && side_reads (at words 15) (at words 16)

-- the record that they say
unfoldable pub record_at : List ℕ → Journalist
record_at words =
    record {
      blocks = at words 1;
      ring = at words 2;
      start = at words 3;
      frozen = record { entries = at words 4; bytes = at words 5 };
      memory = record { entries = at words 6; bytes = at words 7 };
      written = at words 8;
      held = at words 9;
      replay = record { place = at words 10; bytes = at words 11; entries = at words 12 };
      front = side_of (at words 13) (at words 14);
      back = side_of (at words 15) (at words 16);
      clones = at words 17;
      last = record { entries = at words 18; bytes = at words 19; blocks = at words 20 };
    }

unfoldable pub decode_of : List ℕ → Option Journalist
decode_of words = cond (words_read words) (Some (record_at words)) None
