-- What the replica means: a map from keys to values, and what an entry does to it (document 02, paper 7). Assumes
-- nothing.
use Rattle.std.specs.Prelude.{cond, List, [], ◌∷◌, ◌++◌, ℕ, length, drop}
use Rattle.std.specs.Prelude.{Option, None, Some}
use Rattle.journal_entry.specs.Entry.{JournalEntry, journal_insert, journal_clone}
use Rattle.key_map.specs.Keys.{begins, same}

-- from keys to values; `None` is an absent key
abbrev pub Map : Type 0
Map = List ℕ → Option (List ℕ)

abbrev pub empty_map : Map
empty_map k = None

-- "An insert sets one key." Each other key keeps its value.
abbrev pub insert_map : (m : Map) (key value : List ℕ) → Map
insert_map m key value k = cond (same key k) (Some value) (m k)

-- "A clone changes only keys that begin with `to`: such a key then has what `from` followed by its remaining bytes
-- had before, or is absent."
abbrev pub clone_map : (m : Map) (from to : List ℕ) → Map
clone_map m from to k = cond (begins to k) (m (from ++ drop (length to) k)) (m k)

abbrev pub step_map : Map → JournalEntry → Map
step_map m (journal_insert key value) = insert_map m key value
step_map m (journal_clone from to) = clone_map m from to

-- entries replayed one after the other
abbrev pub replay_map : Map → List JournalEntry → Map
replay_map m [] = m
replay_map m (e ∷ es) = replay_map (step_map m e) es
