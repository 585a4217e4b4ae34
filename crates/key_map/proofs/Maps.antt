-- Lists of entries replayed into a map one after the other are their joined list replayed. Assumes nothing.
use mathlib.Core.Path.{◌≡◌, refl}
use mathlib.Core.List.{List, [], ◌∷◌, ◌++◌}
use Rattle.journal_entry.specs.Entry.{JournalEntry}
use Rattle.key_map.specs.Map.{Map, step_map, replay_map}

pub map_joined : (xs ys : List JournalEntry) (m : Map) → replay_map m (xs ++ ys) ≡ replay_map (replay_map m xs) ys
map_joined [] ys m = refl
map_joined (x ∷ xs) ys m = map_joined xs ys (step_map m x)
