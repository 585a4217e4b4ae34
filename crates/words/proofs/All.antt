-- What holds of each element of a list holds of each of its parts, and the other way round. Assumes nothing.
use mathlib.Core.List.{List, [], ◌∷◌, ◌++◌}
use Rattle.words.specs.Lists.{All}

module _ {A : Type 0} (P : A → Type 0) where
  pub all_append : (xs ys : List A) → All P xs → All P ys → All P (xs ++ ys)
  all_append [] ys v w = w
  all_append (x ∷ xs) ys v w = (v.0, all_append xs ys v.1 w)

  pub all_split : (xs ys : List A) → All P (xs ++ ys) → All P xs × All P ys
  all_split [] ys w = (tt, w)
  all_split (x ∷ xs) ys w = let (v, u) = all_split xs ys w.1 in ((w.0, v), u)

-- and so does what follows from it
pub all_map : {A : Type 0} (P Q : A → Type 0) → ((x : A) → P x → Q x) → (xs : List A) → All P xs → All Q xs
all_map P Q f [] v = tt
all_map P Q f (x ∷ xs) v = (f x v.0, all_map P Q f xs v.1)
