-- A stretch of a history: any first images of a run are those of its first calls, since a call hands out one image
-- at most. Assumes nothing.
use mathlib.Core.Path.{◌≡◌, refl, sym, ap, ◌∙◌}
use mathlib.Core.List.{List, [], ◌∷◌, ◌++◌, append_assoc, append-nil}
use Rattle.std.specs.Prelude.{Option, None, Some}
use Rattle.std.proofs.lemmas.List.{append_cancel_left}
use Prim.Native.Nat.{ℕ}
use native.Mathlib.Omega.{arith}
use lib.ListN.{length, length-append}
use Rattle.history.specs.Calls.{Call, told_of, step}
use Rattle.history.specs.History.{Image, World, handed, following, run}

pub run_append : (w : World) (cs ds : List Call) → run w (cs ++ ds) ≡ run (run w cs) ds
unfolding run
run_append w [] ds = refl
run_append w (c ∷ cs) ds = run_append (following w (told_of c) (step c w.journalist w.ring)) cs ds

-- a call hands out no image, or one
one_or_none : {C : Type 0} (o : Option (List ℕ)) (added : ℕ) (is : List Image)
    → (handed o added is ≡ is → C) → ((i : Image) → handed o added is ≡ is ++ (i ∷ []) → C) → C
one_or_none None added is same more = same refl
one_or_none (Some bytes) added is same more = more (record { bytes = bytes; added = added }) refl

-- the world behind one call
abbrev next : World → Call → World
next w c = following w (told_of c) (step c w.journalist w.ring)

by_call : {C : Type 0} (w : World) (c : Call) → ((next w c).images ≡ w.images → C)
    → ((i : Image) → (next w c).images ≡ w.images ++ (i ∷ []) → C) → C
by_call w c same more = one_or_none (step c w.journalist w.ring).image _ w.images same more

-- the images of a run begin with those before it
grown : {C : Type 0} (w : World) (cs : List Call) → ((new : List Image) → (run w cs).images ≡ w.images ++ new → C) → C
unfolding run
grown w [] k = k [] (sym (append-nil w.images))
grown w (c ∷ cs) k =
    grown (next w c) cs λ new e.
    by_call w c
    (λ same. k new (e ∙ ap (λ (is : List Image). is ++ new) same))
    (λ i more. k (i ∷ new) (e ∙ ap (λ (is : List Image). is ++ new) more ∙ append_assoc w.images (i ∷ []) new))

-- THE CALLS OF THE FIRST IMAGES
pub stretch : {C : Type 0} (w : World) (cs : List Call) (first rest : List Image)
    → (run w cs).images ≡ w.images ++ (first ++ rest)
    → ((done left : List Call) → done ++ left ≡ cs → (run w done).images ≡ w.images ++ first → C) → C
unfolding run
stretch w cs [] rest e k = k [] cs refl (sym (append-nil w.images))
stretch w [] (i ∷ first) rest e k =
    let long = ap length e ∙ length-append w.images (i ∷ (first ++ rest)) in
    absurd (omega (arith, long))
stretch w (c ∷ cs) (i ∷ first) rest e k =
    by_call w c
    (λ same.
    stretch (next w c) cs (i ∷ first) rest
    (e ∙ ap (λ (is : List Image). is ++ (i ∷ (first ++ rest))) (sym same)) λ done left calls images.
    k (c ∷ done) left (ap (λ (l : List Call). c ∷ l) calls) (images ∙ ap (λ (is : List Image). is ++ (i ∷ first)) same))
    (λ x more.
    grown (next w c) cs λ new g.
    let all : w.images ++ (x ∷ new) ≡ w.images ++ (i ∷ (first ++ rest)) =
    sym (append_assoc w.images (x ∷ []) new) ∙ ap (λ (is : List Image). is ++ new) (sym more) ∙ sym g ∙ e in
    let tails = append_cancel_left w.images (x ∷ new) (i ∷ (first ++ rest)) all in
    let one : x ≡ i = cc in
    let others : new ≡ first ++ rest = cc in
    stretch (next w c) cs first rest
    (g ∙ ap (λ (is : List Image). (next w c).images ++ is) others) λ done left calls images.
    k (c ∷ done) left (ap (λ (l : List Call). c ∷ l) calls)
    (images ∙ ap (λ (is : List Image). is ++ first) more ∙ append_assoc w.images (x ∷ []) first
    ∙ ap (λ (y : Image). w.images ++ (y ∷ first)) one))
