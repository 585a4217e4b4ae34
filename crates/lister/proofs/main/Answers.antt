-- What `main` says lies in the text. Assumes nothing.
use mathlib.Core.Path.{◌≡◌}
use Prim.Native.Nat.{◌≤◌}
use native.Mathlib.Omega.{arith}
use borrow.Author.Rules.{rules}
use lib.ListN.{length, length-take}
use Rattle.lister.proofs.Images.{listed_within}
use Rattle.lister.proofs.main.Goals as goal
use Rattle.lister.proofs.main.Goals.{In-Ok-list_image}

within : (c : In-Ok-list_image) → c.in-Ok-list_image.end ≤ length c.list_image.new.text
within c =
    let long : length c.list_image.new.text ≡ 121952 = search rules in
    omega (arith, long, listed_within _ _ _ _ _ _ _ c.list_image.ensures (search rules) c.in-Ok-list_image.is)

pub slice_bounds-text-end : goal.slice_bounds-text-end
slice_bounds-text-end c = within (goal.at.slice_bounds-text-end c).In-Ok-list_image

pub slice_bounds-say-end-2 : goal.slice_bounds-say-end-2
slice_bounds-say-end-2 c =
    omega (
      arith,
      within (goal.at.slice_bounds-say-end-2 c).In-Ok-list_image,
      length-take c.in-Ok-list_image.end c.list_image.new.text,
    )
