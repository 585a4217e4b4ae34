-- `card::formed_card::FormedCard::copy_live` meets its contract: one run's payload behind the other's. Assumes
-- nothing.
use mathlib.Core.Path.{ap}
use Prim.Native.Nat.{◌*◌, ◌/◌, ◌≤◌}
use native.Mathlib.Omega.{arith}
use lib.ListN.{length}
use Rattle.card.proofs.Formed.{formed_told}
use Rattle.card.proofs.InPlace.{live_runs, copied}
use borrow.Author.Rules.{rules}
use Rattle.card.proofs.formed_card.FormedCard.copy_live.Goals as goal
use Rattle.card.proofs.formed_card.FormedCard.copy_live.Goals.{After-live}

-- the first run's payload leaves room for the other's
first_fits : (c : After-live) → 4064 * (length c.live.result.0.front.now / 4096) ≤ length c.args.out.now
first_fits c =
    let card = c.args.self.now in
    let r = live_runs card.n card.bytes.now (formed_told card.n card.bytes.now card.is) in
    omega (arith, ap length c.live.ensures.front, r.size, c.requires)

pub slice_bounds-copy_payloads-count : goal.slice_bounds-copy_payloads-count
slice_bounds-copy_payloads-count c =
    let fits = first_fits (goal.at.slice_bounds-copy_payloads-count c).After-live in search rules

pub slice_bounds-copy_payloads-start : goal.slice_bounds-copy_payloads-start
slice_bounds-copy_payloads-start c =
    let fits = first_fits (goal.at.slice_bounds-copy_payloads-start c).After-live in search rules

pub returns : goal.returns
returns c =
    let card = c.args.self.now in
    copied card.n card.bytes.now (formed_told card.n card.bytes.now card.is)
    c.live.result.0.front.now c.live.result.0.back.now c.live.ensures.front c.live.ensures.back
    c.args.out.now c.requires c.copy_payloads.new.out c.copy_payloads-2.new.out
    c.copy_payloads.ensures c.copy_payloads-2.ensures
