-- `card::formed_card::FormedCard::release` meets its contract: each return stands behind the tests of its row.
-- Assumes nothing.
use mathlib.Core.Path.{◌≡◌, sym, ap, ap₂, ◌∙◌}
use Prim.Native.Nat.{ℕ, ◌-◌, ◌<◌}
use native.Mathlib.Omega.{arith}
use Rattle.refusals.specs.Outcome.{gives}
use Rattle.disk_layout.proofs.Intervals.{range_facts}
use Rattle.journal_ring.specs.Ring.{advance}
use Rattle.card.specs.Calls.{rewritten, release_call}
use Rattle.card.proofs.Formed.{formed_told}
use Rattle.card.proofs.StoreLaws.{payload_unread, payload_read}
use Rattle.card.proofs.ReleaseLaws.{release_14, release_first, release_told, release_dropped}
use Rattle.card.proofs.formed_card.FormedCard.release.Goals as goal
use Rattle.card.proofs.formed_card.FormedCard.release.Goals.{After-advance-next}

pub returns-then-is_none-clause-why : goal.returns-then-is_none-clause-why
returns-then-is_none-clause-why c =
    let card = c.args.self.now in
    rw c.into-then-is_none.ensures
    (release_14 card.n card.bytes.now card.few card.is (omega (arith, c.of-start.ensures.len, c.if-len-eq0.false))
    (sym c.live-live.ensures.lowest ∙ sym c.lowest_damaged.ensures ∙ c.in_default.is)
    (payload_unread _ _ c.live-live.ensures.payload _ c.range_in.ensures c.if-is_none.ensures))

given : (c : After-advance-next)
    → gives c.word_at-dropped.result ≡ release_call c.args.self.now.n c.args.self.now.bytes.now
given c =
    let card = c.args.self.now in
    payload_read _ _ c.live-live.ensures.payload _ c.range_in.ensures c.if-is_none.ensures λ old reads.
    release_first card.n card.bytes.now card.few card.is (omega (arith, c.of-start.ensures.len, c.if-len-eq0.false))
    (sym c.live-live.ensures.lowest ∙ sym c.lowest_damaged.ensures ∙ c.in_default.is) old reads _ _
    c.live-live.ensures.payload c.word_at-dropped.ensures

-- the new start is a block of the region
next_in : (c : After-advance-next) → c.advance-next.result < c.args.self.now.n
next_in c =
    let card = c.args.self.now in
    let f = formed_told card.n card.bytes.now card.is in
    let told = release_told card.n card.bytes.now _ (given c) in
    c.advance-next.ensures.upper_bound (omega (arith, f.start_in, c.of-start.ensures.start))
    (omega (arith, f.len_in, told.within))

pub overflow_cast-result-2 : goal.overflow_cast-result-2
overflow_cast-result-2 c =
    let card = c.args.self.now in
    omega (arith, next_in (goal.at.overflow_cast-result-2 c).After-advance-next, (range_facts card.n card.few).1)

pub overflow_sub-result : goal.overflow_sub-result
overflow_sub-result c =
    let card = c.args.self.now in
    let told = release_told card.n card.bytes.now _ (given (goal.at.overflow_sub-result c).After-advance-next) in
    omega (arith, told.within, c.of-start.ensures.len)

pub returns-clause-release : goal.returns-clause-release
returns-clause-release c =
    let card = c.args.self.now in
    let f = formed_told card.n card.bytes.now card.is in
    let d = c.word_at-dropped.result in
    release_dropped card.n card.bytes.now d (given (goal.at.returns-clause-release c).After-advance-next) _
    (ap₂ (rewritten card.bytes.now)
    (c.advance-next.ensures.value (omega (arith, f.start_in, c.of-start.ensures.start))
    ∙ ap (λ (x : ℕ). advance card.n x d) c.of-start.ensures.start)
    (ap (λ (x : ℕ). x - d) c.of-start.ensures.len))
