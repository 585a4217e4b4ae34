-- The returns of `replay_next`, and where the top entry's pieces lie. Assumes nothing.
use mathlib.Core.Path.{◌≡◌, sym, ap, ap₂, ◌∙◌, subst}
use mathlib.Core.Bool.{true}
use mathlib.Core.List.{List}
use Prim.Native.Nat.{ℕ, ◌+◌, ◌-◌, ◌≤◌}
use native.Mathlib.Omega.{arith}
use lib.ListN.{length, take, drop}
use Rattle.refusals.specs.Outcome.{Outcome, gives, refuses, into}
use Rattle.refusals.proofs.Tests.{both}
use Rattle.journal_entry.specs.Entry.{JournalEntry, entry_of}
use Rattle.journal_entry.specs.Places.{entry_at, place_at, readable, is_clone_kind}
use Rattle.journal_entry.proofs.Bridge.{EntryThere, bridge_read}
use Rattle.replay_cursor.specs.declared.Top.{Top}
use Rattle.replay_cursor.specs.Cursor.{top_of, entry_at_top}
use Rattle.replay_cursor.proofs.HandedOut.{top_here}
use Rattle.journalist.specs.declared.Journalist.{Journalist}
use Rattle.journalist.specs.Recovery.{replay_journal_top_call, replay_journal_pop_call}
use Rattle.journalist.proofs.Replaying.{top_exactly, pop_exactly}
use Rattle.replica_table.specs.Calls.{step_table, step_work}
use Rattle.replica_table.proofs.Stepping.{Step}
use Rattle.replica.specs.Replay.{after, next_entry, step_then, replay_next_call, bytes_then, replay_next_table}
use Rattle.replica.specs.Replay.{replay_next_work, replayed}
use Rattle.replica.specs.declared.Replayed.{Replayed}

-- where the pieces of the top entry lie
module _ (j : Journalist) (s : List ℕ) (t : Top) (e : replay_journal_top_call j s ≡ gives t) where
  in_place : (at end : ℕ) → readable s at end ≡ true
      → ((top_of (place_at s at)).first_at + (top_of (place_at s at)).first_len ≤ length s)
      × ((top_of (place_at s at)).second_at + (top_of (place_at s at)).second_len ≤ length s)
  unfolding entry_at place_at
  in_place at end r =
      let there : EntryThere s at end (place_at s at) = bridge_read s at end (place_at s at) (rw r) in
      let a = there.inside in
      let b = there.next_before in
      (omega arith, omega arith)

  pub top_inside : (t.first_at + t.first_len ≤ length s) × (t.second_at + t.second_len ≤ length s)
  top_inside =
      let (passes, is) = (top_exactly j s).given_told t e in
      subst (λ (u : Top). (u.first_at + u.first_len ≤ length s)
      × (u.second_at + u.second_len ≤ length s)) is
      (in_place j.replay.place (j.replay.place + j.replay.bytes) passes.1.1.0)

-- where pop gives, so does top
pub pop_top : (j : Journalist) (s : List ℕ) (k : Journalist) → replay_journal_pop_call j s ≡ gives k
    → replay_journal_top_call j s ≡ gives (top_here j.replay s)
pop_top j s k e =
    let (p, is) = (pop_exactly j s).given_told k e in
    (top_exactly j s).given (p.0, (p.1.0, ((both _ _ p.1.1.0).0, tt)))

-- the entry, from the parts that are lent
module _ (s : List ℕ) (t : Top) where
  part_is : (at n : ℕ) → take (at + n - at) (drop at s) ≡ take n (drop at s)
  part_is at n = let e : at + n - at ≡ n = omega arith in rw e

  abbrev pub first_part : List ℕ
  first_part = take (t.first_at + t.first_len - t.first_at) (drop t.first_at s)

  abbrev pub second_part : List ℕ
  second_part = take (t.second_at + t.second_len - t.second_at) (drop t.second_at s)

  entry_is : entry_of (is_clone_kind t.kind) first_part second_part ≡ entry_at_top s t
  entry_is =
      ap₂ (entry_of (is_clone_kind t.kind)) (part_is t.first_at t.first_len)
      (part_is t.second_at t.second_len)

  pub step_parts : (count : ℕ) (table work : List ℕ) (o : Outcome ℕ) (y z : List ℕ)
      → Step count table work (entry_of (is_clone_kind t.kind) first_part second_part) o y z
      → Step count table work (entry_at_top s t) o y z
  step_parts count table work o y z = subst (λ (x : JournalEntry). Step count table work x o y z) entry_is

-- the answer of a call, and what it leaves in both buffers
abbrev pub Next : (j : Journalist) (s : List ℕ) (count : ℕ) (t w : List ℕ) (answer : Outcome Replayed)
    (y z : List ℕ) → Type 0
Next j s count t w answer y z =
    (answer ≡ replay_next_call j s count t w)
    × ((y ≡ replay_next_table j s count t w) × (z ≡ replay_next_work j s count t w))

module _ (j : Journalist) (s : List ℕ) (count : ℕ) (t w : List ℕ) where
  unread : (n : ℕ) → next_entry j s ≡ refuses n → Next j s count t w (refuses n) t w
  unfolding replay_next_call replay_next_table replay_next_work
  unread n e = (
    sym (ap (λ (o : Outcome (Journalist × JournalEntry)). after o (step_then count t w)) e),
    (
      sym (ap (λ (o : Outcome (Journalist × JournalEntry)). bytes_then o (step_table count t w) t) e),
      sym (ap (λ (o : Outcome (Journalist × JournalEntry)). bytes_then o (step_work count t w) w) e),
    ),
  )

  pub next_unpopped : (n : ℕ) → refuses n ≡ replay_journal_pop_call j s → Next j s count t w (refuses n) t w
  unfolding next_entry
  next_unpopped n e = unread n (rw (← e))

  module _ (k : Journalist) (popped : gives k ≡ replay_journal_pop_call j s) where
    pub next_untopped : (n : ℕ) → refuses n ≡ replay_journal_top_call j s → Next j s count t w (refuses n) t w
    unfolding next_entry
    next_untopped n e = unread n (rw (← popped, ← e))

    module _ (top : Top) (e : gives top ≡ replay_journal_top_call j s) where
      read : next_entry j s ≡ gives (k, entry_at_top s top)
      unfolding next_entry
      read = rw (← popped, ← e)

      pub next_step : (o : Outcome ℕ) (y z : List ℕ) → Step count t w (entry_at_top s top) o y z
          → Next j s count t w (into (replayed k) o) y z
      unfolding replay_next_call replay_next_table replay_next_work
      next_step o y z (a, (b, c)) = (
        ap (into (replayed k)) a
            ∙ sym (ap (λ (o : Outcome (Journalist × JournalEntry)). after o (step_then count t w)) read),
        (
          b ∙ sym (ap (λ (o : Outcome (Journalist × JournalEntry)). bytes_then o (step_table count t w) t) read),
          c ∙ sym (ap (λ (o : Outcome (Journalist × JournalEntry)). bytes_then o (step_work count t w) w) read),
        ),
      )
