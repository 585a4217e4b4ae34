-- The calls on front, back and replay, and the queries, keep what holds between the calls of a history. Assumes
-- nothing.
use mathlib.Core.Path.{◌≡◌, refl}
use mathlib.Core.List.{List}
use Rattle.std.specs.Prelude.{None}
use Prim.Native.Nat.{ℕ}
use Rattle.refusals.specs.Outcome.{Outcome, gives, refuses, refuses_block}
use Rattle.journalist.specs.declared.Journalist.{Journalist}
use Rattle.journalist.specs.Changes.{loaded_record}
use Rattle.journalist.specs.Calls.{query_call}
use Rattle.journalist.specs.Recovery.{set_front_call, set_back_call, parse_journals_call, replay_journal_top_call}
use Rattle.journalist.specs.Recovery.{replay_journal_pop_call}
use Rattle.journalist.proofs.RecoveryLaws.{front_taken, front_hangs, back_taken, back_hangs, load_taken, loaded_hangs}
use Rattle.journalist.proofs.Replaying.{pop_exactly, popped_record_hangs}
use Rattle.history.specs.Lists.{another}
use Rattle.history.specs.Calls.{Query, frozen_query, in_memory_query, written_query, replay_query, front_query}
use Rattle.history.specs.Calls.{back_query, clones_query, leaves, keeping, asked}
use Rattle.history.specs.History.{World, following}
use Rattle.history.proofs.Invariant.{Invariant, Recovered, after_other}

module _ (n : ℕ) (w : World) (i : Invariant n w) where
  abbrev j : Journalist
  j = w.journalist

  -- the record as it was
  same : Recovered n w i j
  same = record { replay = j.replay; front = j.front; back = j.back; is = refl; hangs = i.hangs }

  -- a call that answers something else than a record
  keeps : {A : Type 0} (o : Outcome A) → Invariant n (following w another (leaves (keeping j o) j w.ring None))
  keeps (gives a) = after_other n w i (gives j) (λ k e. answered k e)
    where
      answered : (k : Journalist) → gives j ≡ gives k → Recovered n w i k
      answered k e = let q : j ≡ k = cc in rw (← q) same
  keeps (refuses number) = i
  keeps (refuses_block number block) = i

  pub after_query : (q : Query) → Invariant n (following w another (leaves (asked q j) j w.ring None))
  after_query frozen_query = keeps (query_call j _)
  after_query in_memory_query = keeps (query_call j _)
  after_query written_query = keeps (query_call j _)
  after_query replay_query = keeps (query_call j _)
  after_query front_query = keeps (query_call j _)
  after_query back_query = keeps (query_call j _)
  after_query clones_query = keeps (query_call j _)

  pub after_top : (replay : List ℕ)
      → Invariant n (following w another (leaves (keeping j (replay_journal_top_call j replay)) j w.ring None))
  after_top replay = keeps (replay_journal_top_call j replay)

  front_set : (payload front : List ℕ) (k : Journalist) → set_front_call j payload front ≡ gives k → Recovered n w i k
  front_set payload front k e =
      record {
        replay = _;
        front = _;
        back = _;
        is = (front_taken j payload front k e).1;
        hangs = front_hangs j payload front k e;
      }

  pub after_front : (payload front : List ℕ)
      → Invariant n (following w another (leaves (set_front_call j payload front) j w.ring None))
  after_front payload front = after_other n w i (set_front_call j payload front) (front_set payload front)

  back_set : (payload back : List ℕ) (k : Journalist) → set_back_call j payload back ≡ gives k → Recovered n w i k
  back_set payload back k e =
      record {
        replay = _;
        front = _;
        back = _;
        is = (back_taken j payload back k e).1;
        hangs = back_hangs j payload back k e;
      }

  pub after_back : (payload back : List ℕ)
      → Invariant n (following w another (leaves (set_back_call j payload back) j w.ring None))
  after_back payload back = after_other n w i (set_back_call j payload back) (back_set payload back)

  loaded : (front back replay : List ℕ) (k : Journalist) → parse_journals_call j front back replay ≡ gives k
      → Recovered n w i k
  unfolding loaded_record
  loaded front back replay k e =
      record {
        replay = _;
        front = _;
        back = _;
        is = (load_taken j front back replay k e).1;
        hangs = loaded_hangs j front back replay k e;
      }

  pub after_load : (front back replay : List ℕ)
      → Invariant n (following w another (leaves (parse_journals_call j front back replay) j w.ring None))
  after_load front back replay = after_other n w i (parse_journals_call j front back replay) (loaded front back replay)

  popped : (replay : List ℕ) (k : Journalist) → replay_journal_pop_call j replay ≡ gives k → Recovered n w i k
  popped replay k e =
      record {
        replay = _;
        front = _;
        back = _;
        is = ((pop_exactly j replay).given_told k e).1;
        hangs = popped_record_hangs j replay k e;
      }

  pub after_pop : (replay : List ℕ)
      → Invariant n (following w another (leaves (replay_journal_pop_call j replay) j w.ring None))
  after_pop replay = after_other n w i (replay_journal_pop_call j replay) (popped replay)
