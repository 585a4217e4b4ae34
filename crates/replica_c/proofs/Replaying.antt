-- The replay into the rows that a lent word counts: without that word, and with it. Assumes nothing.
use mathlib.Core.Path.{◌≡◌, refl, sym, ap, ◌∙◌}
use mathlib.Core.List.{List, [], ◌∷◌}
use Prim.Native.Nat.{ℕ, ◌≤◌, ◌<◌}
use native.Mathlib.Omega.{arith}
use lib.ListN.{length, get_or, set}
use Rattle.refusals.specs.Outcome.{Outcome, gives, refuses}
use Rattle.journalist.specs.declared.Journalist.{Journalist}
use Rattle.journalist.specs.Recovery.{replay_journal_pop_call}
use Rattle.replica.specs.declared.Replayed.{Replayed}
use Rattle.replica.specs.Replay.{next_entry, replay_next_call}
use Rattle.replica.proofs.Nexts.{pop_top}
use Rattle.replica_c.specs.Calls.{rows_after, replay_on, count_of}

module _ (j : Journalist) (s rows t w : List ℕ) where
  -- without: pop's number, and then 2
  pub unpopped : length rows < 1 → (n : ℕ) → refuses n ≡ replay_journal_pop_call j s
      → refuses n ≡ replay_on j s rows t w
  unfolding next_entry
  unpopped none n e = rw (← e)

  pub uncounted : length rows < 1 → (k : Journalist) → gives k ≡ replay_journal_pop_call j s
      → refuses 2 ≡ replay_on j s rows t w
  unfolding next_entry
  uncounted none k e = go rows none
    where
      go : (rows : List ℕ) → length rows < 1 → refuses 2 ≡ replay_on j s rows t w
      go [] h = rw (← e, pop_top j s k (sym e))
      go (n ∷ rest) h = absurd (omega arith)

  pub counted : 1 ≤ length rows → replay_next_call j s (get_or rows 0 0) t w ≡ replay_on j s rows t w
  unfolding replay_next_call
  counted some_word = go rows some_word
    where
      go : (rows : List ℕ) → 1 ≤ length rows → replay_next_call j s (get_or rows 0 0) t w ≡ replay_on j s rows t w
      go [] h = absurd (omega arith)
      go (n ∷ rest) h = refl

  -- the word stored
  pub stored : 1 ≤ length rows → (o : Outcome Replayed) (r : Replayed) → o ≡ replay_on j s rows t w → o ≡ gives r
      → set rows 0 r.rows ≡ rows_after rows (count_of (replay_on j s rows t w))
  stored some_word o r is e =
      go rows some_word ∙ ap (λ (p : Outcome Replayed). rows_after rows (count_of p)) (sym e ∙ is)
    where
      go : (rows : List ℕ) → 1 ≤ length rows → set rows 0 r.rows ≡ rows_after rows (gives r.rows)
      go [] h = absurd (omega arith)
      go (n ∷ rest) h = refl
