-- The history rule holds of every list of calls. Assumes nothing.
use mathlib.Core.Path.{◌≡◌, sym, ◌∙◌}
use mathlib.Core.Bool.{true, false}
use mathlib.Core.List.{List, [], ◌∷◌}
use Rattle.std.specs.Prelude.{Some}
use Prim.Native.Nat.{ℕ}
use lib.ListN.{length, take}
use Rattle.refusals.specs.Outcome.{gives, refuses}
use Rattle.refusals.proofs.Tests.{impossible}
use Rattle.journal_entry.specs.Entry.{AllAppendable}
use Rattle.journalist.specs.declared.Journalist.{Journalist}
use Rattle.journalist.specs.Calls.{open_call, thaw_call}
use Rattle.journalist.specs.Record.{hangs_together}
use Rattle.journalist.specs.Package.{frozen_read, memory_read, ring_reads}
use Rattle.journalist.proofs.CallLaws.{thaw_exactly}
use Rattle.journalist.proofs.HeldInRing.{frozen_reads, memory_reads, never_15}
use Rattle.history.specs.Calls.{Call, append, freeze, thaw, package_frozen_journal, package_in_memory_journal}
use Rattle.history.specs.Calls.{set_written_journal_len, update_written_journal_len, set_front, set_back}
use Rattle.history.specs.Calls.{parse_journals}
use Rattle.history.specs.Calls.{replay_journal_top, replay_journal_pop, query, told_of, step}
use Rattle.history.specs.History.{World, opened, following, run, History}
use Rattle.history.proofs.Invariant.{Invariant, lists_appendable, at_opening}
use Rattle.history.proofs.Steps.{after_append, after_set, after_update}
use Rattle.history.proofs.Freezing.{after_freeze, after_thaw}
use Rattle.history.proofs.Packaging.{in_ring, after_package_frozen, after_package_in_memory}
use Rattle.history.proofs.Others.{after_query, after_top, after_pop, after_front, after_back, after_load}

after_step : (n : ℕ) (w : World) → Invariant n w → (c : Call)
    → Invariant n (following w (told_of c) (step c w.journalist w.ring))
after_step n w i (append e) = after_append n w i e
after_step n w i freeze = after_freeze n w i
after_step n w i thaw = after_thaw n w i
after_step n w i (package_frozen_journal out) = after_package_frozen n w i out
after_step n w i (package_in_memory_journal out) = after_package_in_memory n w i out
after_step n w i (set_written_journal_len len) = after_set n w i len
after_step n w i (update_written_journal_len len) = after_update n w i len
after_step n w i (set_front payload front) = after_front n w i payload front
after_step n w i (set_back payload back) = after_back n w i payload back
after_step n w i (parse_journals front back replay) = after_load n w i front back replay
after_step n w i (replay_journal_top replay) = after_top n w i replay
after_step n w i (replay_journal_pop replay) = after_pop n w i replay
after_step n w i (query q) = after_query n w i q

after_run : (n : ℕ) (w : World) (cs : List Call) → Invariant n w → Invariant n (run w cs)
unfolding run
after_run n w [] i = i
after_run n w (c ∷ cs) i =
    after_run n (following w (told_of c) (step c w.journalist w.ring)) cs (after_step n w i c)

from_opening : (n r : ℕ) (j : Journalist) (ring : List ℕ) (cs : List Call) → open_call n r ≡ gives j
    → length ring ≡ r → Invariant n (run (opened j ring) cs)
from_opening n r j ring cs o long = after_run n (opened j ring) cs (at_opening n r j ring o long)

-- THE HISTORY RULE
pub history : History
history n r j ring cs o long =
    record {
      afterwards = (from_opening n r j ring cs o long).after;
      never_past = λ k. (from_opening n r j ring (take k cs) o long).after.written_within;
    }

-- Beside the rule: in a history no call is refused with 2 for the record or the ring, nor with 15. (The rule alone
-- would hold of a `hangs_together` that refused every record.)
pub record InOrder (w : World) : Type 0 where
  pub hangs : hangs_together w.journalist ≡ true
  pub ring_long : length w.ring ≡ w.journalist.ring
  pub frozen_reads_as : frozen_read w.journalist w.ring ≡ Some w.lists.frozen
  pub memory_reads_as : memory_read w.journalist w.ring ≡ Some w.lists.memory
  pub ring_reads_lem : ring_reads w.journalist w.ring ≡ true

pub in_order : (n r : ℕ) (j : Journalist) (ring : List ℕ) (cs : List Call) → open_call n r ≡ gives j → length ring ≡ r
    → InOrder (run (opened j ring) cs)
in_order n r j ring cs o long =
    record {
      hangs = i.hangs;
      ring_long = i.ring_long;
      frozen_reads_as = frozen_reads w.journalist w.ring w.lists.frozen w.lists.memory (in_ring n w i);
      memory_reads_as = memory_reads w.journalist w.ring w.lists.frozen w.lists.memory (in_ring n w i);
      ring_reads_lem = never_15 w.journalist w.ring w.lists.frozen w.lists.memory (in_ring n w i);
    }
  where
    w : World
    w = run (opened j ring) cs

    i : Invariant n w
    i = from_opening n r j ring cs o long

-- "The two weights join with one header of 8, so the region always suffices" (document 02, paper 2): in a history thaw
-- gives its result or 17, never 2.
pub thaw_never_2 : (w : World) → InOrder w → thaw_call w.journalist ≡ refuses 2 → ⊥
thaw_never_2 w o e =
    let h : true ≡ false = sym o.hangs ∙ (thaw_exactly w.journalist).refused_told 2 e in impossible (cc)

-- Since append refuses any other (document 02, paper 8), in a history every entry of out, frozen and memory is
-- appendable.
pub record OnlyAppendable (w : World) : Type 0 where
  pub in_out : AllAppendable w.lists.out
  pub in_frozen : AllAppendable w.lists.frozen
  pub in_memory : AllAppendable w.lists.memory

pub only_appendable : (n r : ℕ) (j : Journalist) (ring : List ℕ) (cs : List Call) → open_call n r ≡ gives j
    → length ring ≡ r → OnlyAppendable (run (opened j ring) cs)
only_appendable n r j ring cs o long =
    let (out, (frozen, memory)) = lists_appendable n _ (from_opening n r j ring cs o long) in
    record { in_out = out; in_frozen = frozen; in_memory = memory }
