-- Replaying a list of entries is the fold of the map's steps, and joined lists are replayed one after the other.
-- Assumes nothing.
use mathlib.Core.Path.{◌≡◌, refl, sym, ap, ◌∙◌}
use mathlib.Core.Bool.{true}
use mathlib.Core.List.{List, [], ◌∷◌, ◌++◌}
use Prim.Native.Nat.{ℕ}
use Rattle.journal_entry.specs.Entry.{JournalEntry}
use Rattle.key_map.specs.Map.{Map, empty_map, step_map, replay_map}
use Rattle.table_rows.specs.Rows.{Row, lookup, ascending, stepped, replayed}
use Rattle.table_rows.proofs.Lookups.{step_does_map}
use Rattle.table_rows.proofs.Ascending.{Sorted, sorted, step_sorted}
use Rattle.table_rows.proofs.Canonical.{canonical}

-- the rows' map after a step is the map's step (as functions: key by key this is `step_map`)
pub step_maps : (rows : List Row) (e : JournalEntry) → lookup (stepped rows e) ≡ step_map (lookup rows) e
step_maps rows e = λ i k. step_does_map rows e k i

-- REPLAY
pub replay_maps : (es : List JournalEntry) (rows : List Row) → lookup (replayed rows es) ≡ replay_map (lookup rows) es
replay_maps [] rows = refl
replay_maps (e ∷ es) rows = replay_maps es (stepped rows e) ∙ ap (λ (m : Map). replay_map m es) (step_maps rows e)

pub replay_empty : (es : List JournalEntry) (k : List ℕ) → lookup (replayed [] es) k ≡ replay_map empty_map es k
replay_empty es k = ap (λ (m : Map). m k) (replay_maps es [])

-- two ranges replayed one after the other are their joined range replayed
pub replay_joined : (xs ys : List JournalEntry) (rows : List Row)
    → replayed rows (xs ++ ys) ≡ replayed (replayed rows xs) ys
replay_joined [] ys rows = refl
replay_joined (x ∷ xs) ys rows = replay_joined xs ys (stepped rows x)

pub replay_sorted : (es : List JournalEntry) (rows : List Row) → Sorted rows → Sorted (replayed rows es)
replay_sorted [] rows s = s
replay_sorted (e ∷ es) rows s = replay_sorted es (stepped rows e) (step_sorted rows e s)

-- entries that do the same to the map leave the same rows
pub replay_same : (xs ys : List JournalEntry) (rows : List Row) → ascending rows ≡ true
    → ((k : List ℕ) → replay_map (lookup rows) xs k ≡ replay_map (lookup rows) ys k)
    → replayed rows xs ≡ replayed rows ys
replay_same xs ys rows t agree =
    let s : Sorted rows = sorted rows t in
    canonical (replayed rows xs) (replayed rows ys) (replay_sorted xs rows s) (replay_sorted ys rows s)
    (λ k. ap (λ (m : Map). m k) (replay_maps xs rows) ∙ agree k ∙ sym (ap (λ (m : Map). m k) (replay_maps ys rows)))
