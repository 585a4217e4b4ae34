-- Pending entries read as themselves: any lists within the limits whose wire forms the ring holds, also with inserts
-- without first bytes, which append once took (document 02, paper 8). So no packaging gives 15 over them, and each
-- hands out the image of its list. Assumes nothing.
use mathlib.Core.Path.{◌≡◌, refl, sym, ◌∙◌}
use mathlib.Core.Bool.{true}
use mathlib.Core.List.{List, ◌++◌}
use Rattle.std.specs.Prelude.{Some}
use Prim.Native.Nat.{ℕ, ◌+◌, ◌-◌, ◌*◌, ◌≤◌}
use native.Mathlib.Nat.{sub-zero}
use native.Mathlib.Omega.{arith}
use borrow.Author.Tests.{eq-eqb}
use lib.ListN.{length, take, drop}
use lib.Seq.{take_at, drop_at}
use Rattle.refusals.specs.Outcome.{gives}
use Rattle.words.proofs.Slices.{drop_take}
use Rattle.journal_entry.specs.Entry.{JournalEntry, AllWithin, clones_of, sum_journal_entries, wires}
use Rattle.journal_entry.proofs.Reading.{length_wires, read_exactly_wires}
use Rattle.journal_entry.proofs.Walks.{clones_append}
use Rattle.journal_ring.specs.Ring.{rotated, cyclic_slice}
use Rattle.journal_ring.proofs.RingLaws.{take_front}
use Rattle.marshalling.specs.Marshall.{marshall_journal_entries}
use Rattle.journalist.specs.declared.Journalist.{Journalist}
use Rattle.journalist.specs.Append.{ring_hangs}
use Rattle.journalist.specs.Changes.{memory_blocks, packaged_frozen_record, packaged_in_memory_record}
use Rattle.journalist.specs.Package.{frozen_read, memory_read, frozen_clones, memory_clones, ring_reads, packaged}
use Rattle.journalist.specs.Package.{package_frozen_journal_call, frozen_image}
use Rattle.journalist.specs.Package.{package_in_memory_journal_call, memory_image}
use Rattle.journalist.proofs.Facts.{ring_told, ring_counts}
use Rattle.journalist.proofs.PackageLaws.{frozen_gives, memory_gives}

-- the record counts these two lists, and the ring holds them from start on
pub record HeldInRing (j : Journalist) (ring : List ℕ) (frozen memory : List JournalEntry) : Type 0 where
  pub hangs : ring_hangs j ring ≡ true
  pub frozen_within : AllWithin frozen
  pub memory_within : AllWithin memory
  pub frozen_entries : j.frozen.entries ≡ length frozen
  pub frozen_bytes : j.frozen.bytes ≡ sum_journal_entries frozen
  pub memory_entries : j.memory.entries ≡ length memory
  pub memory_bytes : j.memory.bytes ≡ sum_journal_entries memory
  pub clones_are : j.clones ≡ clones_of (frozen ++ memory)
  pub forms : cyclic_slice ring j.start (sum_journal_entries frozen + sum_journal_entries memory)
      ≡ wires frozen ++ wires memory

module _ (j : Journalist) (ring : List ℕ) (frozen memory : List JournalEntry)
    (h : HeldInRing j ring frozen memory) where
  pub starts : j.start ≤ length ring - 1
  starts = let k = ring_counts j ring h.hangs in omega (arith, (ring_told j ring h.hangs).1)

  pub fits : sum_journal_entries frozen + sum_journal_entries memory ≤ length ring
  fits =
      let k = ring_counts j ring h.hangs in
      omega (arith, (ring_told j ring h.hangs).1, h.frozen_bytes, h.memory_bytes)

  frozen_held : cyclic_slice ring j.start (sum_journal_entries frozen) ≡ wires frozen
  frozen_held =
      take_front ring j.start (sum_journal_entries frozen) (sum_journal_entries memory) starts fits
      ∙ rw h.forms (take_at (wires frozen) (wires memory) (sum_journal_entries frozen) (length_wires frozen))

  pub frozen_reads : frozen_read j ring ≡ Some frozen
  unfolding frozen_read cyclic_slice
  frozen_reads =
      let held : take (sum_journal_entries frozen) (rotated ring j.start) ≡ wires frozen = frozen_held in
      rw (h.frozen_bytes, sub-zero, held, h.frozen_entries) (read_exactly_wires frozen h.frozen_within)

  pub memory_reads : memory_read j ring ≡ Some memory
  unfolding memory_read cyclic_slice
  memory_reads =
      let f = sum_journal_entries frozen in
      let m = sum_journal_entries memory in
      let holds : take (f + m) (rotated ring j.start) ≡ wires frozen ++ wires memory = h.forms in
      let held : take (f + m - f) (drop f (rotated ring j.start)) ≡ wires memory =
      sym (drop_take f (f + m) (rotated ring j.start))
      ∙ rw holds (drop_at (wires frozen) (wires memory) f (length_wires frozen)) in
      rw (h.frozen_bytes, h.memory_bytes, held, h.memory_entries) (read_exactly_wires memory h.memory_within)

  -- the clones that the ring was read to have
  pub frozen_clones_lem : frozen_clones j ring ≡ clones_of frozen
  frozen_clones_lem = rw frozen_reads refl

  pub memory_clones_lem : memory_clones j ring ≡ clones_of memory
  memory_clones_lem = rw memory_reads refl

  -- so 15 is never given
  pub never_15 : ring_reads j ring ≡ true
  never_15 =
      let total : clones_of frozen + clones_of memory ≡ j.clones =
      sym (h.clones_are ∙ clones_append frozen memory) in
      rw (frozen_reads, memory_reads, eq-eqb (clones_of frozen + clones_of memory) j.clones total) refl

  -- "Ones already pending are packaged": each list as its own image, where it has entries and the output has room
  pub frozen_goes_out : (out : List ℕ) → (j.frozen.entries ≡ 0 → ⊥) → 4096 * j.held ≤ length out
      → (package_frozen_journal_call j ring out
      ≡ gives (packaged (packaged_frozen_record j (clones_of frozen)) j.held))
      × (frozen_image j ring ≡ marshall_journal_entries frozen j.held)
  unfolding frozen_image
  frozen_goes_out out some room = (
    rw (← frozen_clones_lem)
        (frozen_gives j ring out (record { hangs = h.hangs; some_entries = some; read = never_15; room = room })),
    rw frozen_reads refl,
  )

  pub memory_goes_out : (out : List ℕ) → j.frozen.entries ≡ 0 → (j.memory.entries ≡ 0 → ⊥)
      → 4096 * memory_blocks j ≤ length out
      → (package_in_memory_journal_call j ring out
      ≡ gives (packaged (packaged_in_memory_record j (clones_of memory)) (memory_blocks j)))
      × (memory_image j ring ≡ marshall_journal_entries memory (memory_blocks j))
  unfolding memory_image
  memory_goes_out out none some room = (
    rw (← memory_clones_lem)
        (memory_gives j ring out
        (record { hangs = h.hangs; no_frozen = none; some_entries = some; read = never_15; room = room })),
    rw memory_reads refl,
  )
