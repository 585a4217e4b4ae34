-- Freeze and thaw keep what holds between the calls of a history: no byte of the ring moves, and no entry changes its
-- place in the order. Assumes nothing.
use mathlib.Core.Path.{◌≡◌, refl, sym, ap, ap₂, ◌∙◌}
use mathlib.Core.List.{List, [], ◌∷◌, ◌++◌, append_assoc, append-nil}
use Rattle.std.specs.Prelude.{None}
use Prim.Native.Nat.{ℕ, ◌+◌, ◌-◌, ◌*◌, ◌≤◌}
use native.Mathlib.Omega.{arith}
use lib.ListN.{length, take, length-append}
use lib.Seq.{take_at}
use Rattle.refusals.specs.Outcome.{gives}
use Rattle.journal_entry.specs.Entry.{JournalEntry, sum_journal_entries, wires}
use Rattle.journal_entry.proofs.Reading.{sum_append, wires_append}
use Rattle.journalist.specs.declared.Last.{Last}
use Rattle.journalist.specs.Updates.{moved}
use Rattle.journalist.specs.Record.{blocks_for, thawed_record}
use Rattle.journalist.specs.Changes.{frozen_record}
use Rattle.journalist.specs.Calls.{freeze_call, thaw_call}
use Rattle.journalist.proofs.Kept.{frozen_hangs, thawed_hangs}
use Rattle.journalist.proofs.CallLaws.{thaw_taken}
use Rattle.history.specs.Lists.{freezing, thawing, last_moved}
use Rattle.history.specs.Calls.{leaves}
use Rattle.history.specs.History.{World, following, counts_of}
use Rattle.history.proofs.Counts.{counts_joined, counts_less, weight_of, freeze_same}
use Rattle.history.proofs.Invariant.{Invariant, after_call}
use Rattle.history.proofs.Steps.{sum}

module _ (n : ℕ) (w : World) (i : Invariant n w) where
  -- what a thaw would leave frozen after a freeze of these entries
  abbrev stays_behind : List JournalEntry → List JournalEntry
  stays_behind [] = i.stays
  stays_behind (e ∷ es) = w.lists.frozen

  stays_behind_lem : (es : List JournalEntry)
      → w.lists.frozen ++ es ≡ stays_behind es ++ (last_moved w.lists.last es).entries
  stays_behind_lem [] = append-nil w.lists.frozen ∙ i.frozen_split
  stays_behind_lem (e ∷ es) = refl

  freeze_holds : (es : List JournalEntry)
      → sum_journal_entries (last_moved w.lists.last es).entries ≤ 4064 * (last_moved w.lists.last es).blocks
  unfolding blocks_for
  freeze_holds [] = i.last_holds
  freeze_holds (e ∷ es) = omega arith

  frozen : Invariant n (following w freezing
      (leaves (gives (frozen_record w.journalist)) w.journalist w.ring None))
  unfolding frozen_record wires
  frozen =
      let a = i.after in
      let long : sum_journal_entries (w.lists.frozen ++ w.lists.memory) + 0 ≡ sum n w i =
      omega (arith, sum_append w.lists.frozen w.lists.memory) in
      record {
        after = record {
          images_whole = a.images_whole;
          written_within = a.written_within;
          images_read = a.images_read;
          frozen_counts = counts_joined w.journalist.frozen w.journalist.memory w.lists.frozen
              w.lists.memory a.frozen_counts a.memory_counts;
          memory_counts = refl;
          clones_pending = rw append-nil a.clones_pending;
          frozen_blocks = ap₂ ◌+◌ a.frozen_blocks
              (ap blocks_for (weight_of w.journalist.memory w.lists.memory a.memory_counts));
          written_blocks = a.written_blocks;
          last_freeze_lem = freeze_same w.journalist.memory w.journalist.last w.lists.memory w.lists.last
              a.memory_counts a.last_freeze_lem;
          ring_holds = rw (long, a.ring_holds, wires_append, append-nil);
          in_order = simp append-nil a.in_order;
        };
        blocks_are = i.blocks_are;
        hangs = frozen_hangs w.journalist i.hangs;
        ring_long = i.ring_long;
        appendable_lem = i.appendable_lem;
        stays = stays_behind w.lists.memory;
        frozen_split = stays_behind_lem w.lists.memory;
        last_holds = freeze_holds w.lists.memory;
      }

  pub after_freeze : Invariant n (following w freezing
      (leaves (freeze_call w.journalist) w.journalist w.ring None))
  unfolding freeze_call
  after_freeze = rw i.hangs frozen

  -- thaw: what the last freeze moved is in memory again
  abbrev moves : List JournalEntry
  moves = w.lists.last.entries

  stays_left : take (length w.lists.frozen - length moves) w.lists.frozen ≡ i.stays
  stays_left =
      let long : length i.stays ≡ length (i.stays ++ moves) - length moves =
      omega (arith, length-append i.stays moves) in
      rw i.frozen_split (take_at i.stays moves (length (i.stays ++ moves) - length moves) long)

  -- in the same order
  order : i.stays ++ (moves ++ w.lists.memory) ≡ w.lists.frozen ++ w.lists.memory
  order =
      sym (append_assoc i.stays moves w.lists.memory)
      ∙ ap (λ (x : List JournalEntry). x ++ w.lists.memory) (sym i.frozen_split)

  thawed : Invariant n (following w thawing
      (leaves (gives (thawed_record w.journalist)) w.journalist w.ring None))
  thawed =
      let a = i.after in
      let j = w.journalist in
      let m = w.lists.memory in
      let in-frozen : j.frozen ≡ counts_of (i.stays ++ moves) = a.frozen_counts ∙ ap counts_of i.frozen_split in
      let in-last : moved j.last ≡ counts_of moves = ap moved a.last_freeze_lem in
      let long : sum_journal_entries i.stays + sum_journal_entries (moves ++ m) ≡ sum n w i =
      omega (arith, sum_append moves m, sum_append i.stays moves, ap sum_journal_entries i.frozen_split) in
      let forms : wires i.stays ++ wires (moves ++ m) ≡ wires w.lists.frozen ++ wires m =
      sym (wires_append i.stays (moves ++ m)) ∙ ap wires order ∙ wires_append w.lists.frozen m in
      record {
        after = record {
          images_whole = a.images_whole;
          written_within = a.written_within;
          images_read = a.images_read;
          frozen_counts =
              rw stays_left (counts_less j.frozen (moved j.last) i.stays moves in-frozen in-last);
          memory_counts = counts_joined (moved j.last) j.memory moves m in-last a.memory_counts;
          clones_pending = rw (stays_left, order) a.clones_pending;
          frozen_blocks = ap₂ ◌-◌ a.frozen_blocks (ap (λ (l : Last). l.blocks) a.last_freeze_lem);
          written_blocks = a.written_blocks;
          last_freeze_lem = refl;
          ring_holds = rw (stays_left, long, forms) a.ring_holds;
          in_order = rw (stays_left, order) a.in_order;
        };
        blocks_are = i.blocks_are;
        hangs = thawed_hangs j i.hangs;
        ring_long = i.ring_long;
        appendable_lem = i.appendable_lem;
        stays = i.stays;
        frozen_split = rw (stays_left, append-nil) refl;
        last_holds = omega arith;
      }

  pub after_thaw : Invariant n (following w thawing (leaves (thaw_call w.journalist) w.journalist w.ring None))
  after_thaw =
      after_call n w i thawing (thaw_call w.journalist) λ j h.
      let (t, is) = thaw_taken w.journalist j h in
      rw (← is) thawed
