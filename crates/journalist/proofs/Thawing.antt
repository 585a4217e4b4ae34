-- What a thaw takes back: document 02, paper 2. Appends in between stay behind by `append_stays_behind` (AppendLaws).
-- Assumes nothing.
use Rattle.std.specs.Prelude.{None}
use mathlib.Core.Path.{◌≡◌, refl, sym, ap, ◌∙◌}
use mathlib.Core.Bool.{true, false}
use mathlib.Core.List.{[], ◌∷◌}
use borrow.Author.Tests.{ne_eqb}
use Rattle.refusals.specs.Outcome.{gives}
use Rattle.journal_entry.specs.Entry.{JournalEntry, journal_insert}
use Rattle.replay_cursor.specs.Cursor.{counts_hang}
use Rattle.journalist.specs.declared.Last.{Last}
use Rattle.journalist.specs.declared.Journalist.{Journalist}
use Rattle.journalist.specs.Updates.{no_freeze, with_last}
use Rattle.journalist.specs.Record.{in_range, start_hangs, region_hangs, side_hangs, list_weight, base_hangs}
use Rattle.journalist.specs.Record.{last_hangs}
use Rattle.journalist.specs.Record.{thawed_record, hangs_together}
use Rattle.journalist.specs.Changes.{moved_all, last_freeze, frozen_record, appended_record}
use Rattle.journalist.specs.Calls.{thaw_call}
use Rattle.journalist.specs.Append.{can_append, ring_takes}
use Rattle.journalist.proofs.Kept.{moved_back, frozen_hangs}
use Rattle.journalist.proofs.CallLaws.{thaw_gives}

module _ (j : Journalist) (some : j.memory.entries ≡ 0 → ⊥) where
  moved_last : last_freeze j ≡ moved_all j
  moved_last = rw (ne_eqb _ _ some) refl

  -- "Straight after such a freeze, thaw restores the pending lists, counts and blocks of before it." (An earlier freeze
  -- that was remembered then is not remembered again.)
  pub thaw_restores : thawed_record (frozen_record j) ≡ with_last j no_freeze
  unfolding frozen_record
  thaw_restores = rw moved_last (sym (moved_back j))

  remembered : (frozen_record j).last.entries ≡ 0 → ⊥
  unfolding frozen_record
  remembered z = some (sym (ap (λ (l : Last). l.entries) moved_last) ∙ z)

  pub thaw_after_freeze : hangs_together j ≡ true → thaw_call (frozen_record j) ≡ gives (with_last j no_freeze)
  thaw_after_freeze h =
      thaw_gives (frozen_record j) (record { hangs = frozen_hangs j h; remembered = remembered })
      ∙ ap gives thaw_restores

-- "the last freeze that moved any": a freeze of no entries changes nothing that is remembered
pub freeze_of_none : (j : Journalist) → j.memory.entries ≡ 0 → (frozen_record j).last ≡ j.last
unfolding frozen_record
freeze_of_none j z = rw z refl

-- The premise of `appended_hangs` is needed: here counts hang together, with 16 bytes remembered and no blocks for
-- them. The rows take an entry of weight 16, and after it the counts would not hang together after a thaw.
abbrev crowded : Journalist
crowded =
    record {
      blocks = 2;
      ring = 8192;
      start = 0;
      frozen = record { entries = 1; bytes = 16 };
      memory = record { entries = 4; bytes = 4032 };
      last = record { entries = 1; bytes = 16; blocks = 0 };
      clones = 0;
      written = 0;
      held = 1;
      replay = record { place = 0; bytes = 0; entries = 0 };
      front = None;
      back = None;
    }

abbrev sixteen : JournalEntry
sixteen = journal_insert (1 ∷ 2 ∷ 3 ∷ 4 ∷ []) (5 ∷ 6 ∷ 7 ∷ 8 ∷ [])

pub premise_needed : (hangs_together crowded ≡ true) × (can_append crowded sixteen ≡ true)
    × (ring_takes crowded sixteen ≡ true) × (hangs_together (appended_record crowded sixteen) ≡ false)
unfolding hangs_together base_hangs last_hangs in_range start_hangs region_hangs side_hangs counts_hang list_weight
    can_append
    ring_takes appended_record
premise_needed = (refl, refl, refl, refl)
