-- What an append takes of entries: the test and its facts, and that it is within the limits. Document 02, paper 8.
-- Assumes nothing.
use mathlib.Core.Path.{◌≡◌, refl}
use mathlib.Core.Bool.{true, and-eq-true_iff}
use mathlib.Core.List.{List}
use Rattle.words.proofs.All.{all_map}
use Rattle.journal_entry.specs.Entry.{JournalEntry, value_limit, within_limits, Within, AllWithin, has_key, appendable}
use Rattle.journal_entry.specs.Entry.{Appendable, AllAppendable}
use Rattle.journal_entry.proofs.Steps.{within_true, within_told}

pub appendable_true : (e : JournalEntry) → Appendable e → appendable e ≡ true
unfolding appendable
appendable_true e a = rw (within_true value_limit e a.within, a.keyed) refl

pub appendable_told : (e : JournalEntry) → appendable e ≡ true → Appendable e
unfolding appendable
appendable_told e t = let (limits, keyed) = (and-eq-true_iff (within_limits e) (has_key e)).0 t in
    record { within = within_told value_limit e limits; keyed = keyed }

pub within_all : (es : List JournalEntry) → AllAppendable es → AllWithin es
within_all es = all_map Appendable Within (λ e a. a.within) es
