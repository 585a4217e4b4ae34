-- What lies on the card after any number of lives is replayed as the entries that it stands for: life by life, by
-- joining. Assumes nothing.
use mathlib.Core.Path.{◌≡◌, refl, sym, ap, ◌∙◌}
use mathlib.Core.List.{List, [], ◌++◌}
use Rattle.std.specs.Prelude.{Some}
use Rattle.std.proofs.lemmas.List.{append_cancel_left}
use Prim.Native.Nat.{ℕ, zero, suc, ◌+◌, ◌%◌}
use native.Mathlib.Omega.{arith}
use lib.ListN.{length, length-append}
use Rattle.journal_entry.specs.Entry.{JournalEntry}
use Rattle.journal_range.specs.Payload.{parse_payload}
use Rattle.journal_range.proofs.Payload.{parse_payload_nil, joining_payload}
use Rattle.journal_range.proofs.Behind.{reads_behind}
use Rattle.history.specs.History.{payloads}
use Rattle.history.specs.Crash.{Replays}
use Rattle.history.specs.Lives.{Life, Lives, LivesRule}
use Rattle.history.proofs.Crash.{replays, entries_read}

-- one life more
after_life : (payload : List ℕ) (es : List JournalEntry) (payload' : List ℕ) (es' : List JournalEntry)
    → Replays payload es → Life payload es payload' es' → Replays payload' es'
after_life payload es payload' es' h l =
    let whole : length l.dropped + length l.left ≡ length payload =
    sym (length-append l.dropped l.left) ∙ ap length l.in_two in
    let blocks = h.whole in
    let at = l.at_a_block in
    let rest : length l.left % 4064 ≡ 0 = omega arith in
    reads_behind l.dropped l.left l.gone es at rest l.dropped_reads
    (ap parse_payload l.in_two ∙ h.reads) λ gs left-reads both.
    let stay : gs ≡ l.stay = append_cancel_left l.gone gs l.stay (both ∙ sym l.lists_in_two) in
    let (kept_blocks, kept_reads) =
    entries_read l.n l.r l.journalist l.ring l.opens l.ring_long l.calls l.earlier
    l.kept l.entries l.entries_of_lem in
    let all : length (l.left ++ payloads l.kept) % 4064 ≡ 0 = rw length-append (omega arith) in
    let reads = joining_payload l.left (payloads l.kept) l.stay l.entries rest kept_blocks
    (left-reads ∙ ap Some stay) kept_reads in
    rw (← l.payload_after, ← l.entries_after)
    (replays (l.left ++ payloads l.kept) (l.stay ++ l.entries) all reads)

-- ANY NUMBER OF LIVES
pub lives : LivesRule
unfolding Lives
lives zero payload es h = rw (h.0, h.1) (replays [] [] refl parse_payload_nil)
lives (suc k) payload es h =
    after_life h.before h.old payload es (lives k h.before h.old h.lived_before) h.life
