-- The text of an image, by its length and by what strip answered. Assumes nothing.
use mathlib.Core.Path.{◌≡◌, refl, sym, ap, ap₂, ◌∙◌}
use mathlib.Core.Bool.{Bool, true, false, and-false}
use Rattle.std.specs.Prelude.{Option, None, Some}
use mathlib.Core.List.{List}
use Prim.Native.Nat.{ℕ, ◌+◌, ◌-◌, ◌*◌, ◌/◌, ◌%◌, ◌≤◌, ◌<◌}
use native.Mathlib.Omega.{arith}
use borrow.Author.Tests.{le-leb, lt-leb, le-ltb}
use lib.Dec.{eqb}
use lib.ListN.{length, take, drop, length-append}
use lib.Seq.{take_at}
use Rattle.refusals.proofs.Tests.{impossible}
use Rattle.refusals.specs.Outcome.{Outcome, gives, refuses, refuses_block}
use Rattle.journal_entry.specs.Entry.{JournalEntry, sum_journal_entries}
use Rattle.journal_entry.proofs.Options.{provided_parts}
use Rattle.journal_range.specs.Payload.{parse_payload, range_of}
use Rattle.journal_range.proofs.Bounds.{payload_weighs}
use Rattle.journal_image.specs.Image.{without_checksums}
use Rattle.journal_image.specs.Strip.{strip_call, stripped_output}
use Rattle.journal_image.proofs.Outcomes.{given_told, output_of_lem}
use Rattle.journal_image.proofs.Payloads.{length_without}
use Rattle.listing.specs.Text.{refused_text}
use Rattle.listing.specs.Listing.{written, listed_refusal}
use Rattle.std.specs.Prelude.{Result, Ok, Err, cond}
use Rattle.refusals.specs.declared.Refusal.{Refusal}
use Rattle.refusals.specs.declared.Refusal.TheVariants.{OutputTooShort}
use Rattle.refusals.specs.declared.ImageRefusal.{ImageRefusal}
use Rattle.refusals.specs.declared.ImageRefusal.TheVariants.{ChecksumDiffers, Plain}
use Rattle.refusals.specs.Refusals.{number_of}
use Rattle.refusals.specs.Answers.{image_outcome_of}
use Rattle.lister.specs.Lister.{image_number_of, and_then, stripped, unless_unreadable, image_entries, outcome_text}
use Rattle.lister.specs.Lister.{listing}
use Rattle.lister.specs.Lister.{listed_range, listed_payload, listed_image, room_suffices}

-- ---- lent buffers that are too short

pub payload_short : (image : List ℕ) (payload replay : ℕ) (text : List ℕ) → payload < 60960
    → (Err OutputTooShort, text) ≡ listed_image image payload replay text
unfolding listed_image
payload_short image payload replay text h = simp (lt-leb 60960 payload h)

pub replay_short : (image : List ℕ) (payload replay : ℕ) (text : List ℕ) → replay < 60960
    → (Err OutputTooShort, text) ≡ listed_image image payload replay text
unfolding listed_image
replay_short image payload replay text h = simp (lt-leb 60960 replay h, and-false)

pub text_short : (image : List ℕ) (payload replay : ℕ) (text : List ℕ) → length text < 121952
    → (Err OutputTooShort, text) ≡ listed_image image payload replay text
unfolding listed_image
text_short image payload replay text h = simp (lt-leb 121952 (length text) h, and-false)

pub ruleset too_short = (payload_short, replay_short, text_short)

-- ---- what was put lies in the text

pub listed_within : (image : List ℕ) (payload replay : ℕ) (text after : List ℕ) (answer : Result ℕ Refusal) (n : ℕ)
    → (answer, after) ≡ listed_image image payload replay text → length after ≡ length text → answer ≡ Ok n
    → n ≤ length text
unfolding listed_image
listed_within image payload replay text after answer n e long is = go (room_suffices payload replay (length text)) e
  where
    go : (t : Bool) → (answer, after) ≡ cond t (written (listing image) text) (Err OutputTooShort, text)
        → n ≤ length text
    go true f =
        let x = listing image in
        let end : Ok n ≡ Ok (length x) = sym is ∙ ap (λ (p : Result ℕ Refusal × List ℕ). p.0) f in
        let here : n ≡ length x = cc in
        omega (
          arith,
          long,
          here,
          ap (λ (p : Result ℕ Refusal × List ℕ). length p.1) f,
          length-append x (drop (length x) text),
        )
    go false f =
        let clash : Ok n ≡ Err OutputTooShort = sym is ∙ ap (λ (p : Result ℕ Refusal × List ℕ). p.0) f in
        impossible cc

-- ---- and where they suffice

pub record Room (payload replay : ℕ) (text : List ℕ) : Type 0 where
  pub of_payload : 60960 ≤ payload
  pub of_replay : 60960 ≤ replay
  pub of_text : 121952 ≤ length text

module _ (image : List ℕ) (payload replay : ℕ) (text : List ℕ) (room : Room payload replay text) where
  -- what the definition comes to then
  suffices : (o : Outcome (List JournalEntry)) → image_entries image ≡ o
      → written (outcome_text o) text ≡ listed_image image payload replay text
  unfolding listed_image listing
  suffices o e =
      simp (
        le-leb 60960 payload room.of_payload,
        le-leb 60960 replay room.of_replay,
        le-leb 121952 (length text) room.of_text,
      )
      (ap (λ (p : Outcome (List JournalEntry)). written (outcome_text p) text) (sym e))

  refusal : (number : ℕ) → listed_refusal number text ≡ written (refused_text number) text
  unfolding listed_refusal
  refusal number = let enough : 32 ≤ length text = omega (arith, room.of_text) in simp (le-ltb (length text) 32 enough)

  -- a refusal's number, from a strip that refused
  refused_with : (number : ℕ) (o : Outcome (List JournalEntry)) (x : Result ℕ Refusal × List ℕ)
      → image_entries image ≡ o
      → outcome_text o ≡ refused_text number
      → x ≡ listed_refusal number text → x ≡ listed_image image payload replay text
  refused_with number o x e is told =
      told ∙ refusal number ∙ ap (λ (t : List ℕ). written t text) (sym is) ∙ suffices o e

  pub too_long : (number : ℕ) (x : Result ℕ Refusal × List ℕ) → 61440 < length image → number ≡ 13
      → x ≡ listed_refusal number text
      → x ≡ listed_image image payload replay text
  unfolding image_entries
  too_long number x h n told =
      let e : image_entries image ≡ refuses 13 = simp (lt-leb (length image) 61440 h) in
      refused_with number (refuses 13) x e (ap refused_text (sym n)) told

  module _ (short : length image ≤ 61440) (out : List ℕ) (long : length out ≡ payload) where
    -- 9 cannot occur: there is room for fifteen blocks
    strips : strip_call image out ≡ stripped image
    unfolding strip_call stripped
    strips =
        let enough : 4064 * (length image / 4096) ≤ length out = omega (arith, room.of_payload) in
        simp (le-leb (4064 * (length image / 4096)) (length out) enough)

    entries : (o : Outcome ℕ) → strip_call image out ≡ o
        → image_entries image ≡ and_then o (λ blocks. unless_unreadable (range_of (without_checksums blocks image)))
    unfolding image_entries
    entries o e =
        simp (le-leb (length image) 61440 short)
        (ap (λ (p : Outcome ℕ). and_then p (λ blocks. unless_unreadable (range_of (without_checksums blocks image))))
        (sym strips ∙ e))

    pub strip_refused : (why : ImageRefusal) (number : ℕ) (x : Result ℕ Refusal × List ℕ)
        → strip_call image out ≡ image_outcome_of (Err why) → number ≡ image_number_of why
        → x ≡ listed_refusal number text → x ≡ listed_image image payload replay text
    strip_refused (ChecksumDiffers block) number x e is told =
        refused_with number (refuses_block 12 block) x (entries (refuses_block 12 block) e)
        (ap refused_text (sym is)) told
    strip_refused (Plain why) number x e is told =
        refused_with number (refuses (number_of why)) x (entries (refuses (number_of why)) e) (ap refused_text (sym is))
        told

    -- the text of a payload of at most fifteen blocks
    payload_written : (p : List ℕ) (o : Option (List JournalEntry)) → range_of p ≡ o → length p ≤ 60960
        → listed_range o replay text ≡ written (outcome_text (unless_unreadable o)) text
    unfolding range_of
    payload_written p None r h = refusal 14
    payload_written p (Some es) r h =
        let few : sum_journal_entries es ≤ length p =
        provided_parts (eqb (length p % 4064) 0) (parse_payload p) es r λ whole e. payload_weighs p es e in
        let fits : sum_journal_entries es ≤ replay = omega (arith, room.of_replay) in
        let enough : 2 * sum_journal_entries es + 32 ≤ length text = omega (arith, room.of_text) in
        simp (
          le-leb (sum_journal_entries es) replay fits,
          le-ltb (length text) (2 * sum_journal_entries es + 32) enough,
        )

    -- what strip wrote
    pub written_part : (n : ℕ) (after : List ℕ) → strip_call image out ≡ gives n → after ≡ stripped_output image out
        → take (4064 * n - 0) (drop 0 after) ≡ without_checksums n image
    written_part n after e is =
        let g = given_told image out n e in
        let size : length (without_checksums n image) ≡ 4064 * n =
        length_without n image (omega (arith, g.whole, g.count)) in
        let none-off : 4064 * n - 0 ≡ 4064 * n = omega arith in
        ap₂ (λ (k : ℕ) (s : List ℕ). take k s) none-off (is ∙ output_of_lem image out (gives n) e)
        ∙ take_at (without_checksums n image) (drop (4064 * n) out) (4064 * n) size

    pub strip_blocks : (n : ℕ) (after : List ℕ) (x : Result ℕ Refusal × List ℕ) → strip_call image out ≡ gives n
        → after ≡ stripped_output image out
        → x ≡ listed_payload (take (4064 * n - 0) (drop 0 after)) replay text
        → x ≡ listed_image image payload replay text
    unfolding listed_payload
    strip_blocks n after x e is told =
        let g = given_told image out n e in
        let p = without_checksums n image in
        let size : length p ≡ 4064 * n = length_without n image (omega (arith, g.whole, g.count)) in
        told
        ∙ ap (λ (s : List ℕ). listed_range (range_of s) replay text) (written_part n after e is)
        ∙ payload_written p (range_of p) refl (omega (arith, g.count))
        ∙ suffices (unless_unreadable (range_of p)) (entries (gives n) e)
