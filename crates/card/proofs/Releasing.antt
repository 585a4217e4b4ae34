-- RELEASE: what is found afterwards is the list less the first batch's entries. FORMAT: nothing is found. Assumes
-- nothing.
use mathlib.Core.Path.{◌≡◌, sym, ap, ◌∙◌}
use mathlib.Core.List.{List, [], ◌++◌}
use Rattle.std.specs.Prelude.{None, Some}
use Prim.Native.Nat.{ℕ, ◌+◌, ◌-◌, ◌*◌, ◌%◌, ◌≤◌, ◌<◌}
use native.Mathlib.Omega.{arith}
use borrow.Author.Tests.{le-leb, eqb-true}
use lib.ListN.{length, drop}
use lib.Seq.{drop-append_seam}
use Rattle.refusals.specs.Outcome.{gives}
use Rattle.disk_layout.proofs.Intervals.{range_facts}
use Rattle.journal_entry.specs.Entry.{JournalEntry}
use Rattle.journal_entry.specs.Places.{word_at}
use Rattle.journal_entry.proofs.Options.{bind_parts}
use Rattle.journal_range.specs.Payload.{parse_payload, front_batch}
use Rattle.journal_range.proofs.Payload.{parse_payload_nil, parse_payload_batch}
use Rattle.journal_range.proofs.Batches.{batch_told}
use Rattle.journal_image.specs.Image.{without_checksums, lowest_damaged}
use Rattle.journal_image.proofs.Payloads.{length_without}
use Rattle.journal_ring.specs.Ring.{cyclic_slice, advance}
use Rattle.journal_ring.proofs.Rotation.{advance_lt}
use Rattle.journal_ring.proofs.RingLaws.{drop_front}
use Rattle.card.specs.Card.{live_start, live_len, journal_part, live_image, live_payload}
use Rattle.card.specs.Calls.{format_call, formatted, first_blocks, release_call, released, rewritten, without_first}
use Rattle.card.specs.Rules.{FormatRule, AsReleased, ReleaseRule}
use Rattle.card.proofs.Formed.{Formed, formed_told, formed_holds, rewritten_journal, rewritten_start}
use Rattle.card.proofs.Formed.{rewritten_len, rewritten_formed}
use Rattle.journal_image.proofs.Blocks.{agrees_drop, without_drop}
use Rattle.card.proofs.Blocks.{advance_scaled}
use Rattle.card.proofs.Live.{Live, length_journal, length_live, live_finds, finds_live}
use Rattle.card.proofs.Places.{dropped_outside}

-- the first batch of a payload that reads, and the rest
pub record Split (p : List ℕ) (es : List JournalEntry) : Type 0 where
  pub first : List JournalEntry
  pub rest : List JournalEntry
  pub batch : front_batch p ≡ Some (first, 4064 * first_blocks p)
  pub least : 1 ≤ first_blocks p
  pub most : 4064 * first_blocks p ≤ length p
  pub behind : parse_payload (drop (4064 * first_blocks p) p) ≡ Some rest
  pub joined : first ++ rest ≡ es

pub split : (p : List ℕ) (es : List JournalEntry) → 0 < length p → length p % 4064 ≡ 0 → parse_payload p ≡ Some es
    → Split p es
unfolding first_blocks
split p es more whole e =
    bind_parts (front_batch p) _ es (sym (parse_payload_batch p more whole) ∙ e) λ b e₁ x.
    bind_parts (parse_payload (drop b.1 p)) _ es x λ rest e₂ y.
    let t = batch_told p b.0 b.1 e₁ in
    let w : b.1 ≡ 4064 * word_at p 4 = t.whole in
    let headed = t.headed in
    record {
      first = b.0;
      rest = rest;
      batch = rw w at e₁;
      least = headed.blocks;
      most = headed.room;
      behind = rw w at e₂;
      joined = cc;
    }

module _ (n : ℕ) (card : List ℕ) (es : List JournalEntry) (v : Live n card es) (some-live : 1 ≤ live_len card) where
  is : Formed n card
  is = formed_told n card v.is_formed

  payload_long : length (live_payload card) ≡ 4064 * live_len card
  unfolding live_payload
  payload_long = length_without (live_len card) (live_image card) (let l = length_live n card is in omega arith)

  parts : Split (live_payload card) es
  parts = let l = payload_long in split (live_payload card) es (omega arith) (omega arith) v.reads

  abbrev d : ℕ
  d = first_blocks (live_payload card)

  d_in : d ≤ live_len card
  d_in = let l = payload_long in let m = parts.most in omega arith

  release_accepted : release_call n card ≡ gives d
  unfolding release_call
  release_accepted = rw (v.range, v.is_formed, le-leb _ _ some-live, v.agrees, v.reads)

  released_is : released n card ≡ rewritten card (advance n (live_start card) d) (live_len card - d)
  unfolding released without_first
  released_is = rw release_accepted

  abbrev after : List ℕ
  after = rewritten card (advance n (live_start card) d) (live_len card - d)

  card_long : 4096 ≤ length card
  card_long = omega (arith, is.size)

  next_in : advance n (live_start card) d < n
  next_in = let l = is.len_in in let h = d_in in advance_lt n (live_start card) d is.start_in (omega arith)

  after_start : live_start after ≡ advance n (live_start card) d
  after_start =
      let (least, most) = range_facts n v.range in
      let h = next_in in
      rewritten_start card (advance n (live_start card) d) (live_len card - d) card_long (omega arith)

  after_len : live_len after ≡ live_len card - d
  after_len =
      let (least, most) = range_facts n v.range in
      let h = is.len_in in
      rewritten_len card (advance n (live_start card) d) (live_len card - d) card_long (omega arith)

  after_image : live_image after ≡ drop (4096 * d) (live_image card)
  unfolding live_image
  after_image =
      let J = journal_part card in
      let j : length J ≡ 4096 * n = length_journal n card is in
      let h = d_in in
      let s = is.start_in in
      let l = is.len_in in
      let both : 4096 * d + 4096 * (live_len card - d) ≡ 4096 * live_len card = omega arith in
      let place : 4096 * advance n (live_start card) d ≡ advance (length J) (4096 * live_start card) (4096 * d) =
      advance_scaled n (live_start card) d ∙ ap (λ (z : ℕ). advance z (4096 * live_start card) (4096 * d)) (sym j) in
      rw (
        after_start,
        after_len,
        rewritten_journal card (advance n (live_start card) d)
            (live_len card - d) card_long,
        place,
      )
      (drop_front J (4096 * live_start card) (4096 * d) (4096 * (live_len card - d)) (omega arith) (omega arith)
      ∙ ap (λ (z : ℕ). drop (4096 * d) (cyclic_slice J (4096 * live_start card) z)) both)

  after_live : Live n after parts.rest
  unfolding live_payload
  after_live =
      let (least, most) = range_facts n v.range in
      let l = is.len_in in
      let h = d_in in
      let f : Formed n after =
      rewritten_formed card (advance n (live_start card) d) (live_len card - d) card_long n is.size most next_in
      (omega arith) in
      let sum : d + (live_len card - d) ≡ live_len card = omega arith in
      let ll : length (live_image card) ≡ 4096 * live_len card = length_live n card is in
      let agrees : lowest_damaged (d + (live_len card - d)) (live_image card) ≡ None = rw sum v.agrees in
      let shorter : without_checksums (live_len card - d) (drop (4096 * d) (live_image card))
      ≡ drop (4064 * d) (without_checksums (live_len card) (live_image card)) =
      rw sum at (without_drop d (live_len card - d) (live_image card) (omega arith)) in
      record {
        range = v.range;
        is_formed = formed_holds n after f;
        agrees = rw (after_len, after_image) (agrees_drop d (live_len card - d) (live_image card) (omega arith) agrees);
        reads = rw (after_len, after_image, shorter) parts.behind;
      }

  as_released : AsReleased n card es
  as_released =
      let h = d_in in
      let e : released n card ≡ after = released_is in
      let r : drop (length parts.first) es ≡ parts.rest =
      ap (drop (length parts.first)) (sym parts.joined) ∙ drop-append_seam parts.first parts.rest in
      record {
        first = parts.first;
        blocks = d;
        batch = parts.batch;
        some_block = parts.least;
        accepted = release_accepted;
        begins = rw r (sym parts.joined);
        found = rw (e, r) (live_finds n after parts.rest after_live);
        shorter = rw (e, after_len) (omega arith);
        free = λ i hi inside. rw (e, after_start, after_len)
            (dropped_outside n i (live_start card) (live_len card) d hi is.start_in is.len_in h inside);
      }

pub release : ReleaseRule
release n card es found some-live = as_released n card es (finds_live n card es found) some-live

-- FORMAT
pub format : FormatRule
unfolding format_call formatted live_image live_payload without_checksums lowest_damaged
format n card range size =
    let (least, most) = range_facts n range in
    let s : length card ≡ (2 + n) * 4096 = eqb-true _ _ size in
    let h : 4096 ≤ length card = omega arith in
    let after = rewritten card 0 0 in
    let es : live_start after ≡ 0 = rewritten_start card 0 0 h (omega arith) in
    let el : live_len after ≡ 0 = rewritten_len card 0 0 h (omega arith) in
    let f : Formed n after = rewritten_formed card 0 0 h n s most (omega arith) (omega arith) in
    let v : Live n after [] =
    record { range = range; is_formed = formed_holds n after f; agrees = rw el; reads = rw el parse_payload_nil } in
    record {
      accepted = rw (range, size);
      start = rw (range, size) es;
      len = rw (range, size) el;
      found = rw (range, size) (live_finds n after [] v);
    }
