-- What is found, as facts of the live image; and back. Assumes nothing.
use mathlib.Core.Path.{◌≡◌, ◌∙◌}
use mathlib.Core.Bool.{true}
use mathlib.Core.List.{List, ◌++◌}
use Rattle.std.specs.Prelude.{None, Some}
use Prim.Native.Nat.{ℕ, ◌*◌, ◌%◌, ◌≤◌}
use native.Mathlib.Omega.{arith}
use lib.ListN.{length, take, drop, length-drop, length-append}
use lib.Seq.{length-take-le, take_at}
use Rattle.refusals.specs.Outcome.{gives}
use Rattle.refusals.proofs.Outcomes.{require_told}
use Rattle.disk_layout.specs.DiskLayout.{blocks_in_range}
use Rattle.journal_entry.specs.Entry.{JournalEntry}
use Rattle.journal_range.specs.Payload.{parse_payload}
use Rattle.journal_image.specs.Image.{without_checksums, lowest_damaged}
use Rattle.journal_image.proofs.Payloads.{length_without}
use Rattle.journal_image.proofs.Outcomes.{Given, given, given_told, output_of_lem}
use Rattle.journal_ring.proofs.RingLaws.{length_cyclic_slice}
use Rattle.card.specs.Superblock.{zeros}
use Rattle.card.specs.Card.{live_start, live_len, formed, journal_part, live_image, live_payload}
use Rattle.card.specs.Calls.{find_call, found_output, image_blocks}
use Rattle.card.specs.Cut.{Finds, Strips}
use Rattle.card.proofs.Superblock.{length_zeros}
use Rattle.card.proofs.Formed.{Formed, formed_told}

pub length_journal : (n : ℕ) (card : List ℕ) → Formed n card → length (journal_part card) ≡ 4096 * n
length_journal n card f = length-drop 8192 card ∙ (let s = f.size in omega arith)

pub length_live : (n : ℕ) (card : List ℕ) → Formed n card → length (live_image card) ≡ 4096 * live_len card
unfolding live_image
length_live n card f =
    let l = length_journal n card f in
    length_cyclic_slice (journal_part card) (4096 * live_start card) (4096 * live_len card) (omega (arith, f.len_in))

-- the live range checks and reads
pub record Live (n : ℕ) (card : List ℕ) (es : List JournalEntry) : Type 0 where
  pub range : blocks_in_range n ≡ true
  pub is_formed : formed n card ≡ true
  pub agrees : lowest_damaged (live_len card) (live_image card) ≡ None
  pub reads : parse_payload (live_payload card) ≡ Some es

-- so many payloads in front of the rest of a buffer
handed_out_lem : (k : ℕ) (image out : List ℕ) → 4096 * k ≤ length image
    → take (4064 * k) (without_checksums k image ++ drop (4064 * k) out) ≡ without_checksums k image
handed_out_lem k image out h =
    take_at (without_checksums k image) (drop (4064 * k) out) (4064 * k) (length_without k image h)

module _ (n : ℕ) (card : List ℕ) (es : List JournalEntry) where
  module _ (v : Live n card es) where
    find_gives : (out : List ℕ) → 4064 * live_len card ≤ length out → find_call n card out ≡ gives (live_len card)
    unfolding find_call
    find_gives out room =
        let l = length_live n card (formed_told n card v.is_formed) in
        let g : Given (live_image card) out (live_len card) =
        record { whole = omega arith; count = omega arith; room = room; agrees = v.agrees } in
        rw (v.range, v.is_formed) (given (live_image card) out (live_len card) g)

    find_reads : (out : List ℕ) → 4064 * live_len card ≤ length out
        → parse_payload (take (4064 * live_len card) (found_output n card out)) ≡ Some es
    unfolding found_output live_payload
    find_reads out room =
        let l = length_live n card (formed_told n card v.is_formed) in
        rw (find_gives out room, handed_out_lem (live_len card) (live_image card) out (omega arith)) v.reads

    pub live_finds : Finds n card es
    live_finds = record { blocks = live_len card; gives_blocks = find_gives; reads = find_reads }

  pub finds_live : Finds n card es → Live n card es
  unfolding find_call found_output live_payload
  finds_live d =
      let k = d.blocks in
      let out = zeros (4064 * k) in
      let lo : length out ≡ 4064 * k = length_zeros (4064 * k) in
      let e = d.gives_blocks out (omega arith) in
      let r = d.reads out (omega arith) in
      require_told (blocks_in_range n) 1 _ k e λ range e₁.
      require_told (formed n card) 18 _ k e₁ λ is e₂.
      let g = given_told (live_image card) out k e₂ in
      let l = length_live n card (formed_told n card is) in
      let c : k ≡ live_len card = omega (arith, g.count) in
      record {
        range = range;
        is_formed = is;
        agrees = rw c at g.agrees;
        reads = rw c at (rw (e, handed_out_lem k (live_image card) out (omega arith)) at r);
      }

-- whatever buffer it is that find takes
module _ (n : ℕ) (card : List ℕ) (es : List JournalEntry) (d : Finds n card es) (out : List ℕ) (k : ℕ)
    (e : find_call n card out ≡ gives k) where
  found_given : Given (live_image card) out k
  unfolding find_call
  found_given =
      require_told (blocks_in_range n) 1 _ k e λ range e₁. require_told (formed n card) 18 _ k e₁ λ is e₂. given_told
      (live_image card) out k e₂

  found_live : k ≡ live_len card
  found_live =
      let v = finds_live n card es d in
      let l = length_live n card (formed_told n card v.is_formed) in
      let g = found_given.count in
      omega arith

  pub found_reads : parse_payload (take (4064 * k) (found_output n card out)) ≡ Some es
  found_reads =
      let v = finds_live n card es d in
      let c = found_live in
      let r = found_given.room in
      rw c (find_reads n card es v out (omega arith))

  pub found_long : length (take (4064 * k) (found_output n card out)) ≡ 4064 * k
  unfolding found_output
  found_long =
      let v = finds_live n card es d in
      let l = length_live n card (formed_told n card v.is_formed) in
      let c = found_live in
      let r = found_given.room in
      let w : length (without_checksums k (live_image card)) ≡ 4064 * k =
      length_without k (live_image card) (omega arith) in
      rw e (length-take-le (4064 * k) (without_checksums k (live_image card) ++ drop (4064 * k) out)
      (rw length-append (omega arith)))

-- an image that checks and reads
pub record Checked (image : List ℕ) (es : List JournalEntry) : Type 0 where
  pub whole : length image % 4096 ≡ 0
  pub agrees : lowest_damaged (image_blocks image) image ≡ None
  pub reads : parse_payload (without_checksums (image_blocks image) image) ≡ Some es

pub strips_checked : (image : List ℕ) (es : List JournalEntry) → Strips image es → Checked image es
strips_checked image es s =
    let k = image_blocks image in
    let out = zeros (4064 * k) in
    let lo : length out ≡ 4064 * k = length_zeros (4064 * k) in
    let e = s.gives_blocks out (omega arith) in
    let g = given_told image out k e in
    let r = s.reads out (omega arith) in
    let w : length image % 4096 ≡ 0 = g.whole in
    record {
      whole = w;
      agrees = g.agrees;
      reads = rw (output_of_lem image out (gives k) e, handed_out_lem k image out (omega arith)) at r;
    }
