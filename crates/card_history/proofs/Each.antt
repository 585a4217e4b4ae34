-- In a history each image reads by itself. (The history rule reads all of them joined, and store asks 14 of each.)
-- Assumes nothing.
use mathlib.Core.Path.{◌≡◌, sym, ap, ◌∙◌}
use mathlib.Core.List.{List, [], ◌∷◌, ◌++◌, append_assoc, append-nil}
use Rattle.std.specs.Prelude.{Some}
use Prim.Native.Nat.{ℕ, ◌*◌, ◌≤◌}
use native.Mathlib.Omega.{arith}
use lib.ListN.{length}
use lib.Seq.{take_at}
use Rattle.refusals.specs.Outcome.{gives}
use Rattle.words.specs.Lists.{concat_seq}
use Rattle.words.proofs.All.{all_split}
use Rattle.journal_entry.specs.Entry.{JournalEntry}
use Rattle.journal_range.specs.Payload.{parse_payload}
use Rattle.journal_range.proofs.Payload.{parse_payload_nil, joining_payload}
use Rattle.journal_image.specs.Image.{without_checksums}
use Rattle.journal_image.specs.Strip.{stripped_output}
use Rattle.journal_image.proofs.Payloads.{length_without}
use Rattle.journal_image.proofs.Outcomes.{output_of_lem}
use Rattle.journalist.specs.declared.Journalist.{Journalist}
use Rattle.journalist.specs.Calls.{open_call}
use Rattle.history.specs.Calls.{Call}
use Rattle.history.specs.History.{Image, opened, run, Whole, AllWhole, payloads}
use Rattle.history.proofs.History.{history}
use Rattle.history.proofs.Images.{payloads_blocks}
use Rattle.history.proofs.Crash.{entries_read, crash}
use Rattle.card.specs.Calls.{image_blocks}
use Rattle.card.specs.Cut.{Strips, AllStrip}
use Rattle.card.proofs.Live.{strips_checked}
use Rattle.card_history.specs.OnCard.{bytes_of}

module _ (i : Image) (w : Whole i) where
  pub blocks_added : image_blocks i.bytes ≡ i.added
  blocks_added = omega (arith, w.size)

  payload_long : length (without_checksums i.added i.bytes) ≡ 4064 * i.added
  payload_long = length_without i.added i.bytes (omega (arith, w.size))

  -- one whole image that reads
  strips : (l : List JournalEntry) → parse_payload (without_checksums i.added i.bytes) ≡ Some l
      → Strips i.bytes l
  strips l reads =
      let k = blocks_added in
      let room : (out : List ℕ) → 4064 * image_blocks i.bytes ≤ length out → 4064 * i.added ≤ length out =
      λ out h. rw k at h in
      record {
        gives_blocks = λ out h. rw k (w.strips out (room out h));
        reads = λ out h.
            let e : stripped_output i.bytes out ≡ _ =
            output_of_lem i.bytes out (gives i.added) (w.strips out (room out h)) in
            rw (k, e, take_at (without_checksums i.added i.bytes) _ (4064 * i.added) payload_long) reads;
      }

-- images that read one by one, read joined
pub reads_joined : (is : List Image) (ls : List (List JournalEntry)) → AllWhole is → AllStrip (bytes_of is) ls
    → parse_payload (payloads is) ≡ Some (concat_seq ls)
unfolding payloads
reads_joined [] [] a s = parse_payload_nil
reads_joined [] (l ∷ ls) a s = absurd s
reads_joined (i ∷ is) [] a s = absurd s
reads_joined (i ∷ is) (l ∷ ls) a s =
    let one : parse_payload (without_checksums i.added i.bytes) ≡ Some l =
    rw (blocks_added i a.0) at (strips_checked i.bytes l s.0).reads in
    joining_payload (without_checksums i.added i.bytes) (payloads is) l (concat_seq ls)
    (omega (arith, payload_long i a.0)) (payloads_blocks is a.1) one
    (reads_joined is ls a.1 s.1)

-- EACH IMAGE READS: any consecutive images of a history
pub record Each (is : List Image) : Type 0 where
  pub lists : List (List JournalEntry)
  pub strip : AllStrip (bytes_of is) lists

module _ (n r : ℕ) (j : Journalist) (ring : List ℕ) (cs : List Call) (o : open_call n r ≡ gives j)
    (long : length ring ≡ r) where
  pub alone : {C : Type 0} (before : List Image) (i : Image) (later : List Image)
      → (run (opened j ring) cs).images ≡ before ++ (i ∷ later)
      → ((l : List JournalEntry) → Strips i.bytes l → C) → C
  unfolding payloads
  alone before i later is next =
      let all : AllWhole (before ++ (i ∷ later)) =
      rw is at (history n r j ring cs o long).afterwards.images_whole in
      let whole = (all_split Whole before (i ∷ later) all).1.0 in
      let c = crash n r j ring cs o long before (i ∷ []) later is in
      let reads = (entries_read n r j ring o long cs before (i ∷ []) c.entries c.entries_of_lem).1 in
      next c.entries
      (strips i whole c.entries
      (ap parse_payload (sym (append-nil (without_checksums i.added i.bytes))) ∙ reads))

  pub each : (before kept later : List Image) → (run (opened j ring) cs).images ≡ before ++ (kept ++ later) → Each kept
  each before [] later is = record { lists = []; strip = tt }
  each before (i ∷ kept) later is =
      alone before i (kept ++ later) is λ l s.
      let rest = each (before ++ (i ∷ [])) kept later (is ∙ sym (append_assoc before (i ∷ []) (kept ++ later))) in
      record { lists = l ∷ rest.lists; strip = (s, rest.strip) }
