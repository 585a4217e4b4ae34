-- From append to the card and back: a corollary of the history and of the cut theorem, with no further look at the
-- code. Assumes nothing.
use mathlib.Core.Path.{◌≡◌, refl, sym, ap, ap₂, ◌∙◌}
use mathlib.Core.Bool.{Bool, true, false, cond}
use mathlib.Core.List.{List, [], ◌∷◌, ◌++◌, append_assoc, append-nil}
use Rattle.std.specs.Prelude.{Some}
use Prim.Native.Nat.{ℕ, ◌+◌, ◌*◌}
use native.Mathlib.Omega.{arith}
use lib.Dec.{leb}
use lib.ListN.{length, take}
use Rattle.words.specs.Lists.{concat_seq}
use Rattle.words.proofs.All.{all_split}
use Rattle.journal_entry.specs.Entry.{JournalEntry}
use Rattle.journal_range.specs.Payload.{parse_payload}
use Rattle.journal_range.proofs.Payload.{joining_payload}
use Rattle.history.specs.History.{Image, Whole, AllWhole, payloads}
use Rattle.history.proofs.History.{history}
use Rattle.history.proofs.Images.{payloads_append, payloads_blocks}
use Rattle.history.proofs.Crash.{replays, entries_read, crash}
use Rattle.card.specs.Calls.{formatted, found_output, image_blocks}
use Rattle.card.specs.Cut.{Finds, Strips, all_blocks, stored_all}
use Rattle.card.proofs.Live.{found_reads, found_long}
use Rattle.card.proofs.Cut.{cut, stored_all_lem}
use Rattle.card.proofs.Releasing.{format}
use Rattle.card_history.specs.OnCard.{bytes_of, added_of, card_at, stored_images, ReplaysFrom, CardRule}
use Rattle.card_history.proofs.Each.{blocks_added, reads_joined, alone, each}

-- what is found is replayed
replays_from : (n : ℕ) (card : List ℕ) (es : List JournalEntry) → Finds n card es → ReplaysFrom n card es
replays_from n card es d blocks out e =
    let live = take (4064 * blocks) (found_output n card out) in
    let long : length live ≡ 4064 * blocks = found_long n card es d out blocks e in
    replays live es (omega arith) (found_reads n card es d out blocks e)

-- blocks, as the history and as the card count them
counted : (is : List Image) → AllWhole is → all_blocks (bytes_of is) ≡ added_of is
counted [] a = refl
counted (i ∷ is) a = ap₂ ◌+◌ (blocks_added i a.0) (counted is a.1)

-- one image more reads as one list more
one_more : (is : List Image) (i : Image) (es l : List JournalEntry) → AllWhole is → AllWhole (i ∷ [])
    → parse_payload (payloads is) ≡ Some es → Strips i.bytes l
    → parse_payload (payloads (is ++ (i ∷ []))) ≡ Some (es ++ l)
one_more is i es l all one reads s =
    ap parse_payload (payloads_append is (i ∷ []))
    ∙ joining_payload (payloads is) (payloads (i ∷ [])) es l (payloads_blocks is all) (payloads_blocks (i ∷ []) one)
    reads
    (reads_joined (i ∷ []) (l ∷ []) one (s, tt) ∙ ap Some (append-nil l))

-- of the images in front of others
in_front : (made : Bool) (earlier : List Image) (last : Image) (later : List Image)
    → earlier ++ (last ∷ later)
    ≡ cond made earlier (earlier ++ (last ∷ [])) ++ cond made (last ∷ later) later
in_front true earlier last later = refl
in_front false earlier last later = sym (append_assoc earlier (last ∷ []) later)

pub on_card : CardRule
unfolding card_at
on_card n r j ring cs o long m card range sized earlier last later is room calls =
    let all : AllWhole (earlier ++ (last ∷ later)) =
    rw is at (history n r j ring cs o long).afterwards.images_whole in
    let (first-whole, (last-whole, later-whole)) = all_split Whole earlier (last ∷ later) all in
    let k : image_blocks last.bytes ≡ last.added = blocks_added last last-whole in
    let count = counted earlier first-whole in
    let x = each n r j ring cs o long [] earlier (last ∷ later) is in
    let f = format m card range sized in
    alone n r j ring cs o long earlier last later is λ l s.
    let ms = concat_seq x.lists in
    let stored = stored_all_lem m (formatted m card) [] (bytes_of earlier) x.lists f.found x.strip
    (omega (arith, f.len)) in
    let c = cut m (stored_all m (formatted m card) (bytes_of earlier)) last.bytes ms l calls stored.found s
    (omega (arith, stored.len, f.len)) in
    let made : Bool = leb calls last.added in
    let there = crash n r j ring cs o long [] (stored_images earlier last calls) (cond made (last ∷ later) later)
    (is ∙ in_front made earlier last later) in
    let reads = (entries_read n r j ring o long cs [] (stored_images earlier last calls) there.entries
    there.entries_of_lem).1 in
    let same : cond made ms (ms ++ l) ≡ there.entries =
    same_list earlier (earlier ++ (last ∷ [])) ms (ms ++ l) there.entries made
    (reads_joined earlier x.lists first-whole x.strip)
    (one_more earlier last ms l first-whole (last-whole, tt)
    (reads_joined earlier x.lists first-whole x.strip) s)
    reads in
    let found : Finds m _ there.entries = rw (k, same) at c.found in
    record {
      entries = there.entries;
      entries_of_lem = there.entries_of_lem;
      found = found;
      replays = replays_from m _ there.entries found;
    }
  where
    same_list : (p q : List Image) (es fs gs : List JournalEntry) (made : Bool)
        → parse_payload (payloads p) ≡ Some es → parse_payload (payloads q) ≡ Some fs
        → parse_payload (payloads (cond made p q)) ≡ Some gs → cond made es fs ≡ gs
    same_list p q es fs gs true e f g = cc
    same_list p q es fs gs false e f g = cc
