-- THE CUT THEOREM: whatever number of the calls is made, what is found is the old list, or the old list followed by
-- the image's. Assumes nothing.
use mathlib.Core.Path.{◌≡◌, refl, sym, ap, ◌∙◌}
use mathlib.Core.Bool.{false}
use mathlib.Core.List.{List, [], ◌∷◌, ◌++◌, append_assoc, append-nil}
use Rattle.std.specs.Prelude.{Some}
use Prim.Native.Nat.{ℕ, zero, suc, ◌+◌, ◌-◌, ◌*◌, ◌≤◌, ◌<◌}
use native.Mathlib.Omega.{arith}
use borrow.Author.Tests.{le-leb, lt-leb}
use lib.ListN.{length, take, drop, length-drop}
use lib.Seq.{length-take-le, take_all, take-add}
use Rattle.words.specs.Lists.{concat_seq}
use Rattle.disk_layout.proofs.Intervals.{range_facts}
use Rattle.journal_entry.specs.Entry.{JournalEntry}
use Rattle.journal_entry.proofs.Options.{by_order}
use Rattle.journal_range.specs.Payload.{parse_payload}
use Rattle.journal_range.proofs.Payload.{parse_payload_nil, joining_payload}
use Rattle.journal_image.specs.Image.{without_checksums}
use Rattle.journal_image.proofs.Payloads.{length_without}
use Rattle.journal_ring.specs.Ring.{cyclic_slice}
use Rattle.card.specs.Card.{live_start, live_len, journal_part, live_image, live_payload}
use Rattle.card.specs.Calls.{image_blocks, store_left, rewritten, with_block, stored}
use Rattle.card.specs.Cut.{Finds, after_calls, AtCut, CutRule, stored_all, all_blocks, AllStrip}
use Rattle.card.proofs.Formed.{Formed, formed_told, formed_holds, rewritten_journal, rewritten_start}
use Rattle.card.proofs.Formed.{rewritten_len, rewritten_formed}
use Rattle.journal_image.proofs.Blocks.{without_append, agrees_append}
use Rattle.card.proofs.Live.{Live, Checked, length_live, live_finds, finds_live, strips_checked}
use Rattle.card.proofs.Staged.{put_behind, put_nothing, put_length, put_start, put_len, put_block, put_joined}
use Rattle.card.proofs.Staged.{put_kept}
use Rattle.card.proofs.Storing.{left_past, left_empty, none_accepted, store_accepted, stored_block, stored_last}
use Rattle.card.proofs.Storing.{stored_none}

module _ (n : ℕ) (card image : List ℕ) (old new : List JournalEntry) (v : Live n card old) (c : Checked image new)
    (room : live_len card + image_blocks image ≤ n) where
  abbrev k : ℕ
  k = image_blocks image

  is : Formed n card
  is = formed_told n card v.is_formed

  long : length image ≡ 4096 * k
  long = let w = c.whole in omega arith

  -- the card with the image's first m blocks behind the live ones
  abbrev staged : (m : ℕ) → List ℕ
  staged m = put_behind n card (take (4096 * m) image)

  length_first : (m : ℕ) → m ≤ k → length (take (4096 * m) image) ≡ 4096 * m
  length_first m h = length-take-le (4096 * m) image (let l = long in omega arith)

  fits : (m : ℕ) → m ≤ k → 4096 * live_len card + length (take (4096 * m) image) ≤ 4096 * n
  fits m h = let l = length_first m h in omega arith

  pub staged_live : (m : ℕ) → m ≤ k → Live n (staged m) old
  staged_live m h = put_kept n card (take (4096 * m) image) is (fits m h) old v

  staged_room : (m : ℕ) → m ≤ k → live_len (staged m) + k ≤ n
  staged_room m h = rw (put_len n card (take (4096 * m) image) is (fits m h)) room

  -- a block's store takes one stage to the next
  stage_next : (m : ℕ) → suc m ≤ k → stored n (staged m) image m ≡ staged (suc m)
  unfolding with_block
  stage_next m h =
      let f = take (4096 * m) image in
      let g = take 4096 (drop (4096 * m) image) in
      let hm : m ≤ k = omega arith in
      let lf : length f ≡ 4096 * m = length_first m hm in
      let l = long in
      let lg : length g ≡ 4096 = length-take-le 4096 (drop (4096 * m) image) (rw length-drop (omega arith)) in
      let next : 4096 * suc m ≡ 4096 * m + 4096 = omega arith in
      let joined : f ++ g ≡ take (4096 * suc m) image = rw next (sym (take-add (4096 * m) 4096 image)) in
      let t = staged_live m hm in
      stored_block n (staged m) image new v.range t.is_formed c (staged_room m hm) m (omega arith)
      ∙ rw (put_start n card f is (fits m hm), put_len n card f is (fits m hm))
      (put_block n card f is (fits m hm) m g lf lg (omega arith) ∙ ap (put_behind n card) joined)

  -- up to the last store
  pub stages : (m : ℕ) → m ≤ k → after_calls n card image m ≡ staged m
  unfolding after_calls
  stages zero h = sym (put_nothing n card)
  stages (suc m) h = ap (λ (d : List ℕ). stored n d image m) (stages m (omega arith)) ∙ stage_next m h

  whole_image : take (4096 * k) image ≡ image
  whole_image = take_all (4096 * k) image (let l = long in omega arith)

  -- THE LAST STORE: the interval is longer by the image, and reads as both lists
  abbrev last : List ℕ
  last = rewritten (put_behind n card image) (live_start card) (live_len card + k)

  last_live : Live n last (old ++ new)
  unfolding live_image live_payload
  last_live =
      let d = put_behind n card image in
      let start = live_start card in
      let len = live_len card in
      let (least, most) = range_facts n v.range in
      let l = long in
      let room' : 4096 * len + length image ≤ 4096 * n = omega arith in
      let dl : length d ≡ length card = put_length n card image is room' in
      let size : length d ≡ (2 + n) * 4096 = dl ∙ is.size in
      let si = is.start_in in
      let h : 4096 ≤ length d = omega arith in
      let es : live_start last ≡ start = rewritten_start d start (len + k) h (omega arith) in
      let el : live_len last ≡ len + k = rewritten_len d start (len + k) h (omega arith) in
      let f : Formed n last = rewritten_formed d start (len + k) h n size most si room in
      let bytes : 4096 * (len + k) ≡ 4096 * len + length image = omega arith in
      let img : cyclic_slice (journal_part last) (4096 * live_start last) (4096 * live_len last)
      ≡ live_image card ++ image =
      rw (es, el, rewritten_journal d start (len + k) h, bytes) (put_joined n card image is room') in
      let ll : length (live_image card) ≡ 4096 * len = length_live n card is in
      let p = without_checksums len (live_image card) in
      let q = without_checksums k image in
      let lp : length p ≡ 4064 * len = length_without len (live_image card) (omega arith) in
      let lq : length q ≡ 4064 * k = length_without k image (omega arith) in
      record {
        range = v.range;
        is_formed = formed_holds n last f;
        agrees = rw (img, el) (agrees_append len k (live_image card) image ll v.agrees c.agrees);
        reads = rw (img, el, without_append len k (live_image card) image ll)
            (joining_payload p q old new (omega arith) (omega arith) v.reads c.reads);
      }

  -- no blocks read as no entries
  nothing_new : k ≡ 0 → new ≡ []
  unfolding without_checksums
  nothing_new e = let r : parse_payload [] ≡ Some new = rw e at c.reads in let z = sym r ∙ parse_payload_nil in cc

  last_start : live_start last ≡ live_start card
  last_start =
      let d = put_behind n card image in
      let (least, most) = range_facts n v.range in
      let l = long in
      let dl : length d ≡ length card = put_length n card image is (omega arith) in
      let z = is.size in
      let si = is.start_in in
      rewritten_start d (live_start card) (live_len card + k) (omega arith) (omega arith)

  last_len : live_len last ≡ live_len card + k
  last_len =
      let d = put_behind n card image in
      let (least, most) = range_facts n v.range in
      let l = long in
      let dl : length d ≡ length card = put_length n card image is (omega arith) in
      let z = is.size in
      rewritten_len d (live_start card) (live_len card + k) (omega arith) (omega arith)

  -- behind all calls
  record Done (after : List ℕ) : Type 0 where
    live_is : Live n after (old ++ new)
    start_is : live_start after ≡ live_start card
    len_is : live_len after ≡ live_len card + k

  done : Done (after_calls n card image (suc k))
  unfolding after_calls
  done = by_order 1 k stores none_there
    where
      stores : 1 ≤ k → Done (stored n (after_calls n card image k) image k)
      stores h =
          let hk : k ≤ k = omega arith in
          let t = staged_live k hk in
          let f = take (4096 * k) image in
          let e : stored n (after_calls n card image k) image k ≡ last =
          ap (λ (d : List ℕ). stored n d image k) (stages k hk)
          ∙ stored_last n (staged k) image new v.range t.is_formed c (staged_room k hk) k h refl
          ∙ rw (put_start n card f is (fits k hk), put_len n card f is (fits k hk), whole_image) in
          record { live_is = rw e last_live; start_is = rw e last_start; len_is = rw e last_len }

      none_there : k < 1 → Done (stored n (after_calls n card image k) image k)
      none_there h =
          let hk : k ≤ k = omega arith in
          let z : k ≡ 0 = omega arith in
          let t = staged_live k hk in
          let f = take (4096 * k) image in
          let e : stored n (after_calls n card image k) image k ≡ staged k =
          ap (λ (d : List ℕ). stored n d image k) (stages k hk)
          ∙ stored_none n (staged k) image new v.range t.is_formed c k (left_empty k k z) in
          record {
            live_is = rw (e, nothing_new z, append-nil old) t;
            start_is = rw (e, put_start n card f is (fits k hk));
            len_is = rw (e, put_len n card f is (fits k hk)) (omega arith);
          }

  all_live : Live n (after_calls n card image (suc k)) (old ++ new)
  all_live = done.live_is

  -- and nothing changes from then on
  pub settled : (j : ℕ) → after_calls n card image (j + suc k) ≡ after_calls n card image (suc k)
  unfolding after_calls
  settled zero = let e : 0 + suc k ≡ suc k = omega arith in ap (after_calls n card image) e
  settled (suc j) =
      let e : suc j + suc k ≡ suc (j + suc k) = omega arith in
      let t : Live n (after_calls n card image (suc k)) (old ++ new) = all_live in
      let past : store_left k (j + suc k) ≡ false = left_past k (j + suc k) (omega arith) in
      ap (after_calls n card image) e
      ∙ ap (λ (d : List ℕ). stored n d image (j + suc k)) (settled j)
      ∙ stored_none n (after_calls n card image (suc k)) image new v.range t.is_formed c (j + suc k) past

  settled_at : (calls : ℕ) → k + 1 ≤ calls → after_calls n card image calls ≡ after_calls n card image (suc k)
  settled_at calls h =
      let e : calls ≡ calls - suc k + suc k = omega arith in ap (after_calls n card image) e ∙ settled (calls - suc k)

  at_cut : (calls : ℕ) → AtCut n card image old new calls
  at_cut calls = by_order calls k before behind
    where
      before : calls ≤ k → AtCut n card image old new calls
      before h =
          let t = staged_live calls h in
          let e = stages calls h in
          record {
            accepted = rw e (store_accepted n (staged calls) image new v.range t.is_formed c
                (staged_room calls h) calls);
            found = rw (e, le-leb _ _ h) (live_finds n (staged calls) old t);
            start = rw (e, put_start n card (take (4096 * calls) image) is (fits calls h));
            len = rw (e, put_len n card (take (4096 * calls) image) is (fits calls h), le-leb _ _ h) (omega arith);
            settled = λ past. absurd (omega arith);
          }

      behind : k < calls → AtCut n card image old new calls
      behind h =
          let t : Live n (after_calls n card image (suc k)) (old ++ new) = all_live in
          let e = settled_at calls (omega arith) in
          let s : suc k ≡ k + 1 = omega arith in
          let past : store_left k calls ≡ false = left_past k calls h in
          record {
            accepted = rw (e, past) (none_accepted n (after_calls n card image (suc k)) image new v.range
                t.is_formed c calls past);
            found = rw (e, lt-leb _ _ h) (live_finds n (after_calls n card image (suc k)) (old ++ new) t);
            start = rw e done.start_is;
            len = rw (e, lt-leb _ _ h) done.len_is;
            settled = λ _. e ∙ ap (after_calls n card image) s;
          }

pub cut : CutRule
cut n card image old new calls found strips room =
    at_cut n card image old new (finds_live n card old found) (strips_checked image new strips) room calls

-- ONE IMAGE AFTER THE OTHER, each by all its calls: what is found is all their lists behind the old one
pub record AllStored (n : ℕ) (card : List ℕ) (images : List (List ℕ)) (es : List JournalEntry) : Type 0 where
  pub found : Finds n (stored_all n card images) es
  pub len : live_len (stored_all n card images) ≡ live_len card + all_blocks images

pub stored_all_lem : (n : ℕ) (card : List ℕ) (old : List JournalEntry) (images : List (List ℕ))
    (lists : List (List JournalEntry)) → Finds n card old
    → AllStrip images lists → live_len card + all_blocks images ≤ n → AllStored n card images (old ++ concat_seq lists)
unfolding stored_all
stored_all_lem n card old [] [] found strips room = record { found = rw (append-nil old) found; len = omega arith }
stored_all_lem n card old [] (l ∷ ls) found strips room = absurd strips
stored_all_lem n card old (i ∷ is) [] found strips room = absurd strips
stored_all_lem n card old (i ∷ is) (l ∷ ls) found strips room =
    let m = suc (image_blocks i) in
    let past : image_blocks i < m = omega arith in
    let c = cut n card i old l m found strips.0 (omega arith) in
    let next : Finds n (after_calls n card i m) (old ++ l) = rw (lt-leb m (image_blocks i) past) at c.found in
    let longer : live_len (after_calls n card i m) ≡ live_len card + image_blocks i =
    rw (lt-leb m (image_blocks i) past) at c.len in
    let rest = stored_all_lem n (after_calls n card i m) (old ++ l) is ls next strips.1 (omega arith) in
    record { found = rw append_assoc at rest.found; len = let e = rest.len in omega arith }
