-- The live image as two runs of the card, and what is read and copied of both. Assumes nothing.
use mathlib.Core.Path.{◌≡◌, sym, ap, ap₂, ◌∙◌}
use mathlib.Core.Bool.{true}
use mathlib.Core.List.{List, [], ◌++◌, append_assoc, append-nil}
use Prim.Native.Nat.{ℕ, ◌+◌, ◌-◌, ◌*◌, ◌/◌, ◌%◌, ◌≤◌, ◌<◌, min}
use native.Mathlib.Omega.{arith}
use lib.ListN.{length, take, drop, length-append, length-drop, drop_of_length-le}
use lib.Seq.{length-take-le, take_all, take_at, drop_at, drop-drop}
use Rattle.words.proofs.Slices.{tail}
use Rattle.disk_layout.specs.DiskLayout.{journal_point}
use Rattle.journal_entry.proofs.Options.{by_order}
use Rattle.journal_image.specs.Image.{without_checksums, payloads_over, lowest_damaged}
use Rattle.journal_image.proofs.Payloads.{length_without}
use Rattle.journal_image.proofs.Blocks.{without_append}
use Rattle.journal_ring.proofs.RingLaws.{cyclic_slice_straight, cyclic_slice_wrapped}
use Rattle.image_range.specs.InPlace.{image_payload, lowest_of_two}
use Rattle.image_range.proofs.Places.{payload_is}
use Rattle.image_range.proofs.Damage.{damaged_joined}
use Rattle.card.specs.Card.{formed, live_start, live_len, journal_part, live_image, live_front, live_back, live_payload}
use Rattle.card.proofs.Formed.{Formed, formed_told}
use Rattle.card.proofs.Live.{length_journal}

-- The runs as the code cuts them.

module _ (card : List ℕ) (start len : ℕ) (s : start ≡ live_start card) (l : len ≡ live_len card) where
  at_start : 8192 + 4096 * start ≡ journal_point (live_start card)
  at_start = omega arith

  pub front_part : take (8192 + 4096 * start + 4096 * len - (8192 + 4096 * start)) (drop (8192 + 4096 * start) card)
      ≡ live_front card
  unfolding live_front
  front_part =
      let size : 8192 + 4096 * start + 4096 * len - (8192 + 4096 * start) ≡ 4096 * live_len card = omega arith in
      ap₂ (λ (i j : ℕ). take i (drop j card)) size at_start

  pub front_rest : length card - (8192 + 4096 * start) < 4096 * len
      → take (length card - (8192 + 4096 * start)) (drop (8192 + 4096 * start) card) ≡ live_front card
  unfolding live_front
  front_rest h =
      tail (8192 + 4096 * start) card
      ∙ ap (λ (j : ℕ). drop j card) at_start
      ∙ sym (take_all (4096 * live_len card) (drop (journal_point (live_start card)) card)
      (rw length-drop (omega arith)))

-- both runs, of which the first has as many bytes as the live blocks have, or all to the card's end
pub record Runs (card : List ℕ) (start len k : ℕ) : Type 0 where
  pub in_card : 8192 + 4096 * start + k ≤ length card
  pub back_in : 8192 + (4096 * len - k) ≤ length card
  pub front : take (8192 + 4096 * start + k - (8192 + 4096 * start)) (drop (8192 + 4096 * start) card) ≡ live_front card
  pub back : take (8192 + (4096 * len - k) - 8192) (drop 8192 card) ≡ live_back card

pub live_start_in : (n : ℕ) (card : List ℕ) (start : ℕ) → formed n card ≡ true → start ≡ live_start card
    → 8192 + 4096 * start ≤ length card
live_start_in n card start is s = let f = formed_told n card is in omega (arith, f.start_in, f.size)

pub runs : (n : ℕ) (card : List ℕ) (start len k : ℕ) → formed n card ≡ true → start ≡ live_start card
    → len ≡ live_len card → k ≡ min (4096 * len) (length card - (8192 + 4096 * start)) → Runs card start len k
unfolding live_back
runs n card start len k is s l e =
    let f = formed_told n card is in
    let zs = f.size in
    let si = f.start_in in
    let li = f.len_in in
    let at = 8192 + 4096 * start in
    let cut : take (at + k - at) (drop at card) ≡ live_front card =
    by_order (4096 * len) (length card - at)
    (λ h. let same : at + k - at ≡ at + 4096 * len - at = omega arith in
    rw same (front_part card start len s l))
    (λ h. let same : at + k - at ≡ length card - at = omega arith in
    rw same (front_rest card start len s l h)) in
    let inside : at + k ≤ length card = omega arith in
    let same : at + k - at ≡ k = omega arith in
    let long : length (live_front card) ≡ k =
    sym (ap length cut) ∙ ap (λ (j : ℕ). length (take j (drop at card))) same
    ∙ length-take-le k (drop at card) (rw length-drop (omega arith)) in
    let rest : 8192 + (4096 * len - k) - 8192 ≡ 4096 * live_len card - length (live_front card) = omega arith in
    record {
      in_card = inside;
      back_in = omega arith;
      front = cut;
      back = ap (λ (j : ℕ). take j (drop 8192 card)) rest;
    }

-- Both are whole blocks, and joined they are the live image.

pub record LiveRuns (card : List ℕ) : Type 0 where
  pub front_whole : length (live_front card) % 4096 ≡ 0
  pub back_whole : length (live_back card) % 4096 ≡ 0
  pub size : length (live_front card) + length (live_back card) ≡ 4096 * live_len card
  pub image : live_front card ++ live_back card ≡ live_image card

module _ (n : ℕ) (card : List ℕ) (f : Formed n card) where
  abbrev at : ℕ
  at = journal_point (live_start card)

  behind : drop (4096 * live_start card) (journal_part card) ≡ drop at card
  behind =
      let e : 8192 + 4096 * live_start card ≡ at = omega arith in
      drop-drop (4096 * live_start card) 8192 card ∙ ap (λ (k : ℕ). drop k card) e

  straight : 4096 * live_len card ≤ length card - at → LiveRuns card
  unfolding live_image live_front live_back
  straight h =
      let z = f.size in
      let si = f.start_in in
      let lj = length_journal n card f in
      let size = 4096 * live_len card in
      let front = take size (drop at card) in
      let long : length front ≡ size = length-take-le size (drop at card) (rw length-drop (omega arith)) in
      let none : size - length front ≡ 0 = omega arith in
      let nothing : take (size - length front) (journal_part card) ≡ [] =
      ap (λ (k : ℕ). take k (journal_part card)) none in
      record {
        front_whole = omega arith;
        back_whole = rw nothing;
        size = rw nothing (omega arith);
        image = rw nothing
            (append-nil front
            ∙ sym (cyclic_slice_straight (journal_part card) (4096 * live_start card) size (omega arith)
            ∙ ap (take size) behind));
      }

  wrapped : length card - at < 4096 * live_len card → LiveRuns card
  unfolding live_image live_front live_back
  wrapped h =
      let z = f.size in
      let si = f.start_in in
      let li = f.len_in in
      let lj = length_journal n card f in
      let size = 4096 * live_len card in
      let front = take size (drop at card) in
      let all : front ≡ drop at card = take_all size (drop at card) (rw length-drop (omega arith)) in
      let long : length front ≡ length card - at = ap length all ∙ length-drop at card in
      let rest = size - length front in
      let back_long : length (take rest (journal_part card)) ≡ rest =
      length-take-le rest (journal_part card) (omega arith) in
      let over : 4096 * live_start card + size - length (journal_part card) ≡ rest = omega arith in
      record {
        front_whole = omega arith;
        back_whole = omega arith;
        size = omega arith;
        image =
            sym (cyclic_slice_wrapped (journal_part card) (4096 * live_start card) size (omega arith) (omega arith)
            (omega arith)
            ∙ ap₂ (λ (x : List ℕ) (k : ℕ). x ++ take k (journal_part card)) (behind ∙ sym all) over);
      }

  pub live_runs : LiveRuns card
  live_runs = by_order (4096 * live_len card) (length card - at) straight wrapped

  -- What the readers in place answer of both.
  module _ (front back : List ℕ) (is_front : front ≡ live_front card) (is-back : back ≡ live_back card) where
    joined : front ++ back ≡ live_image card
    joined = ap₂ ◌++◌ is_front is-back ∙ live_runs.image

    front_whole : length front % 4096 ≡ 0
    front_whole = rw is_front live_runs.front_whole

    back_whole : length back % 4096 ≡ 0
    back_whole = rw is-back live_runs.back_whole

    count : (length front + length back) / 4096 ≡ live_len card
    count = rw (is_front, is-back) (omega (arith, live_runs.size))

    joined_count : length (front ++ back) / 4096 ≡ live_len card
    joined_count = rw length-append count

    pub lowest_of : lowest_of_two front back ≡ lowest_damaged (live_len card) (live_image card)
    lowest_of = damaged_joined front back front_whole ∙ ap₂ lowest_damaged joined_count joined

    pub payload_of : image_payload (front ++ back) ≡ live_payload card
    unfolding live_payload
    payload_of =
        payload_is (front ++ back) (live_len card) joined_count ∙ ap (without_checksums (live_len card)) joined

    -- what is lent on behind the first run's payload
    abbrev lent : (x : List ℕ) → List ℕ
    lent x = take (length x - 4064 * (length front / 4096)) (drop (4064 * (length front / 4096)) x)

    -- one payload behind the other: of each run, as many blocks as there is room for are all of them
    pub copied : (out : List ℕ) → 4064 * live_len card ≤ length out → (x y : List ℕ)
        → x ≡ payloads_over (min (length front / 4096) (length out / 4064)) front out
        → y ≡ payloads_over (min (length back / 4096) (length (lent x) / 4064)) back (lent x)
        → take (4064 * (length front / 4096)) x
        ++ (y ++ drop (length x - 4064 * (length front / 4096)) (drop (4064 * (length front / 4096)) x))
        ≡ payloads_over (live_len card) (live_image card) out
    copied out room x y ex ey =
        let a = length front / 4096 in
        let b = length back / 4096 in
        let ha = front_whole in
        let hb = back_whole in
        let sum : a + b ≡ live_len card = omega (arith, count) in
        let wp = without_checksums a front in
        let wq = without_checksums b back in
        let lw : length wp ≡ 4064 * a = length_without a front (omega arith) in
        let all-p : min a (length out / 4064) ≡ a = omega arith in
        let xx : x ≡ wp ++ drop (4064 * a) out = ex ∙ ap (λ (j : ℕ). payloads_over j front out) all-p in
        let first : take (4064 * a) x ≡ wp = ap (take (4064 * a)) xx ∙ take_at wp (drop (4064 * a) out) (4064 * a) lw in
        let rest_of : drop (4064 * a) x ≡ drop (4064 * a) out =
        ap (drop (4064 * a)) xx ∙ drop_at wp (drop (4064 * a) out) (4064 * a) lw in
        let none_left : drop (length x - 4064 * a) (drop (4064 * a) x) ≡ [] =
        drop_of_length-le (drop (4064 * a) x) {i = length x - 4064 * a} (rw length-drop (omega arith)) in
        let rest : lent x ≡ drop (4064 * a) out = tail (4064 * a) x ∙ rest_of in
        let long_rest : length (lent x) ≡ length out - 4064 * a = ap length rest ∙ length-drop (4064 * a) out in
        let all-q : min b (length (lent x) / 4064) ≡ b = omega arith in
        let total : 4064 * a + 4064 * b ≡ 4064 * (a + b) = omega arith in
        let yy : y ≡ wq ++ drop (4064 * (a + b)) out =
        ey ∙ ap₂ (λ (j : ℕ) (l : List ℕ). payloads_over j back l) all-q rest
        ∙ rw (drop-drop (4064 * b) (4064 * a) out, total) in
        rw (first, none_left, append-nil y, yy)
        (sym (append_assoc wp wq (drop (4064 * (a + b)) out))
        ∙ ap (λ (l : List ℕ). l ++ drop (4064 * (a + b)) out) (sym (without_append a b front back (omega arith)))
        ∙ ap₂ (λ (k : ℕ) (l : List ℕ). payloads_over k l out) sum joined)
