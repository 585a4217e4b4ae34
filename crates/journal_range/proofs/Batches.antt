-- What the batch in front reads as, told by facts in the place of tests. Assumes nothing.
use mathlib.Core.Path.{◌≡◌, refl, sym, ap, ◌∙◌}
use mathlib.Core.Bool.{Bool, true, false, ◌&&◌}
use Rattle.std.specs.Prelude.{Option, None, Some, option_map}
use mathlib.Core.List.{List}
use Prim.Native.Nat.{ℕ, ◌+◌, ◌-◌, ◌*◌, ◌%◌, ◌≤◌, ◌<◌}
use native.Mathlib.Decide.{dec_le}
use native.Mathlib.Omega.{arith}
use borrow.Author.Tests.{le-leb}
use lib.Dec.{T, leb}
use lib.ListN.{length, take, drop, length-drop}
use lib.Seq.{take_at, take-take, length-take-le}
use Rattle.words.proofs.Slices.{Bytes, bytes_drop, bytes_take}
use Rattle.journal_entry.specs.Entry.{JournalEntry, value_limit, sum_journal_entries, wires}
use Rattle.journal_entry.specs.Parse.{◌>>=◌, provided, read_entries, parse_entries_at}
use Rattle.journal_entry.specs.Places.{word_at, part, place_behind, entries_end}
use Rattle.journal_entry.proofs.Reading.{eight_each, length_wires}
use Rattle.journal_entry.proofs.Sound.{AllStand, read_entries_sound}
use Rattle.journal_entry.proofs.Walked.{walked}
use Rattle.journal_entry.proofs.Walks.{walk_within}
use Rattle.journal_range.specs.declared.BatchPlace.{BatchPlace}
use Rattle.journal_range.specs.Range.{parse_journal_range_of_bytes_at}
use Rattle.journal_range.specs.Payload.{front_batch, batch_answer}
use Rattle.words.proofs.Slices.{drop_take}
use Rattle.journal_range.proofs.Same.{both}
use Rattle.journal_range.proofs.Header.{header_yes, header_no}

-- the header of a batch at the front of s: it has a block at least, and its blocks are there
pub record Headed (s : List ℕ) : Type 0 where
  pub header : 8 ≤ length s
  pub blocks : 1 ≤ word_at s 4
  pub room : 4064 * word_at s 4 ≤ length s

-- the bytes of the batch, as its header has them
abbrev pub long : List ℕ → ℕ
long s = 4064 * word_at s 4

-- its entries, with the bytes behind them
abbrev pub listed : List ℕ → Option (List JournalEntry × List ℕ)
listed s = read_entries (word_at s 0) (part s 8 (long s))

abbrev with_long : ℕ → Option (List JournalEntry × List ℕ) → Option (List JournalEntry × ℕ)
with_long n None = None
with_long n (Some (es, rest)) = Some (es, n)

with_long_bind : (n : ℕ) (o : Option (List JournalEntry × List ℕ)) → (do
  es ← (do
    (es, rest) ← o
    Some es)
  Some (es, n)) ≡ with_long n o
with_long_bind n None = refl
with_long_bind n (Some r) = refl

pub batch_yes : (s : List ℕ) → Headed s → front_batch s ≡ with_long (long s) (listed s)
unfolding front_batch parse_journal_range_of_bytes_at parse_entries_at
batch_yes s h =
    rw (
      header_yes s h.header,
      le-leb 1 (word_at s 4) h.blocks,
      le-leb (long s) (length s) h.room,
      drop_take 8 (long s) s,
    )
    (with_long_bind (long s) (listed s))

headed? : (s : List ℕ) → Dec (Headed s)
headed? s = go (dec_le 8 (length s)) (dec_le 1 (word_at s 4)) (dec_le (long s) (length s))
  where
    go : Dec (8 ≤ length s) → Dec (1 ≤ word_at s 4) → Dec (long s ≤ length s) → Dec (Headed s)
    go (yes a) (yes b) (yes c) = yes (record { header = a; blocks = b; room = c })
    go (yes a) (yes b) (no c) = no (λ h. c h.room)
    go (yes a) (no b) c = no (λ h. b h.blocks)
    go (no a) b c = no (λ h. a h.header)

pub batch_no : (s : List ℕ) → (Headed s → ⊥) → front_batch s ≡ None
unfolding front_batch
batch_no s h = go (dec_le 8 (length s))
  where
    tested : (t : Bool) (o : Option (List JournalEntry × ℕ)) → (T t → ⊥) → provided t o ≡ None
    tested true o f = absurd (f tt)
    tested false o f = refl

    go : Dec (8 ≤ length s) → front_batch s ≡ None
    go (no n) = let m : length s < 8 = omega arith in rw (header_no s m)
    go (yes m) =
        rw (header_yes s m)
        (tested (leb 1 (word_at s 4) && leb (long s) (length s)) _ λ t.
        let (b, r) = both 1 (word_at s 4) (long s) (length s) t in
        h (record { header = m; blocks = b; room = r }))

pub answer_none : (s : List ℕ) → (Headed s → ⊥) → None ≡ batch_answer (front_batch s)
answer_none s h = sym (ap batch_answer (batch_no s h))

-- A batch that reads.

pub record BatchTold (s : List ℕ) (es : List JournalEntry) (next : ℕ) : Type 0 where
  pub headed : Headed s
  pub whole : next ≡ long s
  pub rest : List ℕ
  pub read : listed s ≡ Some (es, rest)

pub batch_told : (s : List ℕ) (es : List JournalEntry) (next : ℕ) → front_batch s ≡ Some (es, next)
    → BatchTold s es next
batch_told s es next e = go (headed? s)
  where
    impossible : ◌≡◌ {A = Option (List JournalEntry × ℕ)} None (Some (es, next)) → BatchTold s es next
    impossible z = let y : ◌≡◌ {A = ℕ} 0 1 = cc in absurd (omega arith)

    read : Headed s → (o : Option (List JournalEntry × List ℕ)) → listed s ≡ o
        → with_long (long s) o ≡ Some (es, next) → BatchTold s es next
    read h None q f = impossible f
    read h (Some (fs, rest)) q f =
        let g : ◌≡◌ {A = List JournalEntry × ℕ} (fs, long s) (es, next) = cc in
        let g₁ : fs ≡ es = ap (λ (x : List JournalEntry × ℕ). x.0) g in
        record {
          headed = h;
          whole = sym (ap (λ (x : List JournalEntry × ℕ). x.1) g);
          rest = rest;
          read = q ∙ ap (λ (l : List JournalEntry). Some (l, rest)) g₁;
        }

    go : Dec (Headed s) → BatchTold s es next
    go (yes h) = read h (listed s) refl (sym (batch_yes s h) ∙ e)
    go (no h) = impossible (sym (batch_no s h) ∙ e)

-- how many, and how long
pub record BatchBounds (s : List ℕ) (es : List JournalEntry) (next : ℕ) : Type 0 where
  pub entries : 8 * length es ≤ sum_journal_entries es
  pub bytes : 8 + sum_journal_entries es ≤ next
  pub least : 4064 ≤ next
  pub inside : next ≤ length s
  pub blocks : next % 4064 ≡ 0

length_listed : (s : List ℕ) → Headed s → length (part s 8 (long s)) ≡ long s - 8
length_listed s h = length-take-le (long s - 8) (drop 8 s) (rw length-drop (omega (arith, h.room)))

pub batch_bounds : (s : List ℕ) (es : List JournalEntry) (next : ℕ) → front_batch s ≡ Some (es, next)
    → BatchBounds s es next
batch_bounds s es next e =
    let d = batch_told s es next e in
    let k : AllStand value_limit (word_at s 0) (part s 8 (long s)) (es, d.rest) =
    read_entries_sound value_limit _ _ _ d.read in
    let l = length_listed s d.headed in
    record {
      entries = eight_each es;
      bytes = omega (arith, k.weighs, d.headed.blocks, d.whole);
      least = omega (arith, d.headed.blocks, d.whole);
      inside = omega (arith, d.headed.room, d.whole);
      blocks = omega (arith, d.whole);
    }

-- SOUND: the wire forms of the entries are the bytes read
pub batch_wires : (s : List ℕ) (es : List JournalEntry) (next : ℕ) → Bytes s → front_batch s ≡ Some (es, next)
    → wires es ≡ take (sum_journal_entries es) (drop 8 s)
batch_wires s es next bytes e =
    let d = batch_told s es next e in
    let p = part s 8 (long s) in
    let b : Bytes p = bytes_take (long s - 8) (drop 8 s) (bytes_drop 8 s bytes) in
    let k : AllStand value_limit (word_at s 0) p (es, d.rest) = read_entries_sound value_limit _ _ _ d.read in
    let bound = batch_bounds s es next e in
    sym (take_at (wires es) d.rest (sum_journal_entries es) (length_wires es))
    ∙ ap (take (sum_journal_entries es)) (k.bytes_are b)
    ∙ take-take (sum_journal_entries es) (long s - 8) (drop 8 s) (omega (arith, bound.bytes, d.whole))

-- The answer, from the place behind the last entry.

abbrev pub walk_answer : (count next : ℕ) → Option ℕ → Option BatchPlace
walk_answer count next walk = option_map (λ here. record { entries = count; bytes = here - 8; next = next }) walk

pub batch_walked : (s : List ℕ) → Headed s
    → batch_answer (front_batch s) ≡ walk_answer (word_at s 0) (long s) (entries_end s 8 (long s) (word_at s 0))
batch_walked s h =
    rw (batch_yes s h, walk_within s 8 (long s) (word_at s 0) (omega (arith, h.blocks)) h.room) (go (listed s) refl)
  where
    go : (o : Option (List JournalEntry × List ℕ)) → listed s ≡ o
        → batch_answer (with_long (long s) o) ≡ walk_answer (word_at s 0) (long s) (place_behind (long s) o)
    go None e = refl
    go (Some (es, rest)) e =
        let k : AllStand value_limit (word_at s 0) (part s 8 (long s)) (es, rest) =
        read_entries_sound value_limit _ _ _ e in
        let l = length_listed s h in
        let many : length es ≡ word_at s 0 = k.count in
        let bytes : sum_journal_entries es ≡ long s - length rest - 8 = omega (arith, k.weighs, h.blocks) in
        ap Some (λ i. record { entries = many i; bytes = bytes i; next = long s })

-- The same with the words as they were read.
module _ (s : List ℕ) (count blocks : ℕ) (e₁ : count ≡ word_at s 0) (e₂ : blocks ≡ word_at s 4) where
  pub batch_empty : blocks < 1 → None ≡ batch_answer (front_batch s)
  batch_empty few = answer_none s (λ h. omega (arith, h.blocks))

  pub batch_short : (len : ℕ) → len ≡ length s → len < 4064 * blocks → None ≡ batch_answer (front_batch s)
  batch_short len e few = answer_none s (λ h. omega (arith, h.room))

  module _ (some : 1 ≤ blocks) (len : ℕ) (e : len ≡ length s) (room : 4064 * blocks ≤ len) (walk : Option ℕ)
      (is : walk ≡ entries_end s 8 (4064 * blocks) count) where
    batch_is : walk_answer count (4064 * blocks) walk ≡ batch_answer (front_batch s)
    batch_is =
        let h : Headed s = record { header = omega arith; blocks = omega arith; room = omega arith } in
        rw (is, e₁, e₂) (sym (batch_walked s h))

    pub batch_unread : walk ≡ None → None ≡ batch_answer (front_batch s)
    batch_unread w = ap (walk_answer count (4064 * blocks)) (sym w) ∙ batch_is

    pub batch_read : (here : ℕ) → walk ≡ Some here
        → Some (record { entries = count; bytes = here - 8; next = 4064 * blocks }) ≡ batch_answer (front_batch s)
    batch_read here w = ap (walk_answer count (4064 * blocks)) (sym w) ∙ batch_is

    -- a walk from behind the header ends behind it
    pub walk_behind : (here : ℕ) → walk ≡ Some here → 8 ≤ here
    walk_behind here w = walked s 8 (4064 * blocks) count here (sym is ∙ w) λ es rest w. omega (arith, w.next_is)

-- From an answer back to the batch.

-- the entries that were read
pub record Found (s : List ℕ) (p : BatchPlace) : Type 0 where
  pub list : List JournalEntry
  pub front : front_batch s ≡ Some (list, p.next)
  pub many : p.entries ≡ length list
  pub size : p.bytes ≡ sum_journal_entries list

pub found : (s : List ℕ) (p : BatchPlace) → batch_answer (front_batch s) ≡ Some p → Found s p
found s p e = go (front_batch s) refl e
  where
    go : (o : Option (List JournalEntry × ℕ)) → front_batch s ≡ o → batch_answer o ≡ Some p → Found s p
    go None q x = let y : ◌≡◌ {A = ℕ} 0 1 = cc in absurd (omega arith)
    go (Some (es, long)) q x =
        let g : record { entries = length es; bytes = sum_journal_entries es; next = long } ≡ p = cc in
        record {
          list = es;
          front = q ∙ ap (λ (b : BatchPlace). Some (es, b.next)) g;
          many = sym (ap (λ (b : BatchPlace). b.entries) g);
          size = sym (ap (λ (b : BatchPlace). b.bytes) g);
        }

pub not_found : (s : List ℕ) → batch_answer (front_batch s) ≡ None → front_batch s ≡ None
not_found s e = go (front_batch s) e
  where
    go : (o : Option (List JournalEntry × ℕ)) → batch_answer o ≡ None → o ≡ None
    go None x = refl
    go (Some r) x = let y : ◌≡◌ {A = ℕ} 0 1 = cc in absurd (omega arith)

-- what the reader of a batch is proved by
pub ruleset reading = (batch_empty, batch_short, batch_unread, batch_read, walk_behind)
