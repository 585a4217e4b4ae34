-- The text of a payload, by what its load answered. Assumes nothing.
use mathlib.Core.Path.{◌≡◌, refl, sym, ap, ap₂, ◌∙◌}
use mathlib.Core.Bool.{Bool, true, false}
use Rattle.std.specs.Prelude.{Option, None, Some}
use mathlib.Core.List.{List, [], ◌++◌, append-nil}
use Prim.Native.Nat.{ℕ, ◌+◌, ◌-◌, ◌*◌, ◌≤◌}
use native.Mathlib.Omega.{arith}
use borrow.Author.Tests.{leb-true}
use lib.Dec.{leb}
use Rattle.refusals.proofs.Tests.{impossible}
use lib.ListN.{length, take, drop}
use lib.Seq.{take_at}
use Rattle.journal_entry.specs.Entry.{JournalEntry, sum_journal_entries, wires}
use Rattle.journal_entry.specs.Parse.{read_exactly}
use Rattle.journal_entry.proofs.Reading.{length_wires, read_exactly_wires}
use Rattle.journal_range.specs.Payload.{range_of}
use Rattle.journal_range.specs.Payload.{totals_of}
use Rattle.journal_range.specs.Load.{load_call, loaded_buffer}
use Rattle.journal_range.specs.declared.RangeTotals.{RangeTotals}
use Rattle.journal_range.proofs.Limits.{range_of_limits}
use Rattle.listing.specs.Listing.{listed, listed_entries, listed_refusal}
use Rattle.std.specs.Prelude.{Result, Err}
use Rattle.refusals.specs.declared.Refusal.{Refusal}
use Rattle.refusals.specs.declared.Refusal.TheVariants.{OutputTooShort, Unreadable}
use Rattle.refusals.specs.Outcome.{Outcome, gives, refuses}
use Rattle.refusals.specs.Refusals.{number_of}
use Rattle.refusals.proofs.Numbers.{number_determines}
use Rattle.lister.specs.Lister.{listed_range, listed_payload}

-- the refusal of a load, and what is then listed
module _ (room : ℕ) (text : List ℕ) where
  of_unreadable : (o : Option (List JournalEntry)) → refuses 14 ≡ load_call o room
      → listed_refusal 14 text ≡ listed_range o room text
  of_unreadable None e = refl
  of_unreadable (Some es) e = go (leb (sum_journal_entries es) room) refl
    where
      go : (t : Bool) → leb (sum_journal_entries es) room ≡ t
          → listed_refusal 14 text ≡ listed_range (Some es) room text
      go true q = let f : refuses 14 ≡ gives (totals_of es) = rw q at e in impossible cc
      go false q =
          let f : ◌≡◌ {A = Outcome RangeTotals} (refuses 14) (refuses 9) = rw q at e in
          let g : ◌≡◌ {A = ℕ} 14 9 = cc in
          absurd (omega (arith, g))

  of_short : (why : Refusal) (o : Option (List JournalEntry)) → (why ≡ Unreadable → ⊥)
      → refuses (number_of why) ≡ load_call o room → (Err why, text) ≡ listed_range o room text
  of_short why None other e =
      let n : number_of why ≡ number_of Unreadable = cc in
      absurd (other (number_determines why Unreadable n))
  of_short why (Some es) other e = go (leb (sum_journal_entries es) room) refl
    where
      go : (t : Bool) → leb (sum_journal_entries es) room ≡ t → (Err why, text) ≡ listed_range (Some es) room text
      go true q = let f : refuses (number_of why) ≡ gives (totals_of es) = rw q at e in impossible cc
      go false q =
          let f : ◌≡◌ {A = Outcome RangeTotals} (refuses (number_of why)) (refuses 9) = rw q at e in
          let n : number_of why ≡ number_of OutputTooShort = cc in
          rw (q, number_determines why OutputTooShort n) refl

-- the entries that were loaded, as bytes
pub record Loaded (p replay : List ℕ) (range : RangeTotals) (after : List ℕ) : Type 0 where
  pub list : List JournalEntry
  pub reads : range_of p ≡ Some list
  pub many : range.entries ≡ length list
  pub long : range.bytes ≡ sum_journal_entries list
  pub fits : leb (sum_journal_entries list) (length replay) ≡ true
  pub buffer : after ≡ wires list ++ drop (length (wires list)) replay

of_loaded : (p replay : List ℕ) (range : RangeTotals) (after : List ℕ) (o : Option (List JournalEntry)) → range_of p ≡ o
    → gives range ≡ load_call o (length replay) → after ≡ loaded_buffer o replay
    → Loaded p replay range after
of_loaded p replay range after None r e b = impossible cc
of_loaded p replay range after (Some es) r e b = go (leb (sum_journal_entries es) (length replay)) refl
  where
    go : (t : Bool) → leb (sum_journal_entries es) (length replay) ≡ t → Loaded p replay range after
    go false q = let f : gives range ≡ refuses 9 = rw q at e in impossible cc
    go true q =
        let f : gives range ≡ gives (totals_of es) = rw q at e in
        let g : range ≡ totals_of es = cc in
        record {
          list = es;
          reads = r;
          many = ap (λ t. t.entries) g;
          long = ap (λ t. t.bytes) g;
          fits = q;
          buffer = rw q at b;
        }

-- the load was of the payload with nothing behind it
alone : (p : List ℕ) → range_of (p ++ []) ≡ range_of p
alone p = ap range_of (append-nil p)

alone_call : (p : List ℕ) (room : ℕ) → load_call (range_of (p ++ [])) room ≡ load_call (range_of p) room
alone_call p room = ap (λ (o : Option (List JournalEntry)). load_call o room) (alone p)

pub unreadable_listed : (p text : List ℕ) (room number : ℕ) (x : Result ℕ Refusal × List ℕ)
    → refuses 14 ≡ load_call (range_of (p ++ [])) room
    → number ≡ 14 → x ≡ listed_refusal number text → x ≡ listed_payload p room text
unfolding listed_payload
unreadable_listed p text room number x e n told =
    told ∙ ap (λ (k : ℕ). listed_refusal k text) n ∙ of_unreadable room text (range_of p) (e ∙ alone_call p room)

pub short_listed : (why : Refusal) (p text : List ℕ) (room : ℕ) → (why ≡ Unreadable → ⊥)
    → refuses (number_of why) ≡ load_call (range_of (p ++ [])) room → (Err why, text) ≡ listed_payload p room text
unfolding listed_payload
short_listed why p text room other e = of_short room text why (range_of p) other (e ∙ alone_call p room)

pub loaded : (p replay : List ℕ) (range : RangeTotals) (after : List ℕ)
    → gives range ≡ load_call (range_of (p ++ [])) (length replay)
    → after ≡ loaded_buffer (range_of (p ++ [])) replay → Loaded p replay range after
loaded p replay range after e b =
    of_loaded p replay range after (range_of p) refl (e ∙ alone_call p (length replay))
    (b ∙ ap (λ (o : Option (List JournalEntry)). loaded_buffer o replay) (alone p))

-- what was loaded lies in the replay buffer
pub loaded_within : (p replay : List ℕ) (range : RangeTotals) (after : List ℕ) → Loaded p replay range after
    → length after ≡ length replay → range.bytes ≤ length after
loaded_within p replay range after l e =
    omega (arith, l.long, leb-true (sum_journal_entries l.list) (length replay) l.fits)

pub loaded_listed : (p replay text : List ℕ) (range : RangeTotals) (after : List ℕ) (x : Result ℕ Refusal × List ℕ)
    → Loaded p replay range after
    → x ≡ listed_entries (take (range.bytes - 0) (drop 0 after)) range.entries text
    → x ≡ listed_payload p (length replay) text
unfolding listed_payload listed_entries
loaded_listed p replay text range after x l told =
    let es = l.list in
    let size : range.bytes - 0 ≡ length (wires es) = omega (arith, l.long, length_wires es) in
    let run : take (range.bytes - 0) (drop 0 after) ≡ wires es =
    ap₂ (λ (n : ℕ) (s : List ℕ). take n s) size l.buffer
    ∙ take_at (wires es) (drop (length (wires es)) replay) (length (wires es)) refl in
    let read : read_exactly range.entries (take (range.bytes - 0) (drop 0 after)) ≡ Some es =
    ap₂ read_exactly l.many run ∙ read_exactly_wires es (range_of_limits p es l.reads) in
    let long : length (take (range.bytes - 0) (drop 0 after)) ≡ sum_journal_entries es =
    ap length run ∙ length_wires es in
    told
    ∙ ap₂ (λ (n : ℕ) (o : Option (List JournalEntry)). listed (2 * n + 32) o text) long read
    ∙ sym (rw (l.reads, l.fits) refl)
