-- A loop that puts the lines of entries, one entry a turn: the entries left have the lines left. Assumes nothing.
use Prim.Native.Nat.{ℕ, suc, ◌-◌, ◌≤◌, ◌<◌}
use mathlib.Core.Path.{◌≡◌, refl, sym, ap, ◌∙◌, subst}
use mathlib.Core.List.{List, ◌∷◌, ◌++◌}
use Rattle.std.specs.Prelude.{Option, None, Some, IsSome}
use native.Mathlib.Omega.{arith}
use lib.ListN.{length}
use lib.Seq.{take_all}
use Rattle.journal_entry.specs.Entry.{JournalEntry}
use Rattle.journal_entry.specs.Parse.{◌>>=◌, read_entries, read_entries_at}
use Rattle.journal_entry.specs.Places.{entry_at, entry_at_place, part, place_at}
use Rattle.journal_entry.specs.declared.EntryPlace.{EntryPlace}
use Rattle.journal_entry.proofs.Readable.{read_told}
use Rattle.journal_entry.proofs.Bridge.{bridge_read}
use Rattle.journal_entry.proofs.Walks.{read_stops}
use Rattle.listing.specs.Text.{entry_line, entry_lines}
use Rattle.listing.specs.declared.pen.Pen.{Pen}
use Rattle.listing.specs.Put.{Puts, Room}
use Rattle.listing.specs.Listing.{PiecesIn, Reads, lines_of}
use Rattle.listing.proofs.Putting.{Putting, putting_more, putting_end, part_fits}

pub pieces_in : (s : List ℕ) (at end : ℕ) (p : EntryPlace) → entry_at s at end ≡ Some p → PiecesIn s p
unfolding place_at
pieces_in s at end p e =
    let (h, is) = read_told s at end p e in
    subst (PiecesIn s) (sym is) (record
    { first_in = omega (arith, h.inside, h.before); second_in = omega (arith, h.inside, h.before) })

pub part_all : (s : List ℕ) → part s 0 (length s) ≡ s
part_all s = take_all (length s - 0) s (omega arith)

-- one entry read before others
abbrev with : JournalEntry → Option (List JournalEntry × List ℕ) → Option (List JournalEntry × List ℕ)
with e o = o >>= (λ x. Some (e ∷ x.0, x.1))

reads_with : (e : JournalEntry) (o : Option (List JournalEntry × List ℕ)) → Reads (with e o) → Reads o
reads_with e None r = r
reads_with e (Some x) r = tt

lines_with : (e : JournalEntry) (o : Option (List JournalEntry × List ℕ)) → Reads (with e o)
    → lines_of (with e o) ≡ entry_line e ++ lines_of o
unfolding entry_lines
lines_with e None r = absurd r
lines_with e (Some x) r = refl

-- at `here`, with `left` entries to go: their lines are still to be put
pub record Lining (s : List ℕ) (count : ℕ) (p₀ p : Pen) (here left : ℕ) : Type 0 where
  pub from : here ≤ length s
  pub reads : Reads (read_entries left (part s here (length s)))
  pub putting : Putting p₀ (lines_of (read_entries count s)) p (lines_of (read_entries left (part s here (length s))))

module _ {s : List ℕ} {count : ℕ} {p₀ p : Pen} {here left : ℕ} (w : Lining s count p₀ p here left) where
  pub lining_ends : left ≡ 0 → Puts p₀ (lines_of (read_entries count s)) p
  unfolding read_entries_at entry_lines
  lining_ends e =
      putting_end w.putting (ap (λ (n : ℕ). lines_of (read_entries n (part s here (length s)))) e)

  module _ (more : 0 < left) where
    one_more : suc (left - 1) ≡ left
    one_more = omega arith

    pub lining_reads : IsSome (entry_at s here (length s))
    lining_reads = go (entry_at s here (length s)) refl
      where
        go : (o : Option EntryPlace) → entry_at s here (length s) ≡ o → IsSome o
        go (Some at) e = refl
        go None e =
            let stopped : read_entries left (part s here (length s)) ≡ None =
            rw one_more at (read_stops s here (length s) (left - 1) (omega arith) w.from e) in
            absurd (subst Reads stopped w.reads)

    module _ (at : EntryPlace) (e : entry_at s here (length s) ≡ Some at) where
      rest : Option (List JournalEntry × List ℕ)
      rest = read_entries (left - 1) (part s at.next (length s))

      step : read_entries left (part s here (length s)) ≡ with (entry_at_place s at) rest
      unfolding read_entries_at rest
      step =
          ap (λ (n : ℕ). read_entries n (part s here (length s))) (sym one_more)
          ∙ rw (bridge_read s here (length s) at e).parses

      reads_now : Reads (with (entry_at_place s at) rest)
      reads_now = subst Reads step w.reads

      lines_now : lines_of (read_entries left (part s here (length s)))
          ≡ entry_line (entry_at_place s at) ++ lines_of rest
      lines_now = ap lines_of step ∙ lines_with (entry_at_place s at) rest reads_now

      pub line_fits : Room p (entry_line (entry_at_place s at))
      line_fits = part_fits w.putting (entry_line (entry_at_place s at)) (lines_of rest) lines_now

      pub lining_more : (less : ℕ) → less ≡ left - 1 → {q : Pen} → Puts p (entry_line (entry_at_place s at)) q
          → Lining s count p₀ q at.next less
      unfolding rest
      lining_more less d {q} a =
          subst (Lining s count p₀ q at.next) (sym d) (record {
            from = (bridge_read s here (length s) at e).next_before;
            reads = reads_with (entry_at_place s at) rest reads_now;
            putting = putting_more w.putting (entry_line (entry_at_place s at)) (lines_of rest) lines_now a;
          })
