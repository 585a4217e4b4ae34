-- A WHOLE REPLAY leaves the rows that its entries make one by one, or 20 or 21 of the first that is refused; so the
-- table has the map of the list, and two ranges one after the other leave what their joined range does. Assumes
-- nothing.
use mathlib.Core.Path.{◌≡◌, refl, sym, ap, ap₂, ◌∙◌, subst}
use mathlib.Core.Bool.{Bool, true, false}
use mathlib.Core.List.{List, [], ◌∷◌, ◌++◌}
use Rattle.std.specs.Prelude.{Some}
use Prim.Native.Nat.{ℕ}
use lib.Dec.{leb}
use lib.ListN.{length, length-replicate}
use Rattle.refusals.specs.Outcome.{Outcome, gives, refuses, refuses_block, require◌else◌then◌, into}
use Rattle.refusals.proofs.Tests.{impossible}
use Rattle.refusals.proofs.Outcomes.{gives_same, into_told}
use Rattle.words.proofs.All.{all_append}
use Rattle.journal_entry.specs.Entry.{JournalEntry, Within, AllWithin}
use Rattle.replay_cursor.proofs.HandedOut.{behind_entry}
use Rattle.journalist.specs.declared.Journalist.{Journalist}
use Rattle.journalist.specs.Updates.{with_replay}
use Rattle.journalist.proofs.Replaying.{RecordHandsOut}
use Rattle.key_map.specs.Map.{Map, replay_map}
use Rattle.table_rows.specs.Rows.{Row, weight, lookup, made, stepped, replayed, keys_fit}
use Rattle.table_rows.specs.Table.{table_rows}
use Rattle.table_rows.proofs.Replayed.{replay_maps}
use Rattle.replica_table.specs.Calls.{step_rows, step_call, step_table, step_work}
use Rattle.replica_table.proofs.Stepping.{tested}
use Rattle.replica_table.proofs.Accepted.{step_follows}
use Rattle.replica.specs.Replay.{after, next_entry, step_then, replay_next_call, bytes_then, replay_next_table}
use Rattle.replica.specs.Replay.{replay_next_work, Centre, centre_after, replay_all, Left, left_by}
use Rattle.replica.specs.Replay.{left_of, leaves, steps_rows, replayed as stepped_to}
use Rattle.replica.specs.declared.Replayed.{Replayed}

-- the entry handed out is the one stepped
module _ (j : Journalist) (s : List ℕ) (e : JournalEntry) (es : List JournalEntry)
    (out : RecordHandsOut j s (e ∷ es)) where
  abbrev pub behind_it : Journalist
  behind_it = with_replay j (behind_entry j.replay e)

  pub next_handed : next_entry j s ≡ gives (behind_it, e)
  unfolding next_entry
  next_handed = rw (out.2, out.0, out.1)

  module _ (count : ℕ) (t w : List ℕ) where
    pub call_handed : replay_next_call j s count t w ≡ step_then count t w (behind_it, e)
    unfolding replay_next_call
    call_handed = ap (λ (o : Outcome (Journalist × JournalEntry)). after o (step_then count t w)) next_handed

    pub table_handed : replay_next_table j s count t w ≡ step_table count t w e
    unfolding replay_next_table
    table_handed = ap (λ (o : Outcome (Journalist × JournalEntry)). bytes_then o (step_table count t w) t) next_handed

    pub work_handed : replay_next_work j s count t w ≡ step_work count t w e
    unfolding replay_next_work
    work_handed = ap (λ (o : Outcome (Journalist × JournalEntry)). bytes_then o (step_work count t w) w) next_handed

-- one step of the fold
module _ (size : ℕ) (rows : List Row) (e : JournalEntry) (es : List JournalEntry) where
  abbrev folded : (fit room : Bool) → Outcome (List Row)
  folded fit room = require fit else 20 then require room else 21 then steps_rows size (stepped rows e) es

-- THE WHOLE REPLAY, of a centre whose journal hands out entries, with a table and a second buffer as long
pub replay_exactly : (es : List JournalEntry) (a : Centre) (s : List ℕ) (rows : List Row)
    → RecordHandsOut a.journal s es → AllWithin es → table_rows a.count a.table ≡ Some rows
    → length a.work ≡ length a.table
    → left_of (replay_all (length es) a s) ≡ into (leaves (length a.table)) (steps_rows (length a.table) rows es)
unfolding replay_all steps_rows
replay_exactly [] a s rows out w is long =
    λ i. gives (record { rows = is i; table = length a.table; work = long i })
replay_exactly (e ∷ es) a s rows out w is long =
    go (keys_fit (made rows e)) (leb (weight (stepped rows e)) (length a.table)) refl refl
    (λ b out' is' long'. replay_exactly es b s (stepped rows e) out' w.1 is' long')
  where
    k : Journalist
    k = behind_it a.journal s e es out

    called : (o : Outcome (List Row)) → step_rows a.count a.table a.work e ≡ o
        → replay_next_call a.journal s a.count a.table a.work
        ≡ into (stepped_to k) (into length o)
    called o f =
        call_handed a.journal s e es out a.count a.table a.work
        ∙ ap (λ (p : Outcome (List Row)). into (stepped_to k) (into length p)) f

    goes : (o : Outcome Replayed) → replay_next_call a.journal s a.count a.table a.work ≡ o
        → left_of (after (replay_next_call a.journal s a.count a.table a.work)
        (λ x. replay_all (length es) (centre_after a s x) s))
        ≡ left_of (after o (λ x. replay_all (length es) (centre_after a s x) s))
    goes o f = ap (λ (p : Outcome Replayed). left_of (after p
        (λ x. replay_all (length es) (centre_after a s x) s))) f

    step : (fit room : Bool) → keys_fit (made rows e) ≡ fit → leb (weight (stepped rows e)) (length a.table) ≡ room
        → step_rows a.count a.table a.work e
        ≡ (require fit else 20 then require room else 21 then gives (stepped rows e))
    step fit room f r =
        tested a.count a.table a.work e rows is long w.0.first_fits w.0.second_fits
        ∙ ap₂ (λ (x y : Bool). require x else 20 then require y else 21 then gives (stepped rows e)) f r

    go : (fit room : Bool) → keys_fit (made rows e) ≡ fit → leb (weight (stepped rows e)) (length a.table) ≡ room
        → ((b : Centre) → RecordHandsOut b.journal s es → table_rows b.count b.table ≡ Some (stepped rows e)
        → length b.work ≡ length b.table
        → left_of (replay_all (length es) b s)
        ≡ into (leaves (length b.table)) (steps_rows (length b.table) (stepped rows e) es))
        → left_of (after (replay_next_call a.journal s a.count a.table a.work)
        (λ x. replay_all (length es) (centre_after a s x) s))
        ≡ into (leaves (length a.table)) (folded (length a.table) rows e es (keys_fit (made rows e))
        (leb (weight (stepped rows e)) (length a.table)))
    go false room f r further =
        goes (refuses 20) (called (refuses 20) (step false room f r)) ∙ rw f
    go true false f r further =
        goes (refuses 21) (called (refuses 21) (step true false f r)) ∙ rw (f, r)
    go true true f r further =
        let new : List Row = stepped rows e in
        let given_new : step_rows a.count a.table a.work e ≡ gives new = step true true f r in
        let b : Centre = centre_after a s (stepped_to k (length new)) in
        step_follows a.count a.table a.work e new given_new λ was x.
        let there : b.table ≡ step_table a.count a.table a.work e =
        table_handed a.journal s e es out a.count a.table a.work in
        let cleared : b.work ≡ step_work a.count a.table a.work e =
        work_handed a.journal s e es out a.count a.table a.work in
        let table_long : length b.table ≡ length a.table = ap length there ∙ x.long in
        let work_long : length b.work ≡ length a.work =
        ap length (cleared ∙ x.cleared) ∙ length-replicate (length a.work) 0 in
        goes (gives (stepped_to k (length new))) (called (gives new) given_new)
        ∙ further b out.3 (ap (table_rows (length new)) there ∙ x.reads) (work_long ∙ long ∙ sym table_long)
        ∙ ap (λ (n : ℕ). into (leaves n) (steps_rows n new es)) table_long
        ∙ rw (f, r)

-- what the fold gives is the list replayed, so of every key what the map has
pub steps_replayed : (size : ℕ) (es : List JournalEntry) (rows new : List Row) → steps_rows size rows es ≡ gives new
    → new ≡ replayed rows es
unfolding steps_rows
steps_replayed size [] rows new e = sym (gives_same e)
steps_replayed size (x ∷ es) rows new e =
    go (keys_fit (made rows x)) (leb (weight (stepped rows x)) size) e (steps_replayed size es (stepped rows x) new)
  where
    go : (fit room : Bool) → folded size rows x es fit room ≡ gives new
        → (steps_rows size (stepped rows x) es ≡ gives new → new ≡ replayed (stepped rows x) es)
        → new ≡ replayed (stepped rows x) es
    go false room e further = impossible cc
    go true false e further = impossible cc
    go true true e further = further e

-- an accepted replay, by what the fold gave
module _ (es : List JournalEntry) (a b : Centre) (s : List ℕ) (rows : List Row)
    (out : RecordHandsOut a.journal s es) (w : AllWithin es) (is : table_rows a.count a.table ≡ Some rows)
    (long : length a.work ≡ length a.table) (done : replay_all (length es) a s ≡ gives b) where
  pub replay_told : {C : Type 0} → ((new : List Row) → steps_rows (length a.table) rows es ≡ gives new
      → leaves (length a.table) new ≡ left_by b → C) → C
  replay_told k =
      into_told (leaves (length a.table)) (steps_rows (length a.table) rows es) (left_by b)
      (sym (replay_exactly es a s rows out w is long) ∙ ap left_of done) k

  pub replay_whole : (table_rows b.count b.table ≡ Some (replayed rows es))
      × ((key : List ℕ) → lookup (replayed rows es) key ≡ replay_map (lookup rows) es key)
  replay_whole =
      replay_told λ new f left. (
        sym (ap (λ (l : Left). l.rows) left) ∙ ap Some (steps_replayed (length a.table) es rows new f),
        λ key. ap (λ (m : Map). m key) (replay_maps es rows),
      )

after_told : {A B C : Type 0} (o : Outcome A) (f : A → Outcome B) (b : B) → after o f ≡ gives b
    → ((a : A) → o ≡ gives a → f a ≡ gives b → C) → C
after_told (gives a) f b e k = k a refl e
after_told (refuses number) f b e k = impossible cc
after_told (refuses_block number block) f b e k = impossible cc

-- behind the last entry nothing is left: 8, whatever the table
pub replay_ends : (es : List JournalEntry) (a b : Centre) (s : List ℕ) → RecordHandsOut a.journal s es
    → replay_all (length es) a s ≡ gives b
    → (count : ℕ) (t w : List ℕ) → replay_next_call b.journal s count t w ≡ refuses 8
unfolding replay_all replay_next_call next_entry
replay_ends [] a b s out done count t w =
    let same : a ≡ b = gives_same done in
    rw (← same, out.1)
replay_ends (e ∷ es) a b s out done count t w =
    after_told (replay_next_call a.journal s a.count a.table a.work) _ b done λ x f g.
    into_told (stepped_to (behind_it a.journal s e es out)) (step_call a.count a.table a.work e) x
    (sym (call_handed a.journal s e es out a.count a.table a.work) ∙ f) λ n h is.
    replay_ends es (centre_after a s x) b s
    (subst (λ (r : Replayed). RecordHandsOut r.journalist s es) is out.3) g count
    t w

-- THE CENTRE'S SENTENCE, of the fold: two ranges one after the other are their joined range, refusals too
pub steps_joined : (size : ℕ) (xs ys : List JournalEntry) (rows : List Row)
    → steps_rows size rows (xs ++ ys) ≡ after (steps_rows size rows xs) (λ r. steps_rows size r ys)
unfolding steps_rows
steps_joined size [] ys rows = refl
steps_joined size (x ∷ xs) ys rows =
    go (keys_fit (made rows x)) (leb (weight (stepped rows x)) size) (steps_joined size xs ys (stepped rows x))
  where
    go : (fit room : Bool)
        → steps_rows size (stepped rows x) (xs ++ ys)
        ≡ after (steps_rows size (stepped rows x) xs) (λ r. steps_rows size r ys)
        → folded size rows x (xs ++ ys) fit room ≡ after (folded size rows x xs fit room) (λ r. steps_rows size r ys)
    go false room e = refl
    go true false e = refl
    go true true e = e

-- and of tables: where the first range is accepted, the second on what it left comes to what the joined range does
pub ranges_joined : (xs ys : List JournalEntry) (a b c u : Centre) (s₁ s₂ s₃ : List ℕ) (rows : List Row)
    → RecordHandsOut a.journal s₁ xs → RecordHandsOut c.journal s₂ ys → RecordHandsOut u.journal s₃ (xs ++ ys)
    → AllWithin xs → AllWithin ys → table_rows a.count a.table ≡ Some rows → length a.work ≡ length a.table
    → replay_all (length xs) a s₁ ≡ gives b → left_by c ≡ left_by b → left_by u ≡ left_by a
    → left_of (replay_all (length ys) c s₂) ≡ left_of (replay_all (length (xs ++ ys)) u s₃)
ranges_joined xs ys a b c u s₁ s₂ s₃ rows o₁ o₂ o₃ w₁ w₂ is long done at_b at_a =
    replay_told xs a b s₁ rows o₁ w₁ is long done λ new f left.
    let n : ℕ = length a.table in
    let there : left_by c ≡ leaves n new = at_b ∙ sym left in
    let rows_c : table_rows c.count c.table ≡ Some new = ap (λ (l : Left). l.rows) there in
    let table-c : length c.table ≡ n = ap (λ (l : Left). l.table) there in
    let work-c : length c.work ≡ n = ap (λ (l : Left). l.work) there in
    let rows-u : table_rows u.count u.table ≡ Some rows = ap (λ (l : Left). l.rows) at_a ∙ is in
    let table-u : length u.table ≡ n = ap (λ (l : Left). l.table) at_a in
    let work-u : length u.work ≡ n = ap (λ (l : Left). l.work) at_a ∙ long in
    replay_exactly ys c s₂ new o₂ w₂ rows_c (work-c ∙ sym table-c)
    ∙ ap (λ (m : ℕ). into (leaves m) (steps_rows m new ys)) table-c
    ∙ sym (ap (λ (o : Outcome (List Row)). into (leaves n) (after o (λ r. steps_rows n r ys))) f)
    ∙ ap (into (leaves n)) (sym (steps_joined n xs ys rows))
    ∙ sym (ap (λ (m : ℕ). into (leaves m) (steps_rows m rows (xs ++ ys))) table-u)
    ∙ sym (replay_exactly (xs ++ ys) u s₃ rows o₃ (all_append Within xs ys w₁ w₂) rows-u (work-u ∙ sym table-u))
