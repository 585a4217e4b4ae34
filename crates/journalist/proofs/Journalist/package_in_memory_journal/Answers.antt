-- `package_in_memory_journal` meets its contract: each return is the row of `package_in_memory_journal_call` that its
-- tests lead to. Assumes nothing.
use mathlib.Core.Bool.{true, not}
use mathlib.Core.Path.{◌≡◌, ap, ◌∙◌}
use Prim.Native.Nat.{◌+◌, ◌*◌, ◌≤◌}
use native.Mathlib.Omega.{arith}
use lib.ListN.{length}
use borrow.Author.Tests.{lt-leb, eq-eqb, ne_eqb}
use Rattle.std.proofs.lemmas.Result.{err_from_is_err_and}
use Rattle.refusals.specs.declared.Refusal.TheVariants.{RingUnreadable}
use Rattle.journalist.specs.Changes.{memory_blocks}
use Rattle.journal_entry.specs.Sequence.{joined}
use Rattle.journal_ring.proofs.Rotation.{length_rotated}
use Rattle.journalist.specs.Package.{memory_clones, ring_reads}
use Rattle.journalist.proofs.Facts.{ring_told, ring_counts}
use Rattle.journalist.proofs.PackageLaws.{reads_told, memory_few, MemoryTaken}
use Rattle.journalist.proofs.Packaging.{ring_read, ring_unread, memory_blocks_lem, memory_fits, memory_refused}
use Rattle.journalist.proofs.Packaging.{memory_done}
use Rattle.journalist.proofs.Journalist.package_in_memory_journal.Goals as goal
use Rattle.journalist.proofs.Journalist.package_in_memory_journal.Goals.{After-from_start-pending}
use Rattle.journalist.proofs.Journalist.package_in_memory_journal.Goals.{After-blocks_for-more, In_ok-ring_checked}
use Rattle.journalist.proofs.Journalist.package_in_memory_journal.Goals.{In_ok-write_batch, In_ok-of}

-- the pending bytes are those of the ring from start on, and as many
long : (c : After-from_start-pending) → length (joined c.from_start-pending.result) ≡ length c.args.ring.now
long c = ap length c.from_start-pending.ensures ∙ length_rotated c.args.ring.now c.args.self.start

-- the ring reads, and the clones that come off are the list's
read : (c : In_ok-of) → (ring_reads c.args.self c.args.ring.now ≡ true)
    × (c.in_ok-of.of.memory ≡ memory_clones c.args.self c.args.ring.now)
read c =
    let t = ring_read c.args.self c.args.ring.now _ c.ring_reads-read.result RingUnreadable
    c.from_start-pending.ensures c.ring_reads-read.ensures _ c.in_ok-of.ensures.value in (t.0, t.2)

blocks : (c : After-blocks_for-more) → c.blocks_for-more.result ≡ memory_blocks c.args.self
blocks c =
    memory_blocks_lem c.args.self c.args.ring.now c.list_weight-weight.result c.blocks_for-more.result
    c.in_ok-ring_checked.ensures
    c.list_weight-weight.ensures c.blocks_for-more.ensures

few : (c : After-blocks_for-more) → c.args.self.written + c.blocks_for-more.result ≤ 1024
few c =
    let k = ring_counts c.args.self c.args.ring.now c.in_ok-ring_checked.ensures in
    omega (arith, k, memory_few c.args.self k, blocks c)

-- all tests
taken : (c : In_ok-write_batch) → ring_reads c.args.self c.args.ring.now ≡ true
    → MemoryTaken c.args.self c.args.ring.now c.args.out.now
taken c reads =
    record {
      hangs = c.in_ok-ring_checked.ensures;
      no_frozen = c.if-self-ne0.false;
      some_entries = c.if-self-eq0.false;
      read = reads;
      room = omega (
        arith,
        (memory_blocks_lem c.args.self c.args.ring.now c.list_weight-weight.result c.blocks_for-more.result
            c.in_ok-ring_checked.ensures
            c.list_weight-weight.ensures c.blocks_for-more.ensures),
        c.in_ok-write_batch.ensures.0,
      );
    }

pub from_start-pending-requires : goal.from_start-pending-requires
from_start-pending-requires c =
    omega (
      arith,
      (ring_told c.args.self c.args.ring.now c.in_ok-ring_checked.ensures).1,
      ring_counts c.args.self c.args.ring.now c.in_ok-ring_checked.ensures,
    )

pub ring_reads-read-requires : goal.ring_reads-read-requires
ring_reads-read-requires c =
    let k = ring_counts c.args.self c.args.ring.now c.in_ok-ring_checked.ensures in
    record {
      lists_inside = omega (
        arith,
        (ring_told c.args.self c.args.ring.now c.in_ok-ring_checked.ensures).1,
        long (goal.at.ring_reads-read-requires c).After-from_start-pending,
        k,
      );
      entries_bound = omega (arith, k);
    }

pub returns-in_err-of : goal.returns-in_err-of
returns-in_err-of c =
    let p = err_from_is_err_and c.from_residual-in_err-of.result c.from_residual-in_err-of.ensures.1 in
    let none = ring_unread c.args.self c.args.ring.now _ c.ring_reads-read.result RingUnreadable
    c.from_start-pending.ensures c.ring_reads-read.ensures _ c.in_err-of.ensures.value in
    let told = memory_refused c.args.self c.args.ring.now c.args.out.now 15 (
      c.in_ok-ring_checked.ensures,
      (
        eq-eqb _ _ c.if-self-ne0.false,
        (ap not (ne_eqb _ _ c.if-self-eq0.false), none.0),
      ),
    ) in
    record { result_value = rw (p.1, p.2, none.1) told.0; out_new = told.1 }

pub write_batch-requires : goal.write_batch-requires
write_batch-requires c =
    let told = memory_fits c.args.self c.args.ring.now c.blocks_for-more.result c.in_ok-ring_checked.ensures
    c.if-self-eq0.false (blocks (goal.at.write_batch-requires c).After-blocks_for-more) in
    record { list_inside = rw c.from_start-pending.ensures told.0; bytes_bound = told.1.0; entries_bound = told.1.1 }

pub returns-in_err-write_batch : goal.returns-in_err-write_batch
returns-in_err-write_batch c =
    let p =
    err_from_is_err_and c.from_residual-in_err-write_batch.result c.from_residual-in_err-write_batch.ensures.1 in
    let short = c.in_err-write_batch.ensures in
    let none =
    lt-leb (4096 * memory_blocks c.args.self) (length c.args.out.now)
    (omega (arith, blocks (goal.at.returns-in_err-write_batch c).After-blocks_for-more, short.0)) in
    let told = memory_refused c.args.self c.args.ring.now c.args.out.now 9 (
      c.in_ok-ring_checked.ensures,
      (
        eq-eqb _ _ c.if-self-ne0.false,
        (
          ap not (ne_eqb _ _ c.if-self-eq0.false),
          ((read (goal.at.returns-in_err-write_batch c).In_ok-of).0, none),
        ),
      ),
    ) in record { result_value = rw (p.1, p.2, short.1) told.0; out_new = short.2 ∙ told.1 }

pub overflow_sub-result : goal.overflow_sub-result
overflow_sub-result c =
    let told = reads_told c.args.self c.args.ring.now (read (goal.at.overflow_sub-result c).In_ok-of).0 in
    omega (arith, told.clones_are, (read (goal.at.overflow_sub-result c).In_ok-of).1)

pub overflow_add-result : goal.overflow_add-result
overflow_add-result c = omega (arith, few (goal.at.overflow_add-result c).After-blocks_for-more)

pub returns : goal.returns
returns c =
    let told = memory_done c.args.self c.args.ring.now c.args.out.now
    (taken (goal.at.returns c).In_ok-write_batch (read (goal.at.returns c).In_ok-of).0) c.blocks_for-more.result _
    (blocks (goal.at.returns c).After-blocks_for-more)
    (read (goal.at.returns c).In_ok-of).1 _
    (λ i. (c.type_inv.ring i).fits) (rw c.from_start-pending.ensures at c.in_ok-write_batch.ensures.1) in
    record { result_value = told.0; out_new = told.1 }
