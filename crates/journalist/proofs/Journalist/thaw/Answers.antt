-- `Journalist::thaw` meets its contract: what is remembered is frozen. Assumes nothing.
use Rattle.journalist.proofs.Facts.{base_hangs_lem, last_facts}
use Rattle.journalist.proofs.Journalist.thaw.Goals as goal

pub thawed-requires : goal.thawed-requires
thawed-requires c =
    let j = c.args.self in
    let h = c.in_ok-checked.ensures in
    let l = last_facts j h in record {
      self_value = base_hangs_lem j h;
      entries_le_entries = (l.entries_in, l.bytes_in);
      blocks_le_held = l.blocks_in;
    }
