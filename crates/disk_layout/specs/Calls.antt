-- What each call comes to: document 01, "Places in the region" and the row "places 1, 16" of "When a call says no".
-- Assumes nothing.
use Rattle.std.specs.Prelude.{Bool, ◌&&◌, ℕ, leb}
use Rattle.std.specs.Prelude.{Option}
use Rattle.refusals.specs.Outcome.{Outcome, gives, require◌else◌then◌}
use Rattle.disk_layout.specs.declared.JournalInterval.{JournalInterval}
use Rattle.disk_layout.specs.declared.Location.{Location}
use Rattle.disk_layout.specs.DiskLayout.{blocks_in_range, journal_point, valid_journal_location, journal_range_location}
use Rattle.disk_layout.specs.JournalInterval.{interval, valid_journal_interval, contiguous_journal_interval}
use Rattle.disk_layout.specs.JournalInterval.{journal_front_interval, journal_back_interval, subinterval}
use Rattle.disk_layout.specs.JournalInterval.{journal_cyclic_interval_overlap, shares_block, next_start_point}
use Rattle.disk_layout.specs.JournalInterval.{journal_interval_of_location}

-- where block i lies; point N is the region's end
unfoldable pub point_call : (n point : ℕ) → Outcome ℕ
point_call n point =
    require blocks_in_range n else 1 then
    require leb point n else 16 then
    gives (journal_point point)

unfoldable pub front_call : (n start len : ℕ) → Outcome (Option JournalInterval)
front_call n start len =
    require blocks_in_range n else 1 then
    require valid_journal_interval n (interval start len) else 16 then
    gives (journal_front_interval n start len)

unfoldable pub back_call : (n start len : ℕ) → Outcome (Option JournalInterval)
back_call n start len =
    require blocks_in_range n else 1 then
    require valid_journal_interval n (interval start len) else 16 then
    gives (journal_back_interval n start len)

unfoldable pub next_start_call : (n : ℕ) → JournalInterval → Outcome ℕ
next_start_call n indices =
    require blocks_in_range n else 1 then
    require valid_journal_interval n indices else 16 then
    gives (next_start_point n indices)

unfoldable pub subinterval_call : (n : ℕ) → JournalInterval → JournalInterval → Outcome Bool
subinterval_call n a b =
    require blocks_in_range n else 1 then
    require valid_journal_interval n a && valid_journal_interval n b else 16 then
    gives (subinterval n a b)

unfoldable pub overlap_call : (n : ℕ) → JournalInterval → JournalInterval → Outcome Bool
overlap_call n a b =
    require blocks_in_range n else 1 then
    require valid_journal_interval n a && valid_journal_interval n b else 16 then
    gives (journal_cyclic_interval_overlap n a b)

-- "1, then 16, as for overlap": document 02, paper 6
unfoldable pub shares_block_call : (n : ℕ) → JournalInterval → JournalInterval → Outcome Bool
shares_block_call n a b =
    require blocks_in_range n else 1 then
    require valid_journal_interval n a && valid_journal_interval n b else 16 then
    gives (shares_block n a b)

-- interval to location needs start + length ≤ N
unfoldable pub location_call : (n : ℕ) → JournalInterval → Outcome Location
location_call n indices =
    require blocks_in_range n else 1 then
    require contiguous_journal_interval n indices else 16 then
    gives (journal_range_location indices.start indices.len)

unfoldable pub interval_call : (n : ℕ) → Location → Outcome JournalInterval
interval_call n loc =
    require blocks_in_range n else 1 then
    require valid_journal_location n loc else 16 then
    gives (journal_interval_of_location loc)
