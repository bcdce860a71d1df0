-- Rows and places, as contracts see them.
use Rattle.std.specs.Prelude.{Bool, Option, Some, None, if◌then◌else◌}
use Rattle.std.specs.Borrow.{Bor}
use Rattle.std.specs.Ordering.{is_lt}
use Rattle.reg_op.specs.Ids.{Id}
use Rattle.reg_op.specs.Rows.{Row}
use Rattle.reg_report.specs.declared.row.Row.{Row as MadeRow}
use Rattle.reg_report.specs.Keys.{key_bytes}
use Rattle.reg_report.specs.Seen.{row_seen}
use Rattle.reg_export.specs.declared.chosen.KeyedRow.{KeyedRow}
use Rattle.reg_export.specs.Chosen.{KeyThenEntry, place_cmp}

abbrev pub row_at : Bor MadeRow → Row
row_at r = row_seen r.now

abbrev pub place_of : KeyedRow → KeyThenEntry
place_of h = record { key = key_bytes h.key; entry = (row_at h.row).entry }

abbrev pub option_place : Option KeyedRow → Option KeyThenEntry
option_place None = None
option_place (Some h) = Some (place_of h)

-- the lesser of two places
abbrev pub lesser : Option KeyThenEntry → KeyThenEntry → KeyThenEntry
lesser None p = p
lesser (Some least) p = if is_lt (place_cmp p least) then p else least

-- the least place of the contested rows, after one more row
abbrev pub least_with : Bool → Option KeyThenEntry → KeyThenEntry → Option KeyThenEntry
least_with contested o p = if contested then Some (lesser o p) else o

abbrev pub option_entry : Option KeyThenEntry → Option Id
option_entry None = None
option_entry (Some p) = Some p.entry
