-- Entries that are not retired in a content, and are retired elsewhere.
use Rattle.std.specs.Prelude.{◌≡◌, Bool, not, ◌&&◌, List}
use Rattle.std.specs.BTreeSet.{BTreeSet, contains}
use Rattle.std.specs.List.{list_any}
use Rattle.reg_op.specs.Ids.{Id, id_cmp, is_same}
use Rattle.reg_op.specs.Rows.{Row}
use Rattle.reg_report.specs.Exports.{is_retired}

-- the entry of the row is not retired, and is one of those that are retired elsewhere
abbrev pub is_revived : (Id → Bool) → Row → Bool
is_revived gone r = not (is_retired r.status) && gone r.entry

-- the set has exactly these ids
abbrev pub HasIds : List Id → BTreeSet Id → Type 0
HasIds ids s = (i : Id) → contains id_cmp s i ≡ list_any (is_same i) ids
