-- Exported texts: those of all entries that are not retired.
use Rattle.std.specs.Prelude.{◌++◌, ◌∷◌, [], true, false, Bool, List, ℕ, Option, Some, None, if◌then◌else◌}
use Rattle.std.specs.List.{flat_map}
use Rattle.reg_op.specs.Operations.{Ops}
use Rattle.reg_op.specs.declared.status.Status.{Status}
use Rattle.reg_op.specs.declared.status.Status.TheVariants.{Valid, Superseded, Retired}
use Rattle.reg_op.specs.Rows.{Row, rows}

abbrev pub is_retired : Option Status → Bool
is_retired None = false
is_retired (Some Retired) = true
is_retired (Some Superseded) = false
is_retired (Some Valid) = false

-- an entry's canonical text and a newline, if it is not retired
abbrev pub row_line : Row → List ℕ
row_line r = if is_retired r.status then [] else r.definition ++ 10 ∷ []

-- the lines of all entries, by id
abbrev pub export : Ops → List ℕ
export s = flat_map row_line (rows s)
