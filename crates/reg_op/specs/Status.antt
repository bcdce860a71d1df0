-- The status of an entry in a set of operations.
use Rattle.std.specs.Prelude.{Bool, true, false, not, ◌&&◌, Option, Some, None, if◌then◌else◌}
use Rattle.reg_op.specs.Finite.{any}
use Rattle.reg_op.specs.Ids.{Id, is_same}
use Rattle.reg_op.specs.Operations.{Body, Enter, Supersede, Retire, Ops}
pub use Rattle.reg_op.specs.declared.status.Status.{Status}
pub use Rattle.reg_op.specs.declared.status.Status.TheVariants.{Valid, Superseded, Retired}

abbrev pub is_enter : Body → Bool
is_enter (Enter text) = true
is_enter (Supersede old newer) = false
is_enter (Retire entry) = false

abbrev pub is_retirement : Id → Body → Bool
is_retirement e (Enter text) = false
is_retirement e (Supersede old newer) = false
is_retirement e (Retire entry) = is_same e entry

-- a supersession of e by a newer entry that passes
abbrev pub is_supersession : Id → (Id → Bool) → Body → Bool
is_supersession e by (Enter text) = false
is_supersession e by (Supersede old newer) = is_same e old && by newer
is_supersession e by (Retire entry) = false

-- some operation of the set enters the entry; retires it; supersedes it
abbrev pub enters : Ops → Id → Bool
enters s e = any (λ o. is_same e o.id && is_enter o.body) s

abbrev pub retires : Ops → Id → Bool
retires s e = any (λ o. is_retirement e o.body) s

abbrev pub supersedes : Ops → Id → Bool
supersedes s e = any (λ o. is_supersession e (λ n. true) o.body) s

-- the status of an entered id; others have none
abbrev pub status : Ops → Id → Option Status
status s e =
    if enters s e
    then Some (if retires s e then Retired else (if supersedes s e then Superseded else Valid))
    else None

-- the entry is not retired, and is superseded by n
abbrev pub is_replaced_by : Ops → Id → Id → Bool
is_replaced_by s e n = not (retires s e) && any (λ o. is_supersession e (is_same n) o.body) s
