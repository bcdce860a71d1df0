-- The effects of a command on the entries that it names.
use Rattle.std.specs.Prelude.{Bool, not, ◌||◌, Option, Some, None, if◌then◌else◌}
use Rattle.reg_op.specs.Ids.{Id, is_same}
use Rattle.reg_op.specs.Operations.{Ops}
use Rattle.reg_op.specs.declared.operation.OpBody.{OpBody as Body}
use Rattle.reg_op.specs.declared.operation.OpBody.TheVariants.{Supersede as Superseding, Retire as Retiring}
use Rattle.reg_op.specs.Status.{enters, retires, is_replaced_by}
use Rattle.reg_office.specs.declared.command.Command.{Command}
use Rattle.reg_office.specs.declared.command.Command.TheVariants.{Retire, Supersede}
use Rattle.reg_office.specs.declared.fault.OfficeFault.{OfficeFault}
use Rattle.reg_office.specs.declared.fault.OfficeFault.TheVariants as fault

abbrev pub effect_of : Command → Id → Body
effect_of Retire named = Retiring named
effect_of (Supersede old) named = Superseding old named

-- the refusal of one effect, which the same command may have made already
abbrev pub fault_of : Command → Ops → Bool → Id → Option OfficeFault
fault_of Retire ops again entry =
    if not (enters ops entry) then Some (fault.UnknownEntry entry)
    else (if retires ops entry || again then Some (fault.AlreadyRetired entry) else None)
fault_of (Supersede old) ops again newer =
    if not (enters ops old) then Some (fault.UnknownEntry old)
    else (if not (enters ops newer) then Some (fault.UnknownEntry newer)
    else (if is_same old newer then Some fault.SameEntry
    else (if retires ops old then Some (fault.AlreadyRetired old)
    else (if retires ops newer then Some (fault.AlreadyRetired newer)
    else (if is_replaced_by ops old newer || again then Some (fault.AlreadySuperseded newer) else None)))))
