-- How `supersede` ends: which lines of a list are reported, and which fault.
use Rattle.std.specs.Prelude.{◌≡◌, ◌⊎◌, Bool, false, List, [], map, Result, Ok, Err}
use Rattle.reg_engine.specs.declared.fault.CliFault.{CliFault}
use Rattle.reg_engine.specs.declared.fault.CliFault.TheVariants as cli
use Rattle.reg_supersede.specs.declared.fault.RefusedLine.{RefusedLine}
use Rattle.reg_supersede.specs.Engine.{Refuses}
use Rattle.cli_open.specs.declared.ending.outcome.Done.{Done}
use Rattle.cli_open.specs.declared.ending.outcome.NotDone.{NotDone}
use Rattle.cli_open.specs.declared.ending.outcome.NotDone.TheVariants as stop
use Rattle.cli_change.specs.declared.change.ToldLine.{ToldLine}
use Rattle.cli_change.specs.declared.change.ListFault.{ListFault}
use Rattle.cli_change.specs.declared.change.ListFault.TheVariants as list

-- it is not done, for this fault
abbrev pub IsStopped : {B : Type 0} → CliFault → Result (Done ToldLine B) (NotDone ListFault) → Type 0
IsStopped f (Err (stop.Fault (list.Plain g))) = g ≡ f
IsStopped f outcome = ⊥

-- without a list: it is done and left nothing out, or has the fault of the command
abbrev pub IsPlainOutcome : {A : Type 0} → {B : Type 0} → Result A CliFault → Result (Done ToldLine B) (NotDone ListFault) → Type 0
IsPlainOutcome (Ok a) (Ok d) = (d.left.items ≡ []) × (d.differs ≡ false)
IsPlainOutcome (Ok a) (Err s) = ⊥
IsPlainOutcome (Err f) outcome = IsStopped f outcome

-- this line is reported, unless memory ran out for it
abbrev pub IsAtLine : RefusedLine → ListFault → Type 0
IsAtLine line (list.AtLine told) = told.line ≡ line
IsAtLine line (list.Plain f) = f ≡ cli.Memory

-- the fault is reported as the line that refuses the command; as itself, only if none does, or memory ran out
abbrev pub IsListFault : Bool → List RefusedLine → CliFault → ListFault → Type 0
IsListFault keep_going refused fault (list.AtLine told) = Refuses keep_going refused fault told.line
IsListFault keep_going refused fault (list.Plain f) = (f ≡ cli.Memory) ⊎ ((f ≡ fault) × ((line : RefusedLine) → ¬ (Refuses keep_going refused fault line)))

-- the command is done: each refused line was left out, in order, unless memory ran out
abbrev pub IsListDone : {B : Type 0} → List RefusedLine → Result (Done ToldLine B) (NotDone ListFault) → Type 0
IsListDone refused (Ok d) = (map (λ (t : ToldLine). t.line) d.left.items ≡ refused) × (d.differs ≡ false)
IsListDone refused (Err (stop.Fault (list.Plain f))) = f ≡ cli.Memory
IsListDone refused (Err (stop.Fault (list.AtLine told))) = ⊥
IsListDone refused (Err (stop.Misuse line)) = ⊥

-- lines are reported as left out only of a command that is done; otherwise its fault is reported, and nothing else
abbrev pub IsListOutcome : {A : Type 0} → {B : Type 0} → Bool → List RefusedLine → Result A CliFault → Result (Done ToldLine B) (NotDone ListFault) → Type 0
IsListOutcome keep_going refused (Ok a) outcome = IsListDone refused outcome
IsListOutcome keep_going refused (Err f) (Err (stop.Fault g)) = IsListFault keep_going refused f g
IsListOutcome keep_going refused (Err f) outcome = ⊥
