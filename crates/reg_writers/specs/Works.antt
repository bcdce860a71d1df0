-- What a command makes of the office file and the register that it read.
use Rattle.std.specs.Prelude.{ℕ, List, Option, Some, None, Result, Ok, Err}
use Rattle.reg_op.specs.Set as set
use Rattle.reg_op.specs.Ids.{Id}
use Rattle.reg_op.specs.Operations.{Op}
use Rattle.reg_op.specs.declared.operation.OpBody.{OpBody as Body}
use Rattle.reg_op.specs.Contents.{Content, state, joined}
use Rattle.reg_office.specs.declared.fault.OfficeFault.{OfficeFault}
use Rattle.reg_office.specs.Making.{made}
use Rattle.reg_journal.specs.Journals.{Copy, new_ops, both}

-- an office makes operations with a note, and with effects that may depend on the office file and the register that it read
pub record Command : Type 0 where
  pub office : List ℕ
  pub note : List ℕ
  pub effects : Content → Content → List Body

-- the operations of a command, the next office file, and the next register
pub record Work : Type 0 where
  pub ops : List Op
  pub file : Copy
  pub register : Copy

-- f is the office file that was read, c the register, and y both, joined
abbrev pub worked : Copy → Copy → List Op → Result Content Id → Result Content Id → Option Work
worked f c os (Ok j) (Ok z) = Some (record {
  ops = os;
  file = record { content = j; reached = set.union f.reached (new_ops os) };
  register = record { content = z; reached = set.union (both c f) (new_ops os) };
})
worked f c os (Ok j) (Err id) = None
worked f c os (Err id) z = None

abbrev pub works : Copy → Copy → Content → Result (List Op) OfficeFault → Option Work
works f c y (Ok os) = worked f c os (joined f.content (state (new_ops os))) (joined y (state (new_ops os)))
works f c y (Err fault) = None

abbrev pub works_on : Command → Copy → Copy → Result Content Id → Option Work
works_on a f c (Ok y) = works f c y (made y a.office a.note (a.effects f.content c.content))
works_on a f c (Err id) = None

-- none if the command is refused
abbrev pub work : Command → Copy → Copy → Option Work
work a f c = works_on a f c (joined c.content f.content)
