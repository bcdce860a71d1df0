-- The result of joining files to a register, or why there is none.
use Rattle.std.specs.Prelude.{◌≡◌, ◌⊎◌, ◌∷◌, [], Bool, true, false, List, ℕ}
use Rattle.reg_op.specs.Contents.{Content}
use Rattle.reg_engine.specs.declared.fault.CliFault.{CliFault}
use Rattle.reg_engine.specs.declared.fault.CliFault.TheVariants as cli
use Rattle.reg_engine.specs.Store.{Admission, Bars}
use Rattle.reg_take.specs.declared.options.TakeOptions.{TakeOptions}
use Rattle.reg_take.specs.declared.files.Arrival.{Arrival}
use Rattle.reg_take.specs.declared.taking.LeftOut.{LeftOut}
use Rattle.reg_take.specs.Files.{FileState, AreArrivals}
use Rattle.reg_take.specs.Taken.{fault_of, all_taken, IsTakenFrom}

-- files are left out only where the command keeps going
abbrev pub MayLeave : Bool → List LeftOut → Type 0
MayLeave true left = Unit {0}
MayLeave false left = left ≡ []

-- it does not, and this is the fault of the first file that would be left out
abbrev pub IsFirstFault : Bool → List LeftOut → CliFault → Type 0
IsFirstFault true left f = ⊥
IsFirstFault false [] f = ⊥
IsFirstFault false (l ∷ ls) f = f ≡ fault_of l

-- the files were read, and joined to the content
abbrev pub Takes : TakeOptions → ℕ → List FileState → List FileState → Content → Content → List LeftOut → Type 0
Takes how next old new x y left = (gave : List Arrival) × AreArrivals how next old new gave × IsTakenFrom how.keep_going x gave y left × MayLeave how.keep_going left

-- why the files that were read are not joined: one cannot be; or memory ran out
abbrev pub CannotJoin : Bool → Content → List Arrival → CliFault → Type 0
CannotJoin going x gave f = IsFirstFault going (all_taken x gave).left f ⊎ (f ≡ cli.Memory)

-- why the store does not let the command work on the loaded register; or memory ran out
abbrev pub IsBarred : Admission → Content → CliFault → Type 0
IsBarred admission x f = Bars admission x f ⊎ (f ≡ cli.Memory)
