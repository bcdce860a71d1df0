-- A command that was stopped, run again.
use Rattle.std.specs.Prelude.{◌≡◌, ℕ, ◌≤◌, nat_lt, Bool, true, false, not, ◌&&◌, ◌||◌, List, length, Option, Some, None}
use Rattle.std.specs.List.{list_all}
use Rattle.reg_op.specs.Set as set
use Rattle.reg_op.specs.Ids.{Id, Ids}
use Rattle.reg_op.specs.Operations.{Op, Ops}
use Rattle.reg_op.specs.declared.operation.OpBody.{OpBody as Body}
use Rattle.reg_op.specs.declared.operation.OpBody.TheVariants.{Enter, Supersede, Retire}
use Rattle.reg_op.specs.declared.status.Status.{Status}
use Rattle.reg_op.specs.declared.status.Status.TheVariants.{Valid, Superseded, Retired}
use Rattle.reg_op.specs.Status.{enters, retires, status}
use Rattle.reg_office.specs.Making.{numbered}

-- the entries that an effect names are there, and the one that it makes, or puts in another's place, is not retired
abbrev pub still_holds : Ops → Id → Body → Bool
still_holds ops i (Enter text) = not (retires ops i)
still_holds ops i (Supersede old newer) = enters ops old && (enters ops newer && not (retires ops newer))
still_holds ops i (Retire entry) = enters ops entry

-- there is an entry, neither retired nor superseded
abbrev pub is_valid : Option Status → Bool
is_valid None = false
is_valid (Some Valid) = true
is_valid (Some Superseded) = false
is_valid (Some Retired) = false

-- the effect enters a text, and the entry is valid: another entry with this text would be its double
abbrev pub would_double : Ops → Id → Body → Bool
would_double ops i (Enter text) = is_valid (status ops i)
would_double ops i (Supersede old newer) = false
would_double ops i (Retire entry) = false

-- the join of a register with the office file has the operation, and it still holds there; and the register has not seen it, or
-- it would be doubled
abbrev pub is_found : Ids → Ops → Op → Bool
is_found seen ops o = (set.contains ops o && still_holds ops o.id o.body) && (not (set.contains seen o.id) || would_double ops o.id o.body)

-- there are effects, and the operations with these effects and this note, numbered from n, are found
abbrev pub is_again : Ids → Ops → List ℕ → List ℕ → List Body → ℕ → Bool
is_again seen ops replica note effects n = nat_lt 0 (length effects) && list_all (is_found seen ops) (numbered replica n note effects)

-- the greatest such number; or there is none
abbrev pub LastAgain : (ℕ → Bool) → Option ℕ → Type 0
LastAgain t (Some n) = (t n ≡ true) × ((m : ℕ) → t m ≡ true → m ≤ n)
LastAgain t None = (m : ℕ) → t m ≡ false
