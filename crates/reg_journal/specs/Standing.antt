-- What an office file says of a register, before it joins it.
use Rattle.std.specs.Prelude.{◌≡◌, ℕ, nat_lt, Bool, false, not, ◌&&◌, ◌||◌, List, Option, Some, None, Ok, if◌then◌else◌}
use Rattle.std.specs.List.{list_any}
use Rattle.reg_op.specs.Set as set
use Rattle.reg_op.specs.Ids.{Id, is_same}
use Rattle.reg_op.specs.Finite.{any}
use Rattle.reg_op.specs.Operations.{Op, Ops, named_in, replaces}
use Rattle.reg_op.specs.Contents.{Content, joined}
use Rattle.reg_state.specs.Runs.{id_at}
use Rattle.reg_state.specs.Walks.{IsLeastOf}
use Rattle.reg_office.specs.Making.{greatest}
use Rattle.reg_journal.specs.Journal.{Journal, is_own}
use Rattle.reg_journal.specs.declared.fault.AdmitFault.{AdmitFault}
use Rattle.reg_journal.specs.declared.fault.AdmitFault.TheVariants as admitting

-- ---- another register, or one from before the office's first command

-- an effect names an id of the office
abbrev pub names_own : List ℕ → Op → Bool
names_own replica o = list_any (is_own replica) (named_in o.body)

-- the register has seen a number of the office, or an operation names one
abbrev pub knows_office : List ℕ → Content → Bool
knows_office replica x = nat_lt 0 (greatest replica x.seen) || any (names_own replica) x.ops

-- a number of the office stood in a register, and this one knows none: the last number that the office gave
abbrev pub behind : Journal → Content → Option Id
behind f x = if nat_lt 0 f.stood && not (knows_office f.replica x) then Some (id_at f.replica f.last) else None

-- ---- numbers that somebody else gave in the office's name

-- the office made the operation: it is among those of the office file; or it is redundant beside them, and none of them has its
-- number
abbrev pub is_known : Ops → Op → Bool
is_known made o = set.contains made o || (not (any (λ p. is_same o.id p.id) made) && any (λ p. replaces p o) made)

-- an operation tells that an id was forged: it names the id, which is above the last number; or it has the id, and the office did
-- not make it
abbrev pub tells_forged : Journal → Id → Op → Bool
tells_forged f i o = (nat_lt f.last i.count && list_any (is_same i) (named_in o.body)) || (is_same i o.id && not (is_known f.made.ops o))

-- an id is above the last number, and the register has seen it; or an operation tells that it was forged
abbrev pub is_forged : Journal → Content → Id → Bool
is_forged f x i = is_own f.replica i && ((nat_lt f.last i.count && set.contains x.seen i) || any (tells_forged f i) x.ops)

-- of the ids that pass a test, the least one; or there is none
abbrev pub Leasts : (Id → Bool) → Option Id → Type 0
Leasts t (Some id) = IsLeastOf t id
Leasts t None = (i : Id) → t i ≡ false

-- nobody gave a number in the office's name
abbrev pub IsHonest : Journal → Content → Type 0
IsHonest f x = (i : Id) → is_forged f x i ≡ false

-- ---- the join

-- the register is not behind, and nobody gave a number in the office's name: the register that the command works on
pub record Admits (f : Journal) (x y : Content) : Type 0 where
  pub not_behind : behind f x ≡ None
  pub honest : IsHonest f x
  pub joins : joined x f.made ≡ Ok y

-- the register is refused: for the last number; or for the least forged id; or memory ran out
abbrev pub IsUnadmitted : Journal → Content → AdmitFault → Type 0
IsUnadmitted f x (admitting.Behind id) = behind f x ≡ Some id
IsUnadmitted f x (admitting.Forged id) = (behind f x ≡ None) × IsLeastOf (is_forged f x) id
IsUnadmitted f x admitting.Memory = (behind f x ≡ None) × IsHonest f x

-- the same where the office's operations are brought to any register
abbrev pub IsUncaught : Journal → Content → AdmitFault → Type 0
IsUncaught f x (admitting.Behind id) = ⊥
IsUncaught f x (admitting.Forged id) = IsLeastOf (is_forged f x) id
IsUncaught f x admitting.Memory = IsHonest f x
