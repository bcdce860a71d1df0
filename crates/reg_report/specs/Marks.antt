-- Which marks operations set: which entries they retire, and which they supersede by which.
use Rattle.std.specs.Prelude.{◌≡◌, Bool, true, false, ◌&&◌, List, [], ◌∷◌, Option, Some, None}
use Rattle.std.specs.List.{list_any, flat_map}
use Rattle.reg_op.specs.Set as set
use Rattle.reg_op.specs.Ids.{Id, is_same}
use Rattle.reg_op.specs.Operations.{Op, Ops}
use Rattle.reg_op.specs.declared.operation.OpBody.{OpBody as Body}
use Rattle.reg_op.specs.declared.operation.OpBody.TheVariants.{Enter, Supersede, Retire}
use Rattle.reg_state.specs.declared.mark.MarkTarget.{MarkTarget}

-- the target of the mark that an operation sets
abbrev pub targets_in : Body → List MarkTarget
targets_in (Enter text) = []
targets_in (Supersede old newer) = record { entry = old; by = Some newer } ∷ []
targets_in (Retire entry) = record { entry = entry; by = None } ∷ []

abbrev pub targets_of : List Op → List MarkTarget
targets_of os = flat_map (λ (o : Op). targets_in o.body) os

-- the mark is on the entry
abbrev pub is_on : Id → MarkTarget → Bool
is_on e m = is_same e m.entry

-- these are the marks on the entry, in any order and as often as they like
abbrev pub AreMarksOn : Ops → Id → List MarkTarget → Type 0
AreMarksOn s e own = (t : MarkTarget → Bool) → list_any t own ≡ list_any (λ m. is_on e m && t m) (targets_of (set.items s))
