-- Operations by id, and the join of two lists of them.
use Rattle.std.specs.Prelude.{◌≡◌, Bool, true, not, ◌&&◌, ◌||◌, List, ◌++◌, Option, option_map, find}
use Rattle.std.specs.List.{list_any}
use Rattle.reg_op.specs.Ids.{Id}
use Rattle.reg_op.specs.Operations.{Op}
use Rattle.reg_op.specs.Operations.{clashes, replaces}
use Rattle.reg_op.specs.Finite.{any}
use Rattle.reg_state.specs.MarkSets.{MarkSet}
use Rattle.reg_op.specs.Lists.{has, ById}
use Rattle.reg_state.specs.Marks.{op_of}

-- some mark replaces the operation
abbrev pub is_marked_off : MarkSet → Op → Bool
is_marked_off ms o = any (λ m. replaces (op_of m) o) ms

abbrev pub lasts : MarkSet → Op → Bool
lasts ms o = not (is_marked_off ms o)

abbrev pub stays : MarkSet → MarkSet → Op → Bool
stays ms ns o = not (is_marked_off ms o || is_marked_off ns o)

-- the first that some mark replaces
abbrev pub first_off : MarkSet → List Op → Option Id
first_off ms os = option_map (λ o. o.id) (find (is_marked_off ms) os)

-- no id has two bodies in the two lists
abbrev pub Agree : List Op → List Op → Type 0
Agree left right = (p o : Op) → has left p ≡ true → has right o ≡ true → p.id ≡ o.id → p ≡ o

-- the id of the first operation on the left that has another body on the right: the least, if the left is ordered by id
abbrev pub clash_in : List Op → List Op → Option Id
clash_in left right = option_map (λ o. o.id) (find (λ o. list_any (λ p. clashes p o) right) left)

-- during a walk: the output, and the rest of two lists
pub record IsMerging (keep : Op → Bool) (out lefts rights left right : List Op) : Type 0 where
  pub left_next : ById (out ++ lefts)
  pub right_next : ById (out ++ rights)
  pub left_part : (q : Op) → has lefts q ≡ true → has left q ≡ true
  pub right_part : (q : Op) → has rights q ≡ true → has right q ≡ true
  pub covered : (q : Op) → (has out q || (keep q && (has lefts q || has rights q))) ≡ (keep q && (has left q || has right q))
