-- Contents of registers, and their join.
use Rattle.std.specs.Prelude.{◌≡◌, true, Option, Some, None, Result, Ok, Err}
use Rattle.reg_op.specs.Set as set
use Rattle.reg_op.specs.Ids.{Id, IsId, Ids}
use Rattle.reg_op.specs.Operations.{Op, IsOperation, Ops, ids, OneBody, kept, first_clash}

-- the value of a register: the kept operations, and the seen ids
pub record Content : Type 0 where
  pub ops : Ops
  pub seen : Ids

-- the content after taking the operations of a set
abbrev pub state : Ops → Content
state s = record { ops = kept s; seen = ids s }

abbrev pub nothing : Content
nothing = record { ops = set.empty; seen = set.empty }

-- the join of two contents, if no id has two bodies
abbrev pub merged : Content → Content → Content
merged x y = record { ops = kept (set.union x.ops y.ops); seen = set.union x.seen y.seen }

-- the least id that has two bodies in the union of the two
abbrev pub clash_of : Content → Content → Option Id
clash_of x y = first_clash (set.union x.ops y.ops)

abbrev pub joined_unless : Option Id → Content → Result Content Id
joined_unless None x = Ok x
joined_unless (Some id) x = Err id

abbrev pub joined : Content → Content → Result Content Id
joined x y = joined_unless (clash_of x y) (merged x y)

-- the join of two results, one of which may already be a clash
abbrev pub joined_both : Result Content Id → Result Content Id → Result Content Id
joined_both (Ok x) (Ok y) = joined x y
joined_both (Ok x) (Err id) = Err id
joined_both (Err id) y = Err id

-- no id has two bodies in their union
abbrev pub Agreed : Content → Content → Type 0
Agreed x y = OneBody (set.union x.ops y.ops)

-- each member is an operation
abbrev pub AreOperations : Ops → Type 0
AreOperations s = (o : Op) → set.contains s o ≡ true → IsOperation o

-- the contents that a register can have
pub record IsContent (x : Content) : Type 0 where
  pub are_operations : AreOperations x.ops
  pub one_body : OneBody x.ops
  pub is_kept : kept x.ops ≡ x.ops
  pub are_seen : (o : Op) → set.contains x.ops o ≡ true → set.contains x.seen o.id ≡ true
  pub are_ids : (i : Id) → set.contains x.seen i ≡ true → IsId i
