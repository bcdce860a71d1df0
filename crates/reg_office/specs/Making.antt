-- The outcome of a command on a content.
use Rattle.std.specs.Prelude.{◌≡◌, ℕ, ◌+◌, max, nat_lt, not, ◌&&◌, Bool, List, [], ◌∷◌, length, Option, Some, None, Result, Ok, Err, if◌then◌else◌}
use Rattle.std.specs.Ordering.{is_eq}
use Rattle.reg_op.specs.Set as set
use Rattle.reg_op.specs.Ids.{Id, Ids, is_same}
use Rattle.reg_op.specs.Operations.{Op, Ops, op_cmp, one}
use Rattle.reg_op.specs.declared.operation.OpBody.{OpBody as Body}
use Rattle.reg_op.specs.declared.operation.OpBody.TheVariants.{Enter, Supersede, Retire}
use Rattle.reg_op.specs.Contents.{Content, state, merged}
use Rattle.reg_op.specs.Kept.{first_dropped}
use Rattle.reg_op.specs.Status.{enters, retires, is_replaced_by}
use Rattle.reg_state.specs.Runs.{replica_cmp, id_at}
use Rattle.reg_office.specs.declared.fault.OfficeFault.{OfficeFault}
use Rattle.reg_office.specs.declared.fault.OfficeFault.TheVariants as fault

-- the greatest count of a replica among ids, or 0 if there is none
abbrev pub greatest_of : List ℕ → List Id → ℕ
greatest_of replica [] = 0
greatest_of replica (i ∷ is) = if is_eq (replica_cmp i.replica replica) then max i.count (greatest_of replica is) else greatest_of replica is

abbrev pub greatest : List ℕ → Ids → ℕ
greatest replica seen = greatest_of replica (set.items seen)

-- operations of a replica with one note, numbered from a count
abbrev pub numbered : List ℕ → ℕ → List ℕ → List Body → List Op
numbered replica count note [] = []
numbered replica count note (b ∷ bs) = record { id = id_at replica count; body = b; note = note } ∷ numbered replica (count + 1) note bs

-- the refusal of one more effect on a content
abbrev pub objection : Ops → Body → Option OfficeFault
objection ops (Enter text) = None
objection ops (Retire entry) =
    if not (enters ops entry) then Some (fault.UnknownEntry entry)
    else (if retires ops entry then Some (fault.AlreadyRetired entry) else None)
objection ops (Supersede old newer) =
    if not (enters ops old) then Some (fault.UnknownEntry old)
    else (if not (enters ops newer) then Some (fault.UnknownEntry newer)
    else (if is_same old newer then Some fault.SameEntry
    else (if retires ops old then Some (fault.AlreadyRetired old)
    else (if retires ops newer then Some (fault.AlreadyRetired newer)
    else (if is_replaced_by ops old newer then Some (fault.AlreadySuperseded newer) else None)))))

-- a content that one more operation has joined
abbrev pub with_op : Content → Op → Content
with_op x o = merged x (state (one o))

abbrev pub else_next : Option OfficeFault → Option OfficeFault → Option OfficeFault
else_next (Some f) rest = Some f
else_next None rest = rest

-- the first refusal among several effects, each as if the previous ones were made
abbrev pub objections : Content → List Op → Option OfficeFault
objections x [] = None
objections x (o ∷ os) = else_next (objection x.ops o.body) (objections (with_op x o) os)

-- a note has at most 200 bytes
abbrev pub note_fault : List ℕ → Option OfficeFault
note_fault note = if nat_lt 200 (length note) then Some fault.NoteTooLong else None

-- the last of some consecutive numbers would exceed 4,294,967,295
abbrev pub is_spent : ℕ → ℕ → Bool
is_spent greatest number = nat_lt 0 number && nat_lt 4294967295 (greatest + number)

abbrev pub made_unless : Option OfficeFault → Bool → List Op → Result (List Op) OfficeFault
made_unless (Some f) spent os = Err f
made_unless None spent os = if spent then Err fault.CountSpent else Ok os

-- the operations of a command with their note, numbered from the greatest own count seen plus one
abbrev pub new_ops : Content → List ℕ → List ℕ → List Body → List Op
new_ops x replica note bodies = numbered replica (greatest replica x.seen + 1) note bodies

-- no effect is refused, and none of the new operations makes another one redundant
pub record AreAllowed (x : Content) (replica note : List ℕ) (bodies : List Body) : Type 0 where
  pub none_refused : objections x (new_ops x replica note bodies) ≡ None
  pub none_dropped : first_dropped (set.from_list {R = op_cmp} (new_ops x replica note bodies)) ≡ None

-- the new operations, or the refusal of the command. A long note is refused first, even without operations
abbrev pub made : Content → List ℕ → List ℕ → List Body → Result (List Op) OfficeFault
made x replica note bodies =
    let os = new_ops x replica note bodies in
    made_unless (else_next (note_fault note) (objections x os)) (is_spent (greatest replica x.seen) (length bodies)) os
