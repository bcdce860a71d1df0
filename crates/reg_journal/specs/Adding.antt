-- What an office file has after a command.
use Rattle.std.specs.Prelude.{ℕ, ◌+◌, ◌-◌, min, max, nat_lt, nat_eq, not, ◌&&◌, Bool, List}
use Rattle.std.specs.List.{filter}
use Rattle.reg_op.specs.Set as set
use Rattle.reg_op.specs.Ids.{Id}
use Rattle.reg_op.specs.Operations.{Op}
use Rattle.reg_op.specs.Contents.{Content, merged}
use Rattle.reg_state.specs.Runs.{ids_from}
use Rattle.reg_office.specs.Making.{greatest}
use Rattle.reg_journal.specs.Journal.{Journal, is_own}

-- the id is the office's, and above its last number
abbrev pub is_new : Journal → Id → Bool
is_new f i = is_own f.replica i && nat_lt f.last i.count

-- those of some operations that are the office's, above its last number
abbrev pub new_ops : Journal → List Op → List Op
new_ops f os = filter (λ o. is_new f o.id) os

-- the operations of a register that the office file has not yet, and the numbers from the next one to the greatest that the register
-- has seen
abbrev pub new_in : Journal → Content → Content
new_in f y = record {
  ops = set.retain y.ops (λ o. is_new f o.id);
  seen = set.from_list (ids_from f.replica (f.last + 1) (greatest f.replica y.seen - f.last));
}

-- the office file with what a command made
abbrev pub added : Journal → Content → Journal
added f y = record { replica = f.replica; last = max f.last (greatest f.replica y.seen); stood = f.stood; made = merged f.made (new_in f y) }

-- the office file of an office that knows that this number, or else its last one, stood in a register
abbrev pub stood_to : Journal → ℕ → Journal
stood_to f n = record { replica = f.replica; last = f.last; stood = min f.last (max f.stood n); made = f.made }

-- what the office file has after the office read the register x, and made y of it
abbrev pub left_by : Journal → Content → Content → Journal
left_by f x y = stood_to (added f y) (greatest f.replica x.seen)

-- and once its last number stands in a register
abbrev pub landed : Journal → Journal
landed f = stood_to f f.last

-- it has other numbers than before
abbrev pub is_changed : Journal → Journal → Bool
is_changed f g = not (nat_eq f.last g.last && nat_eq f.stood g.stood)
