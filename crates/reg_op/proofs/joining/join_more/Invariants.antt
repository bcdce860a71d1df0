use Rattle.std.proofs.Common.{◌≡◌, drop, Ok}
use Rattle.reg_op.specs.Joining.{all_joined}
use Rattle.reg_op.proofs.joining.join_more.Given as goal

-- joining the remaining elements to the value so far gives the join of the whole list
abbrev pub invariant-loop-x : goal.invariant-loop-x
invariant-loop-x g l =
    let t = g.T.Join in all_joined t.joined (Ok l.all) (drop l.x-index l.xs) ≡ all_joined t.joined (Ok l.fn.first) l.xs
