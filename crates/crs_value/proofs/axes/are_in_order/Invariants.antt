use Rattle.std.proofs.Common.{◌≡◌, ◌+◌, drop}
use Rattle.std.specs.List.{list_all, enumerate_from}
use Rattle.crs_value.specs.Conditions.{is_order}
use Rattle.crs_value.proofs.axes.are_in_order.Given as goal

abbrev pub invariant-loop-i : goal.invariant-loop-i
invariant-loop-i l =
    list_all (λ p. is_order p.0 p.1.order) (enumerate_from 1 l.others)
    ≡ list_all (λ p. is_order p.0 p.1.order) (enumerate_from (l.i + 1) (drop l.i l.others))
