use Rattle.std.proofs.Common.{◌≡◌, ◌+◌, drop}
use Rattle.std.specs.List.{list_all, enumerate_from}
use Rattle.crs_value.specs.Conditions.{axis_fits}
use Rattle.crs_value.proofs.axes.others_fit.Given as goal

abbrev pub invariant-loop-i : goal.invariant-loop-i
invariant-loop-i l =
    list_all (λ p. axis_fits l.system l.common p.0 p.1) (enumerate_from 1 l.others)
    ≡ list_all (λ p. axis_fits l.system l.common p.0 p.1) (enumerate_from (l.i + 1) (drop l.i l.others))
