use Rattle.std.proofs.Common.{ℕ, List, sym, subst}
use Rattle.wkt_crs.specs.Spells.{Spells}
use Rattle.reg_lint.proofs.kept.form_of_entry.Goals as goal

pub returns-then-takes : goal.returns-then-takes
returns-then-takes c = (c.in_ok-crs.crs, c.in_ok-crs.ensures, c.in_ok-made.ensures)

pub returns : goal.returns
returns c =
    let named = c.name-name.ensures in
    (named.0, named.1, subst (λ (t : List ℕ). Spells t named.0) (sym c.in_ok-copy.ensures) named.1.1)
