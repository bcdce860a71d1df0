use Rattle.std.proofs.Common.{ℕ, List, sym, subst}
use Rattle.wkt_crs.specs.Spells.{Spells}
use Rattle.reg_lint.proofs.kept.form_of_text.Goals as goal

pub returns-then-takes : goal.returns-then-takes
returns-then-takes c = λ spelled. c.in_ok-made.ensures

pub returns : goal.returns
returns c = λ spelled. subst (λ (t : List ℕ). Spells t c.args.crs) (sym c.in_ok-copy.ensures.items) spelled
