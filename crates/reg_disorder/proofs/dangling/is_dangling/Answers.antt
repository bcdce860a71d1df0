use Rattle.std.proofs.Common.{not, ap, refl, sym, ◌∙◌}
use Rattle.reg_report.specs.Seen.{row_seen}
use Rattle.reg_disorder.proofs.HeirLemmas.{heir_is_not, dangling_is}
use Rattle.reg_disorder.proofs.dangling.is_dangling.Goals as goal

pub returns-then-contains : goal.returns-then-contains
returns-then-contains c = λ rs are has. heir_is_not rs c.args.found.now (row_seen c.args.row.now) _ has (sym c.contains.ensures ∙ c.if-contains.true) refl

pub returns : goal.returns
returns c = λ rs are has.
    dangling_is rs c.args.valid.now c.args.found.now (row_seen c.args.row.now) c.is_among.result _ are has c.is_among.ensures (c.is_superseded.ensures.0 c.if-not-is_superseded.false) (sym c.contains.ensures ∙ c.if-contains.false) refl
