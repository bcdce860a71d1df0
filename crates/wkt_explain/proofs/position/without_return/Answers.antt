use Rattle.std.proofs.Common.{ap, sym, ◌∙◌}
use Rattle.wkt_explain.specs.Position.{without_return}
use Rattle.wkt_explain.proofs.ReturnLemmas.{return_cut, no_return, no_line}
use Rattle.wkt_explain.proofs.position.without_return.Goals as goal

pub returns-in_default : goal.returns-in_default
returns-in_default c = no_line c.args.line.now c.in_default.ensures.cases

pub returns-then-is_return : goal.returns-then-is_return
returns-then-is_return c =
    sym (ap without_return c.in-Some.ensures.cases.0 ∙ return_cut c.in-Some.others.now c.in-Some.last.now (sym c.is_return.ensures ∙ c.if-is_return.true))

pub returns : goal.returns
returns c =
    c.in-Some.ensures.cases.0
    ∙ sym (ap without_return c.in-Some.ensures.cases.0 ∙ no_return c.in-Some.others.now c.in-Some.last.now (sym c.is_return.ensures ∙ c.if-is_return.false))
