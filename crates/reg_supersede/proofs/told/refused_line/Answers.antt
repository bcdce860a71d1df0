use Rattle.std.proofs.Common.{rules, ◌≡◌, sym, ap, ◌∙◌}
use Rattle.reg_supersede.specs.declared.fault.RefusedLine.{RefusedLine}
use Rattle.reg_supersede.specs.Engine.{cause_of}
use Rattle.reg_supersede.proofs.LastLemmas.{same_end}
use Rattle.reg_supersede.proofs.told.refused_line.Goals as goal

pub returns-clause-none : goal.returns-clause-none
returns-clause-none c line (off, (before, is), cause) =
    let same : c.in-Some.line.now ≡ line = same_end c.in-Some.field-0-1.now before c.in-Some.line.now line (sym c.in-Some.ensures.cases.0 ∙ is) in
    let found : cause_of c.in-Some.line.now.fault ≡ c.args.fault = ap (λ (l : RefusedLine). cause_of l.fault) same ∙ cause in
    search rules
