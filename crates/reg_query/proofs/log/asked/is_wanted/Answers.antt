use Rattle.std.proofs.Common.{ap, ◌∙◌, subst}
use Rattle.std.specs.List.{list_any}
use Rattle.reg_op.specs.Ids.{is_same}
use Rattle.reg_query.specs.Asked.{AreWanted}
use Rattle.reg_query.proofs.AskedLemmas.{wanted_these}
use Rattle.reg_query.proofs.log.asked.is_wanted.Goals as goal

pub returns-in-These : goal.returns-in-These
returns-in-These c = λ a w.
    c.is_among.ensures ∙ ap (list_any (is_same c.args.entry)) c.deref.ensures.value ∙ wanted_these a c.in-These.entries c.args.entry (subst (AreWanted a) c.in-These.is w)
