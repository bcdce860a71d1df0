use Rattle.std.proofs.Common.{List, length, eqb, sym, ap, ◌∙◌}
use Rattle.std.proofs.lemmas.Bool.{eqb-true, true≢false}
use Rattle.std.proofs.lemmas.List.{nil_from_length}
use Rattle.reg_state.specs.declared.mark.MarkTarget.{MarkTarget}
use Rattle.reg_report.proofs.MarkLemmas.{retired_is, valid_is, superseded_is}
use Rattle.reg_report.proofs.marks.status_by.Goals as goal

pub returns-then-has_retirement : goal.returns-then-has_retirement
returns-then-has_retirement c = λ s e there told. retired_is s e c.args.own.now told there (sym c.has_retirement.ensures ∙ c.if-has_retirement.true)

pub returns-then-is_empty : goal.returns-then-is_empty
returns-then-is_empty c = λ s e there told. valid_is s e c.args.own.now told there (nil_from_length c.args.own.now (eqb-true (length c.args.own.now) 0 (sym c.is_empty.ensures ∙ c.if-is_empty.true)))

pub returns : goal.returns
returns c = λ s e there told. superseded_is s e c.args.own.now told there (sym c.has_retirement.ensures ∙ c.if-has_retirement.false)
    (λ none. true≢false (sym (c.is_empty.ensures ∙ ap (λ (l : List MarkTarget). eqb (length l) 0) none) ∙ c.if-is_empty.false))
