use Rattle.std.proofs.Common.{[], ◌∷◌, sym, ◌∙◌, subst}
use Rattle.std.specs.Prelude.{Contains, ◌↔◌, ◌⊎◌}
use Rattle.reg_disorder.specs.Passing.{PassesTo}
use Rattle.reg_disorder.specs.LinkHeirs.{rows_in}
use Rattle.reg_report.proofs.FoundLemmas.{OneRow, one_row}
use Rattle.reg_disorder.proofs.Inheriting.{nothing_pushed, no_heir, not_new, pushed}
use Rattle.reg_disorder.proofs.linking.passing.push_heir_link.Goals as goal

pub returns-in_default : goal.returns-in_default
returns-in_default c = λ l. nothing_pushed c.args.register.now.ops c.args.link.now c.args.made.now.items (no_heir c.args.register.now.ops c.args.link.now c.in_default.ensures.none) l

pub returns-then-not-is_new : goal.returns-then-not-is_new
returns-then-not-is_new c = λ l.
    let one = subst OneRow c.requires.rows (one_row (rows_in c.args.heirs.now) c.requires.heirs.order) in
    nothing_pushed c.args.register.now.ops c.args.link.now c.args.made.now.items (not_new c.args.register.now.ops c.args.link.now one c.in-Some.heir c.in-Some.ensures.some (sym c.is_new.ensures ∙ c.if-not-is_new.true)) l

pub returns : goal.returns
returns c = λ l.
    let one = subst OneRow c.requires.rows (one_row (rows_in c.args.heirs.now) c.requires.heirs.order) in
    subst (λ ls. Contains ls l ↔ (Contains c.args.made.now.items l ⊎ PassesTo (c.args.link.now ∷ []) c.args.register.now.ops l)) (sym c.in_ok-push.ensures.items)
    (pushed c.args.register.now.ops c.args.link.now one c.in-Some.heir c.in-Some.ensures.some (sym c.is_cut.ensures ∙ c.if-not-is_cut.false) (sym c.is_new.ensures ∙ c.if-not-is_new.false) c.args.made.now.items l)
