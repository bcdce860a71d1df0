use Rattle.std.proofs.Common.{[], ◌∷◌, ◌++◌, refl, sym, ◌∙◌, ap, append_assoc}
use Rattle.reg_disorder.proofs.Inheriting.{passes_step, passes_all, passes_none}
use Rattle.reg_disorder.proofs.linking.passing.heir_links_of.Goals as goal

pub loop-link-init : goal.loop-link-init
loop-link-init c = ([], refl, passes_none c.args.register.now.ops c.new-made.result.items c.new-made.ensures.items)

pub loop-link-preserved : goal.loop-link-preserved
loop-link-preserved c =
    let was = c.loop-link.invariant in
    let x = c.in-Some.link.now in (
      was.0 ++ x ∷ [],
      was.1 ∙ ap (λ ls. was.0 ++ ls) c.in-Some.ensures.cases.0 ∙ sym (append_assoc was.0 (x ∷ []) c.in-Some.others.now),
      passes_step was.0 x c.args.register.now.ops c.loop-link.made.items c.push_heir_link.new.made.items was.2 c.in_ok-push_heir_link.ensures,
    )

pub returns : goal.returns
returns c = passes_all c.args.before.now c.loop-link.rest.now c.loop-link.invariant.0 c.args.register.now.ops c.loop-link.made.items c.in_default.ensures.cases c.loop-link.invariant.1 c.loop-link.invariant.2
