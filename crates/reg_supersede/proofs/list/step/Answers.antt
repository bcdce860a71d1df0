use Rattle.std.proofs.Common.{◌++◌, refl, sym, ap, ◌∙◌}
use Rattle.reg_supersede.specs.Lines.{words}
use Rattle.reg_supersede.specs.Lists.{bodies_of}
use Rattle.reg_supersede.specs.Effects.{task_of}
use Rattle.reg_supersede.proofs.LineLemmas.{steps_on, can_on}
use Rattle.reg_supersede.proofs.DoneLemmas.{passed_over, more_are_done}
use Rattle.reg_supersede.proofs.list.step.Goals as goal

pub returns-then-contains-clause-ok : goal.returns-then-contains-clause-ok
returns-then-contains-clause-ok c =
    passed_over (task_of c.args.options.now) c.args.options.now.register.now c.args.number c.args.line.now c.args.effects.now.bodies.items c.args.left.now.items c.seen-content.ensures.content
    (c.requires.done c.args.line (sym c.if-contains.ensures))

pub returns-in-Ok-push_done-clause-ok : goal.returns-in-Ok-push_done-clause-ok
returns-in-Ok-push_done-clause-ok c =
    steps_on (task_of c.args.options.now) c.args.options.now.register.now c.args.number c.args.line.now c.args.effects.now.bodies.items c.push_done.new.effects.bodies.items c.args.left.now.items c.in-Ok.pairs.items
    c.seen-content.ensures.content (words c.args.line.now) refl c.in-Ok.ensures.adds
    (c.in-Ok-push_done.ensures.bodies ∙ ap (λ ps. c.args.effects.now.bodies.items ++ bodies_of ps) c.deref.ensures.value)

pub returns-in-Ok-push_done-clause-made : goal.returns-in-Ok-push_done-clause-made
returns-in-Ok-push_done-clause-made c =
    can_on (task_of c.args.options.now) c.args.options.now.register.now c.args.effects.now.bodies.items c.push_done.new.effects.bodies.items c.in-Ok.pairs.items
    c.seen-content.ensures.content c.requires.made (words c.args.line.now) c.in-Ok.ensures.adds
    (c.in-Ok-push_done.ensures.bodies ∙ ap (λ ps. c.args.effects.now.bodies.items ++ bodies_of ps) c.deref.ensures.value)

pub returns-in-Ok-push_done-clause-done : goal.returns-in-Ok-push_done-clause-done
returns-in-Ok-push_done-clause-done c =
    let t = task_of c.args.options.now in
    let x = c.args.options.now.register.now in
    let old = c.args.effects.now.bodies.items in
    let new = c.push_done.new.effects.bodies.items in
    let e = c.in-Ok-push_done.ensures.bodies ∙ ap (λ ps. old ++ bodies_of ps) c.deref.ensures.value in
    let content = c.seen-content.ensures.content in
    more_are_done t x old new c.in-Ok.pairs.items c.args.line.now c.args.done.now c.push_done.new.done content
    (can_on t x old new c.in-Ok.pairs.items content c.requires.made (words c.args.line.now) c.in-Ok.ensures.adds e) e c.in-Ok.ensures.adds c.in-Ok-push_done.ensures.done c.requires.done
