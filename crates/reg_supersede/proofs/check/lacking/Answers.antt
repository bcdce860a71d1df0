use Rattle.std.proofs.Common.{rules, ◌≡◌, ◌+◌, ◌∷◌, drop, sym, ap, ◌∙◌}
use Rattle.reg_supersede.specs.declared.pair.Pair.{Pair}
use Rattle.std.proofs.lemmas.List.{drop_more}
use Rattle.std.proofs.lemmas.Result.{err_from_is_err_and}
use Rattle.reg_supersede.specs.Effects.{task_of, after}
use Rattle.reg_supersede.proofs.LackingLemmas.{pairs_ended, leads_first, leads_more, leads_end, unrefused_first, unrefused_more, no_pairs, fault_here}
use Rattle.reg_supersede.proofs.check.lacking.Goals as goal

pub loop-pair-init : goal.loop-pair-init
loop-pair-init c =
    let t = task_of c.args.options.now in
    let x = c.args.options.now.register.now in
    let bs = c.args.effects.now.bodies.items in (
      leads_first (after t x bs).ops c.args.pairs.now c.new.result.items c.new.ensures.items,
      unrefused_first t x bs c.seen-content.ensures.content c.requires.made c.new.result.items c.new.ensures.items,
      no_pairs c.new-2.result c.new.result.items (search rules) c.new.ensures.items,
    )

pub loop-pair-preserved : goal.loop-pair-preserved
loop-pair-preserved c =
    let t = task_of c.args.options.now in
    let x = c.args.options.now.register.now in
    let bs = c.args.effects.now.bodies.items in
    let k = c.loop-pair.pair-index in
    let one = c.pair-item.result in
    let first : drop k c.args.pairs.now ≡ one ∷ drop (k + 1) c.args.pairs.now = drop_more c.args.pairs.now k one c.loop-pair-test.true ∙ ap (λ (p : Pair). p ∷ drop (k + 1) c.args.pairs.now) (sym c.pair-item.is) in (
      leads_more (after t x bs).ops x.ops c.args.pairs.now (drop k c.args.pairs.now) (drop (k + 1) c.args.pairs.now) c.loop-pair.added.list.items c.add_pair.new.added.list.items one first c.in_ok-add_pair.ensures.ok c.loop-pair.invariant.0,
      unrefused_more t x bs c.seen-content.ensures.content c.requires.made c.loop-pair.added.list.items c.add_pair.new.added.list.items one c.in_ok-add_pair.ensures.ok c.loop-pair.invariant.1,
      c.in_ok-add_pair.ensures.set,
    )

pub returns-clause-ok : goal.returns-clause-ok
returns-clause-ok c =
    let t = task_of c.args.options.now in
    let x = c.args.options.now.register.now in
    let k = c.loop-pair.pair-index in (
      leads_end (after t x c.args.effects.now.bodies.items).ops c.args.pairs.now (drop k c.args.pairs.now) c.loop-pair.added.list.items (pairs_ended c.args.pairs.now k c.loop-pair-test.false) c.loop-pair.invariant.0,
      c.loop-pair.invariant.1,
    )

pub returns-in_err-add_pair-clause-fault : goal.returns-in_err-add_pair-clause-fault
returns-in_err-add_pair-clause-fault c =
    let t = task_of c.args.options.now in
    let x = c.args.options.now.register.now in
    let bs = c.args.effects.now.bodies.items in
    let k = c.loop-pair.pair-index in
    let one = c.pair-item.result in
    let first : drop k c.args.pairs.now ≡ one ∷ drop (k + 1) c.args.pairs.now = drop_more c.args.pairs.now k one c.loop-pair-test.true ∙ ap (λ (p : Pair). p ∷ drop (k + 1) c.args.pairs.now) (sym c.pair-item.is) in
    let p = err_from_is_err_and c.from_residual.result c.from_residual.ensures.1 in
    rw (p.1, p.2)
    (fault_here t x bs c.seen-content.ensures.content c.requires.made c.args.pairs.now (drop k c.args.pairs.now) (drop (k + 1) c.args.pairs.now) c.loop-pair.added.list.items one _ c.requires.short
    first c.in_err-add_pair.ensures.fault c.loop-pair.invariant.0 c.loop-pair.invariant.1)
