use Rattle.std.proofs.Common.{rules, List, ℕ, ◌+◌, map, drop}
use Rattle.std.proofs.lemmas.Result.{err_from_is_err_and}
use Rattle.std.specs.Borrow.{Bor}
use Rattle.reg_supersede.specs.Effects.{task_of}
use Rattle.reg_supersede.proofs.LineLemmas.{can_none, none_paired}
use Rattle.reg_supersede.proofs.DoneLemmas.{none_are_done}
use Rattle.reg_supersede.proofs.ListLemmas.{completes_first, passes_first, completes_more, passes_more, passes_here, all_done}
use Rattle.reg_supersede.proofs.list.all_lines.Goals as goal
use Rattle.reg_keys.proofs.NamedLemmas.{here, ended}

pub loop-at-init : goal.loop-at-init
loop-at-init c =
    let t = task_of c.args.options.now in
    let x = c.args.options.now.register.now in
    let is = c.seen-content.ensures.content in
    let all = map (λ (w : Bor (List ℕ)). w.now) c.args.lines.now in (
      completes_first t x is all c.new.result.items c.new-left.result.items c.new.ensures.items c.new-left.ensures.items,
      passes_first t x is all c.new.result.items c.new.ensures.items,
      can_none t x c.new.result.items is c.new.ensures.items,
      none_paired c.new-2.result c.new.result.items (search rules) c.new.ensures.items,
      none_are_done t x c.new.result.items c.new-done.result (search rules),
    )

pub loop-at-preserved : goal.loop-at-preserved
loop-at-preserved c =
    let t = task_of c.args.options.now in
    let x = c.args.options.now.register.now in
    let at = c.loop-at.at in
    let all = map (λ (w : Bor (List ℕ)). w.now) c.args.lines.now in
    let rest = map (λ (w : Bor (List ℕ)). w.now) (drop at c.args.lines.now) in
    let others = map (λ (w : Bor (List ℕ)). w.now) (drop (at + 1) c.args.lines.now) in
    let first = here (λ (v : Bor (List ℕ)). v.now) c.args.lines.now at _ c.loop-at-test.true in (
      completes_more t x all (at + 1) rest others _ c.loop-at.effects.bodies.items c.step.new.effects.bodies.items c.loop-at.left.items c.step.new.left.items first c.in_ok-step.ensures.ok c.loop-at.invariant.0,
      passes_more t x all (at + 1) rest others _ c.loop-at.effects.bodies.items c.step.new.effects.bodies.items c.loop-at.left.items c.step.new.left.items first c.in_ok-step.ensures.ok c.loop-at.invariant.1,
      c.in_ok-step.ensures.made,
      c.in_ok-step.ensures.pairs,
      c.in_ok-step.ensures.done,
    )

pub returns-clause-done : goal.returns-clause-done
returns-clause-done c =
    all_done (task_of c.args.options.now) c.args.options.now.register.now (map (λ (w : Bor (List ℕ)). w.now) c.args.lines.now) (map (λ (w : Bor (List ℕ)). w.now) (drop c.loop-at.at c.args.lines.now)) (c.loop-at.at + 1)
    c.loop-at.effects.bodies.items c.loop-at.left.items (ended (λ (v : Bor (List ℕ)). v.now) c.args.lines.now c.loop-at.at c.loop-at-test.false) c.loop-at.invariant.0

pub returns-in_err-step-clause-fault : goal.returns-in_err-step-clause-fault
returns-in_err-step-clause-fault c =
    let t = task_of c.args.options.now in
    let x = c.args.options.now.register.now in
    let at = c.loop-at.at in
    let all = map (λ (w : Bor (List ℕ)). w.now) c.args.lines.now in
    let rest = map (λ (w : Bor (List ℕ)). w.now) (drop at c.args.lines.now) in
    let others = map (λ (w : Bor (List ℕ)). w.now) (drop (at + 1) c.args.lines.now) in
    let p = err_from_is_err_and c.from_residual.result c.from_residual.ensures.1 in
    rw (p.1, p.2)
    (passes_here t x all (at + 1) rest others _ c.loop-at.effects.bodies.items _ (here (λ (v : Bor (List ℕ)). v.now) c.args.lines.now at _ c.loop-at-test.true) c.in_err-step.ensures.fault c.loop-at.invariant.1)
