use Rattle.std.proofs.Common.{◌≡◌, ◌+◌, ◌∷◌, drop, sym, ap, ◌∙◌}
use Rattle.std.proofs.lemmas.List.{drop_more}
use Rattle.std.proofs.lemmas.Result.{err_from_is_err_and}
use Rattle.reg_op.specs.Ids.{Id}
use Rattle.reg_commands.proofs.EachLemmas.{ended, completes_none, completes_more, passes_more, passes_here, all_done}
use Rattle.reg_commands.proofs.words.superseding.each_superseded.Goals as goal

pub loop-old-init : goal.loop-old-init
loop-old-init c = (
  completes_none c.args.replica c.args.note.now c.args.newer.now c.args.register c.args.entries.now c.new.result.items c.new.ensures.items,
  λ f o. o,
)

pub loop-old-preserved : goal.loop-old-preserved
loop-old-preserved c =
    let all = c.args.entries.now in
    let k = c.loop-old.old-index in
    let one = c.old-item.result in
    let first : drop k all ≡ one ∷ drop (k + 1) all = drop_more all k one c.loop-old-test.true ∙ ap (λ (e : Id). e ∷ drop (k + 1) all) (sym c.old-item.is) in
    let step = c.in_ok-made.ensures.made in (
      completes_more c.args.replica c.args.note.now c.args.newer.now c.args.register all (drop k all) (drop (k + 1) all) one c.loop-old.made.register _ c.loop-old.made.lines.items step.0 _ first step.1 step.2 c.loop-old.invariant.0,
      passes_more c.args.replica c.args.note.now c.args.newer.now c.args.register all (drop k all) (drop (k + 1) all) one c.loop-old.made.register _ step.0 first step.1 c.loop-old.invariant.1,
    )

pub returns-clause-made : goal.returns-clause-made
returns-clause-made c =
    all_done c.args.replica c.args.note.now c.args.newer.now c.args.register c.args.entries.now (drop c.loop-old.old-index c.args.entries.now) c.loop-old.made.register c.loop-old.made.lines.items
    (ended c.args.entries.now c.loop-old.old-index c.loop-old-test.false) c.loop-old.invariant.0

pub returns-in_err-made-clause-fault : goal.returns-in_err-made-clause-fault
returns-in_err-made-clause-fault c =
    let all = c.args.entries.now in
    let k = c.loop-old.old-index in
    let one = c.old-item.result in
    let first : drop k all ≡ one ∷ drop (k + 1) all = drop_more all k one c.loop-old-test.true ∙ ap (λ (e : Id). e ∷ drop (k + 1) all) (sym c.old-item.is) in
    let p = err_from_is_err_and c.from_residual.result c.from_residual.ensures.1 in
    rw (p.1, p.2) (passes_here c.args.replica c.args.note.now c.args.newer.now c.args.register all (drop k all) (drop (k + 1) all) one c.loop-old.made.register _ first c.in_err-made.ensures.fault c.loop-old.invariant.1)
