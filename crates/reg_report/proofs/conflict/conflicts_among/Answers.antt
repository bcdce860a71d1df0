use Rattle.std.proofs.Common.{◌≡◌, ◌-◌, ◌++◌, List, map, take, drop, length, refl, sym, subst}
use Rattle.std.proofs.lemmas.List.{take_rest}
use Rattle.reg_report.specs.declared.contender.Contender.{Contender}
use Rattle.reg_report.specs.Contenders.{conflict_at, conflict_seen, Tells}
use Rattle.reg_report.proofs.ConflictLemmas.{Far, Completes, far_sorted, told_far, told_more, all_told}
use Rattle.reg_report.proofs.conflict.conflicts_among.Goals as goal

pub loop-first-init : goal.loop-first-init
loop-first-init c = (far_sorted c.args.contenders.now c.requires, λ more t. subst (λ l. Tells c.args.contenders.now (map conflict_seen l ++ more)) (sym c.new-made.ensures.items) t)

pub loop-first-preserved : goal.loop-first-preserved
loop-first-preserved c =
    let all = c.args.contenders.now in
    let rest = c.loop-first.rest.now in
    let first = c.in-Some.first.now in
    let others = c.in-Some.others.now in
    let n = c.leading-count.result in
    let old = map conflict_seen c.loop-first.made.items in
    let new = map conflict_seen c.push_conflict.new.conflicts.items in
    let left : take (length others - n) (drop n others) ≡ drop n others = take_rest others n in
    let pushed : new ≡ old ++ conflict_at first (take n others) = c.in_ok-push_conflict.ensures in (
      subst Far (sym left) (told_far rest others first n c.in-Some.ensures.cases.0 c.leading-count.ensures c.loop-first.invariant.0),
      subst (λ (l : List Contender). Completes all l new) (sym left) (told_more all rest others first n old new c.in-Some.ensures.cases.0 c.loop-first.invariant.0 c.leading-count.ensures pushed c.loop-first.invariant.1),
    )

pub returns : goal.returns
returns c = all_told c.args.contenders.now c.loop-first.rest.now (map conflict_seen c.loop-first.made.items) _ c.in_default.ensures.cases refl c.loop-first.invariant.1
