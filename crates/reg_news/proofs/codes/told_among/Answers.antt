use Rattle.std.proofs.Common.{◌+◌, map, drop, get_or, ap, sym, subst}
use Rattle.std.proofs.lemmas.List.{drop_more, drop_all}
use Rattle.reg_disorder.specs.Marks.{mark_seen}
use Rattle.reg_news.specs.Codes.{IsTold, code_seen}
use Rattle.reg_news.proofs.CodeLemmas.{no_mark, Picking, picking_none, picking_more, picking_all, told_are}
use Rattle.reg_news.proofs.codes.told_among.Goals as goal

pub loop-mark-init : goal.loop-mark-init
loop-mark-init c = λ rs ss a b h.
    let all = map mark_seen c.args.after.now in
    subst (Picking (IsTold rs ss) all all) (sym (ap (map code_seen) c.new-made.ensures.items)) (picking_none (IsTold rs ss) all)

pub loop-mark-preserved : goal.loop-mark-preserved
loop-mark-preserved c = λ rs ss a b h.
    let all = c.args.after.now in
    let at = c.loop-mark.mark-index in
    let is = c.is_told-told.ensures rs ss a b h in
    picking_more (IsTold rs ss) (map mark_seen all) (map mark_seen (drop at all)) (map mark_seen (drop (at + 1) all)) (mark_seen (get_or all at no_mark)) (map code_seen c.loop-mark.made.items) (map code_seen c.push_told.new.made.items) c.is_told-told.result
    (ap (map mark_seen) (drop_more all at no_mark c.loop-mark-test.true)) is (c.in_ok-push_told.ensures (λ t. (is.0 t).0)) (c.loop-mark.invariant rs ss a b h)

pub returns : goal.returns
returns c = λ rs ss a b h.
    let all = c.args.after.now in
    told_are rs ss (map mark_seen all) (map code_seen c.loop-mark.made.items) b
    (picking_all (IsTold rs ss) (map mark_seen all) (map mark_seen (drop c.loop-mark.mark-index all)) (map code_seen c.loop-mark.made.items) (ap (map mark_seen) (drop_all c.loop-mark.mark-index all c.loop-mark-test.false)) (c.loop-mark.invariant rs ss a b h))
