use Rattle.std.proofs.Common.{◌+◌, ◌++◌, ◌∷◌, List, [], take, sym, ap, ◌∙◌, subst}
use Rattle.std.proofs.lemmas.List.{take_all, take_more}
use Rattle.reg_op.specs.Ids.{Id}
use Rattle.reg_disorder.specs.declared.link.OlderLink.{OlderLink}
use Rattle.reg_disorder.specs.Heirs.{AreFirst}
use Rattle.reg_disorder.proofs.HeirLemmas.{none_first, first_more}
use Rattle.reg_disorder.proofs.heir.first_of.Goals as goal

pub loop-link-init : goal.loop-link-init
loop-link-init c = subst (AreFirst c.args.valid.now []) (sym c.new-made.ensures.items) (none_first c.args.valid.now)

pub loop-link-preserved : goal.loop-link-preserved
loop-link-preserved c =
    let more = first_more c.args.valid.now (take c.loop-link.link-index c.args.links.now) c.link-item.result c.loop-link.made.items c.push_first.new.ids.items c.in_ok-push_first.ensures c.loop-link.invariant in
    subst (λ (xs : List OlderLink). AreFirst c.args.valid.now xs c.push_first.new.ids.items)
    (ap (λ (x : OlderLink). take c.loop-link.link-index c.args.links.now ++ x ∷ []) c.link-item.is ∙ sym (take_more c.args.links.now c.loop-link.link-index c.link-item.result c.loop-link-test.true)) more

pub returns : goal.returns
returns c = subst (λ (xs : List OlderLink). AreFirst c.args.valid.now xs c.loop-link.made.items) (take_all c.loop-link.link-index c.args.links.now c.loop-link-test.false) c.loop-link.invariant
