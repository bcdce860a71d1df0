use Rattle.std.proofs.Common.{◌≡◌, sym, subst}
use Rattle.std.specs.List.{list_any}
use Rattle.std.specs.BTreeSet.{contains}
use Rattle.reg_supersede.specs.Lists.{is_pair}
use Rattle.reg_supersede.specs.Effects.{pair_cmp}
use Rattle.reg_supersede.proofs.LackingLemmas.{pair_more}
use Rattle.reg_supersede.proofs.check.add_pair.Goals as goal

pub returns-in-Ok-push-clause-set : goal.returns-in-Ok-push-clause-set
returns-in-Ok-push-clause-set c = λ q.
    subst (λ l. contains pair_cmp c.insert.new.self q ≡ list_any (is_pair q) l) (sym c.in-Ok-push.ensures.items)
    (pair_more c.args.added.now.set c.insert.new.self c.args.pair c.args.added.now.list.items (λ p. c.in-Ok.ensures.updates.0 p) c.requires.set q)
