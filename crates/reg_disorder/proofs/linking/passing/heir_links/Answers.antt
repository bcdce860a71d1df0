use Rattle.std.proofs.Common.{sym, ◌∙◌}
use Rattle.reg_disorder.proofs.LinksListed.{none_cut, all_listed}
use Rattle.reg_disorder.proofs.linking.passing.heir_links.Goals as goal

pub returns-then-not-some_cut : goal.returns-then-not-some_cut
returns-then-not-some_cut c = none_cut c.args.register.now.ops c.args.before.now c.new.result.items (sym c.some_cut.ensures ∙ c.if-not-some_cut.true) c.new.ensures.items

pub returns : goal.returns
returns c = all_listed c.args.register.now.ops c.args.before.now c.in_ok-made.made.items c.distinct.result.items c.in_ok-made.ensures c.distinct.ensures
