use Rattle.reg_page.specs.Page.{named}
use Rattle.reg_page.proofs.EventLemmas.{link_known, link_unknown}
use Rattle.reg_page.proofs.links.push_link_to.Goals as goal

pub returns-in_ok-push_known-in-Some : goal.returns-in_ok-push_known-in-Some
returns-in_ok-push_known-in-Some c = link_known (named c.args.names.now) c.args.described.now c.args.id c.in-Some.one.now c.in-Some.ensures c.in_ok-push_known-in-Some.ensures

pub returns-in_ok-push_unknown-in-None : goal.returns-in_ok-push_unknown-in-None
returns-in_ok-push_unknown-in-None c = link_unknown (named c.args.names.now) c.args.described.now c.args.id c.in-None.ensures c.in_ok-push_unknown-in-None.ensures
