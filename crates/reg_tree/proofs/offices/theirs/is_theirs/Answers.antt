use Rattle.std.proofs.Common.{sym, ◌∙◌}
use Rattle.reg_tree.proofs.OfficeLemmas.{theirs_found}
use Rattle.reg_tree.proofs.offices.theirs.is_theirs.Goals as goal

pub returns : goal.returns
returns c =
    c.is_ok.ensures.value
    ∙ theirs_found c.args.offices.now c.replica.result c.args.id c.binary_search.result (sym c.replica.ensures.value) c.requires c.binary_search.ensures.bound c.binary_search.ensures.position
