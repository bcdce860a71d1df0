use Rattle.std.proofs.Common.{find, not, ap, ◌∙◌, subst}
use Rattle.std.specs.List.{list_any}
use Rattle.std.specs.List.Sorted.{IsPermutation}
use Rattle.reg_op.specs.Ids.{is_same}
use Rattle.reg_query.proofs.AskedLemmas.{among_subjects}
use Rattle.reg_query.proofs.log.asked.first_unlogged.Goals as goal

pub returns : goal.returns
returns c =
    let sorted = c.sort_unstable.new.self.items in
    let all = subst (λ l. IsPermutation l sorted) c.in_ok-ids.ensures c.sort_unstable.ensures.permutation in
    c.first_outside.ensures
    ∙ (λ j. find (λ e. not ((ap (list_any (is_same e)) c.deref.ensures.value ∙ among_subjects c.args.ops.now sorted all e) j)) c.args.entries.now)
