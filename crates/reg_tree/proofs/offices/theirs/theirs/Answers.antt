use Rattle.std.proofs.Common.{List, ℕ, ap, ◌∙◌, subst}
use Rattle.std.specs.List.Sorted.{IsPermutation}
use Rattle.reg_tree.specs.Offices.{listed}
use Rattle.reg_tree.proofs.OfficeLemmas.{listed_same}
use Rattle.reg_tree.proofs.offices.theirs.theirs.Goals as goal

pub returns : goal.returns
returns c =
    let sorted = c.sort_unstable.new.self.items in
    let same = subst (λ (l : List (List ℕ)). IsPermutation l sorted) c.in_ok-sorted.ensures.items c.sort_unstable.ensures.permutation in
    c.in_ok-made.ensures ∙ ap (λ (us : List (List ℕ)). listed us c.args.ops.now) c.deref.ensures.value ∙ listed_same c.args.offices.now sorted c.args.ops.now same
