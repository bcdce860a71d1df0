use Rattle.std.proofs.Common.{◌≤◌, ◌+◌, ℕ, length, List, subst, sym}
use Rattle.reg_op.specs.Lists.{ById}
use Rattle.reg_office.specs.Making.{greatest}
use Rattle.reg_import.specs.Plans.{AreNumbered}
use Rattle.reg_import.proofs.TakingLemmas.{taken_plan}
use Rattle.reg_import.proofs.ImportLemmas.{plan_is_kept, plan_is_done}
use Rattle.reg_import.proofs.import.Importing.join.Goals as goal

pub join_ops-requires-clause-fits : goal.join_ops-requires-clause-fits
join_ops-requires-clause-fits c =
    let h = c.requires.5 in
    subst (λ (r : List ℕ). greatest r c.args.register.seen + 1 + length c.args.self.made.ops.items ≤ 4294967296) (sym h.of) (subst (λ (n : ℕ). n + length c.args.self.made.ops.items ≤ 4294967296) h.first c.args.self.fits)

pub join_ops-requires-clause-ops : goal.join_ops-requires-clause-ops
join_ops-requires-clause-ops c =
    let h = c.requires.5 in
    let p = taken_plan c.args.register c.requires.0 c.requires.1 c.requires.2 c.requires.3 c.requires.4 c.args.self h in
    subst (λ (r : List ℕ). AreNumbered r (greatest r c.args.register.seen + 1) c.args.self.made.ops.items) (sym h.of) (c.requires.1, (_, p.2.made))

pub join_ops-requires-clause-kept : goal.join_ops-requires-clause-kept
join_ops-requires-clause-kept c =
    plan_is_kept c.args.register c.requires.0 c.requires.1 c.requires.2 c.requires.3 c.requires.4 c.args.self.made.ops.items (subst ById c.ops-by_id.ensures.items c.ops-by_id.ensures.by_id)
    (taken_plan c.args.register c.requires.0 c.requires.1 c.requires.2 c.requires.3 c.requires.4 c.args.self c.requires.5)

pub returns : goal.returns
returns c = λ keep_going replica note differs rs ts h passes.
    plan_is_done c.args.register replica note differs rs ts c.args.self.made.ops.items keep_going c.in_ok-joined.joined (subst ById c.ops-by_id.ensures.items c.ops-by_id.ensures.by_id) h.short
    (subst (λ (n : ℕ). n + length c.args.self.made.ops.items ≤ 4294967296) h.first c.args.self.fits) (taken_plan c.args.register replica note differs rs ts c.args.self h) passes c.in_ok-joined.ensures
