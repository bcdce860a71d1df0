use Rattle.std.proofs.Common.{◌≡◌, ◌∙◌, true, ap, sym, subst}
use Rattle.std.specs.List.{list_any}
use Rattle.reg_op.specs.Ids.{is_same}
use Rattle.reg_op.specs.Operations.{replaces}
use Rattle.reg_op.specs.Lists.{ById, has}
use Rattle.reg_journal.proofs.ForgedLemmas.{known_by, known_beside}
use Rattle.reg_journal.proofs.forged.is_known.Goals as goal

pub returns-in-Some : goal.returns-in-Some
returns-in-Some c =
    let all = c.as_slice-ops.ensures ∙ c.ops.ensures.items in
    let up = subst ById c.ops.ensures.items c.ops.ensures.by_id in
    let found = c.in-Some.ensures.found in
    c.is_same.ensures ∙ known_by c.args.made.now.ops c.in-Some.own.now c.args.op.now up (subst (λ l. has l c.in-Some.own.now ≡ true) all found.0) (found.1 ∙ c.id.ensures.value)

pub returns-in-None : goal.returns-in-None
returns-in-None c =
    let all = c.as_slice-ops.ensures ∙ c.ops.ensures.items in
    c.is_redundant.ensures
    ∙ ap (list_any (λ p. replaces p c.args.op.now)) all
    ∙ known_beside c.args.made.now.ops c.args.op.now ((λ k. list_any (λ p. is_same (sym c.id.ensures.value k) p.id) (sym all k)) ∙ c.in-None.ensures.none)
