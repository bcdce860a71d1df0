use Rattle.std.proofs.Common.{◌≡◌, ◌+◌, ◌-◌, Err, List, refl, sym, ap, ◌∙◌, subst}
use Rattle.reg_op.specs.Set as set
use Rattle.reg_op.specs.Operations.{Op as Operation, op_cmp}
use Rattle.reg_op.specs.Contents.{joined}
use Rattle.reg_op.specs.Kept.{first_dropped}
use Rattle.reg_op.specs.Lists.{ById}
use Rattle.reg_state.proofs.TableLemmas.{ok_not_err}
use Rattle.reg_office.specs.Making.{numbered, greatest}
use Rattle.reg_office.proofs.EffectLemmas.{possible}
use Rattle.reg_office.proofs.NumberLemmas.{numbered_by_id, run_of_numbered, numbers_join}
use Rattle.reg_office.proofs.office.Office.joined.Goals as goal

pub ops_of-requires-clause-possible : goal.ops_of-requires-clause-possible
ops_of-requires-clause-possible c = possible c.args.self.now.register c.args.self.now.replica (greatest c.args.self.now.replica c.args.self.now.register.seen + 1) c.args.note.now c.args.bodies.now c.requires.allowed.none_refused

pub register_of-requires-clause-by_id : goal.register_of-requires-clause-by_id
register_of-requires-clause-by_id c = subst ById (sym c.in_ok-ops.ensures) (numbered_by_id c.args.self.now.replica c.args.first c.in_ok-noted.noted c.args.bodies.now)

pub register_of-requires-clause-ids : goal.register_of-requires-clause-ids
register_of-requires-clause-ids c = run_of_numbered c.args.self.now.replica c.args.first _ c.in_ok-noted.noted c.args.bodies.now c.in_ok-ops.ops.items c.requires.some refl c.in_ok-ops.ensures

pub register_of-requires-clause-kept : goal.register_of-requires-clause-kept
register_of-requires-clause-kept c =
    let r = c.args.self.now.replica in
    ap (λ (l : List Operation). first_dropped (set.from_list {R = op_cmp} l)) c.in_ok-ops.ensures
    ∙ (λ j. first_dropped (set.from_list {R = op_cmp} (numbered r (c.requires.first j) (c.in_ok-noted.ensures j) c.args.bodies.now)))
    ∙ c.requires.allowed.none_dropped

pub unreachable-requires : goal.unreachable-requires
unreachable-requires c =
    let x = c.args.self.now.register in
    let r = c.args.self.now.replica in
    let note = c.in_ok-noted.noted in
    let bs = c.args.bodies.now in
    let same : set.from_list {R = op_cmp} c.in_ok-ops.ops.items ≡ set.from_list (numbered r (greatest r x.seen + 1) note bs) =
    ap set.from_list c.in_ok-ops.ensures ∙ (λ k. set.from_list (numbered r (c.requires.first k) note bs)) in
    ok_not_err _ c.in-Err-Clash.field-0-0 (sym (numbers_join x r note bs c.seen-content.ensures.content (set.from_list c.in_ok-ops.ops.items) same)
    ∙ ap (joined x) (sym c.in_ok-fresh.ensures)
    ∙ (c.join.ensures.clash c.in-Err-Clash.field-0-0).0 (c.in-Err-Clash.is ∙ ap Err c.in-Err-Clash.field-0-is))
