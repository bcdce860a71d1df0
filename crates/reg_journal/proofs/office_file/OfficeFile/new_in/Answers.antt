use Rattle.std.proofs.Common.{◌∙◌, sym, ap, subst, Err}
use Rattle.reg_op.specs.Lists.{ById}
use Rattle.reg_office.specs.Making.{greatest}
use Rattle.reg_journal.proofs.AddingLemmas.{by_id_new, seen_new, none_dropped, content_new}
use Rattle.reg_journal.proofs.office_file.OfficeFile.new_in.Goals as goal

pub from_content-requires-clause-by_id : goal.from_content-requires-clause-by_id
from_content-requires-clause-by_id c =
    by_id_new c.args.self.now c.args.register.now c.seen.ensures.content c.in_ok-ops.ops.items c.as_slice-all.result.now (c.as_slice-all.ensures ∙ c.ops.ensures.items) c.in_ok-ops.ensures
    (subst ById (sym c.as_slice-all.ensures) c.ops.ensures.by_id)

pub from_content-requires-clause-are_seen : goal.from_content-requires-clause-are_seen
from_content-requires-clause-are_seen c =
    seen_new c.args.self.now c.args.register.now c.seen.ensures.content c.in_ok-ops.ops.items c.as_slice-all.result.now (c.as_slice-all.ensures ∙ c.ops.ensures.items) c.in_ok-ops.ensures
    c.in_ok-seen.seen c.last_count-greatest.result (c.last_count-greatest.ensures ∙ (λ k. greatest (c.replica.ensures k) (c.seen.ensures.value k))) c.in_ok-seen.ensures

pub unreachable-requires : goal.unreachable-requires
unreachable-requires c =
    none_dropped c.args.self.now c.args.register.now c.seen.ensures.content c.in_ok-ops.ops.items c.as_slice-all.result.now (c.as_slice-all.ensures ∙ c.ops.ensures.items) c.in_ok-ops.ensures
    c.in-Err-NotKept.field-0-0 (c.from_content.ensures.not_kept c.in-Err-NotKept.field-0-0 (c.in-Err-NotKept.is ∙ ap Err c.in-Err-NotKept.field-0-is))

pub returns-in-Ok : goal.returns-in-Ok
returns-in-Ok c =
    content_new c.args.self.now c.args.register.now c.seen.ensures.content c.in_ok-ops.ops.items c.as_slice-all.result.now (c.as_slice-all.ensures ∙ c.ops.ensures.items) c.in_ok-ops.ensures
    c.in_ok-seen.seen c.last_count-greatest.result c.in-Ok.register (c.last_count-greatest.ensures ∙ (λ k. greatest (c.replica.ensures k) (c.seen.ensures.value k))) c.in_ok-seen.ensures c.in-Ok.ensures.ok
