use Rattle.std.proofs.Common.{not, ◌&&◌, sym, ap, ◌∙◌}
use Rattle.reg_op.specs.Status.{retires}
use Rattle.reg_report.specs.Keys.{key_bytes}
use Rattle.reg_tree.specs.Voices.{is_key}
use Rattle.reg_tree.proofs.VoiceLemmas.{entry_is, entered, no_entry, not_standing, standing}
use Rattle.reg_tree.proofs.undone.saying.live_key.Goals as goal

pub returns-in_default-clause-none : goal.returns-in_default-clause-none
returns-in_default-clause-none c = λ has q.
    ap (λ b. b && not (retires c.args.register.now.ops c.args.entry)) (no_entry c.args.register.now.ops c.args.entry c.in_default.ensures.none has q)

pub returns-then-is_retired-clause-none : goal.returns-then-is_retired-clause-none
returns-then-is_retired-clause-none c = λ has q.
    let there = entered c.args.register.now.ops c.args.entry c.in-Some.definition.now c.in-Some.ensures.found.0 c.in-Some.ensures.found.1 in
    not_standing has c.args.register.now.ops q c.args.entry (sym (c.is_retired.ensures there) ∙ c.if-is_retired.true)

pub returns-clause-live : goal.returns-clause-live
returns-clause-live c = λ has right q.
    let there = entered c.args.register.now.ops c.args.entry c.in-Some.definition.now c.in-Some.ensures.found.0 c.in-Some.ensures.found.1 in
    standing has c.args.register.now.ops q c.args.entry (is_key (key_bytes c.key_in.result) q) (sym (c.is_retired.ensures there) ∙ c.if-is_retired.false)
    (entry_is c.args.register.now.ops c.ops-ops.ensures.content.one_body c.args.entry c.in-Some.definition.now c.in-Some.ensures.found.0 (key_bytes c.key_in.result)
    c.in-Some.ensures.found.1 c.key_in.ensures has right q)

pub returns-clause-entry : goal.returns-clause-entry
returns-clause-entry c =
    entry_is c.args.register.now.ops c.ops-ops.ensures.content.one_body c.args.entry c.in-Some.definition.now c.in-Some.ensures.found.0 (key_bytes c.key_in.result)
    c.in-Some.ensures.found.1 c.key_in.ensures
