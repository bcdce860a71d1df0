use Rattle.std.proofs.Common.{sym, ◌∙◌}
use Rattle.reg_report.specs.Keys.{key_bytes}
use Rattle.reg_report.proofs.PairLemmas.{it_enters}
use Rattle.reg_tree.proofs.GatheredLemmas.{puts_enter, not_put, was_put, puts_key}
use Rattle.reg_tree.proofs.undone.voice.put_live.Goals as goal

pub returns-then-is_retired : goal.returns-then-is_retired
returns-then-is_retired c =
    let there = it_enters c.args.register.now.ops c.args.op.now c.id.result c.in-Enter.definition c.body.result.now c.requires c.body.ensures c.in-Enter.is c.id.ensures.value in
    puts_enter c.args.register.now.ops c.args.op.now.id c.args.op.now.body c.in-Enter.definition (key_bytes c.key_in-key.result) c.args.live.now c.args.live.now
    (sym c.body.ensures ∙ c.in-Enter.is) c.key_in-key.ensures
    (not_put c.args.register.now.ops c.args.op.now.id c.id.result (key_bytes c.key_in-key.result) c.args.live.now c.id.ensures.value (sym (c.is_retired.ensures there) ∙ c.if-is_retired.true))

pub returns : goal.returns
returns c =
    let there = it_enters c.args.register.now.ops c.args.op.now c.id.result c.in-Enter.definition c.body.result.now c.requires c.body.ensures c.in-Enter.is c.id.ensures.value in
    puts_enter c.args.register.now.ops c.args.op.now.id c.args.op.now.body c.in-Enter.definition (key_bytes c.key_in-key.result) c.args.live.now c.insert.new.self
    (sym c.body.ensures ∙ c.in-Enter.is) c.key_in-key.ensures
    (was_put c.args.register.now.ops c.args.op.now.id c.id.result (key_bytes c.key_in-key.result) c.args.live.now c.insert.new.self c.id.ensures.value (sym (c.is_retired.ensures there) ∙ c.if-is_retired.false)
    (puts_key c.args.live.now c.insert.new.self c.key_in-key.result c.in_ok-insert.ensures.updates.0))
