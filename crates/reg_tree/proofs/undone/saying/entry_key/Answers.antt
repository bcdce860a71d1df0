use Rattle.reg_report.specs.Keys.{key_bytes}
use Rattle.reg_tree.proofs.VoiceLemmas.{entry_is, no_entry}
use Rattle.reg_tree.proofs.undone.saying.entry_key.Goals as goal

pub returns-in-Some-clause-some : goal.returns-in-Some-clause-some
returns-in-Some-clause-some c =
    entry_is c.args.register.now.ops c.ops-ops.ensures.content.one_body c.args.entry c.in-Some.definition.now c.in-Some.ensures.found.0 (key_bytes c.key_in.result)
    c.in-Some.ensures.found.1 c.key_in.ensures

pub returns-in-None-clause-none : goal.returns-in-None-clause-none
returns-in-None-clause-none c = λ has q. no_entry c.args.register.now.ops c.args.entry c.in-None.ensures.none has q
