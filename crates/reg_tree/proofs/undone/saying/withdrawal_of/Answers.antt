use Rattle.std.proofs.Common.{sym, ◌∙◌}
use Rattle.reg_report.specs.Keys.{key_bytes}
use Rattle.reg_tree.proofs.VoiceLemmas.{not_entered, in_use, out_of_use}
use Rattle.reg_tree.proofs.undone.saying.withdrawal_of.Goals as goal

pub returns-in_default : goal.returns-in_default
returns-in_default c = λ has right q. not_entered has c.args.register.now.ops c.args.entry (c.in_default.ensures.none has) q

pub returns-then-contains : goal.returns-then-contains
returns-then-contains c = λ has right q.
    in_use has c.args.register.now.ops c.args.entry (key_bytes c.in-Some.key) (c.in-Some.ensures.some has right)
    (sym (c.requires has right (key_bytes c.in-Some.key)) ∙ sym c.contains.ensures ∙ c.if-contains.true) q

pub returns : goal.returns
returns c = λ has right q.
    out_of_use has c.args.register.now.ops c.args.entry (key_bytes c.in-Some.key) (c.in-Some.ensures.some has right)
    (sym (c.requires has right (key_bytes c.in-Some.key)) ∙ sym c.contains.ensures ∙ c.if-contains.false) q
