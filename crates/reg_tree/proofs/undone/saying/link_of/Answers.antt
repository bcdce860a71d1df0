use Rattle.std.proofs.Common.{is_eq, sym, ap, ◌∙◌}
use Rattle.reg_report.specs.Keys.{key_bytes}
use Rattle.reg_tree.proofs.VoiceLemmas.{old_gone, newer_gone, of_itself, of_another}
use Rattle.reg_tree.proofs.undone.saying.link_of.Goals as goal

pub returns-in_default : goal.returns-in_default
returns-in_default c = λ has right q. old_gone has c.args.register.now.ops c.args.old c.args.newer (c.in_default.ensures.none has) q

pub returns-in_default-live_key : goal.returns-in_default-live_key
returns-in_default-live_key c = λ has right q. newer_gone has c.args.register.now.ops c.args.old c.args.newer (c.in_default-live_key.ensures.none has) q

pub returns-then-is_eq : goal.returns-then-is_eq
returns-then-is_eq c = λ has right q.
    of_itself has c.args.register.now.ops c.args.old c.args.newer (key_bytes c.in-Some.key) (key_bytes c.in-Some-live_key.by)
    (c.in-Some.ensures.live has right) (c.in-Some-live_key.ensures.live has right) (c.in-Some-live_key.ensures.entry has right)
    (ap is_eq (sym c.cmp.ensures) ∙ sym c.is_eq.ensures ∙ c.if-is_eq.true) q

pub returns : goal.returns
returns c = λ has right q.
    of_another has c.args.register.now.ops c.args.old c.args.newer (key_bytes c.in-Some.key) (key_bytes c.in-Some-live_key.by)
    (c.in-Some.ensures.live has right) (c.in-Some-live_key.ensures.live has right) (c.in-Some-live_key.ensures.entry has right)
    (ap is_eq (sym c.cmp.ensures) ∙ sym c.is_eq.ensures ∙ c.if-is_eq.false) q
