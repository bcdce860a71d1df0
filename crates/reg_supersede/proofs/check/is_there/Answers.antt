use Rattle.std.proofs.Common.{sym, ◌∙◌}
use Rattle.reg_supersede.proofs.PairLemmas.{there_before, there_made}
use Rattle.reg_supersede.proofs.check.is_there.Goals as goal

pub returns-then-is_superseded_by : goal.returns-then-is_superseded_by
returns-then-is_superseded_by c =
    let o = c.args.options.now in
    c.if-is_superseded_by.true
    ∙ sym (there_before o.register.now o.replica o.note.now c.args.effects.now.bodies.items c.requires.made.supersede c.seen-content.ensures.content c.args.pair (sym c.if-is_superseded_by.ensures))

pub returns-else-is_superseded_by : goal.returns-else-is_superseded_by
returns-else-is_superseded_by c =
    let o = c.args.options.now in
    c.contains.ensures ∙ c.requires.pairs c.args.pair.old c.args.pair.newer
    ∙ sym (there_made o.register.now o.replica o.note.now c.args.effects.now.bodies.items c.requires.made.supersede c.requires.made.none_refused c.args.pair (sym c.if-is_superseded_by.ensures))
