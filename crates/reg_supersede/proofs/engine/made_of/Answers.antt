use Rattle.std.proofs.Common.{sym, subst, true}
use Rattle.std.proofs.lemmas.Bool.{eqb-true}
use Rattle.reg_office.specs.Making.{AreAllowed}
use Rattle.reg_supersede.specs.Engine.{task}
use Rattle.reg_supersede.proofs.LineLemmas.{none_is}
use Rattle.reg_supersede.proofs.PairLemmas.{none_dropped}
use Rattle.reg_supersede.proofs.engine.made_of.Goals as goal

pub make-requires : goal.make-requires
make-requires c =
    let can = c.requires in
    subst (λ y. AreAllowed y c.new-office.result.replica c.args.note.now c.args.bodies.now) (sym c.new-office.ensures.register)
    (subst (λ q. AreAllowed c.args.register q c.args.note.now c.args.bodies.now) (sym c.new-office.ensures.replica)
    (record { none_refused = can.none_refused; none_dropped = none_dropped c.args.replica c.args.note.now _ c.args.bodies.now c.args.register can.supersede can.none_refused }))

pub returns-then-is_empty-clause-register : goal.returns-then-is_empty-clause-register
returns-then-is_empty-clause-register c =
    (none_is (task c.args.replica c.args.note.now true true c.args.register) c.args.register c.args.bodies.now c.seen-content.ensures.content (eqb-true _ _ (sym c.if-is_empty.ensures))).0
