use Rattle.std.proofs.Common.{◌≡◌, refl, rules, ◌+◌}
use Rattle.reg_engine.proofs.InputLemmas.{gives_next, gives_all, none_given_yet, behind, unread_next, none_fails_yet, none_fails_next, part_gives}
use Rattle.reg_engine.proofs.inputs.read_parts_after.Goals as goal

pub returns-in_default-clause-fault : goal.returns-in_default-clause-fault
returns-in_default-clause-fault g c =
    let was = c.loop-i.invariant in
    none_fails_yet g.S.Source.state c.args.sources.now c.loop-i.sources c.loop-i.i was.front.0 c.loop-i-test.true was.size was.front.1 was.back

pub returns-in-Err-clause-fault : goal.returns-in-Err-clause-fault
returns-in-Err-clause-fault g c =
    let was = c.loop-i.invariant in
    let at : c.in-Some.number ≡ c.args.next + c.loop-i.i = search rules in
    unread_next g.S.Source.state c.args.sources.now c.loop-i.sources c.args.next c.loop-i.i c.in-Some.number c.index-sources-i.result c.read_next.new.source was.front.0
    c.loop-i-test.true was.size was.front.1 was.back at c.in-Err.fault c.in-Err.ensures.fault

pub returns-in-Err-push-clause-fault : goal.returns-in-Err-push-clause-fault
returns-in-Err-push-clause-fault g c =
    let was = c.loop-i.invariant in
    none_fails_next g.S.Source.state c.args.sources.now c.loop-i.sources c.loop-i.i c.index-sources-i.result c.read_next.new.source was.front.0
    c.loop-i-test.true was.size was.front.1 was.back (part_gives _ _ c.in-Ok.part c.in-Ok.ensures.found)

pub loop-i-preserved : goal.loop-i-preserved
loop-i-preserved g c =
    let was = c.loop-i.invariant in record {
      front = gives_next g.S.Source.state c.args.known.registers.items c.args.known.pieces.items c.args.sources.now c.loop-i.sources c.loop-i.i c.index-sources-i.result c.read_next.new.source _ _ _ _
          c.in-Ok.part c.loop-i-test.true was.size was.front was.back c.in-Ok.ensures.found c.in_default-push.ensures.registers c.in_default-push.ensures.pieces;
      back = behind g.S.Source.state c.args.sources.now c.loop-i.sources c.loop-i.i c.read_next.new.source was.size was.back;
      size = search rules;
    }

pub loop-i-init : goal.loop-i-init
loop-i-init g c = record { front = none_given_yet c.args.known.registers.items c.args.known.pieces.items; back = refl; size = refl }

pub returns-clause-found : goal.returns-clause-found
returns-clause-found g c =
    let was = c.loop-i.invariant in
    gives_all g.S.Source.state c.args.known.registers.items c.args.known.pieces.items c.args.sources.now c.loop-i.sources c.loop-i.i _ _ c.loop-i-test.false was.size was.front
