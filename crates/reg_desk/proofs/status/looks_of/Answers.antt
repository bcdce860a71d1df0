use Rattle.std.proofs.Common.{rules, inl, inr}
use Rattle.reg_desk.proofs.LookLemmas.{behind, looks_next, left_at}
use Rattle.reg_desk.proofs.status.looks_of.Goals as goal

pub returns-in-Err-clause-stays : goal.returns-in-Err-clause-stays
returns-in-Err-clause-stays g c =
    let was = c.loop-i.invariant in
    left_at g.T.Inspect.looks g.T.Inspect.stays c.args.files.now c.loop-i.files c.loop-i.i c.index-files-i.result c.look.new.self c.loop-i.looks.items c.loop-i-test.true was.size was.front was.back (inr c.in-Err.ensures.stays)

pub returns-in-Err-push-clause-stays : goal.returns-in-Err-push-clause-stays
returns-in-Err-push-clause-stays g c =
    let was = c.loop-i.invariant in
    left_at g.T.Inspect.looks g.T.Inspect.stays c.args.files.now c.loop-i.files c.loop-i.i c.index-files-i.result c.look.new.self c.loop-i.looks.items c.loop-i-test.true was.size was.front was.back (inl (c.in-Ok.look, c.in-Ok.ensures.looks))

pub loop-i-preserved : goal.loop-i-preserved
loop-i-preserved g c =
    let was = c.loop-i.invariant in record {
      front = looks_next g.T.Inspect.looks g.T.Inspect.stays c.args.files.now c.loop-i.files c.loop-i.i c.index-files-i.result c.look.new.self c.loop-i.looks.items c.push.new.self.items c.in-Ok.look c.loop-i-test.true was.size was.front was.back c.in-Ok.ensures.looks c.in_default.ensures.items;
      back = behind g.T.Inspect.looks g.T.Inspect.stays c.args.files.now c.loop-i.files c.loop-i.i c.look.new.self was.size was.back;
      size = search rules;
    }
