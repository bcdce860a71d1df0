use Rattle.std.proofs.Common.{◌≡◌, ◌+◌, rules}
use Rattle.reg_take.specs.Files.{file_state}
use Rattle.reg_take.proofs.FileLemmas.{behind, arrived_next, retired_next, last_stops}
use Rattle.reg_take.proofs.files.arrivals.Goals as goal

pub returns-in-Err-clause-fault : goal.returns-in-Err-clause-fault
returns-in-Err-clause-fault g c =
    let was = c.loop-i.invariant in
    let at : c.in-Some.number ≡ c.args.next + c.loop-i.i = search rules in
    last_stops (λ s. file_state (g.S.Source.state s) (g.S.LateSource.shut s)) c.args.options.now c.args.files.now c.loop-i.files c.args.next c.loop-i.i c.in-Some.number
    c.index-files-i.result c.gift_of.new.file c.loop-i.arrivals.all.items c.in-Err.fault c.loop-i-test.true was.size was.front was.back at c.in-Err.ensures.fault

pub loop-i-preserved : goal.loop-i-preserved
loop-i-preserved g c =
    let was = c.loop-i.invariant in
    let at : c.in-Some.number ≡ c.args.next + c.loop-i.i = search rules in record {
      front = arrived_next (λ s. file_state (g.S.Source.state s) (g.S.LateSource.shut s)) c.args.options.now c.args.files.now c.loop-i.files c.args.next c.loop-i.i c.in-Some.number
          c.index-files-i.result c.gift_of.new.file c.loop-i.arrivals.all.items c.push_gift.new.arrivals.all.items c.in-Ok.gift.arrival c.loop-i-test.true was.size was.front was.back at c.in-Ok.ensures.arrived c.in_default-push_gift.ensures.arrival;
      retired = retired_next (λ s. file_state (g.S.Source.state s) (g.S.LateSource.shut s)) c.args.options.now c.args.files.now c.loop-i.files c.args.next c.loop-i.i c.in-Some.number
          c.index-files-i.result c.gift_of.new.file c.loop-i.arrivals.retired.items c.push_gift.new.arrivals.retired.items c.in-Ok.gift.retired.items c.loop-i-test.true was.size was.retired was.back at c.in-Ok.ensures.retired c.in_default-push_gift.ensures.retired;
      back = behind (λ s. file_state (g.S.Source.state s) (g.S.LateSource.shut s)) c.args.options.now c.args.files.now c.loop-i.files c.loop-i.i c.gift_of.new.file was.size was.back;
      size = search rules;
    }
