use Rattle.std.proofs.Common.{◌≡◌, length, arith, sym}
use Rattle.reg_state.proofs.SearchLemmas.{under_none, told_by_last}
use Rattle.reg_state.proofs.seen.is_above.Goals as goal

pub returns-in-None-clause-yes : goal.returns-in-None-clause-yes
returns-in-None-clause-yes c = under_none c.args.run.now c.args.runs.now (let e : length c.args.runs.now ≡ 0 = omega (arith, c.in-None.ensures.item.3) in e)

pub returns-in-Some : goal.returns-in-Some
returns-in-Some c =
    let i = c.in-Some.ensures.item in
    let t = told_by_last c.args.runs.now c.requires c.args.run.now c.in-Some.last.now i.3.0 (sym i.1) c.is_apart.result c.is_apart.ensures.yes c.is_apart.ensures.no in
    record { yes = t.0; no = t.1 }
