use Rattle.std.proofs.Common.{◌+◌, arith, ap, ◌∙◌}
use Rattle.wkt_explain.proofs.WalkLemmas.{lines_passed, rest_goes_on, all_goes_on, line_counted, line_begun, none_passed, nothing_whole, none_left, some_left}
use Rattle.wkt_explain.proofs.walk.Walk.to_line.Goals as goal

pub returns-then-is_empty-clause-line : goal.returns-then-is_empty-clause-line
returns-then-is_empty-clause-line c =
    let p = lines_passed _ _ c.args.place _ _ c.requires.ahead c.requires.within c.text_in-between.ensures c.lines-lines.ensures in
    (c.requires.ahead, all_goes_on _ _ _ _ p (none_left _ _ c.is_empty.ensures c.if-is_empty.true))

pub invariant_of-result : goal.invariant_of-result
invariant_of-result c =
    let p = lines_passed _ _ c.args.place _ _ c.requires.ahead c.requires.within c.text_in-between.ensures c.lines-lines.ensures in
    let some = some_left _ _ c.is_empty.ensures c.if-is_empty.false in
    let begun = line_begun _ _ _ _ _ p c.lines-lines.ensures some in
    record {
      within = omega (arith, p.most, c.requires.within);
      few = omega arith;
      counted = ap (λ n. c.args.self.now.line + n) c.feeds.ensures.count ∙ line_counted _ _ _ _ _ p c.args.self.now.counted;
      chars = none_passed _ begun;
      whole = nothing_whole _ _ begun;
    }

pub returns-clause-line : goal.returns-clause-line
returns-clause-line c =
    let p = lines_passed _ _ c.args.place _ _ c.requires.ahead c.requires.within c.text_in-between.ensures c.lines-lines.ensures in
    (p.most, rest_goes_on _ _ _ _ p)
