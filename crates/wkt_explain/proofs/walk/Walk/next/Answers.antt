use Rattle.std.proofs.Common.{arith, ap, sym, ◌∙◌}
use Rattle.wkt_explain.specs.Characters.{first_len}
use Rattle.wkt_explain.proofs.WalkLemmas.{char_stepped, char_counted, char_whole, more_there}
use Rattle.wkt_explain.proofs.walk.Walk.next.Goals as goal

pub invariant_of-result : goal.invariant_of-result
invariant_of-result c =
    let w = c.args.self.now in
    let e = c.first_len-len.ensures ∙ ap first_len c.split_at.ensures.back in
    let s = char_stepped w.file.now w.place c.args.place _ c.requires.line c.requires.ahead c.requires.within e in
    let some = more_there w.file.now w.place c.args.place c.requires.ahead c.requires.within in
    record {
      within = omega (arith, s.most, c.requires.ahead, c.requires.within);
      few = omega (arith, s.some, w.few);
      counted = w.counted ∙ sym s.feeds_same;
      chars = char_counted _ _ _ _ _ s some e w.whole w.chars;
      whole = char_whole _ _ _ _ s some e w.whole;
    }

pub overflow_add-result : goal.overflow_add-result
overflow_add-result c =
    let w = c.args.self.now in
    let e = c.first_len-len.ensures ∙ ap first_len c.split_at.ensures.back in
    let s = char_stepped w.file.now w.place c.args.place _ c.requires.line c.requires.ahead c.requires.within e in
    omega (arith, s.most, c.requires.ahead, c.ranges.place)

pub overflow_add-result-2 : goal.overflow_add-result-2
overflow_add-result-2 c = omega (arith, c.args.self.now.few, c.requires.ahead, c.ranges.place)

pub returns-clause-line : goal.returns-clause-line
returns-clause-line c =
    let w = c.args.self.now in
    let e = c.first_len-len.ensures ∙ ap first_len c.split_at.ensures.back in
    let s = char_stepped w.file.now w.place c.args.place _ c.requires.line c.requires.ahead c.requires.within e in
    (omega (arith, s.most, c.requires.ahead), s.line)

pub returns-clause-most : goal.returns-clause-most
returns-clause-most c =
    let w = c.args.self.now in
    let e = c.first_len-len.ensures ∙ ap first_len c.split_at.ensures.back in
    let s = char_stepped w.file.now w.place c.args.place _ c.requires.line c.requires.ahead c.requires.within e in
    omega (arith, s.most)
