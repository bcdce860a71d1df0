use Rattle.std.proofs.Common.{◌∷◌, ◌+◌, ◌-◌, length, ap, sym, ◌∙◌, take, drop}
use Rattle.std.specs.List.{prefix_len}
use Rattle.std.proofs.lemmas.List.{take_rest, drop_more, drop_all}
use Rattle.reg_texts.specs.Listing.{both_about}
use Rattle.reg_texts.proofs.KeySheetLemmas.{line_more, lines_end}
use Rattle.reg_texts.proofs.key_lines.lines_of.Goals as goal

pub loop-first-preserved : goal.loop-first-preserved
loop-first-preserved c = λ more left.
    let all = c.args.sayings.now in
    let at = c.loop-first.at in
    let n = c.run_len-len.result in
    let s = c.in-Some.first.now in
    let b = c.in_ok-push_line.ensures in
    let found = c.in-Some.ensures.lookup in
    let rest = take_rest all (at + 1) in
    line_more all at n s (take n (take (length all - (at + 1)) (drop (at + 1) all))) c.loop-first.text.items c.push_line.new.text.items b.0
    (drop_more all at s found.3.0 ∙ ap (λ x. x ∷ drop (at + 1) all) (sym found.1))
    (c.run_len-len.ensures ∙ ap (prefix_len (both_about s)) rest) (ap (take n) rest) b.1 b.2 c.loop-first.invariant more left

pub returns : goal.returns
returns c = lines_end c.args.sayings.now c.loop-first.at c.loop-first.text.items (drop_all c.loop-first.at c.args.sayings.now c.in_default.ensures.lookup.3) c.loop-first.invariant
