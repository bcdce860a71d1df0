use Rattle.std.proofs.Common.{◌≡◌, ◌∙◌, take, drop, sym, arith}
use Rattle.std.proofs.lemmas.Bool.Decides.{nat_tests}
use Rattle.std.specs.Char.{is_ascii_digit}
use Rattle.std.proofs.lemmas.List.Sums.{prefix_len-le-length}
use Rattle.reg_journal.proofs.LineLemmas.{line_front, line_back, no_line, one_head}
use Rattle.reg_journal.proofs.numeral.line_of.Goals as goal

pub split_at-requires : goal.split_at-requires
split_at-requires c =
    let is = c.digits_in-len.ensures in
    let le = prefix_len-le-length is_ascii_digit c.args.text.now in
    omega (arith, is, le)

pub returns-in_default-clause-none : goal.returns-in_default-clause-none
returns-in_default-clause-none c = λ n rest fits e.
    no_line _ 10 rest (c.split_at.ensures.back ∙ (λ k. drop (c.digits_in-len.ensures k) c.args.text.now) ∙ line_back c.args.text.now n rest fits e) c.in_default.ensures.cases

pub returns-then-newline-ne10-clause-none : goal.returns-then-newline-ne10-clause-none
returns-then-newline-ne10-clause-none c = λ n rest fits e.
    let back = c.split_at.ensures.back ∙ (λ k. drop (c.digits_in-len.ensures k) c.args.text.now) ∙ line_back c.args.text.now n rest fits e in
    let same : c.in-Some.newline.now ≡ 10 = one_head _ 10 _ rest (sym c.in-Some.ensures.cases.0 ∙ back) in
    let other = c.if-newline-ne10.true in
    absurd (grind (arith, nat_tests))

pub returns-in_default-numeral_of-clause-none : goal.returns-in_default-numeral_of-clause-none
returns-in_default-numeral_of-clause-none c = λ n rest fits e.
    c.in_default-numeral_of.ensures.none n fits (c.split_at.ensures.front ∙ (λ k. take (c.digits_in-len.ensures k) c.args.text.now) ∙ line_front c.args.text.now n rest fits e)
