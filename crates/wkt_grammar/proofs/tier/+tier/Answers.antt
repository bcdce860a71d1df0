use Rattle.std.proofs.Common.{sym, ◌∙◌}
use Rattle.wkt_grammar.proofs.Steps.{some_token, plain_at, rowless_at, node_at, goes_first, err_first, goes_more, err_more, shorter_one, shorter_more}
use Rattle.wkt_grammar.proofs.tier.+tier.Goals as goal

pub check_argument-returns-in_default-clause-answers : goal.check_argument-returns-in_default-clause-answers
check_argument-returns-in_default-clause-answers t c = λ i rest e f. absurd (some_token c.args.cursor.now c.in_default.ensures.comes i rest e)

pub check_argument-returns-in_default-check_node-clause-answers :
    goal.check_argument-returns-in_default-check_node-clause-answers
check_argument-returns-in_default-check_node-clause-answers t c =
    let s = rw c.row_of.ensures at c.in-Some-step.ensures in
    node_at c.args.edition c.args.node c.args.place c.args.cursor.now c.advance.new.self c.in-Some.token c.argument_of-argument.result c.next_is_open-is_node.result
    (c.in-Some.ensures.comes, c.advance.ensures, c.next_is_open-is_node.ensures, c.argument_of-argument.ensures) c.in-Node.keyword c.in-Node.is c.in-Some-row_in.inner (sym c.in-Some-row_in.ensures)
    c.advance-in-Some-row_in.new.self c.check_node.new.cursor c.advance-in-Some-row_in.ensures c.in_default-check_node.field-0 c.in_default-check_node.ensures.answers c.in-Some-step.next s.0 s.2

pub check_argument-returns-in_default-row_in-clause-answers :
    goal.check_argument-returns-in_default-row_in-clause-answers
check_argument-returns-in_default-row_in-clause-answers t c =
    let s = rw c.row_of.ensures at c.in-Some-step.ensures in
    absurd (rowless_at c.args.edition c.args.node c.args.place c.args.cursor.now c.advance.new.self c.in-Some.token c.argument_of-argument.result c.next_is_open-is_node.result c.in-Node.keyword c.in-Node.is c.in-Some-step.next s.0 (sym c.in_default-row_in.ensures))

pub check_argument-returns-in_default-argument : goal.check_argument-returns-in_default-argument
check_argument-returns-in_default-argument t c =
    let s = rw c.row_of.ensures at c.in-Some-step.ensures in
    record {
      shorter = shorter_one c.args.cursor.now c.advance.new.self c.advance.ensures;
      within = s.1;
      answers = plain_at c.args.edition c.args.node c.args.place c.args.cursor.now c.advance.new.self c.in-Some.token c.argument_of-argument.result c.next_is_open-is_node.result
          (c.in-Some.ensures.comes, c.advance.ensures, c.next_is_open-is_node.ensures, c.argument_of-argument.ensures) c.in-Some-step.next s.0 s.2 c.in_default-argument.not-Node;
    }

pub check_node-returns-in-Err-clause-answers : goal.check_node-returns-in-Err-clause-answers
check_node-returns-in-Err-clause-answers t c = err_first c.args.edition c.args.node c.in-Err.fault c.args.cursor.now c.check_argument.new.cursor c.check_argument.new.cursor c.in-Err.ensures.answers

pub check_node-loop-cursor-init : goal.check_node-loop-cursor-init
check_node-loop-cursor-init t c = record {
  shorter = c.check_argument.ensures.shorter;
  within = c.in-Ok.ensures.within;
  goes = goes_first c.args.edition c.args.node c.in-Ok.first c.args.cursor.now c.check_argument.new.cursor c.in-Ok.ensures.answers;
}

pub check_node-loop-cursor-preserved : goal.check_node-loop-cursor-preserved
check_node-loop-cursor-preserved t c = record {
  shorter = shorter_more c.check_argument-in-loop-cursor.new.cursor c.advance.new.self c.loop-cursor.cursor _ c.check_argument-in-loop-cursor.ensures.shorter c.advance.ensures c.loop-cursor.invariant.shorter;
  within = c.in-Ok-check_argument.ensures.within;
  goes = goes_more c.args.edition c.args.node c.loop-cursor.place c.in-Ok-check_argument.next c.args.cursor.now c.loop-cursor.cursor c.advance.new.self c.check_argument-in-loop-cursor.new.cursor c.loop-cursor.invariant.goes
      (sym c.next_is_comma.ensures ∙ c.loop-cursor-test.true) c.advance.ensures c.in-Ok-check_argument.ensures.answers;
}

pub check_node-returns-in-Err-check_argument-clause-answers :
    goal.check_node-returns-in-Err-check_argument-clause-answers
check_node-returns-in-Err-check_argument-clause-answers t c =
    err_more c.args.edition c.args.node c.loop-cursor.place c.in-Err-check_argument.fault c.args.cursor.now c.loop-cursor.cursor c.advance.new.self c.check_argument-in-loop-cursor.new.cursor c.check_argument-in-loop-cursor.new.cursor
    c.loop-cursor.invariant.goes (sym c.next_is_comma.ensures ∙ c.loop-cursor-test.true) c.advance.ensures c.in-Err-check_argument.ensures.answers
