use Rattle.std.proofs.lemmas.Result.{on_ok_weaker}
use Rattle.wkt_grammar.specs.Trees.{value_tree}
use Rattle.wkt_write.proofs.Writes.{argument, none_given, one_given}
use Rattle.wkt_write.proofs.values.push_maybe_value.Goals as goal

pub returns-in_ok-push_comma-in-Some : goal.returns-in_ok-push_comma-in-Some
returns-in_ok-push_comma-in-Some c = on_ok_weaker c.push_value.result (λ e. one_given (value_tree c.args.keyword) c.args.layout _ _ c.args.value.now _ c.in-Some.is (argument c.args.layout _ _ c.in_ok-push_comma-in-Some.ensures e)) c.push_value.ensures

pub returns-in-None : goal.returns-in-None
returns-in-None c = none_given (value_tree c.args.keyword) c.args.layout c.args.out.now.items c.args.value.now c.in-None.is
