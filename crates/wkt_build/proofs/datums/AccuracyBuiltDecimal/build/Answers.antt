use Rattle.wkt_grammar.specs.declared.table.Keyword.TheVariants as keywords
use Rattle.wkt_grammar.specs.declared.table.Node.TheVariants as nodes
use Rattle.wkt_grammar.specs.Denotes.{accuracy_fields}
use Rattle.wkt_build.proofs.Rows.{argument_result}
use Rattle.wkt_build.proofs.datums.AccuracyBuiltDecimal.build.Goals as goal

pub returns-clause-builds : goal.returns-clause-builds
returns-clause-builds c = argument_result keywords.EnsembleAccuracy nodes.EnsembleAccuracy accuracy_fields c.args.cursor.now c.build_accuracy.new.cursor c.build_accuracy.result c.build_accuracy.ensures.builds
