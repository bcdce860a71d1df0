use Rattle.wkt_grammar.specs.declared.table.Keyword.TheVariants as keywords
use Rattle.wkt_grammar.specs.declared.table.Node.TheVariants as nodes
use Rattle.wkt_grammar.specs.Denotes.{named_fields}
use Rattle.wkt_build.proofs.Rows.{argument_result}
use Rattle.wkt_build.proofs.identifiers.GeoidModelBuiltNamed.build.Goals as goal

pub returns-clause-builds : goal.returns-clause-builds
returns-clause-builds c = argument_result keywords.GeoidModel nodes.Named named_fields c.args.cursor.now c.build_named.new.cursor c.build_named.result c.build_named.ensures.builds
