use Rattle.wkt_grammar.specs.declared.table.Keyword.TheVariants as keywords
use Rattle.wkt_grammar.specs.Trees.{named_tree}
use Rattle.wkt_canonical.specs.Reads.{ReadsEach, any}
use Rattle.wkt_canonical.proofs.identifiers.geoid_models.Given as goal

abbrev pub invariant-loop : goal.invariant-loop
invariant-loop l = ReadsEach any (named_tree keywords.GeoidModel) l.fn.bytes l.rest
