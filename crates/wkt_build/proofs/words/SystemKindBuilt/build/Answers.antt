use Rattle.wkt_grammar.specs.declared.table.Takes.TheVariants as kinds
use Rattle.wkt_grammar.specs.Words.{is_cs_kind}
use Rattle.crs_part.specs.Words.{system_word}
use Rattle.wkt_build.proofs.LeafLemmas.{word_made, kind_item}
use Rattle.wkt_build.proofs.words.SystemKindBuilt.build.Goals as goal

pub returns-clause-builds : goal.returns-clause-builds
returns-clause-builds c = word_made kinds.CsKind is_cs_kind system_word c.args.cursor.now c.take_kind.new.cursor c.take_kind.result kind_item c.take_kind.ensures.takes
