use Rattle.wkt_grammar.proofs.Nodes.{parts_law}
use Rattle.wkt_grammar.proofs.meaning.tree_denotes.Goals as goal

pub returns : goal.returns
returns c = parts_law.spelled
