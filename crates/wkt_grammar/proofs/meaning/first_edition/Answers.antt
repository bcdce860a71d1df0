use Rattle.wkt_grammar.proofs.FirstEdition.{parts_before, parts_still}
use Rattle.wkt_grammar.proofs.meaning.first_edition.Goals as goal

pub returns-clause-still : goal.returns-clause-still
returns-clause-still c = parts_still

pub returns-clause-before : goal.returns-clause-before
returns-clause-before c = parts_before
