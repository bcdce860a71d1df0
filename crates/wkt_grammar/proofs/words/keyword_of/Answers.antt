use Rattle.wkt_grammar.proofs.Keywords.{likely_means, spelling_means, alternate_means}
use Rattle.wkt_grammar.proofs.words.keyword_of.Goals as goal

pub returns-in-Some : goal.returns-in-Some
returns-in-Some c = likely_means c.in-Some.keyword c.args.bytes.now c.in-Some.ensures

pub returns-in-Some-first_of : goal.returns-in-Some-first_of
returns-in-Some-first_of c = spelling_means c.in-Some-first_of.keyword c.args.bytes.now c.in-Some-first_of.ensures

pub returns : goal.returns
returns c = alternate_means c.look.result c.args.bytes.now c.in_default-first_of.ensures c.look.ensures
