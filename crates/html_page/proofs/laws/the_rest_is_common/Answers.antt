use Rattle.html_page.proofs.UnmarkedLemmas.{even_unmarked}
use Rattle.html_page.proofs.laws.the_rest_is_common.Goals as goal

pub returns : goal.returns
returns c = even_unmarked
