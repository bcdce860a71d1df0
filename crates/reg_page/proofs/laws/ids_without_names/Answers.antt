use Rattle.std.proofs.Common.{false}
use Rattle.html_page.specs.Templates.{page}
use Rattle.reg_page.proofs.laws.ids_without_names.Goals as goal

pub returns : goal.returns
returns c = λ s j. page (λ id. c.nothing_is_named.ensures false id j) s
