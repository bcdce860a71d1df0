use Rattle.std.proofs.Common.{refl}
use Rattle.html_page.proofs.laws.style_and_script_have_no_tag.Goals as goal

pub returns : goal.returns
returns c = record { style = refl; script = refl }
