use Rattle.std.proofs.Common.{ap, sym, ◌∙◌}
use Rattle.html_page.specs.Pieces.{html}
use Rattle.html_page.specs.Places.{tags}
use Rattle.html_page.specs.Templates.{page}
use Rattle.html_page.proofs.PageLemmas.{places, same}
use Rattle.reg_page.specs.Page.{named}
use Rattle.reg_page.proofs.laws.no_text_leaves_its_place.Goals as goal

pub returns : goal.returns
returns c = record {
  places = λ rules title names x bytes p. (p.is, places (named names) p.shows);
  tags = λ rules also title other names many x y bytes others p q alike.
      ap tags p.is ∙ same (named names) (named many) p.shows ∙ ap (λ s. tags (html (page (named many) s))) alike ∙ sym (same (named many) (named many) q.shows) ∙ sym (ap tags q.is);
}
