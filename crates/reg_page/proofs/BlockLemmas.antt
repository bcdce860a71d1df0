-- Listing a block appends its pieces to those of the blocks before it.
use Rattle.std.proofs.Common.{◌≡◌, List, [], ◌∷◌, ◌++◌, append-nil, ap, ◌∙◌}
use Rattle.std.specs.List.{flat_map}
use Rattle.std.proofs.lemmas.Grind.{flat_map-append}
use Rattle.html_page.specs.Pieces.{Piece, html}
use Rattle.html_page.proofs.JoinLemmas.{html-append}
use Rattle.reg_page.specs.declared.block.Block.{Block}
use Rattle.reg_page.specs.Blocks.{Setting, pieces_of, bytes_of, Lists}

pub listed : (m : Setting) (old new : List Block) (b : Block) → new ≡ old ++ b ∷ [] → Lists m old new (pieces_of m b)
listed m old new b is = record {
  is =
      ap (bytes_of m) is ∙ ap html (flat_map-append (pieces_of m) old (b ∷ []))
      ∙ html-append (flat_map (pieces_of m) old) (flat_map (pieces_of m) (b ∷ []))
      ∙ ap (λ ps. html (flat_map (pieces_of m) old) ++ html ps) (append-nil (pieces_of m b));
}

-- to list blocks from none on is to list the page's
pub all_listed : (m : Setting) (old new : List Block) (ps : List Piece) → old ≡ [] → Lists m old new ps → bytes_of m new ≡ html ps
unfolding html
all_listed m old new ps none h = h.is ∙ ap (λ l. bytes_of m l ++ html ps) none
