-- The text of a tree is read back as that tree.
use Rattle.std.proofs.Common.{[], subst, append-nil}
use Rattle.std.proofs.lemmas.List.Elements.{All-nil}
use Rattle.wkt_tree.specs.Tree.{tokens}
use Rattle.wkt_tree.specs.Tokens.{Front}
use Rattle.wkt_grammar.specs.Bare.{Bare}
use Rattle.wkt_write.specs.WellFormed.{WellFormed}
use Rattle.wkt_grammar.specs.Render.{render, indented}
use Rattle.wkt_write.specs.declared.layout.Layout as layouts
use Rattle.wkt_write.specs.declared.layout.Layout.TheVariants.{OneLine, Root}
use Rattle.wkt_write.specs.Layout.{laid}
use Rattle.wkt_write.specs.Reads.{ReadsAs}
use Rattle.wkt_write.proofs.Layouts.{on_one_line, at_the_root}
use Rattle.wkt_write.proofs.Placing.{place_item}
use Rattle.wkt_write.proofs.Utf8.{laid_utf8}

laid_reads : (layout : layouts.Layout) (t : Bare) → WellFormed 16 t → ReadsAs (laid layout t) t
laid_reads layout t g =
    let p = place_item t layout 16 0 [] g (record { of_word = tt; of_number = tt; of_text = tt }) in
    record {
      utf8 = laid_utf8 t layout 16 g;
      item = p.item;
      is = p.is;
      within = p.within;
      cut = record { place' = p.end; rest = []; front = subst (λ b. Front 0 b (tokens p.item) p.end []) (append-nil (laid layout t)) p.front; blank = All-nil _ };
    }

-- the canonical text of a tree is read back as the tree
pub rendered : (t : Bare) → WellFormed 16 t → ReadsAs (render t) t
rendered t g = subst (λ b. ReadsAs b t) (on_one_line t) (laid_reads OneLine t g)

-- the indented text of a tree is read back as the tree
pub indented_reads : (t : Bare) → WellFormed 16 t → ReadsAs (indented t) t
indented_reads t g = subst (λ b. ReadsAs b t) (at_the_root t) (laid_reads Root t g)
