-- The canonical text and the indented text of a value are read back as the value.
use Rattle.std.proofs.Common.{◌≡◌, ◌≤◌, ℕ, List, length, refl, sym, ◌∙◌, subst}
use Rattle.crs_part.specs.declared.crs.CrsParts.{CrsParts}
use Rattle.crs_part.specs.declared.crs.CrsParts.TheVariants as parts
use Rattle.crs_part.specs.declared.crs.Single.TheVariants as single
use Rattle.crs_value.specs.declared.crs.Crs.{Crs}
use Rattle.wkt_tree.specs.Tree.{Item, IsTree, Within, tokens}
use Rattle.wkt_tree.specs.Tree as tree
use Rattle.wkt_grammar.specs.Bare.{Bare, Bares, node, bare}
use Rattle.wkt_grammar.specs.Denotes.{DenotesParts}
use Rattle.wkt_grammar.specs.Trees.{parts_tree}
use Rattle.wkt_grammar.proofs.Nodes.{parts_law}
use Rattle.wkt_write.specs.Reads.{ReadsAs}
use Rattle.wkt_write.proofs.Reading.{rendered, indented_reads}
use Rattle.wkt_crs.specs.Spells.{Spells, canon, pretty}
use Rattle.wkt_crs.proofs.GoodTrees.{canonical_good}

-- the canonical tree of a value is a node
record IsRoot (x : Bare) : Type 0 where
  keyword : List ℕ
  items : Bares
  is : x ≡ node keyword items

root_of : (v : CrsParts) → IsRoot (parts_tree v)
root_of (parts.Single (single.Geodetic v)) = record { keyword = _; items = _; is = refl }
root_of (parts.Single (single.Projected v)) = record { keyword = _; items = _; is = refl }
root_of (parts.Single (single.Vertical v)) = record { keyword = _; items = _; is = refl }
root_of (parts.Compound v) = record { keyword = _; items = _; is = refl }

tree_of : (item : Item) (k : List ℕ) (xs : Bares) → bare item ≡ node k xs → Within 16 item → IsTree 16 (tokens item)
tree_of (tree.text p) k xs e w = absurd cc
tree_of (tree.number p) k xs e w = absurd cc
tree_of (tree.word p) k xs e w = absurd cc
tree_of (tree.node p d o items c) k xs e w = record { keyword = p; delimiter = d; opening = o; items = items; closing = c; within = w; spelled = refl }

spelled_by : (text : List ℕ) (v : Crs) → length text ≤ 1048576 → ReadsAs text (parts_tree v.parts) → Spells text v
spelled_by text v short r =
    let root = root_of v.parts in
    record {
      item = r.item;
      outline = record { short = short; utf8 = r.utf8; cut = r.cut; tree = tree_of r.item root.keyword root.items (r.is ∙ root.is) r.within };
      denotes = subst (λ x. DenotesParts x v.parts) (sym r.is) (parts_law.spelled v.parts);
    }

pub canonical_spells : (v : Crs) → length (canon v) ≤ 1048576 → Spells (canon v) v
canonical_spells v short = spelled_by (canon v) v short (rendered (parts_tree v.parts) (canonical_good v.parts))

pub indented_spells : (v : Crs) → length (pretty v) ≤ 1048576 → Spells (pretty v) v
indented_spells v short = spelled_by (pretty v) v short (indented_reads (parts_tree v.parts) (canonical_good v.parts))
