-- The value built from a reference system of one part.
use Rattle.std.specs.Prelude.{◌≡◌, List, Result, IfOk}
use Rattle.crs_part.specs.declared.crs.Single.{Single}
use Rattle.wkt_tree.specs.Tree.{Tok}
use Rattle.wkt_grammar.specs.declared.table.Keyword.{Keyword}
use Rattle.wkt_grammar.specs.declared.table.Node.{Node}
use Rattle.wkt_grammar.specs.declared.table.Takes.TheVariants as kinds
use Rattle.wkt_grammar.specs.Rows.{enters}
use Rattle.wkt_grammar.specs.Words.{keyword_of}
use Rattle.std.specs.Prelude.{ℕ, Some}
use Rattle.wkt_grammar.specs.Bare.{Bare, Bares, node}
use Rattle.wkt_grammar.specs.SecondEdition.{Fitted}
use Rattle.wkt_grammar.specs.Denotes.{DenotesSingle}
use Rattle.wkt_build.specs.Reads.{Next}
use Rattle.wkt_build.specs.Choices.{next_keyword}

-- a node that a component of a compound can be
pub record IsSingle (x : Bare) (toks : List Tok) : Type 0 where
  pub keyword : List ℕ
  pub items : Bares
  pub means : Keyword
  pub row : Node
  pub is : x ≡ node keyword items
  pub meaning : keyword_of keyword ≡ Some means
  pub enters : enters kinds.SingleCrs means ≡ Some row
  pub fitted : Fitted row items
  pub comes : next_keyword toks ≡ Some means

abbrev pub BuildsSingle : {E : Type 0} → List Tok → List Tok → Result Single E → Type 0
BuildsSingle old new result = (x : Bare) (rest : List Tok) → IsSingle x old → Next x old rest → IfOk result (λ v. DenotesSingle x v × (new ≡ rest))
