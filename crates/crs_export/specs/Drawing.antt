-- The statements of a graph in DOT, as Graphviz reads them.
use Rattle.std.specs.Prelude.{ℕ, ◌++◌, Bool, ◌&&◌, nat_le, List, [], ◌∷◌, codes}
use Rattle.std.specs.List.{list_all}
use Rattle.crs_export.specs.DotQuotes.{marked}
use Rattle.crs_export.specs.DotStatements.{Part, Text, code}
use Rattle.crs_export.specs.declared.title.Title.{Title}

abbrev pub Statement : Type 0
Statement = List Part

-- the name of a color: letters
abbrev pub is_color : List ℕ → Bool
is_color color = list_all (λ b. nat_le 97 b && nat_le b 122) color

-- the key of an entry, and on the next line its name
abbrev pub label_of : Title → List ℕ
label_of t = marked t.authority.now ++ (58 ∷ (marked t.code.now ++ (10 ∷ marked t.name.now)))

abbrev pub node_statement : Title → List ℕ → Statement
node_statement t color =
    Text (marked t.entry.now) ∷ (code (codes " [label=") ++ (Text (label_of t) ∷ (code (codes ",fillcolor=") ++ (code color ++ code (codes "]")))))

-- an id that was not entered, with what is read in its place as label
abbrev pub caption_statement : List ℕ → List ℕ → Statement
caption_statement id shown = Text (marked id) ∷ (code (codes " [label=") ++ (Text (marked shown) ∷ code (codes "]")))

-- from an entry to one that supersedes it
abbrev pub edge_statement : List ℕ → List ℕ → Statement
edge_statement old newer = Text (marked old) ∷ (code (codes " -> ") ++ (Text (marked newer) ∷ []))

-- between two entries in conflict
abbrev pub rivals_statement : List ℕ → List ℕ → Statement
rivals_statement one other = Text (marked one) ∷ (code (codes " -> ") ++ (Text (marked other) ∷ code (codes " [dir=none,color=red]")))

-- how the graph is drawn, these statements, and its end
abbrev pub graph_statements : List Statement → List Statement
graph_statements ss =
    code (codes "digraph register {") ∷ code (codes "rankdir=LR") ∷ code (codes "pack=true") ∷ code (codes "packmode=array") ∷ code (codes "node [shape=box,style=filled]")
    ∷ (ss ++ code (codes "}") ∷ [])
