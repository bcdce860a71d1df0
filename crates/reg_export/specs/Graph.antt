-- The graph of a register.
use Rattle.std.specs.Prelude.{◌≡◌, ◌⊎◌, ◌++◌, ℕ, Bool, true, false, List, [], ◌∷◌, map, codes, Contains, Option, Some, None, if◌then◌else◌}
use Rattle.std.specs.List.{flat_map}
use Rattle.std.specs.Str.{bytes_eq}
use Rattle.csv_table.specs.declared.offices.names.Name.{Name}
use Rattle.csv_table.specs.Shown.{shown}
use Rattle.reg_op.specs.Contents.{Content}
use Rattle.reg_op.specs.Ids.{Id}
use Rattle.reg_op.specs.Set as set
use Rattle.reg_op.specs.Operations.{Op, Ops}
use Rattle.reg_op.specs.declared.operation.OpBody.{OpBody as Body}
use Rattle.reg_op.specs.declared.operation.OpBody.TheVariants.{Enter, Supersede, Retire}
use Rattle.reg_op.specs.Status.{enters}
use Rattle.reg_op.specs.Rows.{Row, rows}
use Rattle.reg_op.specs.Text.{printed}
use Rattle.reg_op.specs.declared.status.Status.{Status}
use Rattle.reg_op.specs.declared.status.Status.TheVariants.{Valid, Superseded, Retired}
use Rattle.reg_report.specs.Conflicts.{Contested, AreConflicts}
use Rattle.crs_export.specs.declared.title.Title.{Title}
use Rattle.crs_export.specs.declared.markup.TheConstants.{GRAPH_START, GRAPH_END}
use Rattle.crs_export.specs.Graphs.{node, caption, edge, rivals}
use Rattle.crs_export.specs.Drawing.{Statement, node_statement, caption_statement, edge_statement, rivals_statement, graph_statements}
use Rattle.reg_export.specs.Titles.{IsLabel, Each}

abbrev pub color_of : Option Status → List ℕ
color_of None = []
color_of (Some Valid) = codes "palegreen"
color_of (Some Superseded) = codes "khaki"
color_of (Some Retired) = codes "lightgray"

-- an entry that is superseded, and those that supersede it
abbrev pub linked_by : Id → List Id → List Id
linked_by e [] = []
linked_by e (n ∷ ns) = e ∷ n ∷ ns

-- an id that was not entered, and the entry that supersedes it
abbrev pub awaited_links : Ops → Body → List Id
awaited_links s (Enter text) = []
awaited_links s (Supersede old newer) = if enters s old then [] else old ∷ newer ∷ []
awaited_links s (Retire entry) = []

abbrev pub links_in : Ops → Op → List Id
links_in s o = awaited_links s o.body

-- the entries with an edge, and those in conflict
abbrev pub linked : Ops → List Row → List Contested → List Id
linked s rs cs = flat_map (λ (r : Row). linked_by r.entry r.newer) rs ++ flat_map (λ (c : Contested). c.entries) cs ++ flat_map (links_in s) (set.items s)

-- the row's entry is drawn: each is, or it has an edge, or is in conflict
abbrev pub IsDrawn : Bool → List Id → Row → Type 0
IsDrawn all ids r = (all ≡ true) ⊎ Contains ids r.entry

abbrev pub IsNodeOf : Bool → List Id → Row → List ℕ → Type 0
IsNodeOf all ids r bytes = (IsDrawn all ids r × ((t : Title) × IsLabel r t × (bytes ≡ node t (color_of r.status)))) ⊎ ((¬ (IsDrawn all ids r)) × (bytes ≡ []))

-- what is read in the place of an id: it has the name of its office, if there is one
abbrev pub named : List Name → Id → List ℕ
named names i = shown false names (printed i)

-- the label of an id, if something else is read in its place
abbrev pub label_for : List ℕ → List ℕ → List ℕ
label_for id read = if bytes_eq read id then [] else caption id read

-- the same of an id that was not entered; an entry has its key and its name as label
abbrev pub label_of : List Name → Ops → Id → List ℕ
label_of names s i = if enters s i then [] else label_for (printed i) (named names i)

-- an edge from an id to the entry that supersedes it, behind their labels
abbrev pub edge_of : List Name → Ops → Id → Id → List ℕ
edge_of names s old newer = label_of names s old ++ label_of names s newer ++ edge (printed old) (printed newer)

-- an edge to each entry that supersedes the row's
abbrev pub edges_from : List Name → Ops → Id → List Id → List ℕ
edges_from names s e ns = flat_map (λ (n : Id). edge_of names s e n) ns

abbrev pub edges_of : List Name → Ops → Row → List ℕ
edges_of names s r = edges_from names s r.entry r.newer

-- an edge from an id that was not entered to the entry that supersedes it
abbrev pub awaited_edges : List Name → Ops → Body → List ℕ
awaited_edges names s (Enter text) = []
awaited_edges names s (Supersede old newer) = if enters s old then [] else edge_of names s old newer
awaited_edges names s (Retire entry) = []

abbrev pub edges_in : List Name → Ops → Op → List ℕ
edges_in names s o = awaited_edges names s o.body

-- the edges of the rows, and those from ids that were not entered
abbrev pub all_edges : List Name → Ops → List Row → List ℕ
all_edges names s rs = flat_map (edges_of names s) rs ++ flat_map (edges_in names s) (set.items s)

-- a line from the first entry of a key in conflict to each of the others
abbrev pub rivals_from : Id → List Id → List ℕ
rivals_from i is = flat_map (λ (j : Id). rivals (printed i) (printed j)) is

abbrev pub rivals_among : List Id → List ℕ
rivals_among [] = []
rivals_among (i ∷ is) = rivals_from i is

abbrev pub rivals_of : Contested → List ℕ
rivals_of c = rivals_among c.entries

-- nodes, edges, and lines between entries in conflict
pub record IsGraphOf (all : Bool) (names : List Name) (s : Ops) (rs : List Row) (cs : List Contested) (text : List ℕ) : Type 0 where
  pub nodes : List ℕ
  pub are_nodes : Each (IsNodeOf all (linked s rs cs)) rs nodes
  pub is : text ≡ GRAPH_START.now ++ nodes ++ all_edges names s rs ++ flat_map rivals_of cs ++ GRAPH_END.now

-- the graph of a content, of all its entries or of those that are linked, with these names of offices
abbrev pub IsGraph : Bool → List Name → Content → List ℕ → Type 0
IsGraph all names x text = (cs : List Contested) × AreConflicts (rows x.ops) cs × IsGraphOf all names x.ops (rows x.ops) cs text

-- ---- as Graphviz reads it

-- the statement of the row's node, if the row's entry is drawn
abbrev pub IsNodeStatement : Bool → List Id → Row → List Statement → Type 0
IsNodeStatement all ids r ss = (IsDrawn all ids r × ((t : Title) × IsLabel r t × (ss ≡ node_statement t (color_of r.status) ∷ []))) ⊎ ((¬ (IsDrawn all ids r)) × (ss ≡ []))

abbrev pub label_statements_for : List ℕ → List ℕ → List Statement
label_statements_for id read = if bytes_eq read id then [] else caption_statement id read ∷ []

abbrev pub label_statements : List Name → Ops → Id → List Statement
label_statements names s i = if enters s i then [] else label_statements_for (printed i) (named names i)

abbrev pub edge_statements_of : List Name → Ops → Id → Id → List Statement
edge_statements_of names s old newer = label_statements names s old ++ label_statements names s newer ++ edge_statement (printed old) (printed newer) ∷ []

abbrev pub edge_statements : List Name → Ops → Row → List Statement
edge_statements names s r = flat_map (λ (n : Id). edge_statements_of names s r.entry n) r.newer

abbrev pub awaited_statements : List Name → Ops → Body → List Statement
awaited_statements names s (Enter text) = []
awaited_statements names s (Supersede old newer) = if enters s old then [] else edge_statements_of names s old newer
awaited_statements names s (Retire entry) = []

abbrev pub edge_statements_in : List Name → Ops → Op → List Statement
edge_statements_in names s o = awaited_statements names s o.body

abbrev pub rivals_statements_among : List Id → List Statement
rivals_statements_among [] = []
rivals_statements_among (i ∷ is) = map (λ (j : Id). rivals_statement (printed i) (printed j)) is

abbrev pub rivals_statements : Contested → List Statement
rivals_statements c = rivals_statements_among c.entries

-- the statements are those of the nodes, of the edges with the labels of their ids, and of the lines between entries in conflict
pub record AreGraphStatements (all : Bool) (names : List Name) (s : Ops) (rs : List Row) (cs : List Contested) (ss : List Statement) : Type 0 where
  pub nodes : List Statement
  pub are_nodes : Each (IsNodeStatement all (linked s rs cs)) rs nodes
  pub are : ss ≡ graph_statements (nodes ++ (flat_map (edge_statements names s) rs ++ flat_map (edge_statements_in names s) (set.items s)) ++ flat_map rivals_statements cs)
