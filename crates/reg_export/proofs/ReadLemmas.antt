-- What other programs read of some rows.
use Rattle.std.proofs.Common.{◌≡◌, ℕ, Bool, true, false, List, [], ◌∷◌, ◌++◌, map, Option, Some, None, if◌then◌else◌, refl, sym, ap, ◌∙◌, inl, inr, append_assoc, subst}
use Rattle.std.specs.List.{flat_map, list_all}
use Rattle.std.specs.Str.{bytes_eq}
use Rattle.json.specs.Json.{document}
use Rattle.csv_table.specs.declared.offices.names.Name.{Name}
use Rattle.crs_export.specs.SqlStatements as sql_text
use Rattle.crs_export.specs.DotStatements as graph_text
use Rattle.crs_value.specs.declared.crs.Crs.{Crs}
use Rattle.crs_part.specs.declared.crs.CrsParts.{CrsParts}
use Rattle.crs_value.specs.Usages.{usages_of}
use Rattle.crs_export.specs.declared.title.Title.{Title}
use Rattle.crs_export.specs.declared.filed.Filed.{Filed}
use Rattle.crs_export.specs.declared.table.Table.{Table}
use Rattle.crs_export.specs.declared.verdict.Verdict.{Verdict}
use Rattle.crs_export.specs.declared.verdict.Verdict.TheVariants.{Insert, Again, LeftOut}
use Rattle.crs_export.specs.declared.markup.TheConstants.{GRAPH_START, GRAPH_END}
use Rattle.crs_export.specs.Features.{features, collection}
use Rattle.crs_export.specs.Document.{Described, collection_value}
use Rattle.crs_export.specs.Graphs.{node, caption}
use Rattle.crs_export.specs.Drawing.{is_color, node_statement, caption_statement, rivals_statement, graph_statements}
use Rattle.crs_export.specs.Rows.{rows_of}
use Rattle.crs_export.specs.Sql.{judged}
use Rattle.crs_export.specs.Inserts.{Statement, insert_filed, row_statements, AreFor, AreOf, AreInserts, transaction}
use Rattle.crs_export.proofs.DocumentLemmas.{collection_read}
use Rattle.crs_export.proofs.LineLemmas.{sql_read}
use Rattle.crs_export.proofs.DrawingLemmas.{TakesAll, all_none, all_both, all_read, takes_node, takes_caption, takes_edge, takes_rivals, head_read, end_read}
use Rattle.reg_op.specs.Contents.{Content}
use Rattle.reg_op.specs.Ids.{Id}
use Rattle.reg_op.specs.Set as set
use Rattle.reg_op.specs.Operations.{Op, Ops}
use Rattle.reg_op.specs.declared.operation.OpBody.{OpBody as Body}
use Rattle.reg_op.specs.declared.operation.OpBody.TheVariants.{Enter, Supersede, Retire}
use Rattle.reg_op.specs.Status.{enters}
use Rattle.reg_op.specs.Rows.{Row, rows}
use Rattle.reg_op.specs.Text.{printed}
use Rattle.reg_op.specs.declared.status.Status.{Status}
use Rattle.reg_op.specs.declared.status.Status.TheVariants.{Valid, Superseded, Retired}
use Rattle.reg_report.specs.Conflicts.{Contested, AreConflicts}
use Rattle.reg_export.specs.Titles.{IsTitle, Each}
use Rattle.reg_export.specs.Geojson.{AreFeaturesOf, IsGeojson, AreDescribed}
use Rattle.reg_export.specs.ProjSql.{IsTaken, IsFiled, passes_over, FilesUnless, FilesAs, IsSql}
use Rattle.reg_export.specs.Graph.{color_of, IsDrawn, IsNodeOf, named, label_for, label_of, edge_of, edges_from, edges_of, awaited_edges, edges_in, all_edges, rivals_from, rivals_among, rivals_of, linked, IsGraphOf, IsGraph, IsNodeStatement, label_statements_for, label_statements, edge_statements_of, edge_statements, awaited_statements, edge_statements_in, rivals_statements_among, rivals_statements, AreGraphStatements}

-- ---- GeoJSON

abbrev all_features : List Described → List (List ℕ)
all_features ds = flat_map (λ (d : Described). features d.title d.usages) ds

described : (rs : List Row) (fs : List (List ℕ)) → Each AreFeaturesOf rs fs → (ds : List Described) × AreDescribed rs ds × (fs ≡ all_features ds)
described [] fs is = ([], refl, is)
described (r ∷ rs) fs (mine, later, gives, rest, is) =
    let others = described rs later rest in
    let d : Described = record { title = gives.title; usages = usages_of gives.crs.parts } in (
      d ∷ others.0,
      (d, others.0, record { titled = gives.titled; crs = gives.crs; spelled = gives.spelled; usages = refl }, others.1, refl),
      is ∙ (λ j. gives.are j ++ others.2 j),
    )

pub geojson_read : (rs : List Row) (text : List ℕ) → IsGeojson rs text → (ds : List Described) × AreDescribed rs ds × (document text ≡ Some (collection_value ds))
geojson_read rs text (fs, each, is) =
    let d = described rs fs each in
    (d.0, d.1, ap document (is ∙ ap collection d.2) ∙ collection_read d.0)

-- ---- SQL

-- there are statements for the entry, and for each of some entries
abbrev Inserts : Filed → Type 0
Inserts f = (ss : List Statement) × AreFor f f.table ss

abbrev AllInserts : List Filed → Type 0
AllInserts [] = Unit {0}
AllInserts (f ∷ fs) = Inserts f × AllInserts fs

all_inserts_both : (fs gs : List Filed) → AllInserts fs → AllInserts gs → AllInserts (fs ++ gs)
all_inserts_both [] gs h k = k
all_inserts_both (f ∷ fs) gs h k = (h.0, all_inserts_both fs gs h.1 k)

taken : (f : Filed) (t : Title) (crs : CrsParts) (o : Option Table) → f.rows.items ≡ rows_of t crs → (ss : List Statement) × AreFor f o ss
taken f t crs None is = (row_statements t crs, (t, crs, is, refl))
taken f t crs (Some table) is = (insert_filed f table ∷ [], refl)

filed : (r : Row) (f : Filed) → IsFiled r f → Inserts f
filed r f is = taken f is.taken.title is.taken.crs.parts f.table is.taken.by_rows

unless : (b : Bool) (r : Row) (fs : List Filed) → FilesUnless b r fs → AllInserts fs
unless true r fs is = subst AllInserts (sym is) tt
unless false r fs (f, one, is) = subst AllInserts (sym is) (filed r f one, tt)

gathered : (all : Bool) (rs : List Row) (fs : List Filed) → Each (FilesAs all) rs fs → AllInserts fs
gathered all [] fs is = subst AllInserts (sym is) tt
gathered all (r ∷ rs) fs (mine, later, gives, rest, is) =
    subst AllInserts (sym is) (all_inserts_both mine later (unless (passes_over all gives.0.authority) r mine gives.2) (gathered all rs later rest))

one_of : (f : Filed) (v : Verdict) → Inserts f → (ss : List Statement) × AreOf f v ss
one_of f Insert it = it
one_of f Again it = ([], refl)
one_of f LeftOut it = ([], refl)

inserted : (before fs : List Filed) → AllInserts fs → (ss : List Statement) × AreInserts before fs ss
inserted before [] h = ([], refl)
inserted before (f ∷ fs) h =
    let one = one_of f (judged before f) h.0 in
    let rest = inserted (before ++ f ∷ []) fs h.1 in
    (one.0 ++ rest.0, (one.0, rest.0, one.1, rest.1, refl))

pub proj_sql_read : (all : Bool) (rs : List Row) (text : List ℕ) → IsSql all rs text
    → (fs : List Filed) × (ss : List Statement) × Each (FilesAs all) rs fs × AreInserts [] fs ss × sql_text.AreStatements text (transaction ss)
proj_sql_read all rs text (fs, each, is) =
    let made = inserted [] fs (gathered all rs fs each) in
    (fs, made.0, each, made.1, subst (λ t. sql_text.AreStatements t (transaction made.0)) (sym is) (sql_read fs made.0 made.1))

-- ---- the graph

is_a_color : (status : Option Status) → is_color (color_of status) ≡ true
is_a_color None = refl
is_a_color (Some Valid) = refl
is_a_color (Some Superseded) = refl
is_a_color (Some Retired) = refl

unless_so : (b : Bool) (bytes : List ℕ) (ss : List (List graph_text.Part)) → TakesAll bytes ss → TakesAll (if b then [] else bytes) (if b then [] else ss)
unless_so true bytes ss h = all_none
unless_so false bytes ss h = h

label_for_read : (id read : List ℕ) → TakesAll (label_for id read) (label_statements_for id read)
label_for_read id read = unless_so (bytes_eq read id) (caption id read) (caption_statement id read ∷ []) (takes_caption id read)

label_read : (names : List Name) (s : Ops) (i : Id) → TakesAll (label_of names s i) (label_statements names s i)
label_read names s i = unless_so (enters s i) (label_for (printed i) (named names i)) (label_statements_for (printed i) (named names i)) (label_for_read (printed i) (named names i))

edge_read : (names : List Name) (s : Ops) (old newer : Id) → TakesAll (edge_of names s old newer) (edge_statements_of names s old newer)
edge_read names s old newer = all_both (all_both (label_read names s old) (label_read names s newer)) (takes_edge (printed old) (printed newer))

awaited_read : (names : List Name) (s : Ops) (b : Body) → TakesAll (awaited_edges names s b) (awaited_statements names s b)
awaited_read names s (Enter text) = all_none
awaited_read names s (Supersede old newer) = unless_so (enters s old) (edge_of names s old newer) (edge_statements_of names s old newer) (edge_read names s old newer)
awaited_read names s (Retire entry) = all_none

awaited_edges_read : (names : List Name) (s : Ops) (os : List Op) → TakesAll (flat_map (edges_in names s) os) (flat_map (edge_statements_in names s) os)
awaited_edges_read names s [] = all_none
awaited_edges_read names s (o ∷ os) = all_both (awaited_read names s o.body) (awaited_edges_read names s os)

abbrev Nodes : Bool → List Id → List Row → List ℕ → Type 0
Nodes all ids rs bytes = (ss : List (List graph_text.Part)) × Each (IsNodeStatement all ids) rs ss × TakesAll bytes ss

node_read : (all : Bool) (ids : List Id) (r : Row) (bytes : List ℕ) → IsNodeOf all ids r bytes → (ss : List (List graph_text.Part)) × IsNodeStatement all ids r ss × TakesAll bytes ss
node_read all ids r bytes (inl (drawn, (t, titled, is))) = (
  node_statement t (color_of r.status) ∷ [],
  inl (drawn, (t, titled, refl)),
  subst (λ l. TakesAll l (node_statement t (color_of r.status) ∷ [])) (sym is) (takes_node t (color_of r.status) (is_a_color r.status)),
)
node_read all ids r bytes (inr (never, is)) = ([], inr (never, refl), subst (λ l. TakesAll l []) (sym is) all_none)

nodes_read : (all : Bool) (ids : List Id) (rs : List Row) (bytes : List ℕ) → Each (IsNodeOf all ids) rs bytes → Nodes all ids rs bytes
nodes_read all ids [] bytes is = ([], refl, subst (λ l. TakesAll l []) (sym is) all_none)
nodes_read all ids (r ∷ rs) bytes (mine, later, gives, rest, is) =
    let one = node_read all ids r mine gives in
    let others = nodes_read all ids rs later rest in (
      one.0 ++ others.0,
      (one.0, others.0, one.1, others.1, refl),
      subst (λ l. TakesAll l (one.0 ++ others.0)) (sym is) (all_both one.2 others.2),
    )

edges_from_read : (names : List Name) (s : Ops) (e : Id) (ns : List Id) → TakesAll (edges_from names s e ns) (flat_map (λ (n : Id). edge_statements_of names s e n) ns)
edges_from_read names s e [] = all_none
edges_from_read names s e (n ∷ ns) = all_both (edge_read names s e n) (edges_from_read names s e ns)

edges_read : (names : List Name) (s : Ops) (rs : List Row) → TakesAll (flat_map (edges_of names s) rs) (flat_map (edge_statements names s) rs)
edges_read names s [] = all_none
edges_read names s (r ∷ rs) = all_both (edges_from_read names s r.entry r.newer) (edges_read names s rs)

rivals_from_read : (i : Id) (is : List Id) → TakesAll (rivals_from i is) (map (λ (j : Id). rivals_statement (printed i) (printed j)) is)
rivals_from_read i [] = all_none
rivals_from_read i (j ∷ js) = all_both (takes_rivals (printed i) (printed j)) (rivals_from_read i js)

rivals_among_read : (is : List Id) → TakesAll (rivals_among is) (rivals_statements_among is)
rivals_among_read [] = all_none
rivals_among_read (i ∷ is) = rivals_from_read i is

rivals_read : (cs : List Contested) → TakesAll (flat_map rivals_of cs) (flat_map rivals_statements cs)
rivals_read [] = all_none
rivals_read (c ∷ cs) = all_both (rivals_among_read c.entries) (rivals_read cs)

pub graph_read : (all : Bool) (names : List Name) (x : Content) (text : List ℕ) → IsGraph all names x text
    → (cs : List Contested) × (ss : List (List graph_text.Part)) × AreConflicts (rows x.ops) cs × AreGraphStatements all names x.ops (rows x.ops) cs ss × graph_text.AreStatements text ss
graph_read all names x text (cs, conflicts, g) =
    let s = x.ops in
    let rs = rows s in
    let nodes = nodes_read all (linked s rs cs) rs g.nodes g.are_nodes in
    let ss = graph_statements (nodes.0 ++ (flat_map (edge_statements names s) rs ++ flat_map (edge_statements_in names s) (set.items s)) ++ flat_map rivals_statements cs) in
    let edges = all_both (edges_read names s rs) (awaited_edges_read names s (set.items s)) in
    let whole : TakesAll (GRAPH_START.now ++ g.nodes ++ all_edges names s rs ++ flat_map rivals_of cs ++ GRAPH_END.now) ss =
    all_both (all_both (all_both (all_both head_read nodes.2) edges) (rivals_read cs)) end_read in (
      cs,
      ss,
      conflicts,
      record { nodes = nodes.0; are_nodes = nodes.1; are = refl },
      subst (λ t. graph_text.AreStatements t ss) (sym g.is) (all_read whole),
    )
