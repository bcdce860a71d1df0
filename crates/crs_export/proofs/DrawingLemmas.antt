-- The bytes of nodes and edges, and the statements of DOT that they are.
use Rattle.std.proofs.Common.{◌≡◌, ℕ, ◌==◌, true, false, ◌&&◌, nat_le, List, [], ◌∷◌, ◌++◌, codes, refl, sym, ap, ◌∙◌, append_assoc, append-nil, subst, arith}
use Rattle.std.proofs.lemmas.Bool.{and_parts}
use Rattle.std.proofs.lemmas.Bool.Decides.{nat_tests}
use Rattle.std.proofs.lemmas.List.Concat.{flat_map-append}
use Rattle.std.specs.List.{flat_map}
use Rattle.crs_export.specs.DotQuotes.{escaped, marked, unescaped}
use Rattle.crs_export.specs.DotStatements.{Place, Between, Statement, InText, Part, Byte, Text, End, to, before, in_statement, ended, AreStatements, code}
use Rattle.crs_export.proofs.DotLemmas.{Takes, takes_both, Within, within_both, within_plain, within_escape, within_escaped, shown_before, shown_back}
use Rattle.crs_export.specs.declared.title.Title.{Title}
use Rattle.crs_export.specs.declared.markup.TheConstants.{GRAPH_START, GRAPH_END, NODE_START, LABEL, BEFORE_CODE_IN_LABEL, BEFORE_NAME_IN_LABEL, BEFORE_COLOR, NODE_END, CAPTION_END, ARROW, EDGE_END, RIVALS_END}
use Rattle.crs_export.specs.Graphs.{node, caption, edge, rivals}
use Rattle.crs_export.specs.Drawing.{is_color, label_of, node_statement, caption_statement, edge_statement, rivals_statement, graph_statements}

takes_as : {p q : Place} {a : List ℕ} {xs : List Part} → Takes p a xs q → (ys : List Part) → xs ≡ ys → Takes p a ys q
takes_as {p = p} {q = q} {a = a} it ys e = subst (λ l. Takes p a l q) e it

-- ---- statements one after another

-- the bytes are these statements
pub record TakesAll (bytes : List ℕ) (ss : List (List Part)) : Type 0 where
  pub is : Takes Between bytes (flat_map ended ss) Between

pub all_none : TakesAll [] []
all_none = record { is = record { read = refl; place = refl } }

pub all_both : {a b : List ℕ} {ss ts : List (List Part)} → TakesAll a ss → TakesAll b ts → TakesAll (a ++ b) (ss ++ ts)
all_both {ss = ss} {ts = ts} one other = record { is = takes_as (takes_both one.is other.is) (flat_map ended (ss ++ ts)) (sym (flat_map-append ended ss ts)) }

all_one : {a : List ℕ} {ps : List Part} → Takes Between a ps Between → (s : List Part) → ps ≡ ended s → TakesAll a (s ∷ [])
all_one it s e = record { is = takes_as it (flat_map ended (s ∷ [])) (e ∙ sym (append-nil (ended s))) }

pub all_read : {bytes : List ℕ} {ss : List (List Part)} → TakesAll bytes ss → AreStatements bytes ss
all_read all = record { read = all.is.read; whole = all.is.place }

-- ---- nodes

letter_step : (b : ℕ) → (nat_le 97 b && nat_le b 122) ≡ true → in_statement b ≡ before (Byte b) (to Statement)
letter_step b h =
    let m : (b == 34) ≡ false = grind (arith, nat_tests) in
    let s : (b == 59) ≡ false = grind (arith, nat_tests) in
    let o : (b == 123) ≡ false = grind (arith, nat_tests) in
    let c : (b == 125) ≡ false = grind (arith, nat_tests) in
    let l : (b == 47) ≡ false = grind (arith, nat_tests) in
    let n : (b == 35) ≡ false = grind (arith, nat_tests) in
    let t : (b == 60) ≡ false = grind (arith, nat_tests) in
    rw (m, s, o, c, l, n, t) refl

takes_color : (color : List ℕ) → is_color color ≡ true → Takes Statement color (code color) Statement
takes_color [] h = record { read = refl; place = refl }
takes_color (b ∷ color) h =
    let each = and_parts (nat_le 97 b && nat_le b 122) (is_color color) h in
    let here = letter_step b each.0 in
    let first : Takes Statement (b ∷ []) (Byte b ∷ []) Statement = record { read = ap (λ s. s.adds ++ []) here; place = ap (λ s. s.place) here } in
    takes_both first (takes_color color each.1)

open_text : Takes Between NODE_START.now [] (InText [])
open_text = record { read = refl; place = refl }

-- the bytes of a label
abbrev label_bytes : Title → List ℕ
label_bytes t = escaped t.authority.now ++ (58 ∷ (escaped t.code.now ++ (92 ∷ 110 ∷ escaped t.name.now)))

label_shown : (t : Title) → unescaped (label_bytes t) ≡ label_of t
label_shown t =
    shown_before t.authority.now (58 ∷ (escaped t.code.now ++ (92 ∷ 110 ∷ escaped t.name.now)))
    ∙ ap (λ l. marked t.authority.now ++ (58 ∷ l)) (shown_before t.code.now (92 ∷ 110 ∷ escaped t.name.now) ∙ ap (λ l. marked t.code.now ++ (10 ∷ l)) (shown_back t.name.now))

-- the bytes of a label, as they are written one after another
abbrev written_label : Title → List ℕ
written_label t = escaped t.authority.now ++ BEFORE_CODE_IN_LABEL.now ++ escaped t.code.now ++ BEFORE_NAME_IN_LABEL.now ++ escaped t.name.now

label_is : (t : Title) → written_label t ≡ label_bytes t
label_is t = simp append_assoc refl

within_label : (t : Title) → Within (written_label t)
within_label t = within_both (within_both (within_both (within_both (within_escaped t.authority.now) (within_plain BEFORE_CODE_IN_LABEL.now refl)) (within_escaped t.code.now)) (within_escape 110 refl)) (within_escaped t.name.now)

-- a node with its label as one list of bytes
abbrev node_bytes : Title → List ℕ → List ℕ
node_bytes t color = NODE_START.now ++ (escaped t.entry.now ++ (LABEL.now ++ (written_label t ++ (BEFORE_COLOR.now ++ (color ++ NODE_END.now)))))

node_is : (t : Title) (color : List ℕ) → node_bytes t color ≡ node t color
node_is t color = simp append_assoc refl

takes_node_bytes : (t : Title) (color : List ℕ) → is_color color ≡ true
    → Takes Between (node_bytes t color) (Text (unescaped (escaped t.entry.now)) ∷ (code (codes " [label=") ++ (Text (unescaped (written_label t)) ∷ (code (codes ",fillcolor=") ++ (code color ++ (Byte 93 ∷ End ∷ [])))))) Between
takes_node_bytes t color h =
    let between : Takes (InText (escaped t.entry.now)) LABEL.now (Text (unescaped (escaped t.entry.now)) ∷ code (codes " [label=")) (InText []) = record { read = refl; place = refl } in
    let behind : Takes (InText (written_label t)) BEFORE_COLOR.now (Text (unescaped (written_label t)) ∷ code (codes ",fillcolor=")) Statement = record { read = refl; place = refl } in
    let end : Takes Statement NODE_END.now (Byte 93 ∷ End ∷ []) Between = record { read = refl; place = refl } in
    takes_both open_text (takes_both ((within_escaped t.entry.now).is []) (takes_both between (takes_both ((within_label t).is []) (takes_both behind (takes_both (takes_color color h) end)))))

pub takes_node : (t : Title) (color : List ℕ) → is_color color ≡ true → TakesAll (node t color) (node_statement t color ∷ [])
takes_node t color h =
    subst (λ l. TakesAll l (node_statement t color ∷ [])) (node_is t color)
    (all_one (takes_node_bytes t color h) (node_statement t color)
    ((λ j. Text (shown_back t.entry.now j) ∷ (code (codes " [label=") ++ (Text (ap unescaped (label_is t) j) ∷ (code (codes ",fillcolor=") ++ (code color ++ (Byte 93 ∷ End ∷ []))))))
    ∙ (λ j. Text (marked t.entry.now) ∷ (code (codes " [label=") ++ (Text (label_shown t j) ∷ (code (codes ",fillcolor=") ++ sym (append_assoc (code color) (Byte 93 ∷ []) (End ∷ [])) j))))))

pub takes_caption : (id shown : List ℕ) → TakesAll (caption id shown) (caption_statement id shown ∷ [])
takes_caption id shown =
    let between : Takes (InText (escaped id)) LABEL.now (Text (unescaped (escaped id)) ∷ code (codes " [label=")) (InText []) = record { read = refl; place = refl } in
    let end : Takes (InText (escaped shown)) CAPTION_END.now (Text (unescaped (escaped shown)) ∷ (Byte 93 ∷ End ∷ [])) Between = record { read = refl; place = refl } in
    all_one (takes_both (takes_both (takes_both (takes_both open_text ((within_escaped id).is [])) between) ((within_escaped shown).is [])) end) (caption_statement id shown)
    (λ j. Text (shown_back id j) ∷ (code (codes " [label=") ++ (Text (shown_back shown j) ∷ (Byte 93 ∷ End ∷ []))))

-- ---- edges

takes_between : {last : List Part} (one other end : List ℕ) → Takes (InText (escaped other)) end (Text (unescaped (escaped other)) ∷ last) Between
    → Takes Between (NODE_START.now ++ escaped one ++ ARROW.now ++ escaped other ++ end) (Text (unescaped (escaped one)) ∷ (code (codes " -> ") ++ (Text (unescaped (escaped other)) ∷ last))) Between
takes_between one other end last =
    let arrow : Takes (InText (escaped one)) ARROW.now (Text (unescaped (escaped one)) ∷ code (codes " -> ")) (InText []) = record { read = refl; place = refl } in
    takes_both (takes_both (takes_both (takes_both open_text ((within_escaped one).is [])) arrow) ((within_escaped other).is [])) last

pub takes_edge : (old newer : List ℕ) → TakesAll (edge old newer) (edge_statement old newer ∷ [])
takes_edge old newer =
    let end : Takes (InText (escaped newer)) EDGE_END.now (Text (unescaped (escaped newer)) ∷ End ∷ []) Between = record { read = refl; place = refl } in
    all_one (takes_between old newer EDGE_END.now end) (edge_statement old newer) (λ j. Text (shown_back old j) ∷ (code (codes " -> ") ++ (Text (shown_back newer j) ∷ End ∷ [])))

pub takes_rivals : (one other : List ℕ) → TakesAll (rivals one other) (rivals_statement one other ∷ [])
takes_rivals one other =
    let end : Takes (InText (escaped other)) RIVALS_END.now (Text (unescaped (escaped other)) ∷ (code (codes " [dir=none,color=red]") ++ End ∷ [])) Between = record { read = refl; place = refl } in
    all_one (takes_between one other RIVALS_END.now end) (rivals_statement one other) (λ j. Text (shown_back one j) ∷ (code (codes " -> ") ++ (Text (shown_back other j) ∷ (code (codes " [dir=none,color=red]") ++ End ∷ []))))

-- ---- the whole graph

pub head_read : TakesAll GRAPH_START.now (code (codes "digraph register {") ∷ code (codes "rankdir=LR") ∷ code (codes "pack=true") ∷ code (codes "packmode=array") ∷ code (codes "node [shape=box,style=filled]") ∷ [])
head_read = record { is = record { read = refl; place = refl } }

pub end_read : TakesAll GRAPH_END.now (code (codes "}") ∷ [])
end_read = record { is = record { read = refl; place = refl } }

pub graph_read : (bytes : List ℕ) (ss : List (List Part)) → TakesAll bytes ss → AreStatements (GRAPH_START.now ++ bytes ++ GRAPH_END.now) (graph_statements ss)
graph_read bytes ss all = all_read (all_both (all_both head_read all) end_read)
