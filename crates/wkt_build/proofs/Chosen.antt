-- Values that depend on the next keyword.
use Rattle.std.proofs.Common.{◌≡◌, ℕ, Bool, true, false, List, ◌++◌, Option, Some, None, Result, Ok, Err, IfOk, refl, sym, ap, ◌∙◌, subst}
use Rattle.crs_part.specs.declared.units.UnitDefinition.{UnitDefinition}
use Rattle.crs_part.specs.declared.datums.Datum.{Datum}
use Rattle.crs_part.specs.declared.datums.GeodeticEnsemble.{GeodeticEnsemble}
use Rattle.crs_part.specs.declared.datums.GeodeticFrame.TheVariants as geodetic_frame
use Rattle.crs_part.specs.declared.datums.VerticalDatum.{VerticalDatum}
use Rattle.crs_part.specs.declared.datums.VerticalEnsemble.{VerticalEnsemble}
use Rattle.crs_part.specs.declared.datums.VerticalFrame.TheVariants as vertical_frame
use Rattle.crs_part.specs.declared.crs.GeodeticKind.{GeodeticKind}
use Rattle.crs_part.specs.declared.crs.BaseCrs.{BaseCrs}
use Rattle.crs_part.specs.declared.crs.Geodetic.{Geodetic}
use Rattle.crs_part.specs.declared.crs.Projected.{Projected}
use Rattle.crs_part.specs.declared.crs.Vertical as verticals
use Rattle.crs_part.specs.declared.crs.Single.{Single}
use Rattle.crs_part.specs.declared.crs.Single.TheVariants as single
use Rattle.crs_part.specs.declared.crs.Compound.{Compound}
use Rattle.crs_part.specs.declared.crs.CrsParts.TheVariants as parts
use Rattle.wkt_tree.specs.Tree.{Tok, Item, tokens}
use Rattle.wkt_tree.specs.Tree as tree
use Rattle.wkt_grammar.specs.declared.table.Keyword.{Keyword}
use Rattle.wkt_grammar.specs.declared.table.Keyword.TheVariants as keywords
use Rattle.wkt_grammar.specs.declared.table.Node.{Node}
use Rattle.wkt_grammar.specs.declared.table.Node.TheVariants as nodes
use Rattle.wkt_grammar.specs.declared.table.Takes.{Takes}
use Rattle.wkt_grammar.specs.declared.table.Takes.TheVariants as kinds
use Rattle.wkt_grammar.specs.Rows.{enters}
use Rattle.wkt_grammar.specs.Words.{keyword_of}
use Rattle.wkt_grammar.specs.Bare.{Bare, Bares, text, number, word, node, bare}
use Rattle.wkt_grammar.specs.SecondEdition.{Fitted, Fitting}
use Rattle.wkt_grammar.specs.Runs.{Fields, IsNode}
use Rattle.wkt_grammar.specs.Denotes.{unit_fields, DenotesUnit, DenotesLengthUnit, DenotesAngleUnit, datum_fields, geodetic_ensemble_fields, DenotesGeodeticFrame, vertical_datum_fields, vertical_ensemble_fields, DenotesVerticalFrame, base_fields, DenotesBase, geodetic_fields, projected_fields, vertical_fields, DenotesSingle, compound_fields, DenotesParts, base_keyword, geodetic_keyword}
use Rattle.wkt_build.specs.Reads.{Next, BuildsNode}
use Rattle.wkt_build.specs.Single.{IsSingle}
use Rattle.wkt_build.specs.Choices.{next_keyword, unit_as, length_unit_as, angle_unit_as, geodetic_kind_of, is_ensemble, is_projected, is_vertical, is_compound}
use Rattle.wkt_build.proofs.Rows.{MadeNode, IsEntered, entered_of, takes_nodes}

-- ---- the next keyword

text_no_node : (b k : List ℕ) (xs : Bares) → text b ≡ node k xs → ⊥
text_no_node b k xs e = cc

number_no_node : (b k : List ℕ) (xs : Bares) → number b ≡ node k xs → ⊥
number_no_node b k xs e = cc

word_no_node : (b k : List ℕ) (xs : Bares) → word b ≡ node k xs → ⊥
word_no_node b k xs e = cc

same_keyword : (k k' : List ℕ) (xs ys : Bares) → node k xs ≡ node k' ys → k ≡ k'
same_keyword k k' xs ys e = cc

keyword_item : (i : Item) (k : List ℕ) (items : Bares) (old rest : List Tok) → bare i ≡ node k items → old ≡ tree.tokens i ++ rest → next_keyword old ≡ keyword_of k
keyword_item (tree.text p) k items old rest e h = absurd (text_no_node p.bytes k items e)
keyword_item (tree.number p) k items old rest e h = absurd (number_no_node p.bytes k items e)
keyword_item (tree.word p) k items old rest e h = absurd (word_no_node p.bytes k items e)
keyword_item (tree.node p d o is c) k items old rest e h = ap next_keyword h ∙ ap keyword_of (same_keyword p.bytes k _ items e)

keyword_next : (x : Bare) (k : List ℕ) (items : Bares) (old rest : List Tok) → x ≡ node k items → Next x old rest → next_keyword old ≡ keyword_of k
keyword_next x k items old rest e n = keyword_item n.item k items old rest (n.is ∙ e) n.tokens_are

-- the argument is a node, and its keyword is the next one
record Comes (t : Takes) (x : Bare) (old rest : List Tok) : Type 0 where
  pub node_is : IsEntered t x
  pub comes : next_keyword old ≡ Some node_is.means

comes_of : (t : Takes) → takes_nodes t ≡ true → (x : Bare) (old rest : List Tok) → Fitting t x → Next x old rest → Comes t x old rest
comes_of t h x old rest f n =
    let e = entered_of t h x f in
    record { node_is = e; comes = keyword_next x e.keyword e.items old rest e.is n ∙ e.meaning }

same_row : (n m : Node) → Some n ≡ Some m → m ≡ n
same_row n m e = cc

no_row : (A : Type 0) (m : Node) → ◌≡◌ {A = Option Node} None (Some m) → A
no_row A m e = absurd cc

-- ---- units

-- each keyword that the slot takes has the row n, and the node denotes the value that the keyword chooses
abbrev Chosen : {A B : Type 0} → Takes → Node → (A → Fields) → (Bare → B → Type 0) → (Option Keyword → A → B) → Type 0
Chosen t n F D choose = (K : Keyword) (m : Node) → enters t K ≡ Some m → (x : Bare) (v : _) → (IsNode K n (F v) x → D x (choose (Some K) v)) × (m ≡ n)

chosen : {A B : Type 0} (t : Takes) (n : Node) (F : A → Fields) (D : Bare → B → Type 0) (choose : Option Keyword → A → B) (old new : List Tok) (v : A) → takes_nodes t ≡ true → Chosen t n F D choose → MadeNode n F old new v
    → (x : Bare) (rest : List Tok) → Fitting t x → Next x old rest → D x (choose (next_keyword old) v) × (new ≡ rest)
chosen t n F D choose old new v h c m x rest f next =
    let k = comes_of t h x old rest f next in
    let e = k.node_is in
    let q = c e.means e.row e.enters x v in
    let made = m x e.keyword e.items e.means rest e.is e.meaning (subst (λ r. Fitted r e.items) q.1 e.fitted) next in
    (subst (λ o. D x (choose o v)) (sym k.comes) (q.0 made.0), made.1)

unit_chosen : Chosen kinds.AnyUnit nodes.Unit unit_fields DenotesUnit unit_as
unit_chosen keywords.LengthUnit m e x v = (λ d. d, same_row nodes.Unit m e)
unit_chosen keywords.AngleUnit m e x v = (λ d. d, same_row nodes.Unit m e)
unit_chosen keywords.ScaleUnit m e x v = (λ d. d, same_row nodes.Unit m e)
unit_chosen keywords.Unit m e x v = (λ d. d, same_row nodes.Unit m e)
unit_chosen k m e x v = no_row _ m e

length_unit_chosen : Chosen kinds.LengthUnit nodes.Unit unit_fields DenotesLengthUnit length_unit_as
length_unit_chosen keywords.LengthUnit m e x v = (λ d. d, same_row nodes.Unit m e)
length_unit_chosen keywords.Unit m e x v = (λ d. d, same_row nodes.Unit m e)
length_unit_chosen k m e x v = no_row _ m e

angle_unit_chosen : Chosen kinds.AngleUnit nodes.Unit unit_fields DenotesAngleUnit angle_unit_as
angle_unit_chosen keywords.AngleUnit m e x v = (λ d. d, same_row nodes.Unit m e)
angle_unit_chosen keywords.Unit m e x v = (λ d. d, same_row nodes.Unit m e)
angle_unit_chosen k m e x v = no_row _ m e

pub unit_made : (old new : List Tok) (v : UnitDefinition) → MadeNode nodes.Unit unit_fields old new v → (x : Bare) (rest : List Tok) → Fitting kinds.AnyUnit x → Next x old rest → DenotesUnit x (unit_as (next_keyword old) v) × (new ≡ rest)
unit_made old new v = chosen kinds.AnyUnit nodes.Unit unit_fields DenotesUnit unit_as old new v refl unit_chosen

pub length_unit_made : (old new : List Tok) (v : UnitDefinition) → MadeNode nodes.Unit unit_fields old new v → (x : Bare) (rest : List Tok) → Fitting kinds.LengthUnit x → Next x old rest → DenotesLengthUnit x (length_unit_as (next_keyword old) v) × (new ≡ rest)
length_unit_made old new v = chosen kinds.LengthUnit nodes.Unit unit_fields DenotesLengthUnit length_unit_as old new v refl length_unit_chosen

pub angle_unit_made : (old new : List Tok) (v : UnitDefinition) → MadeNode nodes.Unit unit_fields old new v → (x : Bare) (rest : List Tok) → Fitting kinds.AngleUnit x → Next x old rest → DenotesAngleUnit x (angle_unit_as (next_keyword old) v) × (new ≡ rest)
angle_unit_made old new v = chosen kinds.AngleUnit nodes.Unit unit_fields DenotesAngleUnit angle_unit_as old new v refl angle_unit_chosen

-- ---- one of two nodes

-- each keyword that the slot takes, and for which the test has this result, is K, and its row is n
abbrev OnlyWhere : Takes → (Option Keyword → Bool) → Bool → Keyword → Node → Type 0
OnlyWhere t test answer K n = (J : Keyword) (m : Node) → enters t J ≡ Some m → test (Some J) ≡ answer → (J ≡ K) × (m ≡ n)

one_way : {A : Type 0} (t : Takes) (test : Option Keyword → Bool) (answer : Bool) (K : Keyword) (n : Node) (F : A → Fields) (old new : List Tok) (v : A) → takes_nodes t ≡ true → OnlyWhere t test answer K n → test (next_keyword old) ≡ answer → MadeNode n F old new v
    → (x : Bare) (rest : List Tok) → Fitting t x → Next x old rest → IsNode K n (F v) x × (new ≡ rest)
one_way t test answer K n F old new v h only a m x rest f next =
    let k = comes_of t h x old rest f next in
    let e = k.node_is in
    let o = only e.means e.row e.enters (ap test (sym k.comes) ∙ a) in
    m x e.keyword e.items K rest e.is (e.meaning ∙ ap Some o.0) (subst (λ r. Fitted r e.items) o.1 e.fitted) next

datum_only : OnlyWhere kinds.GeodeticDatum is_ensemble false keywords.Datum nodes.Datum
datum_only keywords.Datum m e a = (refl, same_row nodes.Datum m e)
datum_only keywords.Ensemble m e a = absurd cc
datum_only k m e a = no_row _ m e

ensemble_only : OnlyWhere kinds.GeodeticDatum is_ensemble true keywords.Ensemble nodes.GeodeticEnsemble
ensemble_only keywords.Ensemble m e a = (refl, same_row nodes.GeodeticEnsemble m e)
ensemble_only keywords.Datum m e a = absurd cc
ensemble_only k m e a = no_row _ m e

vertical_datum_only : OnlyWhere kinds.VerticalDatum is_ensemble false keywords.VerticalDatum nodes.VerticalDatum
vertical_datum_only keywords.VerticalDatum m e a = (refl, same_row nodes.VerticalDatum m e)
vertical_datum_only keywords.Ensemble m e a = absurd cc
vertical_datum_only k m e a = no_row _ m e

vertical_ensemble_only : OnlyWhere kinds.VerticalDatum is_ensemble true keywords.Ensemble nodes.VerticalEnsemble
vertical_ensemble_only keywords.Ensemble m e a = (refl, same_row nodes.VerticalEnsemble m e)
vertical_ensemble_only keywords.VerticalDatum m e a = absurd cc
vertical_ensemble_only k m e a = no_row _ m e

pub datum_made : (old new : List Tok) (v : Datum) → is_ensemble (next_keyword old) ≡ false → MadeNode nodes.Datum datum_fields old new v → (x : Bare) (rest : List Tok) → Fitting kinds.GeodeticDatum x → Next x old rest → DenotesGeodeticFrame x (geodetic_frame.Datum v) × (new ≡ rest)
datum_made old new v a m = one_way kinds.GeodeticDatum is_ensemble false keywords.Datum nodes.Datum datum_fields old new v refl datum_only a m

pub ensemble_made : (old new : List Tok) (v : GeodeticEnsemble) → is_ensemble (next_keyword old) ≡ true → MadeNode nodes.GeodeticEnsemble geodetic_ensemble_fields old new v → (x : Bare) (rest : List Tok) → Fitting kinds.GeodeticDatum x → Next x old rest → DenotesGeodeticFrame x (geodetic_frame.Ensemble v) × (new ≡ rest)
ensemble_made old new v a m = one_way kinds.GeodeticDatum is_ensemble true keywords.Ensemble nodes.GeodeticEnsemble geodetic_ensemble_fields old new v refl ensemble_only a m

pub vertical_datum_made : (old new : List Tok) (v : VerticalDatum) → is_ensemble (next_keyword old) ≡ false → MadeNode nodes.VerticalDatum vertical_datum_fields old new v → (x : Bare) (rest : List Tok) → Fitting kinds.VerticalDatum x → Next x old rest → DenotesVerticalFrame x (vertical_frame.Datum v) × (new ≡ rest)
vertical_datum_made old new v a m = one_way kinds.VerticalDatum is_ensemble false keywords.VerticalDatum nodes.VerticalDatum vertical_datum_fields old new v refl vertical_datum_only a m

pub vertical_ensemble_made : (old new : List Tok) (v : VerticalEnsemble) → is_ensemble (next_keyword old) ≡ true → MadeNode nodes.VerticalEnsemble vertical_ensemble_fields old new v → (x : Bare) (rest : List Tok) → Fitting kinds.VerticalDatum x → Next x old rest → DenotesVerticalFrame x (vertical_frame.Ensemble v) × (new ≡ rest)
vertical_ensemble_made old new v a m = one_way kinds.VerticalDatum is_ensemble true keywords.Ensemble nodes.VerticalEnsemble vertical_ensemble_fields old new v refl vertical_ensemble_only a m

-- ---- geodetic reference systems, whose keyword is their kind

base_only : (J : Keyword) (m : Node) → enters kinds.BaseCrs J ≡ Some m → (J ≡ base_keyword (geodetic_kind_of (Some J))) × (m ≡ nodes.BaseCrs)
base_only keywords.BaseGeodeticCrs m e = (refl, same_row nodes.BaseCrs m e)
base_only keywords.BaseGeographicCrs m e = (refl, same_row nodes.BaseCrs m e)
base_only k m e = no_row _ m e

pub base_made : (old new : List Tok) (v : BaseCrs) → v.kind ≡ geodetic_kind_of (next_keyword old) → MadeNode nodes.BaseCrs base_fields old new v → (x : Bare) (rest : List Tok) → Fitting kinds.BaseCrs x → Next x old rest → DenotesBase x v × (new ≡ rest)
base_made old new v a m x rest f next =
    let k = comes_of kinds.BaseCrs refl x old rest f next in
    let e = k.node_is in
    let o = base_only e.means e.row e.enters in
    let kind : base_keyword v.kind ≡ e.means = ap base_keyword (a ∙ ap geodetic_kind_of k.comes) ∙ sym o.0 in
    m x e.keyword e.items (base_keyword v.kind) rest e.is (e.meaning ∙ ap Some (sym kind)) (subst (λ r. Fitted r e.items) o.1 e.fitted) next

-- ---- single reference systems, as components and as the root

pub component : (x : Bare) (old rest : List Tok) → Fitting kinds.SingleCrs x → Next x old rest → IsSingle x old
component x old rest f n =
    let k = comes_of kinds.SingleCrs refl x old rest f n in
    let e = k.node_is in
    record { keyword = e.keyword; items = e.items; means = e.means; row = e.row; is = e.is; meaning = e.meaning; enters = e.enters; fitted = e.fitted; comes = k.comes }

not_compound : (J : Keyword) (m : Node) → enters kinds.AnyCrs J ≡ Some m → is_compound (Some J) ≡ false → enters kinds.SingleCrs J ≡ Some m
not_compound keywords.GeodeticCrs m e a = e
not_compound keywords.GeographicCrs m e a = e
not_compound keywords.ProjectedCrs m e a = e
not_compound keywords.VerticalCrs m e a = e
not_compound keywords.CompoundCrs m e a = absurd cc
not_compound k m e a = no_row _ m e

pub root_single : (x : Bare) (old rest : List Tok) → is_compound (next_keyword old) ≡ false → Fitting kinds.AnyCrs x → Next x old rest → IsSingle x old
root_single x old rest a f n =
    let k = comes_of kinds.AnyCrs refl x old rest f n in
    let e = k.node_is in
    record { keyword = e.keyword; items = e.items; means = e.means; row = e.row; is = e.is; meaning = e.meaning; enters = not_compound e.means e.row e.enters (ap is_compound (sym k.comes) ∙ a); fitted = e.fitted; comes = k.comes }

projected_only : (J : Keyword) (m : Node) → enters kinds.SingleCrs J ≡ Some m → is_projected (Some J) ≡ true → (J ≡ keywords.ProjectedCrs) × (m ≡ nodes.ProjectedCrs)
projected_only keywords.ProjectedCrs m e a = (refl, same_row nodes.ProjectedCrs m e)
projected_only keywords.GeodeticCrs m e a = absurd cc
projected_only keywords.GeographicCrs m e a = absurd cc
projected_only keywords.VerticalCrs m e a = absurd cc
projected_only k m e a = no_row _ m e

vertical_only : (J : Keyword) (m : Node) → enters kinds.SingleCrs J ≡ Some m → is_vertical (Some J) ≡ true → (J ≡ keywords.VerticalCrs) × (m ≡ nodes.VerticalCrs)
vertical_only keywords.VerticalCrs m e a = (refl, same_row nodes.VerticalCrs m e)
vertical_only keywords.GeodeticCrs m e a = absurd cc
vertical_only keywords.GeographicCrs m e a = absurd cc
vertical_only keywords.ProjectedCrs m e a = absurd cc
vertical_only k m e a = no_row _ m e

geodetic_only : (J : Keyword) (m : Node) → enters kinds.SingleCrs J ≡ Some m → is_projected (Some J) ≡ false → is_vertical (Some J) ≡ false → (J ≡ geodetic_keyword (geodetic_kind_of (Some J))) × (m ≡ nodes.GeodeticCrs)
geodetic_only keywords.GeodeticCrs m e a b = (refl, same_row nodes.GeodeticCrs m e)
geodetic_only keywords.GeographicCrs m e a b = (refl, same_row nodes.GeodeticCrs m e)
geodetic_only keywords.ProjectedCrs m e a b = absurd cc
geodetic_only keywords.VerticalCrs m e a b = absurd cc
geodetic_only k m e a b = no_row _ m e

-- if a single reference system is next, it denotes v, and the tokens after it remain
abbrev pub MadeSingle : List Tok → List Tok → Single → Type 0
MadeSingle old new v = (x : Bare) (rest : List Tok) → IsSingle x old → Next x old rest → DenotesSingle x v × (new ≡ rest)

pub projected_made : (old new : List Tok) (v : Projected) → is_projected (next_keyword old) ≡ true → MadeNode nodes.ProjectedCrs projected_fields old new v → MadeSingle old new (single.Projected v)
projected_made old new v a m x rest s n =
    let o = projected_only s.means s.row s.enters (ap is_projected (sym s.comes) ∙ a) in
    m x s.keyword s.items keywords.ProjectedCrs rest s.is (s.meaning ∙ ap Some o.0) (subst (λ r. Fitted r s.items) o.1 s.fitted) n

pub vertical_made : (old new : List Tok) (v : verticals.Vertical) → is_vertical (next_keyword old) ≡ true → MadeNode nodes.VerticalCrs vertical_fields old new v → MadeSingle old new (single.Vertical v)
vertical_made old new v a m x rest s n =
    let o = vertical_only s.means s.row s.enters (ap is_vertical (sym s.comes) ∙ a) in
    m x s.keyword s.items keywords.VerticalCrs rest s.is (s.meaning ∙ ap Some o.0) (subst (λ r. Fitted r s.items) o.1 s.fitted) n

pub geodetic_made : (old new : List Tok) (v : Geodetic) → is_projected (next_keyword old) ≡ false → is_vertical (next_keyword old) ≡ false → v.kind ≡ geodetic_kind_of (next_keyword old) → MadeNode nodes.GeodeticCrs geodetic_fields old new v → MadeSingle old new (single.Geodetic v)
geodetic_made old new v a b k m x rest s n =
    let o = geodetic_only s.means s.row s.enters (ap is_projected (sym s.comes) ∙ a) (ap is_vertical (sym s.comes) ∙ b) in
    let kind : geodetic_keyword v.kind ≡ s.means = ap geodetic_keyword (k ∙ ap geodetic_kind_of s.comes) ∙ sym o.0 in
    m x s.keyword s.items (geodetic_keyword v.kind) rest s.is (s.meaning ∙ ap Some (sym kind)) (subst (λ r. Fitted r s.items) o.1 s.fitted) n

compound_only : OnlyWhere kinds.AnyCrs is_compound true keywords.CompoundCrs nodes.CompoundCrs
compound_only keywords.CompoundCrs m e a = (refl, same_row nodes.CompoundCrs m e)
compound_only keywords.GeodeticCrs m e a = absurd cc
compound_only keywords.GeographicCrs m e a = absurd cc
compound_only keywords.ProjectedCrs m e a = absurd cc
compound_only keywords.VerticalCrs m e a = absurd cc
compound_only k m e a = no_row _ m e

pub compound_made : (old new : List Tok) (v : Compound) → is_compound (next_keyword old) ≡ true → MadeNode nodes.CompoundCrs compound_fields old new v → (x : Bare) (rest : List Tok) → Fitting kinds.AnyCrs x → Next x old rest → DenotesParts x (parts.Compound v) × (new ≡ rest)
compound_made old new v a m = one_way kinds.AnyCrs is_compound true keywords.CompoundCrs nodes.CompoundCrs compound_fields old new v refl compound_only a m

-- the same for a value w that equals v
pub compound_placed : (old new : List Tok) (v w : Compound) → w ≡ v → is_compound (next_keyword old) ≡ true → MadeNode nodes.CompoundCrs compound_fields old new v → (x : Bare) (rest : List Tok) → Fitting kinds.AnyCrs x → Next x old rest → DenotesParts x (parts.Compound w) × (new ≡ rest)
compound_placed old new v w e a m = compound_made old new w a (subst (λ u. MadeNode nodes.CompoundCrs compound_fields old new u) (sym e) m)

-- ---- results

pub as_chosen : {A B : Type 0} (D : Bare → B → Type 0) (choose : Option Keyword → A → B) (old new : List Tok) (keyword : Option Keyword) (v : A) (w : B) → keyword ≡ next_keyword old → w ≡ choose keyword v
    → {t : Takes} → ((x : Bare) (rest : List Tok) → Fitting t x → Next x old rest → D x (choose (next_keyword old) v) × (new ≡ rest)) → (x : Bare) (rest : List Tok) → Fitting t x → Next x old rest → D x w × (new ≡ rest)
as_chosen D choose old new keyword v w k e m x rest f n = let made = m x rest f n in (subst (D x) (sym (e ∙ ap (λ o. choose o v) k)) made.0, made.1)

pub base_result : {E : Type 0} (old new : List Tok) (kind : GeodeticKind) (r : Result BaseCrs E) → kind ≡ geodetic_kind_of (next_keyword old) → IfOk r (λ v. v.kind ≡ kind) → BuildsNode nodes.BaseCrs base_fields old new r
    → (x : Bare) (rest : List Tok) → Fitting kinds.BaseCrs x → Next x old rest → IfOk r (λ v. DenotesBase x v × (new ≡ rest))
base_result old new kind (Ok v) k h m x rest f n = base_made old new v (h ∙ k) m x rest f n
base_result old new kind (Err e) k h m x rest f n = tt
