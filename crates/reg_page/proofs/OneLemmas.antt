-- A content has one page.
use Rattle.std.proofs.Common.{◌≡◌, ℕ, ◌+◌, Bool, true, false, not, cond, if◌then◌else◌, filter, List, [], ◌∷◌, map, length, get_or, suc, Option, Some, None, Result, Ok, refl, sym, ap, ◌∙◌, subst, arith}
use Rattle.std.proofs.lemmas.Bool.{true≢false}
use Rattle.std.proofs.lemmas.List.Elements.{All-contains}
use Rattle.std.proofs.lemmas.List.Sorted.{Contains-permutation, IsPermutation-sym}
use Rattle.std.proofs.lemmas.List.Sums.{sum_by-cons}
use Rattle.std.proofs.lemmas.Map.Keys.{IsDistinct-tail}
use Rattle.std.proofs.lemmas.Cmp.{nat_list_cmp_total}
use Rattle.std.specs.List.{Contains, IsDistinct, sum_by, list_any}
use Rattle.std.specs.List.Sorted.{IsSorted}
use Rattle.std.specs.Cmp.{IsTotalOrder, then_total, on_total}
use Rattle.std.specs.Cmp.Lexicographic.{slice_cmp}
use Rattle.std.specs.Ordering.{nat_cmp, ordering_then, is_lt, is_eq}
use Rattle.std.specs.declared.cmp.Ordering.{Ordering}
use Rattle.std.specs.declared.cmp.Ordering.TheVariants.{Less, Equal, Greater}
use Rattle.csv_table.specs.declared.offices.names.Name.{Name}
use Rattle.html_page.specs.Pieces.{html}
use Rattle.html_page.specs.Shown as shown
use Rattle.html_page.specs.Templates.{page}
use Rattle.html_page.specs.Words.{compared}
use Rattle.crs_part.specs.declared.identifiers.Ident.{Ident}
use Rattle.crs_part.specs.Slots.{ids_of as identifiers_of}
use Rattle.crs_value.specs.declared.key.Key.{Key}
use Rattle.crs_value.specs.declared.crs.Crs.{Crs}
use Rattle.crs_value.specs.Keys.{IsKeyOf}
use Rattle.wkt_crs.specs.Spells.{Spells, pretty}
use Rattle.wkt_crs.specs.Definition.{HasKey, IsKeyIn}
use Rattle.wkt_crs.proofs.Texts.{one_value}
use Rattle.crs_part.specs.Slots.{name_of}
use Rattle.crs_value.specs.Kinds.{kind_of}
use Rattle.crs_value.specs.Usages.{usages_of}
use Rattle.reg_op.specs.Set as set
use Rattle.reg_op.specs.Set.{Ascends}
use Rattle.reg_op.specs.Ids.{Id, id_cmp, is_same}
use Rattle.reg_op.specs.Text.{printed}
use Rattle.reg_op.specs.Operations.{Op, Ops, OneBody, text_of}
use Rattle.reg_op.specs.Kept.{entering}
use Rattle.reg_op.specs.Contents.{Content, IsContent, joined}
use Rattle.reg_op.specs.Status.{status}
use Rattle.reg_op.specs.Rows.{rows, awaited}
use Rattle.reg_op.proofs.OpLemmas.{id_total, id_exact, op_total, op_exact}
use Rattle.reg_op.proofs.ContentLemmas.{joined_comm}
use Rattle.reg_op.proofs.JoinLemmas.{joined_is_content}
use Rattle.reg_op.proofs.SetLemmas.{less}
use Rattle.reg_op.proofs.ClashLemmas.{tied_of}
use Rattle.reg_op.proofs.ItemLemmas.{items_by_id}
use Rattle.reg_report.specs.declared.gap.Gap.{Gap}
use Rattle.reg_report.specs.Conflicts.{key_cmp, Contested}
use Rattle.reg_report.proofs.ConflictLemmas.{in_head, in_tail, in_map, from_map}
use Rattle.reg_report.proofs.OneLemmas as contested
use Rattle.reg_report.proofs.GapLists as missing
use Rattle.reg_report.proofs.OrderLemmas.{same_elements}
use Rattle.reg_lint.specs.Questions.{questions_of}
use Rattle.crs_sense.specs.declared.rule.Rule.{Rule}
use Rattle.reg_page.specs.Kinds.{areas_in}
use Rattle.reg_page.specs.Boxes.{boxes_in}
use Rattle.reg_page.specs.Codes.{code_cmp}
use Rattle.reg_page.proofs.CodeLemmas.{code_total}
use Rattle.reg_page.specs.declared.described.Described.{Described}
use Rattle.reg_page.specs.Descriptions.{IsDescribed, described_cmp, entry_ids, AreDescribed}
use Rattle.reg_page.specs.Page.{described_at, link_as, link_to, side_of, pairs_of, acts_in, is_in_conflict, row_of, gap_of, standing_of, is_valid, is_superseded, is_retired, is_among, figures_of, shown_of, IsPage, named}
use Rattle.reg_page.specs.SameTexts.{has_same_text, first_id, same_text_in}
use Rattle.reg_page.proofs.IdLemmas.{ids_ascend, distinct, still_distinct, differs}
use Rattle.reg_page.proofs.FindLemmas.{ids_of}
use Rattle.reg_page.proofs.SameLemmas.{Same, entry_same, conflict_same}

-- ---- an entry has one description

key_of_first : (ids : List Ident) (key other : Key) → (ids ≡ [] → ⊥) → ((id : Ident) (others : List Ident) → ids ≡ id ∷ others → IsKeyOf id key)
    → ((id : Ident) (others : List Ident) → ids ≡ id ∷ others → IsKeyOf id other) → (key.authority.bytes ≡ other.authority.bytes) × (key.code.bytes ≡ other.code.bytes)
key_of_first [] key other some h k = absurd (some refl)
key_of_first (id ∷ ids) key other some h k =
    let a = h id ids refl in
    let b = k id ids refl in
    (a.authority ∙ sym b.authority, a.code ∙ sym b.code)

one_key : (text : List ℕ) (key other : Key) → IsKeyIn key text → IsKeyIn other text → (key.authority.bytes ≡ other.authority.bytes) × (key.code.bytes ≡ other.code.bytes)
one_key text key other h k =
    let same : h.0 ≡ k.0 = one_value text h.0 k.0 h.1 k.1 in
    key_of_first (identifiers_of k.0.parts) key other k.2 (subst (λ crs. HasKey crs key) same h.3) k.3

same_of : (rules : List Rule) (s : Ops) → OneBody s → (t u : Described) → IsDescribed rules s t → IsDescribed rules s u → t.id ≡ u.id → Same t u
same_of rules s one t u h k e =
    let op : entering t.id h.definition h.note ≡ entering u.id k.definition k.note = one (entering t.id h.definition h.note) (entering u.id k.definition k.note) h.entered k.entered e in
    let definition : h.definition ≡ k.definition = ap (λ (o : Op). text_of o.body) op in
    let note : h.note ≡ k.note = ap (λ (o : Op). o.note) op in
    let a = h.described in
    let b = k.described in
    let key = one_key k.definition t.key u.key (subst (IsKeyIn t.key) definition a.keyed) b.keyed in
    let crs : a.system.crs ≡ b.system.crs = one_value k.definition a.system.crs b.system.crs (subst (λ text. Spells text a.system.crs) definition a.system.spelled.1) b.system.spelled.1 in
    let one_system = a.system.shows in
    let other = b.system.shows in
    record {
      id = e;
      authority = key.0;
      code = key.1;
      name = one_system.name ∙ ap (λ (c : Crs). (name_of c.parts).bytes) crs ∙ sym other.name;
      boxes = one_system.boxes ∙ ap (λ (c : Crs). boxes_in (usages_of c.parts)) crs ∙ sym other.boxes;
      areas = one_system.areas ∙ ap (λ (c : Crs). areas_in (usages_of c.parts)) crs ∙ sym other.areas;
      kind = one_system.kind ∙ ap (λ (c : Crs). kind_of c.parts) crs ∙ sym other.kind;
      text = one_system.text ∙ ap pretty crs ∙ sym other.text;
      questions = one_system.questions ∙ ap (λ (c : Crs). questions_of rules c.parts) crs ∙ sym other.questions;
      note = a.note ∙ note ∙ sym b.note;
    }

-- ---- the order of descriptions

-- the rank by which entries are sorted: the authority, the code, and the id
abbrev Rank : Type 0
Rank = List ℕ × (List ℕ × Id)

abbrev rank_cmp : Rank → Rank → Ordering
rank_cmp a b = ordering_then (slice_cmp nat_cmp a.0 b.0) (ordering_then (code_cmp a.1.0 b.1.0) (id_cmp a.1.1 b.1.1))

abbrev rank : Described → Rank
rank t = (t.key.authority.bytes, (t.key.code.bytes, t.id))

rank_total : IsTotalOrder rank_cmp
rank_total = then_total (on_total (λ (a : Rank). a.0) nat_list_cmp_total) (then_total (on_total (λ (a : Rank). a.1.0) code_total) (on_total (λ (a : Rank). a.1.1) id_total))

last_equal : (a b c : Ordering) → is_eq (ordering_then a (ordering_then b c)) ≡ true → is_eq c ≡ true
last_equal Equal Equal c h = h
last_equal Equal Less c h = absurd (true≢false (sym h))
last_equal Equal Greater c h = absurd (true≢false (sym h))
last_equal Less b c h = absurd (true≢false (sym h))
last_equal Greater b c h = absurd (true≢false (sym h))

before : (a b : Rank) → is_lt (rank_cmp b a) ≡ false → is_same a.1.1 b.1.1 ≡ false → rank_cmp a b ≡ Less
before a b h other =
    elim (is_lt (rank_cmp a b)) as (λ l. is_lt (rank_cmp a b) ≡ l → rank_cmp a b ≡ Less) [
      | true ↦ λ e. less (rank_cmp a b) e
      | false ↦ λ e. absurd (true≢false (sym (last_equal (slice_cmp nat_cmp a.0 b.0) (code_cmp a.1.0 b.1.0) (id_cmp a.1.1 b.1.1) (tied_of rank_total a b e h)) ∙ other))
    ] refl

ranks_ascend : (ts : List Described) → IsSorted described_cmp ts → IsDistinct is_same (ids_of ts) → Ascends rank_cmp (map rank ts)
ranks_ascend [] up d = tt
ranks_ascend (t ∷ []) up d = tt
ranks_ascend (t ∷ u ∷ ts) up d = (
  before (rank t) (rank u) (up 0 t (omega arith) (omega arith)) (differs t.id (ids_of (u ∷ ts)) d u.id (in_head u.id (ids_of ts))),
  ranks_ascend (u ∷ ts) (λ i v a b.
      let e : suc i + 1 ≡ suc (i + 1) = omega arith in
      subst (λ m. is_lt (described_cmp (get_or (t ∷ u ∷ ts) m v) (get_or (u ∷ ts) i v)) ≡ false) e (up (suc i) v (omega arith) (omega arith))) (IsDistinct-tail is_same t.id (ids_of (u ∷ ts)) d),
)

module _ (rules : List Rule) (s : Ops) (one : OneBody s) where
  no_twice : (ts : List Described) → AreDescribed rules s ts → IsDistinct is_same (ids_of ts)
  no_twice ts h = still_distinct (entry_ids s) (ids_of ts) h.ids (distinct (entry_ids s) (ids_ascend (set.items s) (items_by_id s one)))

  also_there : (ts us : List Described) → AreDescribed rules s ts → AreDescribed rules s us → (r : Rank) → Contains (map rank ts) r → Contains (map rank us) r
  also_there ts us h k r c =
      let m = from_map rank ts r c in
      let t : Described = m.0 in
      let id = Contains-permutation (entry_ids s) (ids_of us) t.id k.ids (Contains-permutation (ids_of ts) (entry_ids s) t.id (IsPermutation-sym (entry_ids s) (ids_of ts) h.ids) (in_map (λ (v : Described). v.id) ts t m.1)) in
      let n = from_map (λ (v : Described). v.id) us t.id id in
      let u : Described = n.0 in
      let same = same_of rules s one u t (All-contains (IsDescribed rules s) us u k.each n.1) (All-contains (IsDescribed rules s) ts t h.each m.1) (sym n.2) in
      let is : rank u ≡ r = (λ j. (same.authority j, (same.code j, same.id j))) ∙ sym m.2 in
      subst (Contains (map rank us)) is (in_map rank us u n.1)

  same_ranks : (ts us : List Described) → AreDescribed rules s ts → AreDescribed rules s us → map rank ts ≡ map rank us
  same_ranks ts us h k =
      same_elements rank_total (map rank ts) (map rank us) (ranks_ascend ts h.sorted (no_twice ts h)) (ranks_ascend us k.sorted (no_twice us k))
      (λ r. (also_there ts us h k r, also_there us ts k h r))

-- ---- lists of descriptions that show the same

abbrev AllSame : List Described → List Described → Type 0
AllSame [] [] = Unit {0}
AllSame [] (u ∷ us) = ⊥
AllSame (t ∷ ts) [] = ⊥
AllSame (t ∷ ts) (u ∷ us) = Same t u × AllSame ts us

in_pairs : (ts us : List Described) → map rank ts ≡ map rank us → ((t u : Described) → Contains ts t → Contains us u → t.id ≡ u.id → Same t u) → AllSame ts us
in_pairs [] [] e each = tt
in_pairs [] (u ∷ us) e each = absurd cc
in_pairs (t ∷ ts) [] e each = absurd cc
in_pairs (t ∷ ts) (u ∷ us) e each =
    let first : rank t ≡ rank u = cc in
    let others : map rank ts ≡ map rank us = cc in
    (each t u (in_head t ts) (in_head u us) (ap (λ (r : Rank). r.1.1) first), in_pairs ts us others (λ v w c d. each v w (in_tail v t ts c) (in_tail w u us d)))

abbrev BothSame : Option Described → Option Described → Type 0
BothSame None None = Unit {0}
BothSame None (Some u) = ⊥
BothSame (Some t) None = ⊥
BothSame (Some t) (Some u) = Same t u

same_found : (ts us : List Described) → AllSame ts us → (i : Id) → BothSame (described_at ts i) (described_at us i)
same_found [] [] h i = tt
same_found [] (u ∷ us) h i = absurd h
same_found (t ∷ ts) [] h i = absurd h
same_found (t ∷ ts) (u ∷ us) h i =
    subst (λ j. BothSame (described_at (t ∷ ts) i) (cond (is_same j i) (Some u) (described_at us i))) h.0.id
    (elim (is_same t.id i) as (λ b. BothSame (cond b (Some t) (described_at ts i)) (cond b (Some u) (described_at us i))) [
      | true ↦ h.0
      | false ↦ same_found ts us h.1 i
    ])

link_of_same : (i : Id) (o p : Option Described) → BothSame o p → link_as i o ≡ link_as i p
link_of_same i None None h = refl
link_of_same i None (Some u) h = absurd h
link_of_same i (Some t) None h = absurd h
link_of_same i (Some t) (Some u) h = λ j. shown.Entered (printed (h.id j)) (h.authority j) (h.code j)

side_of_same : (t u t' u' : Described) → Same t t' → Same u u' → side_of t u ≡ side_of t' u'
side_of_same t u t' u' h k = λ j. record { id = printed (h.id j); note = h.note j; words = compared (h.text j) (k.text j) }

pairs_of_same : (o p o' p' : Option Described) → BothSame o o' → BothSame p p' → pairs_of o p ≡ pairs_of o' p'
pairs_of_same None p None p' h k = refl
pairs_of_same None p (Some t') p' h k = absurd h
pairs_of_same (Some t) p None p' h k = absurd h
pairs_of_same (Some t) None (Some t') None h k = refl
pairs_of_same (Some t) None (Some t') (Some u') h k = absurd k
pairs_of_same (Some t) (Some u) (Some t') None h k = absurd k
pairs_of_same (Some t) (Some u) (Some t') (Some u') h k = λ j. record { first = side_of_same t u t' u' h k j; second = side_of_same u t u' t' k h j } ∷ []

same_length : (ts us : List Described) → AllSame ts us → length ts ≡ length us
same_length [] [] h = refl
same_length [] (u ∷ us) h = absurd h
same_length (t ∷ ts) [] h = absurd h
same_length (t ∷ ts) (u ∷ us) h = ap suc (same_length ts us h.1)

same_count : (f : Id → ℕ) (ts us : List Described) → AllSame ts us → sum_by (λ (t : Described). f t.id) ts ≡ sum_by (λ (t : Described). f t.id) us
same_count f [] [] h = refl
same_count f [] (u ∷ us) h = absurd h
same_count f (t ∷ ts) [] h = absurd h
same_count f (t ∷ ts) (u ∷ us) h =
    sum_by-cons (λ (v : Described). f v.id) t ts ∙ (λ j. f (h.0.id j) + same_count f ts us h.1 j) ∙ sym (sum_by-cons (λ (v : Described). f v.id) u us)

-- those that are retired, or the others
all_among : (ts us : List Described) → AllSame ts us → (gone : Bool) (s : Ops) → AllSame (filter (is_among gone s) ts) (filter (is_among gone s) us)
all_among [] [] h gone s = tt
all_among [] (u ∷ us) h gone s = absurd h
all_among (t ∷ ts) [] h gone s = absurd h
all_among (t ∷ ts) (u ∷ us) h gone s =
    let rest = all_among ts us h.1 gone s in
    let is : is_among gone s t ≡ is_among gone s u = (λ j. if gone then is_retired (standing_of (status s (h.0.id j))) else not (is_retired (standing_of (status s (h.0.id j))))) in
    subst (λ b. AllSame (filter (is_among gone s) (t ∷ ts)) (cond b (u ∷ filter (is_among gone s) us) (filter (is_among gone s) us))) is
    (elim (is_among gone s t) as (λ b. AllSame (cond b (t ∷ filter (is_among gone s) ts) (filter (is_among gone s) ts)) (cond b (u ∷ filter (is_among gone s) us) (filter (is_among gone s) us))) [
      | true ↦ (h.0, rest)
      | false ↦ rest
    ])

-- the first with the text and the key of an entry
all_with_text : (ts us : List Described) → AllSame ts us → (t u : Described) → Same t u → AllSame (filter (has_same_text t) ts) (filter (has_same_text u) us)
all_with_text [] [] h t u same = tt
all_with_text [] (w ∷ us) h t u same = absurd h
all_with_text (v ∷ ts) [] h t u same = absurd h
all_with_text (v ∷ ts) (w ∷ us) h t u same =
    let rest = all_with_text ts us h.1 t u same in
    let is : has_same_text t v ≡ has_same_text u w =
    (λ j. is_eq (ordering_then (slice_cmp nat_cmp (same.text j) (h.0.text j)) (key_cmp (record { authority = same.authority j; code = same.code j }) (record { authority = h.0.authority j; code = h.0.code j })))) in
    subst (λ b. AllSame (filter (has_same_text t) (v ∷ ts)) (cond b (w ∷ filter (has_same_text u) us) (filter (has_same_text u) us))) is
    (elim (has_same_text t v) as (λ b. AllSame (cond b (v ∷ filter (has_same_text t) ts) (filter (has_same_text t) ts)) (cond b (w ∷ filter (has_same_text u) us) (filter (has_same_text u) us))) [
      | true ↦ (h.0, rest)
      | false ↦ rest
    ])

first_same : (ts us : List Described) → AllSame ts us → first_id ts ≡ first_id us
first_same [] [] h = refl
first_same [] (u ∷ us) h = absurd h
first_same (t ∷ ts) [] h = absurd h
first_same (t ∷ ts) (u ∷ us) h = λ j. Some (h.0.id j)

conflict_is_same : (cs : List Contested) (t u : Described) → Same t u → is_in_conflict cs t ≡ is_in_conflict cs u
conflict_is_same cs t u same = λ j. list_any (λ (c : Contested). is_eq (key_cmp c.key (record { authority = same.authority j; code = same.code j }))) cs

same_rows : (ts us : List Described) → AllSame ts us → (f g : Described → shown.Entry) → ((t u : Described) → Same t u → f t ≡ g u) → map f ts ≡ map g us
same_rows [] [] h f g each = refl
same_rows [] (u ∷ us) h f g each = absurd h
same_rows (t ∷ ts) [] h f g each = absurd h
same_rows (t ∷ ts) (u ∷ us) h f g each = λ j. each t u h.0 j ∷ same_rows ts us h.1 f g each j

parts_same : (ts us : List Described) → AllSame ts us → (gone : Bool) (s : Ops) (f g : Described → shown.Entry) → ((t u : Described) → Same t u → f t ≡ g u)
    → map f (filter (is_among gone s) ts) ≡ map g (filter (is_among gone s) us)
parts_same ts us h gone s f g each = same_rows (filter (is_among gone s) ts) (filter (is_among gone s) us) (all_among ts us h gone s) f g each

-- both lists give the same links, pairs and figures, and so show the same
module _ (x : Content) (title : List ℕ) (ts us : List Described) (same : AllSame ts us) where
  link : (i : Id) → link_to ts i ≡ link_to us i
  link i = link_of_same i (described_at ts i) (described_at us i) (same_found ts us same i)

  pair : (i k : Id) → pairs_of (described_at ts i) (described_at ts k) ≡ pairs_of (described_at us i) (described_at us k)
  pair i k = pairs_of_same (described_at ts i) (described_at ts k) (described_at us i) (described_at us k) (same_found ts us same i) (same_found ts us same k)

  figures : (cs : List Contested) (is : List Id) (gs : List Gap) → figures_of x ts cs is gs ≡ figures_of x us cs is gs
  figures cs is gs = λ j. record {
    entries = same_length ts us same j;
    valid = same_count (λ i. cond (is_valid (standing_of (status x.ops i))) 1 0) ts us same j;
    superseded = same_count (λ i. cond (is_superseded (standing_of (status x.ops i))) 1 0) ts us same j;
    retired = same_count (λ i. cond (is_retired (standing_of (status x.ops i))) 1 0) ts us same j;
    conflicts = length cs;
    awaited = length is;
    gaps = length gs;
    operations = length (set.items x.ops);
  }

  row : (os : List Op) (cs : List Contested) (told other : List Described) → AllSame told other → (t u : Described) → Same t u → row_of x.ops ts os cs told t ≡ row_of x.ops us os cs other u
  row os cs told other all t u one =
      entry_same ts us link x.ops os os (λ e. refl) (same_text_in told t) (same_text_in other u) (first_same (filter (has_same_text t) told) (filter (has_same_text u) other) (all_with_text told other all t u one))
      (is_in_conflict cs t) (is_in_conflict cs u) (conflict_is_same cs t u one) t u one

  shown_same : (os : List Op) (cs : List Contested) (is : List Id) (gs : List Gap) → shown_of x title ts os cs is gs ≡ shown_of x title us os cs is gs
  shown_same os cs is gs = λ j. record {
    title = title;
    figures = figures cs is gs j;
    conflicts = map (λ (c : Contested). conflict_same ts us pair c j) cs;
    awaited = map printed is;
    gaps = map gap_of gs;
    entries = parts_same ts us same false x.ops (row_of x.ops ts os cs []) (row_of x.ops us os cs []) (row os cs [] [] tt) j;
    retired = parts_same ts us same true x.ops (row_of x.ops ts os [] (filter (is_among false x.ops) ts)) (row_of x.ops us os [] (filter (is_among false x.ops) us))
        (row os [] (filter (is_among false x.ops) ts) (filter (is_among false x.ops) us) (all_among ts us same false x.ops)) j;
  }

pub one_page : (rules : List Rule) (title : List ℕ) (names : List Name) (x : Content) (a b : List ℕ) → IsContent x → IsPage rules title names x a → IsPage rules title names x b → a ≡ b
one_page rules title names x a b is p q =
    let h = p.are in
    let k = q.are in
    let same : AllSame h.described k.described =
    in_pairs h.described k.described (same_ranks rules x.ops is.one_body h.described k.described h.are_described k.are_described)
    (λ t u c d. same_of rules x.ops is.one_body t u (All-contains (IsDescribed rules x.ops) h.described t h.are_described.each c) (All-contains (IsDescribed rules x.ops) k.described u k.are_described.each d)) in
    let os = acts_in x.ops in
    let wanted = set.items (awaited x.ops) in
    let shows : p.shows ≡ q.shows =
    h.is
    ∙ shown_same x title h.described k.described same os h.conflicts wanted h.gaps
    ∙ (λ j. shown_of x title k.described os (contested.one_list (rows x.ops) h.conflicts k.conflicts h.are_conflicts k.are_conflicts j) wanted (missing.one_list x.seen h.gaps k.gaps h.are_gaps k.are_gaps j))
    ∙ sym k.is in
    p.is ∙ ap (λ s. html (page (named names) s)) shows ∙ sym q.is

-- registers with the same operations and the same seen ids have one page
pub one_of_replicas : (rules : List Rule) (title : List ℕ) (names : List Name) (x y : Content) (a b : List ℕ) → IsContent x → ((o : Op) → set.contains x.ops o ≡ set.contains y.ops o) → ((i : Id) → set.contains x.seen i ≡ set.contains y.seen i)
    → IsPage rules title names x a → IsPage rules title names y b → a ≡ b
one_of_replicas rules title names x y a b is ops seen p q =
    let same_ops : x.ops ≡ y.ops = set.same_set op_total op_exact x.ops y.ops ops in
    let same_seen : x.seen ≡ y.seen = set.same_set id_total id_exact x.seen y.seen seen in
    let same : x ≡ y = λ j. record { ops = same_ops j; seen = same_seen j } in
    one_page rules title names y a b (subst IsContent same is) (subst (λ (z : Content). IsPage rules title names z a) same p) q

-- joining two registers in either order gives one page
pub one_of_merges : (rules : List Rule) (title : List ℕ) (names : List Name) (x y z w : Content) (a b : List ℕ) → IsContent x → IsContent y → joined x y ≡ Ok z → joined y x ≡ Ok w → IsPage rules title names z a → IsPage rules title names w b → a ≡ b
one_of_merges rules title names x y z w a b one other e f p q =
    let same : z ≡ w = ok_exact z w (sym e ∙ joined_comm x y ∙ f) in
    one_page rules title names w a b (joined_is_content y x w other one f) (subst (λ (v : Content). IsPage rules title names v a) same p) q
  where
    ok_exact : (v u : Content) → ◌≡◌ {A = Result Content Id} (Ok v) (Ok u) → v ≡ u
    ok_exact v u h = cc
