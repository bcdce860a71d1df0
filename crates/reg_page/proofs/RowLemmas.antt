-- Each entry of a content has one row of the page.
use Rattle.std.proofs.Common.{◌≡◌, ℕ, Bool, true, false, not, List, [], ◌++◌, map, filter, refl, sym, ap₂, ◌∙◌, subst}
use Rattle.std.proofs.lemmas.List.{map-append}
use Rattle.std.proofs.lemmas.List.Sorted.{IsPermutation-map, IsPermutation-trans, IsPermutation-filter_both}
use Rattle.std.proofs.lemmas.Simd.{map-map}
use Rattle.std.specs.List.Sorted.{IsPermutation}
use Rattle.html_page.specs.Shown as shown
use Rattle.reg_op.specs.Contents.{Content}
use Rattle.reg_op.specs.Operations.{Op, Ops}
use Rattle.reg_op.specs.Status.{status}
use Rattle.reg_op.specs.Text.{printed}
use Rattle.crs_sense.specs.declared.rule.Rule.{Rule}
use Rattle.reg_page.specs.declared.described.Described.{Described}
use Rattle.reg_page.specs.Descriptions.{entry_ids}
use Rattle.reg_report.specs.Conflicts.{Contested}
use Rattle.reg_page.specs.Page.{standing_of, is_retired, is_among, row_of, acts_in, rows_of, IsShown}

abbrev id_of : Described → List ℕ
id_of t = printed t.id

twice : (b : Bool) → b ≡ not (not b)
twice true = refl
twice false = refl

-- the ids of the descriptions, as they are printed
printed_ids : (ts : List Described) → map printed (map (λ (t : Described). t.id) ts) ≡ map id_of ts
printed_ids ts = map-map printed (λ (t : Described). t.id) ts

module _ (s : Ops) (described : List Described) (os : List Op) where
  ids_of_rows : (cs : List Contested) (told : List Described) (gone : Bool) → map (λ (e : shown.Entry). e.id) (rows_of cs told gone s described os described) ≡ map id_of (filter (is_among gone s) described)
  ids_of_rows cs told gone = map-map (λ (e : shown.Entry). e.id) (row_of s described os cs told) (filter (is_among gone s) described)

  all_rows : (cs : List Contested) (told : List Described) → IsPermutation (map id_of described) (map (λ (e : shown.Entry). e.id) (rows_of cs [] false s described os described ++ rows_of [] told true s described os described))
  all_rows cs told =
      let parts = IsPermutation-filter_both (is_among false s) (is_among true s) (λ t. twice (is_retired (standing_of (status s t.id)))) described in
      let ids = IsPermutation-map id_of described (filter (is_among false s) described ++ filter (is_among true s) described) parts in
      let is : map id_of (filter (is_among false s) described ++ filter (is_among true s) described) ≡ map (λ (e : shown.Entry). e.id) (rows_of cs [] false s described os described ++ rows_of [] told true s described os described) =
      map-append id_of (filter (is_among false s) described) (filter (is_among true s) described)
      ∙ sym (map-append (λ (e : shown.Entry). e.id) (rows_of cs [] false s described os described) (rows_of [] told true s described os described) ∙ ap₂ (λ a b. a ++ b) (ids_of_rows cs [] false) (ids_of_rows [] told true)) in
      subst (λ l. IsPermutation (map id_of described) l) is ids

pub one_row : (rules : List Rule) (title : List ℕ) (x : Content) (s : shown.Shown) → IsShown rules title x s → IsPermutation (map printed (entry_ids x.ops)) (map (λ (e : shown.Entry). e.id) (s.entries ++ s.retired))
one_row rules title x s h =
    let ts = h.described in
    let ids = IsPermutation-map printed (entry_ids x.ops) (map (λ (t : Described). t.id) ts) h.are_described.ids in
    let as_printed = subst (λ l. IsPermutation (map printed (entry_ids x.ops)) l) (printed_ids ts) ids in
    let live = filter (is_among false x.ops) ts in
    let rows = all_rows x.ops ts (acts_in x.ops) h.conflicts live in
    subst (λ (z : shown.Shown). IsPermutation (map printed (entry_ids x.ops)) (map (λ (e : shown.Entry). e.id) (z.entries ++ z.retired))) (sym h.is)
    (IsPermutation-trans (map printed (entry_ids x.ops)) (map id_of ts) (map (λ (e : shown.Entry). e.id) (rows_of h.conflicts [] false x.ops ts (acts_in x.ops) ts ++ rows_of [] live true x.ops ts (acts_in x.ops) ts)) as_printed rows)
