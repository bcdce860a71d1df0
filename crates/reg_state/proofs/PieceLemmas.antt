-- The operations outside a basis, as a list, and pieces.
use Rattle.std.specs.Prelude.{◌↔◌}
use Rattle.std.proofs.Common.{◌≡◌, Bool, true, false, ◌&&◌, List, Result, Ok, Err, None, sym, ap, ◌∙◌, subst}
use Rattle.std.proofs.lemmas.Bool.{and_parts, not-true}
use Rattle.std.proofs.Math.Bool.{and_comm}
use Rattle.std.specs.List.{filter}
use Rattle.reg_op.specs.Set as set
use Rattle.reg_op.specs.Set.{contains, contains-from_list, contains-retain, contains-difference, same_set}
use Rattle.reg_op.specs.Ids.{Id, IsId, Ids}
use Rattle.reg_op.specs.Operations.{Op, op_cmp}
use Rattle.reg_op.specs.Contents.{Content, IsContent, joined}
use Rattle.reg_op.specs.Lists.{ById, has, content_at}
use Rattle.reg_op.specs.Pieces.{Piece, Clash, outside, first_missing, joined_where, joined_piece}
use Rattle.reg_op.proofs.OpLemmas.{id_total, op_total, op_exact}
use Rattle.reg_op.proofs.ContentLemmas.{same_content}
use Rattle.reg_op.proofs.PieceLemmas.{outside_is_content}
use Rattle.reg_state.specs.MarkSets.{MarkSet}
use Rattle.reg_state.specs.Marks.{least_marks}
use Rattle.reg_state.specs.Pieces.{is_outside, ops_outside, piece_of, IsBasisOf}
use Rattle.reg_state.specs.Tables.{AreTables}
use Rattle.reg_state.proofs.MergeLemmas.{ById-filter, has-filter}

-- the set of a filtered list is the filtered set
set_of_filter : (t : Op → Bool) (os : List Op) → set.from_list {R = op_cmp} (filter t os) ≡ set.retain (set.from_list os) t
set_of_filter t os = same_set op_total op_exact _ _ (λ q.
    contains-from_list op_total (filter t os) q
    ∙ has-filter t os q
    ∙ and_comm (t q) (has os q)
    ∙ (λ k. sym (contains-from_list op_total os q) k && t q)
    ∙ sym (contains-retain (set.from_list os) t q (λ x e. ap t (sym (op_exact q x e)))))

pub outside_at : (basis : Ids) (os out : List Op) (v w : Ids) → out ≡ ops_outside basis os → w ≡ set.difference v basis → content_at out w ≡ outside basis (content_at os v)
outside_at basis os out v w e f = same_content _ _ (ap (λ (l : List Op). set.from_list {R = op_cmp} l) e ∙ set_of_filter (is_outside basis) os) f

pub outside_tables : (basis : Ids) (os out : List Op) (ms ns : MarkSet) (v w : Ids) → AreTables os ms v → out ≡ ops_outside basis os → w ≡ set.difference v basis → ns ≡ least_marks out → AreTables out ns w
outside_tables basis os out ms ns v w is e f marked = record {
  by_id = subst ById (sym e) (ById-filter (is_outside basis) os is.by_id);
  marked = marked;
  is_content = subst IsContent (sym (outside_at basis os out v w e f)) (outside_is_content basis (content_at os v) is.is_content);
}

-- ---- pieces

pub basis_of_outside : (basis copy : Ids) (x part : Content) → copy ≡ basis → part ≡ outside basis x → ((i : Id) → contains basis i ≡ true → IsId i) → IsBasisOf copy part
basis_of_outside basis copy x part e f are_ids =
    subst (λ (p : Ids × Content). IsBasisOf p.0 p.1) (λ k. (sym e k, sym f k))
    (record {
      are_ids = are_ids;
      apart = λ i h. not-true _ (and_parts _ _ (sym (contains-difference id_total x.seen basis i) ∙ h)).1;
    })

pub basis_of_parts : (basis : Ids) (os : List Op) (v : Ids) (part : Content) → part ≡ content_at os v → ((i : Id) → contains basis i ≡ true → IsId i) → ((i : Id) → contains v i ≡ true → contains basis i ≡ false) → IsBasisOf basis part
basis_of_parts basis os v part e are_ids apart = subst (IsBasisOf basis) (sym e) (record { are_ids = are_ids; apart = apart })

-- ---- the join of a piece

clash_within : (r : Result Content Id) (i : Id) → joined_where None r ≡ Err (Clash i) → r ≡ Err i
clash_within (Ok x) i h = cc
clash_within (Err j) i h = cc

-- if no id of the basis is missing, joining a piece clashes at the same id as joining its part
pub clash_of_part : (x : Content) (basis v : Ids) (part : Content) (p : Piece) → piece_of basis part ≡ p → v ≡ x.seen → first_missing basis v ≡ None
    → (i : Id) → (joined_piece x p ≡ Err (Clash i)) ↔ (joined x part ≡ Err i)
clash_of_part x basis v part p e f none i =
    let at : joined_piece x p ≡ joined_where None (joined x part) =
    ap (joined_piece x) (sym e) ∙ ap (λ m. joined_where m (joined x part)) (ap (first_missing basis) (sym f) ∙ none) in
    (λ h. clash_within (joined x part) i (sym at ∙ h), λ h. at ∙ ap (joined_where None) h)
