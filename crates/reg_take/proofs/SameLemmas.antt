-- Registers are equal exactly if their operations and their seen ids are.
use Rattle.std.proofs.Common.{◌≡◌, ◌↔◌, ◌∷◌, [], Bool, true, false, List, Option, None, Some, refl, sym, ap, ◌∙◌}
use Rattle.std.specs.Prelude.{IsTrue, is_some, not}
use Rattle.std.specs.List.{list_any}
use Rattle.std.specs.Ordering.{eq_by_cmp, is_eq}
use Rattle.std.specs.Cmp.{Equal-is, tied_itself, both_ways}
use Rattle.std.proofs.lemmas.Bool.{both_ways as never}
use Rattle.reg_op.specs.Set as set
use Rattle.reg_op.specs.Set.{contains-items, same_set}
use Rattle.reg_op.specs.Ids.{Id, Ids}
use Rattle.reg_op.specs.Operations.{Op, Ops, op_cmp}
use Rattle.reg_op.specs.Contents.{Content}
use Rattle.reg_op.specs.Pieces.{first_missing}
use Rattle.reg_op.proofs.OpLemmas.{op_exact, op_total, id_exact, id_total}
use Rattle.reg_op.proofs.ContentLemmas.{same_content}
use Rattle.reg_op.proofs.RefusalLemmas.{missing_none}

-- operations compare as equal exactly if they are equal
pub op_is : (a b : Op) (r : Bool) → r ≡ is_eq (op_cmp a b) → IsTrue r ↔ (a ≡ b)
op_is a b r e = (
  λ h. op_exact a b ((Equal-is (op_cmp a b)).0 (sym e ∙ h)),
  λ h. e ∙ ap (λ c. is_eq (op_cmp a c)) (sym h) ∙ ap is_eq (tied_itself op_total a),
)

abbrev head_of : {A : Type 0} → A → List A → A
head_of d [] = d
head_of d (x ∷ xs) = x

same_items : (s t : Ops) → set.items s ≡ set.items t → s ≡ t
same_items s t e = same_set op_total op_exact s t (λ q. contains-items s q ∙ ap (list_any (eq_by_cmp op_cmp q)) e ∙ sym (contains-items t q))

-- two sets of ids are equal if neither has an id that the other lacks
pub same_ids : (s t : Ids) → first_missing s t ≡ None → first_missing t s ≡ None → s ≡ t
same_ids s t here there =
    let within = (missing_none s t).0 here in
    let back = (missing_none t s).0 there in
    same_set id_total id_exact s t (λ q. both_ways (set.contains s q) (set.contains t q) (within q) (back q))

pub none_missing : (s t : Ids) → s ≡ t → first_missing s t ≡ None
none_missing s t e = (missing_none s t).1 (λ i h. ap (λ k. set.contains k i) (sym e) ∙ h)

is_none_so : {A : Type 0} (a : Option A) (r : Bool) → is_some a ≡ not r → r ≡ true → a ≡ None
is_none_so None r e h = refl
is_none_so (Some x) r e h = absurd (cc)

none_so : {A : Type 0} (a : Option A) (r : Bool) → is_some a ≡ not r → a ≡ None → r ≡ true
none_so a true e h = refl
none_so None false e h = absurd (cc)
none_so (Some x) false e h = absurd (cc)

-- two tests for an id that one set has and the other lacks tell whether the sets are equal
pub ids_then : (s t : Ids) (a b : Option Id) (r q : Bool) → a ≡ first_missing s t → b ≡ first_missing t s → is_some a ≡ not r → is_some b ≡ not q → r ≡ true → IsTrue q ↔ (s ≡ t)
ids_then s t a b r q here there none other is = (
  λ h. same_ids s t (sym here ∙ is_none_so a r none is) (sym there ∙ is_none_so b q other h),
  λ e. none_so b q other (there ∙ none_missing t s (sym e)),
)

pub ids_else : (s t : Ids) (a : Option Id) (r : Bool) → a ≡ first_missing s t → is_some a ≡ not r → r ≡ false → IsTrue r ↔ (s ≡ t)
ids_else s t a r here none isnt = (λ h. absurd (never r isnt h), λ e. none_so a r none (here ∙ none_missing s t e))

content_is : (x y : Content) (xs ys : List Op) (s t : Ids) → xs ≡ set.items x.ops → ys ≡ set.items y.ops → s ≡ x.seen → t ≡ y.seen → xs ≡ ys → s ≡ t → x ≡ y
content_is x y xs ys s t a b c d same seen = same_content x y (same_items x.ops y.ops (sym a ∙ same ∙ b)) (sym c ∙ seen ∙ d)

-- a test of the operations, and then one of the seen ids, tell whether the contents are equal
pub content_then : (x y : Content) (xs ys : List Op) (s t : Ids) (r q : Bool) → xs ≡ set.items x.ops → ys ≡ set.items y.ops → s ≡ x.seen → t ≡ y.seen → (IsTrue r ↔ (xs ≡ ys)) → r ≡ true → (IsTrue q ↔ (s ≡ t)) → IsTrue q ↔ (x ≡ y)
content_then x y xs ys s t r q a b c d ops is seen = (
  λ h. content_is x y xs ys s t a b c d (ops.0 is) (seen.0 h),
  λ e. seen.1 (c ∙ ap (λ (z : Content). z.seen) e ∙ sym d),
)

pub content_else : (x y : Content) (xs ys : List Op) (r : Bool) → xs ≡ set.items x.ops → ys ≡ set.items y.ops → (IsTrue r ↔ (xs ≡ ys)) → r ≡ false → IsTrue r ↔ (x ≡ y)
content_else x y xs ys r a b ops isnt = (λ h. absurd (never r isnt h), λ e. ops.1 (a ∙ ap (λ (z : Content). set.items z.ops) e ∙ sym b))
