-- The join of contents: its result is a content, a retired entry stays retired, and it is associative.
use Rattle.std.proofs.Common.{◌≡◌, true, Option, Some, None, Ok, refl, sym, ap, ◌∙◌, subst}
use Rattle.std.proofs.lemmas.Bool.{or_left}
use Rattle.reg_op.specs.Set.{contains, union}
use Rattle.reg_op.specs.Ids.{Id}
use Rattle.reg_op.specs.Operations.{Op, Ops, OneBody, kept}
use Rattle.reg_op.specs.Contents.{Content, merged, clash_of, joined_unless, joined, joined_both, IsContent}
use Rattle.reg_op.specs.Status.{retires, is_retirement}
use Rattle.reg_op.proofs.FiniteLemmas.{any-union}
use Rattle.reg_op.proofs.OpLemmas.{op_total, op_exact}
use Rattle.reg_op.proofs.ContentLemmas.{merged_assoc, joined_content, kept_is_within, OneBody-within, one_body_from, union_left, union_right, union_within}
use Rattle.reg_op.proofs.StatusLemmas.{retires-kept}
use Rattle.reg_op.proofs.OneLemmas.{merged_is_content}

-- if the join succeeds, nothing clashes, and its result is the merge
made_from : (c : Option Id) (m z : Content) → joined_unless c m ≡ Ok z → (c ≡ None) × (m ≡ z)
made_from None m z h = (refl, cc)
made_from (Some i) m z h = cc

pub joined_ok : (x y z : Content) → joined x y ≡ Ok z → OneBody (union x.ops y.ops) × (merged x y ≡ z)
joined_ok x y z h = let r = made_from (clash_of x y) (merged x y) z h in (one_body_from (union x.ops y.ops) r.0, r.1)

pub joined_is_content : (x y z : Content) → IsContent x → IsContent y → joined x y ≡ Ok z → IsContent z
joined_is_content x y z is js h = let r = joined_ok x y z h in subst IsContent r.1 (merged_is_content x y is js r.0)

pub retired_stays : (x y z : Content) (e : Id) → joined x y ≡ Ok z → retires x.ops e ≡ true → retires z.ops e ≡ true
retired_stays x y z e h k =
    let r = joined_ok x y z h in
    subst (λ (w : Content). retires w.ops e ≡ true) r.1
    (retires-kept (union x.ops y.ops) e ∙ any-union op_total op_exact (λ o. is_retirement e o.body) x.ops y.ops ∙ or_left _ _ k)

pub joined_assoc : (x y z : Content) → OneBody (union (union x.ops y.ops) z.ops) → joined_both (joined x y) (Ok z) ≡ joined_both (Ok x) (joined y z)
joined_assoc x y z one =
    let all : Ops = union (union x.ops y.ops) z.ops in
    let in_x : (o : Op) → contains x.ops o ≡ true → contains all o ≡ true = λ o h. union_left (union x.ops y.ops) z.ops o (union_left x.ops y.ops o h) in
    let in_y : (o : Op) → contains y.ops o ≡ true → contains all o ≡ true = λ o h. union_left (union x.ops y.ops) z.ops o (union_right x.ops y.ops o h) in
    let in_z : (o : Op) → contains z.ops o ≡ true → contains all o ≡ true = λ o h. union_right (union x.ops y.ops) z.ops o h in
    let within : (s t : Ops) → ((o : Op) → contains s o ≡ true → contains all o ≡ true) → ((o : Op) → contains t o ≡ true → contains all o ≡ true) → OneBody (union s t) =
    λ s t f g. OneBody-within (union s t) all (union_within s t all f g) one in
    let in_xy : (o : Op) → contains (kept (union x.ops y.ops)) o ≡ true → contains all o ≡ true = λ o h. union_left (union x.ops y.ops) z.ops o (kept_is_within (union x.ops y.ops) o h) in
    let in_yz : (o : Op) → contains (kept (union y.ops z.ops)) o ≡ true → contains all o ≡ true = λ o h. union_within y.ops z.ops all in_y in_z o (kept_is_within (union y.ops z.ops) o h) in
    ap (λ r. joined_both r (Ok z)) (joined_content x y (within x.ops y.ops in_x in_y))
    ∙ joined_content (merged x y) z (within (kept (union x.ops y.ops)) z.ops in_xy in_z)
    ∙ ap Ok (merged_assoc x y z)
    ∙ sym (joined_content x (merged y z) (within x.ops (kept (union y.ops z.ops)) in_x in_yz))
    ∙ sym (ap (joined_both (Ok x)) (joined_content y z (within y.ops z.ops in_y in_z)))
