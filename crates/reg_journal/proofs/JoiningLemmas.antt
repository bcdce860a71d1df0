-- A register that nobody forged has one body for each id together with the office file.
use Rattle.std.proofs.Common.{◌≡◌, true, false, not, ◌&&◌, Result, Ok, Err, refl, sym, ap, ◌∙◌, subst, inl, inr, nat_lt}
use Rattle.std.proofs.lemmas.Bool.{true≢false, or_cases, or_right, and_from, and_parts}
use Rattle.reg_op.specs.Set.{contains, union}
use Rattle.reg_op.specs.Ids.{Id, is_same}
use Rattle.reg_op.specs.Finite.{any}
use Rattle.reg_op.specs.Operations.{Op, OneBody}
use Rattle.reg_op.specs.Contents.{Content, IsContent, joined, merged}
use Rattle.reg_op.proofs.OpLemmas.{op_total, op_exact}
use Rattle.reg_op.proofs.FiniteLemmas.{any_from_member}
use Rattle.reg_op.proofs.ContentLemmas.{contains_op-union, joined_content}
use Rattle.reg_journal.specs.Journal.{Journal, IsOffice, is_own}
use Rattle.reg_journal.specs.Standing.{is_known, tells_forged, IsHonest}
use Rattle.reg_journal.proofs.NumbersLemmas.{made_number, own_of}
use Rattle.reg_file.proofs.BodyLemmas.{same_itself}

-- an own operation of such a register is known to the office file
pub honest_known : (f : Journal) (x : Content) (p : Op) → IsHonest f x → contains x.ops p ≡ true → is_own f.replica p.id ≡ true → is_known f.made.ops p ≡ true
honest_known f x p honest h own =
    elim (is_known f.made.ops p) as (λ b. is_known f.made.ops p ≡ b → b ≡ true) [
      | true ↦ λ e. refl
      | false ↦ λ e.
          let told : tells_forged f p.id p ≡ true = or_right _ _ (and_from _ _ (same_itself p.id) (ap not e)) in
          let any_told : any (tells_forged f p.id) x.ops ≡ true = any_from_member op_total op_exact (tells_forged f p.id) x.ops p h told in
          absurd (true≢false (sym (and_from (is_own f.replica p.id) _ own (or_right (nat_lt f.last p.id.count && contains x.seen p.id) _ any_told)) ∙ honest p.id))
    ] refl

one_of : (f : Journal) (x : Content) (p o : Op) → IsOffice f → IsHonest f x → contains x.ops p ≡ true → contains f.made.ops o ≡ true → p.id ≡ o.id → p ≡ o
one_of f x p o is honest h k same =
    let own : is_own f.replica p.id ≡ true = own_of f.replica p.id (ap (λ (i : Id). i.replica) same ∙ (made_number f o is k).own) in
    elim (or_cases (contains f.made.ops p) _ (honest_known f x p honest h own)) [
      | inl a ↦ is.content.one_body p o a k same
      | inr b ↦
          let there : any (λ q. is_same p.id q.id) f.made.ops ≡ true = any_from_member op_total op_exact (λ q. is_same p.id q.id) f.made.ops o k (subst (λ i. is_same p.id i ≡ true) same (same_itself p.id)) in
          absurd (true≢false (sym (and_parts _ _ b).0 ∙ ap not there))
    ]

pub honest_agrees : (f : Journal) (x : Content) → IsOffice f → IsContent x → IsHonest f x → OneBody (union x.ops f.made.ops)
honest_agrees f x is content honest p o h k same =
    elim (or_cases (contains x.ops p) (contains f.made.ops p) (sym (contains_op-union x.ops f.made.ops p) ∙ h)) [
      | inl a ↦ elim (or_cases (contains x.ops o) (contains f.made.ops o) (sym (contains_op-union x.ops f.made.ops o) ∙ k)) [
        | inl b ↦ content.one_body p o a b same
        | inr b ↦ one_of f x p o is honest a b same
      ]
      | inr a ↦ elim (or_cases (contains x.ops o) (contains f.made.ops o) (sym (contains_op-union x.ops f.made.ops o) ∙ k)) [
        | inl b ↦ sym (one_of f x o p is honest b a (sym same))
        | inr b ↦ is.content.one_body p o a b same
      ]
    ]

pub honest_joins : (f : Journal) (x : Content) → IsOffice f → IsContent x → IsHonest f x → joined x f.made ≡ Ok (merged x f.made)
honest_joins f x is content honest = joined_content x f.made (honest_agrees f x is content honest)

pub same_ok : {x y : Content} → ◌≡◌ {A = Result Content Id} (Ok x) (Ok y) → x ≡ y
same_ok h = cc

pub ok_not_err : {y : Content} {i : Id} → ◌≡◌ {A = Result Content Id} (Ok y) (Err i) → ⊥
ok_not_err h = cc

pub no_clash : (f : Journal) (x : Content) (id : Id) → IsOffice f → IsContent x → IsHonest f x → joined x f.made ≡ Err id → ⊥
no_clash f x id is content honest e = ok_not_err (sym (honest_joins f x is content honest) ∙ e)
