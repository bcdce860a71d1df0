-- Contents join by union and keeping, and agree where together no id has two bodies.
use Rattle.std.proofs.Common.{◌≡◌, true, sym, ◌∙◌, subst, inl, inr, ◌⊎◌}
use Rattle.std.proofs.lemmas.Bool.{or_cases}
use Rattle.reg_op.specs.Set.{contains, union}
use Rattle.reg_op.specs.Operations.{Op, OneBody, kept}
use Rattle.reg_op.specs.Contents.{Content, nothing, merged, joined, Agreed, IsContent}
use Rattle.reg_op.proofs.OpLemmas.{op_total, op_exact}
use Rattle.reg_op.proofs.FiniteLemmas.{union_comm, union_itself, union-empty}
use Rattle.reg_op.proofs.ContentLemmas.{contains_op-union, kept_is_within, union_left, union_right, merged_comm, merged_assoc, merged_again, joined_comm, joined_content, joined_itself, joined_nothing, nothing_is_content}
use Rattle.reg_op.proofs.JoinLemmas.{joined_ok, joined_is_content}
use Rattle.reg_op.specs.Joining.{JoinLaws}

agreed_nothing : (x : Content) → Agreed x x → Agreed nothing x
agreed_nothing x a = subst OneBody (λ k. (union_itself op_total op_exact x.ops ∙ sym (union-empty op_total op_exact x.ops)) k) a

agreed_comm : (x y : Content) → Agreed x y → Agreed y x
agreed_comm x y a = subst OneBody (union_comm op_total op_exact x.ops y.ops) a

-- two operations of the union of three sets are in the union of two of them
agreed_merged : (x y z : Content) → Agreed x y → Agreed x z → Agreed y z → Agreed (merged x y) z
agreed_merged x y z a b c p o h k e =
    elim (where_is p h) [
      | inl p_in ↦ elim (where_is o k) [
        | inl o_in ↦ a p o p_in o_in e
        | inr o_in ↦ elim (or_cases (contains x.ops p) (contains y.ops p) (sym (contains_op-union x.ops y.ops p) ∙ p_in)) [
          | inl in_x ↦ b p o (union_left x.ops z.ops p in_x) (union_right x.ops z.ops o o_in) e
          | inr in_y ↦ c p o (union_left y.ops z.ops p in_y) (union_right y.ops z.ops o o_in) e
        ]
      ]
      | inr p_in ↦ elim (where_is o k) [
        | inl o_in ↦ elim (or_cases (contains x.ops o) (contains y.ops o) (sym (contains_op-union x.ops y.ops o) ∙ o_in)) [
          | inl in_x ↦ b p o (union_right x.ops z.ops p p_in) (union_left x.ops z.ops o in_x) e
          | inr in_y ↦ c p o (union_right y.ops z.ops p p_in) (union_left y.ops z.ops o in_y) e
        ]
        | inr o_in ↦ b p o (union_right x.ops z.ops p p_in) (union_right x.ops z.ops o o_in) e
      ]
    ]
  where
    where_is : (q : Op) → contains (union (kept (union x.ops y.ops)) z.ops) q ≡ true → (contains (union x.ops y.ops) q ≡ true) ⊎ (contains z.ops q ≡ true)
    where_is q h = elim (or_cases (contains (kept (union x.ops y.ops)) q) (contains z.ops q) (sym (contains_op-union (kept (union x.ops y.ops)) z.ops q) ∙ h)) [
      | inl i ↦ inl (kept_is_within (union x.ops y.ops) q i)
      | inr i ↦ inr i
    ]

pub register_laws : JoinLaws nothing joined merged Agreed IsContent
register_laws = record {
  agreed = joined_content;
  refused = λ x y z h. (joined_ok x y z h).0;
  comm = joined_comm;
  merged_comm = merged_comm;
  merged_assoc = merged_assoc;
  merged_again = merged_again;
  itself = joined_itself;
  neutral = joined_nothing;
  agree_nothing = agreed_nothing;
  agree_comm = agreed_comm;
  agree_merged = agreed_merged;
  value_nothing = nothing_is_content;
  value_joined = joined_is_content;
}
