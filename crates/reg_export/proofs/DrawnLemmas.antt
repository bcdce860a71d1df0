-- The nodes for some ids are the nodes for a permutation of them.
use Rattle.std.proofs.Common.{◌≡◌, ℕ, Bool, List, [], ◌∷◌, ◌++◌, ap, ◌∙◌, append_assoc, inl, inr}
use Rattle.std.specs.List.Sorted.{IsPermutation}
use Rattle.std.proofs.lemmas.List.Sorted.{Contains-permutation, IsPermutation-sym}
use Rattle.reg_op.specs.Ids.{Id}
use Rattle.reg_op.specs.Rows.{Row}
use Rattle.reg_export.specs.Graph.{IsDrawn, IsNodeOf}
use Rattle.reg_export.specs.Titles.{Each}

module _ (all : Bool) (ids others : List Id) (p : IsPermutation ids others) where
  to : (r : Row) → IsDrawn all others r → IsDrawn all ids r
  to r (inl e) = inl e
  to r (inr h) = inr (Contains-permutation others ids r.entry (IsPermutation-sym ids others p) h)

  from : (r : Row) → IsDrawn all ids r → IsDrawn all others r
  from r (inl e) = inl e
  from r (inr h) = inr (Contains-permutation ids others r.entry p h)

  node_too : (r : Row) (bytes : List ℕ) → IsNodeOf all others r bytes → IsNodeOf all ids r bytes
  node_too r bytes (inl (drawn, it)) = inl (to r drawn, it)
  node_too r bytes (inr (never, it)) = inr (λ d. never (from r d), it)

  pub nodes_too : (rs : List Row) (bytes : List ℕ) → Each (IsNodeOf all others) rs bytes → Each (IsNodeOf all ids) rs bytes
  nodes_too [] bytes e = e
  nodes_too (r ∷ rs) bytes (mine, later, gives, rest, is) = (mine, later, node_too r mine gives, nodes_too rs later rest, is)

step : (old a new b newer : List ℕ) → new ≡ old ++ a → newer ≡ new ++ b → newer ≡ old ++ (a ++ b)
step old a new b newer e f = f ∙ ap (λ t. t ++ b) e ∙ append_assoc old a b

-- five parts that are appended in turn
pub five : (t a b c d e t1 t2 t3 t4 t5 : List ℕ) → t1 ≡ t ++ a → t2 ≡ t1 ++ b → t3 ≡ t2 ++ c → t4 ≡ t3 ++ d → t5 ≡ t4 ++ e → t5 ≡ t ++ (a ++ b ++ c ++ d ++ e)
five t a b c d e t1 t2 t3 t4 t5 e1 e2 e3 e4 e5 =
    step t (a ++ b ++ c ++ d) t4 e t5 (step t (a ++ b ++ c) t3 d t4 (step t (a ++ b) t2 c t3 (step t a t1 b t2 e1 e2) e3) e4) e5
