-- Ids of consecutive numbers.
use Rattle.std.proofs.Common.{◌≡◌, ℕ, zero, suc, ◌+◌, List, [], ◌∷◌, ◌++◌, ap, ◌∙◌, arith}
use Rattle.reg_op.specs.Ids.{Id}
use Rattle.reg_state.specs.Runs.{id_at, ids_from}

-- one more at the end
pub one_more : (r : List ℕ) (f n : ℕ) → ids_from r f (suc n) ≡ ids_from r f n ++ (id_at r (f + n) ∷ [])
one_more r f zero = let e : f ≡ f + 0 = omega arith in ap (λ (k : ℕ). id_at r k ∷ []) e
one_more r f (suc n) =
    let e : (f + 1) + n ≡ f + suc n = omega arith in
    ap (λ (l : List Id). id_at r f ∷ l) (one_more r (f + 1) n ∙ ap (λ (k : ℕ). ids_from r (f + 1) n ++ (id_at r k ∷ [])) e)
