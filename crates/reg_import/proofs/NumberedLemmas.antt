-- Operations with consecutive numbers.
use Rattle.std.proofs.Common.{◌≡◌, ℕ, ◌+◌, List, [], ◌∷◌, ◌++◌, length, suc, refl, ap, ◌∙◌, arith}
use Rattle.std.proofs.Common.{add-one}
use Rattle.reg_op.specs.Operations.{Op}
use Rattle.reg_op.specs.declared.operation.OpBody.{OpBody as Body}
use Rattle.reg_state.specs.Runs.{id_at}
use Rattle.reg_office.specs.Making.{numbered}

pub numbered_append : (r : List ℕ) (n : ℕ) (note : List ℕ) (bs cs : List Body) → numbered r n note (bs ++ cs) ≡ numbered r n note bs ++ numbered r (n + length bs) note cs
numbered_append r n note [] cs = let e : n ≡ n + 0 = omega arith in ap (λ m. numbered r m note cs) e
numbered_append r n note (b ∷ bs) cs =
    let e : n + 1 + length bs ≡ n + (length bs + 1) = omega arith in
    ap (λ os. record { id = id_at r n; body = b; note = note } ∷ os)
    (numbered_append r (n + 1) note bs cs ∙ ap (λ m. numbered r (n + 1) note bs ++ numbered r m note cs) (e ∙ ap (λ m. n + m) (add-one (length bs))))

pub length_numbered : (r : List ℕ) (n : ℕ) (note : List ℕ) (bs : List Body) → length (numbered r n note bs) ≡ length bs
length_numbered r n note [] = refl
length_numbered r n note (b ∷ bs) = ap suc (length_numbered r (n + 1) note bs)

pub same_length : (r : List ℕ) (n : ℕ) (note : List ℕ) (bs : List Body) (os : List Op) → os ≡ numbered r n note bs → length os ≡ length bs
same_length r n note bs os h = ap length h ∙ length_numbered r n note bs
