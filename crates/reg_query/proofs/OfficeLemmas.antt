-- One iteration of the loop that gathers the figures of offices.
use Rattle.std.proofs.Common.{◌≡◌, ℕ, ◌+◌, ◌<◌, ◌++◌, List, [], ◌∷◌, All, map, take, length, get_or, sym, ap, ◌∙◌, subst}
use Rattle.std.proofs.lemmas.List.{map_push, take_more}
use Rattle.std.proofs.lemmas.List.Elements.{All-push}
use Rattle.reg_op.specs.Contents.{Content}
use Rattle.reg_query.specs.declared.figures.office.OfficeFigures.{OfficeFigures}
use Rattle.reg_query.specs.Offices.{IsOffice}

pub one_more : (x : Content) (made more : List OfficeFigures) (replicas : List (List ℕ)) (k : ℕ) (o : OfficeFigures) (q : List ℕ) → k < length replicas → q ≡ get_or replicas k q → o.replica ≡ q
    → (map (λ (p : OfficeFigures). p.replica) made ≡ take k replicas) × All (IsOffice x) made → IsOffice x o → more ≡ made ++ o ∷ []
    → (map (λ (p : OfficeFigures). p.replica) more ≡ take (k + 1) replicas) × All (IsOffice x) more
one_more x made more replicas k o q within at of (are, each) is pushed = (
  ap (map (λ (p : OfficeFigures). p.replica)) pushed ∙ map_push (λ (p : OfficeFigures). p.replica) made o ∙ ap (λ rs. rs ++ o.replica ∷ []) are ∙ ap (λ r. take k replicas ++ r ∷ []) (of ∙ at)
      ∙ sym (take_more replicas k q within),
  subst (λ (os : List OfficeFigures). All (IsOffice x) os) (sym pushed) (All-push (IsOffice x) made o each is),
)
