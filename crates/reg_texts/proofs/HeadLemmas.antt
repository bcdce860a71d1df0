-- A text that is appended part by part is the concatenation of its parts.
use Rattle.std.proofs.Common.{◌≡◌, ℕ, List, [], ◌∷◌, ◌++◌, ap, ◌∙◌, append_assoc}

pub head_made : (K P W k0 k1 k2 k3 k4 k5 : List ℕ) → k0 ≡ [] → k1 ≡ k0 ++ K → k2 ≡ k1 ++ 32 ∷ [] → k3 ≡ k2 ++ P → k4 ≡ k3 ++ 32 ∷ [] → k5 ≡ k4 ++ W → k5 ≡ K ++ (32 ∷ (P ++ (32 ∷ W)))
head_made K P W k0 k1 k2 k3 k4 k5 e0 e1 e2 e3 e4 e5 =
    e5 ∙ ap (λ l. l ++ W) (e4 ∙ ap (λ l. l ++ 32 ∷ []) (e3 ∙ ap (λ l. l ++ P) (e2 ∙ ap (λ l. l ++ 32 ∷ []) (e1 ∙ ap (λ l. l ++ K) e0))))
    ∙ append_assoc ((K ++ 32 ∷ []) ++ P) (32 ∷ []) W ∙ append_assoc (K ++ 32 ∷ []) P (32 ∷ W) ∙ append_assoc K (32 ∷ []) (P ++ (32 ∷ W))

pub pair_made : (t A B H k1 k2 k3 : List ℕ) → k1 ≡ t ++ A → k2 ≡ k1 ++ B → k3 ≡ k2 ++ H → k3 ≡ t ++ ((A ++ B) ++ H)
pair_made t A B H k1 k2 k3 e1 e2 e3 = e3 ∙ ap (λ l. l ++ H) (e2 ∙ ap (λ l. l ++ B) e1 ∙ append_assoc t A B) ∙ append_assoc t (A ++ B) H

pub given_made : (K N A D k0 k1 k2 k3 k4 k5 : List ℕ) → k0 ≡ [] → k1 ≡ k0 ++ K → k2 ≡ k1 ++ 32 ∷ [] → k3 ≡ k2 ++ N → k4 ≡ k3 ++ A → k5 ≡ k4 ++ D → k5 ≡ K ++ (32 ∷ (N ++ (A ++ D)))
given_made K N A D k0 k1 k2 k3 k4 k5 e0 e1 e2 e3 e4 e5 =
    e5 ∙ ap (λ l. l ++ D) (e4 ∙ ap (λ l. l ++ A) (e3 ∙ ap (λ l. l ++ N) (e2 ∙ ap (λ l. l ++ 32 ∷ []) (e1 ∙ ap (λ l. l ++ K) e0))))
    ∙ append_assoc ((K ++ 32 ∷ []) ++ N) A D ∙ append_assoc (K ++ 32 ∷ []) N (A ++ D) ∙ append_assoc K (32 ∷ []) (N ++ (A ++ D))
