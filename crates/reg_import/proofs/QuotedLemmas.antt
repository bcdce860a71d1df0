-- The loop that reads a text in quotation marks, byte by byte.
use Rattle.std.proofs.Common.{◌≡◌, ℕ, Bool, false, List, [], ◌∷◌, ◌++◌, append-nil, Option, Some, None, refl, sym, ap, subst, ◌∙◌}
use Rattle.std.specs.Prelude.{option_map}
use Rattle.std.specs.Option.{unwrap_or}
use Rattle.reg_import.specs.Quoted.{quoted, Quotes}

-- `text` followed by what the bytes not yet read quote is the quoted text
abbrev pub IsQuotedSoFar : List ℕ → Bool → List ℕ → List ℕ → Type 0
IsQuotedSoFar text marked rest bytes = option_map (λ t. text ++ t) (quoted marked rest) ≡ quoted false bytes

pub quote_done : (text bytes : List ℕ) (m : Bool) (rest : List ℕ) → IsQuotedSoFar text m rest bytes → quoted m rest ≡ Some [] → text ≡ unwrap_or (quoted false bytes) []
quote_done text bytes m rest so_far h = sym (append-nil text) ∙ ap (λ o. unwrap_or (option_map (λ t. text ++ t) o) []) (sym h) ∙ ap (λ o. unwrap_or o []) so_far

pub quote_more : (old new bytes : List ℕ) (marked : Bool) (b : ℕ) (rest others : List ℕ) (o : Option Bool) (next : Bool) → rest ≡ b ∷ others → o ≡ Some next → Quotes marked b old new o → IsQuotedSoFar old marked rest bytes → IsQuotedSoFar new next others bytes
quote_more old new bytes marked b rest others o next at is q so_far =
    let step : Quotes marked b old new (Some next) = subst (Quotes marked b old new) is q in
    sym (step others) ∙ sym (ap (λ r. option_map (λ t. old ++ t) (quoted marked r)) at) ∙ so_far

pub quote_last : (old new bytes : List ℕ) (marked : Bool) (b : ℕ) (rest others : List ℕ) (o : Option Bool) → rest ≡ b ∷ others → ((next : Bool) → o ≡ Some next → ⊥) → Quotes marked b old new o → IsQuotedSoFar old marked rest bytes → new ≡ unwrap_or (quoted false bytes) []
quote_last old new bytes marked b rest others (Some next) at never q so_far = absurd (never next refl)
quote_last old new bytes marked b rest others None at never q so_far =
    q.0 ∙ quote_done old bytes marked (b ∷ others) (sym (ap (λ r. option_map (λ t. old ++ t) (quoted marked r)) at) ∙ so_far) (q.1 others)
