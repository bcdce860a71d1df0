-- Parts of texts.
use Rattle.std.proofs.Common.{◌≡◌, ◌↔◌, ℕ, ◌+◌, ◌≤◌, ◌<◌, ◌++◌, Option, Some, None, Bool, false, List, [], ◌∷◌, length, take, drop, eqb, IsTrue, refl, sym, ap, ◌∙◌, subst, arith}
use Rattle.std.proofs.lemmas.Bool.{true≢false, eqb-true, eq-eqb}
use Rattle.std.proofs.lemmas.List.{take-append-drop, take_at, drop_at, take-map, map-append, length-map}
use Rattle.std.proofs.Common.{length-append}
use Rattle.std.specs.Char.{to_ascii_lowercase}
use Rattle.std.specs.Prelude.{is_some}
use Rattle.memchr.specs.Find.{OccursAt, FindsNeedle}
use Rattle.memchr.proofs.lemmas.MatchLemmas.{OccursAt-from_part, OccursAt-split}
use Rattle.crs_value.specs.Parts.{lower, BeginsWith, HasPart}

pub shorter : (part name : List ℕ) → length name < length part → IsTrue false ↔ BeginsWith part name
shorter part name h = (
  λ k. absurd (true≢false (sym k)),
  λ (back, e). absurd (omega (arith, h, ap length e, length-append (lower part) back, length-map part to_ascii_lowercase, length-map name to_ascii_lowercase)),
)

pub begins : (part name front : List ℕ) (r : Bool) → length part ≤ length name → front ≡ take (length part) name → IsTrue r ↔ (lower front ≡ lower part) → IsTrue r ↔ BeginsWith part name
begins part name front r h f is =
    let n = length part in (
      λ k. (lower (drop n name), ap lower (sym (take-append-drop n name)) ∙ map-append to_ascii_lowercase (take n name) (drop n name) ∙ ap (λ t. t ++ lower (drop n name)) (ap lower (sym f) ∙ is.0 k)),
      λ (back, e). is.1 (ap lower f ∙ sym (take-map to_ascii_lowercase n name) ∙ ap (take n) e ∙ take_at (lower part) back n (length-map part to_ascii_lowercase)),
    )

pub first_has : (part name : List ℕ) → BeginsWith part name → HasPart part name
first_has part name (back, e) = ([], back, e)

later_has : (part others : List ℕ) (x : ℕ) → HasPart part others → HasPart part (x ∷ others)
later_has part others x (front, back, e) = (to_ascii_lowercase x ∷ front, back, ap (λ t. to_ascii_lowercase x ∷ t) e)

had_later : (part others : List ℕ) (x : ℕ) (front back : List ℕ) → ¬ (BeginsWith part (x ∷ others)) → lower (x ∷ others) ≡ front ++ (lower part ++ back) → HasPart part others
had_later part others x [] back not e = absurd (not (back, e))
had_later part others x (f ∷ front) back not e = let same : lower others ≡ front ++ (lower part ++ back) = cc in (front, back, same)

-- a text that does not begin with the part contains it exactly if the text after its first byte does
pub passed : (part rest others : List ℕ) (x : ℕ) → rest ≡ x ∷ others → ¬ (BeginsWith part rest) → HasPart part rest ↔ HasPart part others
passed part rest others x e not = (
  λ h. let k = subst (HasPart part) e h in had_later part others x k.0 k.1 (λ b. not (subst (BeginsWith part) (sym e) b)) k.2,
  λ h. subst (HasPart part) (sym e) (later_has part others x h),
)

nothing_has : (part front back : List ℕ) → [] ≡ front ++ (lower part ++ back) → length part ≡ 0
nothing_has part front back e = omega (arith, ap length e, length-append front (lower part ++ back), length-append (lower part) back, length-map part to_ascii_lowercase)

empty_part : (part : List ℕ) → length part ≡ 0 → HasPart part []
empty_part [] h = ([], [], refl)
empty_part (x ∷ part) h = absurd (omega arith)

pub ends : (part rest : List ℕ) (r : Bool) → length rest ≡ 0 → r ≡ eqb (length part) 0 → IsTrue r ↔ HasPart part rest
ends part [] r h e = (
  λ k. empty_part part (eqb-true (length part) 0 (sym e ∙ k)),
  λ (front, back, k). e ∙ eq-eqb (length part) 0 (nothing_has part front back k),
)
ends part (x ∷ rest) r h e = absurd (omega arith)

-- ---- a search in the lowercase text

occurs : (hay front needle back : List ℕ) → hay ≡ front ++ (needle ++ back) → OccursAt hay needle (length front)
occurs hay front needle back e =
    let n = length needle in
    let rest : drop (length front) hay ≡ needle ++ back = ap (drop (length front)) e ∙ drop_at front (needle ++ back) (length front) refl in
    OccursAt-from_part hay needle (length front) (omega (arith, ap length e, length-append front (needle ++ back), length-append needle back)) (ap (take n) rest ∙ take_at needle back n refl)

pub found_is_part : (part text : List ℕ) (r : Option ℕ) → FindsNeedle (lower text) (lower part) 0 r → IsTrue (is_some r) ↔ HasPart part text
found_is_part part text None h = (
  λ no. absurd (true≢false (sym no)),
  λ (front, back, e). absurd (h (length front) (omega arith) (omega (arith, ap length e, length-append front (lower part ++ back))) (occurs (lower text) front (lower part) back e)),
)
found_is_part part text (Some k) h = (
  λ yes. (take k (lower text), drop (k + length (lower part)) (lower text), sym (take-append-drop k (lower text)) ∙ ap (λ t. take k (lower text) ++ t) (OccursAt-split (lower text) (lower part) k h.1)),
  λ has. refl,
)
