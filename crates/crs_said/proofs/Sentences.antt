-- Sentences of equal pieces are equal.
use Rattle.std.proofs.Common.{◌≡◌, ℕ, List, [], ◌∷◌, codes, ap, ◌∙◌}
use Rattle.std.specs.List.{concat}
use Rattle.crs_part.specs.declared.text.Text.{Text}
use Rattle.crs_part.specs.declared.datums.Ellipsoid.{Ellipsoid}
use Rattle.crs_said.specs.Datums.{sizes_said, ellipsoid_said}

abbrev of_datum : List ℕ → List ℕ → List ℕ → List ℕ
of_datum name ellipsoid sizes = concat (codes "the datum \"" ∷ name ∷ codes "\" has the ellipsoid \"" ∷ ellipsoid ∷ codes "\" (" ∷ sizes ∷ codes ") here, and another of these" ∷ [])

pub ellipsoid_text : (text n e s : List ℕ) (name : Text) (ellipsoid : Ellipsoid) → text ≡ of_datum n e s → n ≡ name.bytes → e ≡ ellipsoid.name.bytes → s ≡ sizes_said ellipsoid
    → text ≡ ellipsoid_said name ellipsoid
ellipsoid_text text n e s name ellipsoid is hn he hs =
    is ∙ (ap (λ x. of_datum x e s) hn ∙ (ap (λ x. of_datum name.bytes x s) he ∙ ap (λ x. of_datum name.bytes ellipsoid.name.bytes x) hs))
