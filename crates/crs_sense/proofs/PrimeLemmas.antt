-- A prime meridian beside the row of its name.
use Rattle.std.proofs.Common.{◌≡◌, ℕ, Bool, true, false, not, ◌&&◌, List, Option, Some, codes, refl, ap, ◌∙◌}
use Rattle.std.proofs.lemmas.Bool.{false≢true}
use Rattle.std.specs.Option.{option_or, option_and_then}
use Rattle.crs_number.specs.declared.decimals.Decimal.{Decimal}
use Rattle.crs_part.specs.declared.units.UnitDefinition.{UnitDefinition}
use Rattle.crs_part.specs.declared.datums.PrimeMeridian.{PrimeMeridian}
use Rattle.crs_part.specs.declared.crs.Single.{Single}
use Rattle.crs_exact.specs.Angles.{is_packed}
use Rattle.crs_exact.specs.Names.{begins}
use Rattle.crs_exact.specs.Parts.{base_unit, angles_of, prime_in}
use Rattle.crs_exact.specs.Tables.{fixed}
use Rattle.crs_sense.specs.Prime.{longitude, size, is_off, is_row_off, prime_of, prime_at, prime}

unpacked : (packed off : Bool) → false ≡ packed → off ≡ (not packed && off)
unpacked true off e = absurd (false≢true e)
unpacked false off e = refl

pub row_off : (row s l : List ℕ) (v : Decimal) (u : Option UnitDefinition) (known : Option ℕ) (west off : Bool)
    → off ≡ is_off known v u west → known ≡ fixed (codes "000000000000") s → s ≡ size row → west ≡ begins (codes "-") l → l ≡ longitude row
    → false ≡ is_packed u → off ≡ is_row_off row v u
row_off row s l v u known west off o k e w f p =
    o
    ∙ ap (λ (x : Option ℕ). is_off x v u west) (k ∙ ap (λ (x : List ℕ). fixed (codes "000000000000") x) e)
    ∙ ap (λ (x : Bool). is_off (fixed (codes "000000000000") (size row)) v u x) (w ∙ ap (λ (x : List ℕ). begins (codes "-") x) f)
    ∙ unpacked (is_packed u) (is_off (fixed (codes "000000000000") (size row)) v u (begins (codes "-") (longitude row))) p

pub said_of : (crs : Single) (m : PrimeMeridian) (own common unit : Option UnitDefinition) (said : Option (List ℕ))
    → said ≡ prime_of m unit → unit ≡ option_or own common → own ≡ base_unit m.unit → common ≡ angles_of crs → Some m ≡ prime_in crs → said ≡ prime crs
said_of crs m own common unit said s u o k i =
    s
    ∙ ap (λ (x : Option UnitDefinition). prime_of m x)
    (u ∙ ap (λ (x : Option UnitDefinition). option_or x common) o ∙ ap (λ (x : Option UnitDefinition). option_or (base_unit m.unit) x) k)
    ∙ ap (λ (x : Option PrimeMeridian). option_and_then (prime_at (angles_of crs)) x) i
