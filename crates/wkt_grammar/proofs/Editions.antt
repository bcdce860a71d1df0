-- The rows of the two editions.
use Rattle.std.proofs.Common.{◌≡◌, Bool, true, false, cond, List, [], ◌∷◌, refl, subst, arith}
use Rattle.std.specs.Prelude.{◌||◌, not}
use Rattle.std.specs.List.{filter, list_all}
use Rattle.std.proofs.lemmas.Bool.{and_parts}
use Rattle.std.proofs.lemmas.List.Elements.{All-nil}
use Rattle.wkt_grammar.specs.declared.table.Edition.TheVariants as editions
use Rattle.wkt_grammar.specs.declared.table.Slot.{Slot}
use Rattle.wkt_grammar.specs.declared.table.Argument.{Argument}
use Rattle.wkt_grammar.specs.declared.table.Often.{Often}
use Rattle.wkt_grammar.specs.declared.table.Often.TheVariants.{Once, AtMostOnce, Any, AtLeastOnce}
use Rattle.wkt_grammar.specs.declared.table.Node.{Node}
use Rattle.wkt_grammar.specs.declared.table.Node.TheVariants as nodes
use Rattle.wkt_grammar.specs.Editions.{is_added, without_added}
use Rattle.wkt_grammar.specs.Rows.{row_of, takes, Times, Fits, is_required}

pub rows_without : (n : Node) → row_of editions.First n ≡ without_added (row_of editions.Second n)
rows_without nodes.Root = refl
rows_without nodes.GeodeticCrs = refl
rows_without nodes.ProjectedCrs = refl
rows_without nodes.VerticalCrs = refl
rows_without nodes.CompoundCrs = refl
rows_without nodes.BaseCrs = refl
rows_without nodes.Datum = refl
rows_without nodes.VerticalDatum = refl
rows_without nodes.GeodeticEnsemble = refl
rows_without nodes.VerticalEnsemble = refl
rows_without nodes.Named = refl
rows_without nodes.EnsembleAccuracy = refl
rows_without nodes.Ellipsoid = refl
rows_without nodes.PrimeMeridian = refl
rows_without nodes.Conversion = refl
rows_without nodes.Parameter = refl
rows_without nodes.Unit = refl
rows_without nodes.CoordinateSystem = refl
rows_without nodes.Axis = refl
rows_without nodes.Meridian = refl
rows_without nodes.Order = refl
rows_without nodes.Usage = refl
rows_without nodes.BoundingBox = refl
rows_without nodes.VerticalExtent = refl
rows_without nodes.Value = refl
rows_without nodes.Identifier = refl

-- ---- slots that may stay empty

pub none_of : (o : Often) → not (is_required o) ≡ true → Times o 0
none_of Once e = absurd cc
none_of AtMostOnce e = omega arith
none_of Any e = tt
none_of AtLeastOnce e = absurd cc

abbrev pub passes : (Slot → Bool) → Slot → Bool
passes p s = p s || not (is_required s.often)

-- arguments that fit the slots that pass p fit the whole row, if all other slots may stay empty
fits_more : (p : Slot → Bool) (row : List Slot) (args : List Argument) → list_all (passes p) row ≡ true → Fits (filter p row) args → Fits row args
fits_more p [] args h f = f
fits_more p (s ∷ row) args h f =
    let parts = and_parts (passes p s) (list_all (passes p) row) h in
    elim (p s) as (λ b. (b || not (is_required s.often)) ≡ true → Fits (cond b (s ∷ filter p row) (filter p row)) args → Fits (s ∷ row) args) [
      | true ↦ λ q g. (g.0, g.1, g.2, g.3, g.4, fits_more p row g.1 parts.1 g.5)
      | false ↦ λ q g. ([], args, refl, All-nil (λ a. takes s.takes a ≡ true), none_of s.often q, fits_more p row args parts.1 g)
    ] parts.0 f

pub added_may_stay : (n : Node) → list_all (passes (λ s. not (is_added s.takes))) (row_of editions.Second n) ≡ true
added_may_stay nodes.Root = refl
added_may_stay nodes.GeodeticCrs = refl
added_may_stay nodes.ProjectedCrs = refl
added_may_stay nodes.VerticalCrs = refl
added_may_stay nodes.CompoundCrs = refl
added_may_stay nodes.BaseCrs = refl
added_may_stay nodes.Datum = refl
added_may_stay nodes.VerticalDatum = refl
added_may_stay nodes.GeodeticEnsemble = refl
added_may_stay nodes.VerticalEnsemble = refl
added_may_stay nodes.Named = refl
added_may_stay nodes.EnsembleAccuracy = refl
added_may_stay nodes.Ellipsoid = refl
added_may_stay nodes.PrimeMeridian = refl
added_may_stay nodes.Conversion = refl
added_may_stay nodes.Parameter = refl
added_may_stay nodes.Unit = refl
added_may_stay nodes.CoordinateSystem = refl
added_may_stay nodes.Axis = refl
added_may_stay nodes.Meridian = refl
added_may_stay nodes.Order = refl
added_may_stay nodes.Usage = refl
added_may_stay nodes.BoundingBox = refl
added_may_stay nodes.VerticalExtent = refl
added_may_stay nodes.Value = refl
added_may_stay nodes.Identifier = refl

pub fits_second : (n : Node) (args : List Argument) → Fits (row_of editions.First n) args → Fits (row_of editions.Second n) args
fits_second n args f = fits_more (λ s. not (is_added s.takes)) (row_of editions.Second n) args (added_may_stay n) (subst (λ r. Fits r args) (rows_without n) f)
