-- The text of each node, argument by argument.
use Rattle.std.proofs.Common.{◌≡◌, ℕ, Bool, true, List, [], ◌∷◌, ◌++◌, ◌∙◌, refl}
use Rattle.std.specs.Prelude.{Option, Some, None}
use Rattle.std.specs.List.{list_all, flat_map}
use Rattle.std.specs.Option.{option_map_or}
use Rattle.std.proofs.lemmas.Bool.{and_parts, and_from}
use Rattle.crs_part.specs.declared.units.UnitDefinition.{UnitDefinition}
use Rattle.crs_part.specs.declared.units.Unit.{Unit}
use Rattle.crs_part.specs.declared.units.LengthUnit.{LengthUnit}
use Rattle.crs_part.specs.declared.units.AngleUnit.{AngleUnit}
use Rattle.crs_part.specs.declared.usages.VerticalExtent.{VerticalExtent}
use Rattle.crs_part.specs.declared.datums.GeodeticFrame.TheVariants as geodetic_frame
use Rattle.crs_part.specs.declared.datums.VerticalFrame.TheVariants as vertical_frame
use Rattle.crs_value.specs.Conditions.{has_positive_factor}
use Rattle.crs_value.specs.Units.{any_units, length_units, angle_units, extent_units, parameter_units}
use Rattle.wkt_grammar.specs.declared.table.Keyword.TheVariants as keywords
use Rattle.wkt_grammar.specs.Trees.{text_tree, number_tree, ident_tree, value_tree, named_tree, unit_of_tree, unit_tree, length_unit_tree, angle_unit_tree, bounding_box_tree, vertical_extent_tree, usage_tree, ellipsoid_tree, prime_meridian_tree, accuracy_tree, datum_tree, geodetic_ensemble_tree, vertical_datum_tree, vertical_ensemble_tree, geodetic_frame_tree, vertical_frame_tree, parameter_tree, conversion_tree}
use Rattle.wkt_canonical.specs.Reads.{ReadsFirst, ReadsOne, ReadsMaybe, ReadsEach, ReadsSome, ReadsInside, ReadsWithin, any, is_above_zero, is_not_below_zero, opening, beginning}
use Rattle.wkt_canonical.specs.Tests.{all_positive, unit_passes, length_unit_passes, angle_unit_passes, extent_passes, usage_passes, ellipsoid_passes, datum_passes, ensemble_passes, frame_passes, prime_meridian_passes, parameter_passes, conversion_passes}
use Rattle.wkt_canonical.proofs.Runs.{closed, also, whole, first_within}

pub value : {text a rest : List ℕ} → ReadsFirst any text_tree text a → a ≡ 93 ∷ rest → ReadsWithin any value_tree text rest
value content close = record { value = content.value; passes = refl; is = λ k. whole k _ _ content.is (closed close) }

pub named : {text a b rest : List ℕ} → ReadsFirst any text_tree text a → ReadsEach any ident_tree a b → b ≡ 93 ∷ rest → ReadsWithin any named_tree text rest
named name ids close = record {
  value = record { name = name.value; ids = ids.values };
  passes = refl;
  is = λ k. whole k _ _ name.is (also _ _ ids.is (closed close));
}

pub member : {text rest : List ℕ} → ReadsWithin any named_tree text rest → ReadsInside any (named_tree keywords.Member) keywords.Member text rest
member r = record { value = r.value; passes = refl; is = r.is keywords.Member }

pub unit_definition : {text a b c rest : List ℕ} → ReadsFirst any text_tree text a → ReadsOne is_above_zero number_tree a b → ReadsEach any ident_tree b c → c ≡ 93 ∷ rest → ReadsWithin has_positive_factor unit_of_tree text rest
unit_definition name factor ids close = record {
  value = record { name = name.value; factor = factor.value; ids = ids.values };
  passes = factor.passes;
  is = λ k. whole k _ _ name.is (also _ _ factor.is (also _ _ ids.is (closed close)));
}

pub bounding_box : {text a b c d rest : List ℕ} → ReadsFirst any number_tree text a → ReadsOne any number_tree a b → ReadsOne any number_tree b c → ReadsOne any number_tree c d → d ≡ 93 ∷ rest → ReadsInside any bounding_box_tree keywords.BoundingBox text rest
bounding_box south west north east close = record {
  value = record { south = south.value; west = west.value; north = north.value; east = east.value };
  passes = refl;
  is = whole keywords.BoundingBox _ _ south.is (also _ _ west.is (also _ _ north.is (also _ _ east.is (closed close))));
}

-- ---- conditions on units

length_units_pass : (o : Option LengthUnit) → option_map_or length_unit_passes o true ≡ true → all_positive (option_map_or length_units o []) ≡ true
length_units_pass None h = refl
length_units_pass (Some unit) h = h

pub angle_units_pass : (o : Option AngleUnit) → option_map_or angle_unit_passes o true ≡ true → all_positive (option_map_or angle_units o []) ≡ true
angle_units_pass None h = refl
angle_units_pass (Some unit) h = h

pub any_units_pass : (o : Option Unit) → option_map_or unit_passes o true ≡ true → all_positive (option_map_or any_units o []) ≡ true
any_units_pass None h = refl
any_units_pass (Some unit) h = h

pub both_pass : (xs ys : List UnitDefinition) → all_positive xs ≡ true → all_positive ys ≡ true → all_positive (xs ++ ys) ≡ true
both_pass [] ys p q = q
both_pass (x ∷ xs) ys p q = let b = and_parts (has_positive_factor x) (all_positive xs) p in rw b.0 (both_pass xs ys b.1 q)

pub all_pass : {A : Type 0} (test : A → Bool) (units : A → List UnitDefinition) → ((a : A) → test a ≡ true → all_positive (units a) ≡ true) → (vs : List A) → list_all test vs ≡ true → all_positive (flat_map units vs) ≡ true
all_pass test units h [] p = refl
all_pass test units h (v ∷ vs) p = let b = and_parts (test v) (list_all test vs) p in both_pass (units v) (flat_map units vs) (h v b.0) (all_pass test units h vs b.1)

-- ---- usages

pub vertical_extent : {text a b c rest : List ℕ} → ReadsFirst any number_tree text a → ReadsOne any number_tree a b → ReadsMaybe length_unit_passes length_unit_tree b c → c ≡ 93 ∷ rest → ReadsInside extent_passes vertical_extent_tree keywords.VerticalExtent text rest
vertical_extent low high unit close = record {
  value = record { low = low.value; high = high.value; unit = unit.value };
  passes = length_units_pass unit.value unit.passes;
  is = whole keywords.VerticalExtent _ _ low.is (also _ _ high.is (also _ _ unit.is (closed close)));
}

extent_pass : (o : Option VerticalExtent) → option_map_or extent_passes o true ≡ true → all_positive (option_map_or extent_units o []) ≡ true
extent_pass None h = refl
extent_pass (Some extent) h = h

pub usage : {text scope a b c d rest : List ℕ} → text ≡ beginning keywords.Scope ++ scope → ReadsWithin any value_tree scope a → ReadsMaybe any (value_tree keywords.Area) a b → ReadsMaybe any bounding_box_tree b c → ReadsMaybe extent_passes vertical_extent_tree c d → d ≡ 93 ∷ rest → ReadsInside usage_passes usage_tree keywords.Usage text rest
usage e scope area box extent close =
    let first = first_within any value_tree keywords.Scope e scope in
    record {
      value = record { scope = first.value; area = area.value; bounding_box = box.value; vertical_extent = extent.value };
      passes = extent_pass extent.value extent.passes;
      is = whole keywords.Usage _ _ first.is (also _ _ area.is (also _ _ box.is (also _ _ extent.is (closed close))));
    }

-- ---- datums

pub ellipsoid : {text a b c d e rest : List ℕ} → ReadsFirst any text_tree text a → ReadsOne is_above_zero number_tree a b → ReadsOne is_not_below_zero number_tree b c → ReadsMaybe length_unit_passes length_unit_tree c d → ReadsEach any ident_tree d e → e ≡ 93 ∷ rest → ReadsInside ellipsoid_passes ellipsoid_tree keywords.Ellipsoid text rest
ellipsoid name radius flattening unit ids close = record {
  value = record { name = name.value; radius = radius.value; flattening = flattening.value; unit = unit.value; ids = ids.values };
  passes = and_from _ _ (and_from _ _ radius.passes flattening.passes) (length_units_pass unit.value unit.passes);
  is = whole keywords.Ellipsoid _ _ name.is (also _ _ radius.is (also _ _ flattening.is (also _ _ unit.is (also _ _ ids.is (closed close)))));
}

pub prime_meridian : {text a b c d rest : List ℕ} → ReadsFirst any text_tree text a → ReadsOne any number_tree a b → ReadsMaybe angle_unit_passes angle_unit_tree b c → ReadsEach any ident_tree c d → d ≡ 93 ∷ rest → ReadsInside prime_meridian_passes prime_meridian_tree keywords.PrimeMeridian text rest
prime_meridian name longitude unit ids close = record {
  value = record { name = name.value; longitude = longitude.value; unit = unit.value; ids = ids.values };
  passes = angle_units_pass unit.value unit.passes;
  is = whole keywords.PrimeMeridian _ _ name.is (also _ _ longitude.is (also _ _ unit.is (also _ _ ids.is (closed close))));
}

pub accuracy : {text inside a rest : List ℕ} → text ≡ opening keywords.EnsembleAccuracy ++ inside → ReadsFirst any number_tree inside a → a ≡ 93 ∷ rest → ReadsOne any accuracy_tree text rest
accuracy e number close = record { value = number.value; passes = refl; is = e ∙ whole keywords.EnsembleAccuracy _ _ number.is (closed close) }

pub datum : {text a b c d rest : List ℕ} → ReadsFirst any text_tree text a → ReadsOne ellipsoid_passes ellipsoid_tree a b → ReadsMaybe any (value_tree keywords.Anchor) b c → ReadsEach any ident_tree c d → d ≡ 93 ∷ rest → ReadsInside datum_passes datum_tree keywords.Datum text rest
datum name ellipsoid anchor ids close = record {
  value = record { name = name.value; ellipsoid = ellipsoid.value; anchor = anchor.value; ids = ids.values };
  passes = ellipsoid.passes;
  is = whole keywords.Datum _ _ name.is (also _ _ ellipsoid.is (also _ _ anchor.is (also _ _ ids.is (closed close))));
}

pub geodetic_ensemble : {text a b c d e rest : List ℕ} → ReadsFirst any text_tree text a → ReadsSome any (named_tree keywords.Member) a b → ReadsOne ellipsoid_passes ellipsoid_tree b c → ReadsOne any accuracy_tree c d → ReadsEach any ident_tree d e → e ≡ 93 ∷ rest → ReadsInside ensemble_passes geodetic_ensemble_tree keywords.Ensemble text rest
geodetic_ensemble name members ellipsoid accuracy ids close = record {
  value = record { name = name.value; members = members.value; ellipsoid = ellipsoid.value; accuracy = accuracy.value; ids = ids.values };
  passes = ellipsoid.passes;
  is = whole keywords.Ensemble _ _ name.is (also _ _ members.is (also _ _ ellipsoid.is (also _ _ accuracy.is (also _ _ ids.is (closed close)))));
}

pub vertical_datum : {text a b c rest : List ℕ} → ReadsFirst any text_tree text a → ReadsMaybe any (value_tree keywords.Anchor) a b → ReadsEach any ident_tree b c → c ≡ 93 ∷ rest → ReadsInside any vertical_datum_tree keywords.VerticalDatum text rest
vertical_datum name anchor ids close = record {
  value = record { name = name.value; anchor = anchor.value; ids = ids.values };
  passes = refl;
  is = whole keywords.VerticalDatum _ _ name.is (also _ _ anchor.is (also _ _ ids.is (closed close)));
}

pub vertical_ensemble : {text a b c d rest : List ℕ} → ReadsFirst any text_tree text a → ReadsSome any (named_tree keywords.Member) a b → ReadsOne any accuracy_tree b c → ReadsEach any ident_tree c d → d ≡ 93 ∷ rest → ReadsInside any vertical_ensemble_tree keywords.Ensemble text rest
vertical_ensemble name members accuracy ids close = record {
  value = record { name = name.value; members = members.value; accuracy = accuracy.value; ids = ids.values };
  passes = refl;
  is = whole keywords.Ensemble _ _ name.is (also _ _ members.is (also _ _ accuracy.is (also _ _ ids.is (closed close))));
}

pub frame_of_datum : {text inside rest : List ℕ} → text ≡ opening keywords.Datum ++ inside → ReadsInside datum_passes datum_tree keywords.Datum inside rest → ReadsOne frame_passes geodetic_frame_tree text rest
frame_of_datum e r = record { value = geodetic_frame.Datum r.value; passes = r.passes; is = e ∙ r.is }

pub frame_of_ensemble : {text inside rest : List ℕ} → text ≡ opening keywords.Ensemble ++ inside → ReadsInside ensemble_passes geodetic_ensemble_tree keywords.Ensemble inside rest → ReadsOne frame_passes geodetic_frame_tree text rest
frame_of_ensemble e r = record { value = geodetic_frame.Ensemble r.value; passes = r.passes; is = e ∙ r.is }

pub vertical_frame_of_datum : {text inside rest : List ℕ} → text ≡ opening keywords.VerticalDatum ++ inside → ReadsInside any vertical_datum_tree keywords.VerticalDatum inside rest → ReadsOne any vertical_frame_tree text rest
vertical_frame_of_datum e r = record { value = vertical_frame.Datum r.value; passes = refl; is = e ∙ r.is }

pub vertical_frame_of_ensemble : {text inside rest : List ℕ} → text ≡ opening keywords.Ensemble ++ inside → ReadsInside any vertical_ensemble_tree keywords.Ensemble inside rest → ReadsOne any vertical_frame_tree text rest
vertical_frame_of_ensemble e r = record { value = vertical_frame.Ensemble r.value; passes = refl; is = e ∙ r.is }

-- ---- conversions

pub parameter : {text a b c d rest : List ℕ} → ReadsFirst any text_tree text a → ReadsOne any number_tree a b → ReadsMaybe unit_passes unit_tree b c → ReadsEach any ident_tree c d → d ≡ 93 ∷ rest → ReadsInside parameter_passes parameter_tree keywords.Parameter text rest
parameter name value unit ids close = record {
  value = record { name = name.value; value = value.value; unit = unit.value; ids = ids.values };
  passes = any_units_pass unit.value unit.passes;
  is = whole keywords.Parameter _ _ name.is (also _ _ value.is (also _ _ unit.is (also _ _ ids.is (closed close))));
}

pub conversion : {text a b c d rest : List ℕ} → ReadsFirst any text_tree text a → ReadsOne any (named_tree keywords.Method) a b → ReadsEach parameter_passes parameter_tree b c → ReadsEach any ident_tree c d → d ≡ 93 ∷ rest → ReadsInside conversion_passes conversion_tree keywords.Conversion text rest
conversion name method parameters ids close = record {
  value = record { name = name.value; method = method.value; parameters = parameters.values; ids = ids.values };
  passes = all_pass parameter_passes parameter_units (λ a h. h) parameters.values parameters.passes;
  is = whole keywords.Conversion _ _ name.is (also _ _ method.is (also _ _ parameters.is (also _ _ ids.is (closed close))));
}
