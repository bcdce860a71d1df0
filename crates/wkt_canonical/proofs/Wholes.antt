-- Coordinate reference systems.
use Rattle.std.proofs.Common.{◌≡◌, ℕ, Bool, true, false, List, [], ◌∷◌, ◌++◌, ◌∙◌, ap, sym, refl, subst, length, map, append-nil}
use Rattle.std.specs.Prelude.{Option, Some, None, IfSome, is_some, ◌==◌}
use Rattle.std.specs.List.{flat_map}
use Rattle.std.specs.Option.{option_map_or}
use Rattle.std.proofs.lemmas.Bool.{and_parts, and_from, eq-eqb, eqb-true}
use Rattle.std.proofs.lemmas.List.{nil_from_length}
use Rattle.crs_part.specs.Slots.{ellipsoid_of, system_of, axes_of, common_unit_of}
use Rattle.crs_part.specs.declared.units.Unit.{Unit}
use Rattle.crs_part.specs.declared.datums.GeodeticFrame.{GeodeticFrame}
use Rattle.crs_part.specs.declared.datums.PrimeMeridian.{PrimeMeridian}
use Rattle.crs_part.specs.declared.systems.SystemKind.{SystemKind}
use Rattle.crs_part.specs.declared.systems.CoordSystem.{CoordSystem}
use Rattle.crs_part.specs.declared.systems.Axis.{Axis}
use Rattle.crs_part.specs.declared.crs.GeodeticKind.{GeodeticKind}
use Rattle.crs_part.specs.declared.crs.Geodetic.{Geodetic}
use Rattle.crs_part.specs.declared.crs.Projected.{Projected}
use Rattle.crs_part.specs.declared.crs.Vertical as verticals
use Rattle.crs_part.specs.declared.crs.Compound.{Compound}
use Rattle.crs_part.specs.declared.crs.Single.{Single}
use Rattle.crs_part.specs.declared.crs.Single.TheVariants as single
use Rattle.crs_part.specs.declared.crs.CrsParts.TheVariants as parts
use Rattle.crs_value.specs.Units.{any_units, angle_units, usage_units, frame_units, prime_meridian_units, axis_units, conversion_units, base_units}
use Rattle.crs_value.specs.Conditions.{has_size, may_be_of, may_be_projected, may_be_vertical, may_have_system, may_be_first, may_be_second, is_ellipsoidal_plane, is_cartesian_plane, has_sizes, has_own_sizes}
use Rattle.crs_value.specs.declared.broken.Condition.TheVariants.{C1, C2, C3, C4, C5, C6, C7, C8}
use Rattle.crs_value.specs.declared.broken.Whose.TheVariants.{First, Second, Whole}
use Rattle.crs_value.specs.Checking.{HasConditions}
use Rattle.wkt_grammar.specs.declared.table.Keyword.TheVariants as keywords
use Rattle.wkt_grammar.specs.Canon.{canon}
use Rattle.wkt_grammar.specs.Denotes.{base_keyword, geodetic_keyword}
use Rattle.wkt_grammar.specs.Runs.{listed}
use Rattle.wkt_grammar.specs.Trees.{maybe, named_tree, text_tree, ident_tree, value_tree, usage_tree, angle_unit_tree, geodetic_frame_tree, vertical_frame_tree, prime_meridian_tree, conversion_tree, base_tree, single_tree}
use Rattle.wkt_canonical.specs.declared.identifiers.Identifier.{Identifier}
use Rattle.wkt_canonical.specs.declared.crs.SeenSystem.{SeenSystem}
use Rattle.wkt_canonical.specs.declared.crs.Component.{Component}
use Rattle.wkt_canonical.specs.Reads.{ReadsFirst, ReadsOne, ReadsMaybe, ReadsEach, ReadsInside, ReadsText, ReadsIdentifiers, ReadsSystem, ReadsAxes, ReadsSingle, ReadsEnd, ReadsWhole, IsCanonicalOf, IsCanonical, any, beginning, opening}
use Rattle.wkt_canonical.specs.Tests.{all_positive, angle_unit_passes, usage_passes, frame_passes, prime_meridian_passes, conversion_passes, base_passes, AxesHold, Holds}
use Rattle.wkt_canonical.proofs.Runs.{Goes, closed, also, whole, root, behind_comma_is}
use Rattle.wkt_canonical.proofs.Nodes.{both_pass, all_pass, angle_units_pass, any_units_pass}

pub end : {text a b c rest : List ℕ} (first : Option Identifier) → ReadsEach usage_passes usage_tree text a → ReadsIdentifiers first a b → ReadsMaybe any (value_tree keywords.Remark) b c → c ≡ 93 ∷ rest → ReadsEnd first text rest
end first usages ids remark close =
    let g = also _ _ usages.is (also _ _ ids.is (also _ _ remark.is (closed close))) in
    record {
      usages = usages.values;
      units_pass = all_pass usage_passes usage_units (λ a h. h) usages.values usages.passes;
      ids = ids.values;
      first_is = ids.first_is;
      remark = remark.value;
      is = g.is;
    }

ends : {first : Option Identifier} {text rest : List ℕ} (e : ReadsEnd first text rest) → Goes (map usage_tree e.usages ∷ map ident_tree e.ids ∷ maybe (value_tree keywords.Remark) e.remark ∷ []) text rest
ends e = record { is = e.is }

-- ---- conditions

single_holds : (s : Single) → AxesHold (system_of s).kind (system_of s).dimension (axes_of s) (common_unit_of s) → may_have_system s ≡ true → has_sizes s ≡ true → Holds s
single_holds s a may sizes C1 = eq-eqb _ _ a.count
single_holds s a may sizes C2 = may
single_holds s a may sizes C3 = a.have_units
single_holds s a may sizes C4 = a.have_orders
single_holds s a may sizes C5 = a.units_fit
single_holds s a may sizes C6 = refl
single_holds s a may sizes C7 = sizes
single_holds s a may sizes C8 = a.have_meridians

prime_meridian_pass : (o : Option PrimeMeridian) → option_map_or prime_meridian_passes o true ≡ true → all_positive (option_map_or prime_meridian_units o []) ≡ true
prime_meridian_pass None h = refl
prime_meridian_pass (Some m) h = h

axes_of_system : {system : SystemKind} {dimension : ℕ} (s : CoordSystem) (axes : List Axis) (common : Option Unit) → s.kind ≡ system → s.dimension ≡ dimension → AxesHold system dimension axes common → AxesHold s.kind s.dimension axes common
axes_of_system {system} s axes common k d h = subst (λ k. AxesHold k s.dimension axes common) (sym k) (subst (λ d. AxesHold system d axes common) (sym d) h)

frame_holds : (frame : GeodeticFrame) → frame_passes frame ≡ true → (has_size (ellipsoid_of frame) ≡ true) × (all_positive (frame_units frame) ≡ true)
frame_holds frame h = and_parts (has_size (ellipsoid_of frame)) (all_positive (frame_units frame)) h

-- ---- reference systems of one part

pub geodetic : {content text a b c d e rest : List ℕ} (kind : GeodeticKind) (system : SystemKind) (dimension : ℕ) (component : Component) → component.seen.name.now ≡ content → ReadsText content text a → ReadsOne frame_passes geodetic_frame_tree a b → ReadsMaybe prime_meridian_passes prime_meridian_tree b c → ReadsSystem system dimension c d → may_be_of kind system dimension ≡ true → ReadsAxes system dimension d e → ReadsEnd component.seen.identifier e rest → component.may_be_first ≡ is_ellipsoidal_plane system dimension → component.may_be_second ≡ false → ReadsSingle component (beginning (geodetic_keyword kind) ++ text) rest
geodetic kind system dimension component same name datum meridian s may axes end is_plane second =
    let v : Geodetic = record { kind = kind; name = name.value; datum = datum.value; prime_meridian = meridian.value; system = s.value; axes = axes.value; unit = axes.common; usages = end.usages; ids = end.ids; remark = end.remark } in
    let f = frame_holds datum.value datum.passes in
    let ms = option_map_or prime_meridian_units meridian.value [] in
    let xs = flat_map axis_units (listed axes.value) in
    let us = option_map_or any_units axes.common [] in
    let fs = frame_units datum.value in
    let ws = flat_map usage_units end.usages in
    let units = both_pass ((fs ++ ms) ++ xs) us (both_pass (fs ++ ms) xs (both_pass fs ms f.1 (prime_meridian_pass meridian.value meridian.passes)) axes.hold.units) (any_units_pass axes.common axes.passes) in
    let positive = both_pass (((fs ++ ms) ++ xs) ++ us) ws units end.units_pass in
    record {
      value = single.Geodetic v;
      holds = single_holds (single.Geodetic v) (axes_of_system s.value (listed axes.value) axes.common s.kind_is s.dimension_is axes.hold) (rw s.kind_is (rw s.dimension_is may)) (and_from _ _ f.0 positive);
      first = rw s.kind_is (rw s.dimension_is (sym is_plane));
      second = sym second;
      seen = record { name = name.content_is ∙ sym same; identifier = end.first_is };
      is = root (geodetic_keyword kind) (text_tree name.value) _ name.is (also _ _ datum.is (also _ _ meridian.is (also _ _ s.is (also _ _ axes.is (also _ _ axes.common_is (ends end))))));
    }

pub base : {text a b c d e rest : List ℕ} (kind : GeodeticKind) → ReadsFirst any text_tree text a → ReadsOne frame_passes geodetic_frame_tree a b → ReadsMaybe prime_meridian_passes prime_meridian_tree b c → ReadsMaybe angle_unit_passes angle_unit_tree c d → ReadsEach any ident_tree d e → e ≡ 93 ∷ rest → ReadsInside base_passes base_tree (base_keyword kind) text rest
base kind name datum meridian unit ids close =
    let f = frame_holds datum.value datum.passes in
    let fs = frame_units datum.value in
    let ms = option_map_or prime_meridian_units meridian.value [] in
    let us = option_map_or angle_units unit.value [] in
    record {
      value = record { kind = kind; name = name.value; datum = datum.value; prime_meridian = meridian.value; unit = unit.value; ids = ids.values };
      passes = and_from _ _ f.0 (both_pass (fs ++ ms) us (both_pass fs ms f.1 (prime_meridian_pass meridian.value meridian.passes)) (angle_units_pass unit.value unit.passes));
      is = whole (base_keyword kind) _ _ name.is (also _ _ datum.is (also _ _ meridian.is (also _ _ unit.is (also _ _ ids.is (closed close)))));
    }

pub base_came : {text inside rest : List ℕ} (kind : GeodeticKind) → text ≡ opening (base_keyword kind) ++ inside → ReadsInside base_passes base_tree (base_keyword kind) inside rest → ReadsOne base_passes base_tree text rest
base_came kind e r = record { value = r.value; passes = r.passes; is = e ∙ r.is }

pub projected : {content text a b c d e rest : List ℕ} (system : SystemKind) (dimension : ℕ) (component : Component) → component.seen.name.now ≡ content → ReadsText content text a → ReadsOne base_passes base_tree a b → ReadsOne conversion_passes conversion_tree b c → ReadsSystem system dimension c d → may_be_projected system dimension ≡ true → ReadsAxes system dimension d e → ReadsEnd component.seen.identifier e rest → component.may_be_first ≡ is_cartesian_plane system dimension → component.may_be_second ≡ false → ReadsSingle component (beginning keywords.ProjectedCrs ++ text) rest
projected system dimension component same name base conversion s may axes end is_plane second =
    let v : Projected = record { name = name.value; base = base.value; conversion = conversion.value; system = s.value; axes = axes.value; unit = axes.common; usages = end.usages; ids = end.ids; remark = end.remark } in
    let b = and_parts (has_size (ellipsoid_of base.value.datum)) (all_positive (base_units base.value)) base.passes in
    let bs = base_units base.value in
    let cs = conversion_units conversion.value in
    let xs = flat_map axis_units (listed axes.value) in
    let us = option_map_or any_units axes.common [] in
    let ws = flat_map usage_units end.usages in
    let units = both_pass ((bs ++ cs) ++ xs) us (both_pass (bs ++ cs) xs (both_pass bs cs b.1 conversion.passes) axes.hold.units) (any_units_pass axes.common axes.passes) in
    let positive = both_pass (((bs ++ cs) ++ xs) ++ us) ws units end.units_pass in
    record {
      value = single.Projected v;
      holds = single_holds (single.Projected v) (axes_of_system s.value (listed axes.value) axes.common s.kind_is s.dimension_is axes.hold) (rw s.kind_is (rw s.dimension_is may)) (and_from _ _ b.0 positive);
      first = rw s.kind_is (rw s.dimension_is (sym is_plane));
      second = sym second;
      seen = record { name = name.content_is ∙ sym same; identifier = end.first_is };
      is = root keywords.ProjectedCrs (text_tree name.value) _ name.is (also _ _ base.is (also _ _ conversion.is (also _ _ s.is (also _ _ axes.is (also _ _ axes.common_is (ends end))))));
    }

pub vertical : {content text a b c d e rest : List ℕ} (system : SystemKind) (dimension : ℕ) (component : Component) → component.seen.name.now ≡ content → ReadsText content text a → ReadsOne any vertical_frame_tree a b → ReadsSystem system dimension b c → may_be_vertical system dimension ≡ true → ReadsAxes system dimension c d → ReadsEach any (named_tree keywords.GeoidModel) d e → ReadsEnd component.seen.identifier e rest → component.may_be_first ≡ false → component.may_be_second ≡ true → ReadsSingle component (beginning keywords.VerticalCrs ++ text) rest
vertical system dimension component same name datum s may axes models end first second =
    let v : verticals.Vertical = record { name = name.value; datum = datum.value; system = s.value; axes = axes.value; unit = axes.common; geoid_models = models.values; usages = end.usages; ids = end.ids; remark = end.remark } in
    let xs = flat_map axis_units (listed axes.value) in
    let us = option_map_or any_units axes.common [] in
    let ws = flat_map usage_units end.usages in
    let positive = both_pass (xs ++ us) ws (both_pass xs us axes.hold.units (any_units_pass axes.common axes.passes)) end.units_pass in
    record {
      value = single.Vertical v;
      holds = single_holds (single.Vertical v) (axes_of_system s.value (listed axes.value) axes.common s.kind_is s.dimension_is axes.hold) (rw s.kind_is (rw s.dimension_is may)) positive;
      first = sym first;
      second = sym second;
      seen = record { name = name.content_is ∙ sym same; identifier = end.first_is };
      is = root keywords.VerticalCrs (text_tree name.value) _ name.is (also _ _ datum.is (also _ _ s.is (also _ _ axes.is (also _ _ axes.common_is (also _ _ models.is (ends end))))));
    }

pub at_front : {component : Component} {text rest : List ℕ} (front inside : List ℕ) → text ≡ front ++ inside → ReadsSingle component (front ++ inside) rest → ReadsSingle component text rest
at_front {component} {rest = rest} front inside e r = subst (λ t. ReadsSingle component t rest) (sym e) r

-- ---- the whole reference system

single_conditions : (s : Single) → Holds s → HasConditions (parts.Single s)
single_conditions s h First condition = refl
single_conditions s h Second condition = refl
single_conditions s h Whole condition = h condition

compound_conditions : (v : Compound) → Holds v.first → Holds v.second → may_be_first v.first ≡ true → may_be_second v.second ≡ true → has_own_sizes v ≡ true → HasConditions (parts.Compound v)
compound_conditions v a b f s u First condition = a condition
compound_conditions v a b f s u Second condition = b condition
compound_conditions v a b f s u Whole C1 = refl
compound_conditions v a b f s u Whole C2 = refl
compound_conditions v a b f s u Whole C3 = refl
compound_conditions v a b f s u Whole C4 = refl
compound_conditions v a b f s u Whole C5 = refl
compound_conditions v a b f s u Whole C6 = rw f s
compound_conditions v a b f s u Whole C7 = u
compound_conditions v a b f s u Whole C8 = refl

pub compound : {content text a b c d e rest : List ℕ} {first second : Component} (seen : SeenSystem) → seen.name.now ≡ content → ReadsText content text a → a ≡ 44 ∷ b → ReadsSingle first b c → c ≡ 44 ∷ d → ReadsSingle second d e → first.may_be_first ≡ true → second.may_be_second ≡ true → ReadsEnd seen.identifier e rest → ReadsWhole seen (beginning keywords.CompoundCrs ++ text) rest
compound seen same name comma first comma' second f s end =
    let v : Compound = record { name = name.value; first = first.value; second = second.value; usages = end.usages; ids = end.ids; remark = end.remark } in
    record {
      value = parts.Compound v;
      conditions = compound_conditions v first.holds second.holds (first.first ∙ f) (second.second ∙ s) end.units_pass;
      seen_of = record { name = name.content_is ∙ sym same; identifier = end.first_is };
      is = root keywords.CompoundCrs (text_tree name.value) _ name.is (also _ _ (behind_comma_is (single_tree first.value) _ comma first.is) (also _ _ (behind_comma_is (single_tree second.value) _ comma' second.is) (ends end)));
    }

pub whole_of_single : {component : Component} {text rest : List ℕ} → ReadsSingle component text rest → ReadsWhole component.seen text rest
whole_of_single r = record { value = parts.Single r.value; conditions = single_conditions r.value r.holds; seen_of = r.seen; is = r.is }

pub whole_of_compound : {seen : SeenSystem} {text inside rest : List ℕ} → text ≡ beginning keywords.CompoundCrs ++ inside → ReadsWhole seen (beginning keywords.CompoundCrs ++ inside) rest → ReadsWhole seen text rest
whole_of_compound {seen} {rest = rest} e r = subst (λ t. ReadsWhole seen t rest) (sym e) r

pub all_of_it : {seen : SeenSystem} {text rest : List ℕ} → ReadsWhole seen text rest → rest ≡ [] → IsCanonicalOf seen text
all_of_it r e = record { value = r.value; conditions = r.conditions; seen_of = r.seen_of; is = r.is ∙ (ap (λ l. canon r.value ++ l) e ∙ append-nil (canon r.value)) }

pub is_canonical : (found : Option SeenSystem) (text : List ℕ) → IfSome found (λ seen. IsCanonicalOf seen text) → is_some found ≡ true → IsCanonical text
is_canonical (Some seen) text r h = record { value = r.value; conditions = r.conditions; is = r.is }
is_canonical None text r h = absurd (cc)

pub empty_is : (xs : List ℕ) (b : Bool) → b ≡ (length xs == 0) → b ≡ true → xs ≡ []
empty_is xs b e h = nil_from_length xs (eqb-true (length xs) 0 (sym e ∙ h))
