-- Coordinate systems and their axes.
use Rattle.std.proofs.Common.{◌≡◌, ℕ, zero, suc, ◌+◌, ◌<◌, Bool, true, false, List, [], ◌∷◌, ◌++◌, ◌∙◌, ap, sym, refl, arith, subst}
use mathlib.Core.Bool.{beq}
use Rattle.std.specs.Prelude.{Option, Some, None, not, ◌||◌, is_some, is_none}
use Rattle.std.specs.List.{list_all, enumerate_from}
use Rattle.std.specs.Option.{option_map_or, option_or}
use Rattle.std.proofs.lemmas.Bool.{eq-eqb}
use Rattle.std.proofs.lemmas.Fmt.{decimal_digit}
use Rattle.std.proofs.Math.Bool.{or-true}
use Rattle.crs_part.specs.declared.units.Unit.{Unit}
use Rattle.crs_part.specs.declared.systems.SystemKind.{SystemKind}
use Rattle.crs_part.specs.declared.systems.Direction.{Direction}
use Rattle.crs_part.specs.declared.systems.Meridian.{Meridian}
use Rattle.crs_part.specs.declared.systems.Axis.{Axis}
use Rattle.crs_value.specs.Units.{any_units, meridian_units, axis_units}
use Rattle.crs_part.specs.Words.{system_word, direction_word}
use Rattle.crs_value.specs.Conditions.{takes_unit, axis_fits, unit_fits, is_order, is_north_or_south}
use Rattle.wkt_grammar.specs.declared.table.Keyword.TheVariants as keywords
use Rattle.wkt_grammar.specs.Render.{render}
use Rattle.wkt_grammar.specs.Trees.{one, text_tree, number_tree, kind_tree, count_tree, direction_tree, ident_tree, angle_unit_tree, meridian_tree, axis_tree}
use Rattle.crs_value.specs.declared.kinds.UnitKind.{UnitKind}
use Rattle.wkt_canonical.specs.Reads.{ReadsFirst, ReadsOne, ReadsEach, ReadsInside, ReadsUnit, ReadsDigit, ReadsSystem, ReadsMeridian, ReadsOrder, ReadsAxisUnit, ReadsCommonUnit, ReadsAxis, ReadsAxes, any, opening}
use Rattle.wkt_canonical.specs.Tests.{all_positive, angle_unit_passes, meridian_passes, FitsEach, IsAxis, AxesHold}
use Rattle.wkt_canonical.proofs.Runs.{closed, also, whole, behind_comma_is, no_run, two_runs}
use Rattle.wkt_canonical.proofs.Nodes.{both_pass, any_units_pass}

digit_is : (n : ℕ) {text rest : List ℕ} → ReadsDigit n text rest → text ≡ render (count_tree n) ++ rest
digit_is n {text} {rest} r = r.is ∙ ap (λ (l : List ℕ). l ++ rest) (sym (decimal_digit n r.small))

pub system : {text inside a b c d rest : List ℕ} (kind : SystemKind) (dimension : ℕ) → text ≡ opening keywords.CoordinateSystem ++ inside → inside ≡ system_word kind ++ a → a ≡ 44 ∷ b → ReadsDigit dimension b c → ReadsEach any ident_tree c d → d ≡ 93 ∷ rest → ReadsSystem kind dimension text rest
system kind dimension e k comma digit ids close =
    record {
      value = record { kind = kind; dimension = dimension; ids = ids.values; count = omega (arith, digit.small) };
      kind_is = refl;
      dimension_is = refl;
      is = e ∙ whole keywords.CoordinateSystem (kind_tree kind) _ k (also _ _ (behind_comma_is (count_tree dimension) _ comma (digit_is dimension digit)) (also _ _ ids.is (closed close)));
    }

pub meridian : {text a b rest : List ℕ} → ReadsFirst any number_tree text a → ReadsOne angle_unit_passes angle_unit_tree a b → b ≡ 93 ∷ rest → ReadsInside meridian_passes meridian_tree keywords.Meridian text rest
meridian longitude unit close = record {
  value = record { longitude = longitude.value; unit = unit.value };
  passes = unit.passes;
  is = whole keywords.Meridian _ _ longitude.is (also _ _ unit.is (closed close));
}

pub allowed_meridian : {text rest : List ℕ} (direction : Direction) → ReadsOne meridian_passes meridian_tree text rest → is_north_or_south direction ≡ true → ReadsMeridian direction text rest
allowed_meridian direction r h = record { value = Some r.value; passes = r.passes; allowed = h; is = r.is }

pub no_meridian : (direction : Direction) (text : List ℕ) → ReadsMeridian direction text text
no_meridian direction text = record { value = None; passes = refl; allowed = refl; is = no_run text }

pub order : {text inside a rest : List ℕ} (k n : ℕ) → text ≡ opening keywords.Order ++ inside → ReadsDigit n inside a → a ≡ 93 ∷ rest → n ≡ k + 1 → ReadsOrder k true text rest
order k n e digit close same =
    record {
      value = Some (record { position = n; count = omega (arith, digit.small) });
      ordered = λ h. eq-eqb n (k + 1) same;
      unordered = λ h. absurd (cc);
      is = e ∙ whole keywords.Order (count_tree n) _ (digit_is n digit) (closed close);
    }

pub no_order : (k : ℕ) (text : List ℕ) → ReadsOrder k false text text
no_order k text = record { value = None; ordered = λ h. absurd (cc); unordered = λ h. refl; is = no_run text }

pub axis_unit : {text rest : List ℕ} (system : SystemKind) (k : ℕ) (which : UnitKind) → ReadsUnit which text rest → takes_unit system k which ≡ true → ReadsAxisUnit system k true text rest
axis_unit system k which r h = record {
  value = Some r.value;
  passes = r.passes;
  with_unit = λ t. (refl, ap (takes_unit system k) r.kind ∙ h);
  without_unit = λ f. absurd (cc);
  is = r.is;
}

pub no_axis_unit : (system : SystemKind) (k : ℕ) (text : List ℕ) → ReadsAxisUnit system k false text text
no_axis_unit system k text = record { value = None; passes = refl; with_unit = λ t. absurd (cc); without_unit = λ f. refl; is = no_run text }

pub axis : {text inside a b c d e f g rest : List ℕ} (system : SystemKind) (k : ℕ) (direction : Direction) (has_order has_unit : Bool) → text ≡ opening keywords.Axis ++ inside → ReadsFirst any text_tree inside a → a ≡ 44 ∷ b → b ≡ direction_word direction ++ c → ReadsMeridian direction c d → ReadsOrder k has_order d e → ReadsAxisUnit system k has_unit e f → ReadsEach any ident_tree f g → g ≡ 93 ∷ rest → ReadsAxis system k has_order has_unit text rest
axis system k direction has_order has_unit e name comma word meridian order unit ids close =
    record {
      value = record { name = name.value; direction = direction; meridian = meridian.value; order = order.value; unit = unit.value; ids = ids.values };
      axis = record {
        with_unit = unit.with_unit;
        without_unit = unit.without_unit;
        ordered = order.ordered;
        unordered = order.unordered;
        meridian = meridian.allowed;
        units = both_pass (option_map_or meridian_units meridian.value []) (option_map_or any_units unit.value []) (meridian_units_pass meridian.value meridian.passes) (any_units_pass unit.value unit.passes);
      };
      is = e ∙ whole keywords.Axis _ _ name.is (also _ _ (behind_comma_is (direction_tree direction) _ comma word) (also _ _ meridian.is (also _ _ order.is (also _ _ unit.is (also _ _ ids.is (closed close))))));
    }
  where
    meridian_units_pass : (o : Option Meridian) → option_map_or meridian_passes o true ≡ true → all_positive (option_map_or meridian_units o []) ≡ true
    meridian_units_pass None h = refl
    meridian_units_pass (Some m) h = h

-- ---- all axes of a system

-- the axis has a unit that fits it, its own or the common one
record Stands (system : SystemKind) (common : Option Unit) (k : ℕ) (axis : Axis) : Type 0 where
  pub fits : axis_fits system common k axis ≡ true
  pub has : (is_some axis.unit || is_some common) ≡ true

own_stands : (system : SystemKind) (own common : Option Unit) (k : ℕ) → is_some own ≡ true → option_map_or (unit_fits system k) own true ≡ true → (option_map_or (unit_fits system k) (option_or own common) true ≡ true) × ((is_some own || is_some common) ≡ true)
own_stands system (Some u) common k h f = (f, refl)
own_stands system None common k h f = absurd (cc)

common_stands : (system : SystemKind) (own common : Option Unit) (k : ℕ) → own ≡ None → is_some common ≡ true → option_map_or (unit_fits system k) common true ≡ true → (option_map_or (unit_fits system k) (option_or own common) true ≡ true) × ((is_some own || is_some common) ≡ true)
common_stands system None common k e h f = (f, h)
common_stands system (Some u) common k e h f = absurd (cc)

stands : {system : SystemKind} {k dimension : ℕ} {has_order has_unit : Bool} {text rest : List ℕ} (axis : Axis) → IsAxis system k has_order has_unit axis → (c : ReadsCommonUnit system dimension has_unit text rest) → k < 3 → k < dimension → Stands system c.value k axis
stands {system} {k} {dimension} {has_order} {has_unit} {text} {rest} axis h c small below = by has_unit refl
  where
    by : (b : Bool) → has_unit ≡ b → Stands system c.value k axis
    by true e = let w = h.with_unit e in let s = own_stands system axis.unit c.value k w.0 w.1 in record { fits = s.0; has = s.1 }
    by false e = let f = c.fits e in let s = common_stands system axis.unit c.value k (h.without_unit e) f.0 (f.1 k small below) in record { fits = s.0; has = s.1 }

either : (a b : Bool) (has : Bool) → (has ≡ false → a ≡ true) → (has ≡ true → b ≡ true) → (a || b) ≡ true
either a b true f g = rw (g refl) (or-true a)
either a b false f g = rw (f refl) refl

abbrev none_ordered : List Axis → Bool
none_ordered axes = list_all (λ axis. is_none axis.order) axes

abbrev all_ordered : List Axis → Bool
all_ordered axes = list_all (λ p. is_order p.0 p.1.order) (enumerate_from 0 axes)

one_axis : {system : SystemKind} {has_order has_unit : Bool} (common : Option Unit) (x : Axis) → IsAxis system 0 has_order has_unit x → Stands system common 0 x → AxesHold system 1 (x ∷ []) common
one_axis {system} {has_order} common x a s = record {
  count = refl;
  have_units = rw s.has refl;
  have_orders = either (none_ordered (x ∷ [])) (all_ordered (x ∷ [])) has_order (λ h. rw (a.unordered h) refl) (λ h. rw (a.ordered h) refl);
  units_fit = rw s.fits refl;
  have_meridians = rw a.meridian refl;
  units = both_pass (axis_units x) [] a.units refl;
}

two_axes : {system : SystemKind} {has_order has_unit : Bool} (common : Option Unit) (x y : Axis) → IsAxis system 0 has_order has_unit x → IsAxis system 1 has_order has_unit y → Stands system common 0 x → Stands system common 1 y → AxesHold system 2 (x ∷ y ∷ []) common
two_axes {system} {has_order} common x y a b s t = record {
  count = refl;
  have_units = rw s.has (rw t.has refl);
  have_orders = either (none_ordered (x ∷ y ∷ [])) (all_ordered (x ∷ y ∷ [])) has_order (λ h. rw (a.unordered h) (rw (b.unordered h) refl)) (λ h. rw (a.ordered h) (rw (b.ordered h) refl));
  units_fit = rw s.fits (rw t.fits refl);
  have_meridians = rw a.meridian (rw b.meridian refl);
  units = both_pass (axis_units x) (axis_units y ++ []) a.units (both_pass (axis_units y) [] b.units refl);
}

three_axes : {system : SystemKind} {has_order has_unit : Bool} (common : Option Unit) (x y z : Axis) → IsAxis system 0 has_order has_unit x → IsAxis system 1 has_order has_unit y → IsAxis system 2 has_order has_unit z → Stands system common 0 x → Stands system common 1 y → Stands system common 2 z → AxesHold system 3 (x ∷ y ∷ z ∷ []) common
three_axes {system} {has_order} common x y z a b c s t u = record {
  count = refl;
  have_units = rw s.has (rw t.has (rw u.has refl));
  have_orders = either (none_ordered (x ∷ y ∷ z ∷ [])) (all_ordered (x ∷ y ∷ z ∷ [])) has_order (λ h. rw (a.unordered h) (rw (b.unordered h) (rw (c.unordered h) refl))) (λ h. rw (a.ordered h) (rw (b.ordered h) (rw (c.ordered h) refl)));
  units_fit = rw s.fits (rw t.fits (rw u.fits refl));
  have_meridians = rw a.meridian (rw b.meridian (rw c.meridian refl));
  units = both_pass (axis_units x) (axis_units y ++ (axis_units z ++ [])) a.units (both_pass (axis_units y) (axis_units z ++ []) b.units (both_pass (axis_units z) [] c.units refl));
}

pub axes_of_one : {system : SystemKind} {dimension : ℕ} {has_order has_unit : Bool} {text mid rest : List ℕ} → dimension ≡ 1 → ReadsAxis system 0 has_order has_unit text mid → ReadsCommonUnit system dimension has_unit mid rest → ReadsAxes system dimension text rest
axes_of_one {system} n a c = record {
  value = record { first = a.value; others = [] };
  common = c.value;
  hold = subst (λ d. AxesHold system d (a.value ∷ []) c.value) (sym n) (one_axis c.value a.value a.axis (stands a.value a.axis c (omega arith) (omega (arith, n))));
  passes = c.passes;
  mid = _;
  is = a.is;
  common_is = c.is;
}

pub axes_of_two : {system : SystemKind} {dimension : ℕ} {has_order has_unit : Bool} {text a mid rest : List ℕ} → dimension ≡ 2 → ReadsAxis system 0 has_order has_unit text a → ReadsAxis system 1 has_order has_unit a mid → ReadsCommonUnit system dimension has_unit mid rest → ReadsAxes system dimension text rest
axes_of_two {system} n a b c =
    record {
      value = record { first = a.value; others = b.value ∷ [] };
      common = c.value;
      hold = subst (λ d. AxesHold system d (a.value ∷ b.value ∷ []) c.value) (sym n) (two_axes c.value a.value b.value a.axis b.axis (stands a.value a.axis c (omega arith) (omega (arith, n))) (stands b.value b.axis c (omega arith) (omega (arith, n))));
      passes = c.passes;
      mid = _;
      is = two_runs (one (axis_tree a.value)) (one (axis_tree b.value)) _ a.is b.is;
      common_is = c.is;
    }

pub axes_of_three : {system : SystemKind} {dimension : ℕ} {has_order has_unit : Bool} {text a b mid rest : List ℕ} → dimension ≡ 3 → ReadsAxis system 0 has_order has_unit text a → ReadsAxis system 1 has_order has_unit a b → ReadsAxis system 2 has_order has_unit b mid → ReadsCommonUnit system dimension has_unit mid rest → ReadsAxes system dimension text rest
axes_of_three {system} n a b c common =
    record {
      value = record { first = a.value; others = b.value ∷ c.value ∷ [] };
      common = common.value;
      hold = subst (λ d. AxesHold system d (a.value ∷ b.value ∷ c.value ∷ []) common.value) (sym n)
          (three_axes common.value a.value b.value c.value a.axis b.axis c.axis (stands a.value a.axis common (omega arith) (omega (arith, n))) (stands b.value b.axis common (omega arith) (omega (arith, n))) (stands c.value c.axis common (omega arith) (omega (arith, n))));
      passes = common.passes;
      mid = _;
      is = two_runs (one (axis_tree a.value)) (axis_tree b.value ∷ axis_tree c.value ∷ []) _ a.is (two_runs (one (axis_tree b.value)) (one (axis_tree c.value)) _ b.is c.is);
      common_is = common.is;
    }

-- ---- the common unit

pub no_common_unit : (system : SystemKind) (dimension : ℕ) (text : List ℕ) (has_unit : Bool) → has_unit ≡ true → ReadsCommonUnit system dimension has_unit text text
no_common_unit system dimension text has_unit h = record { value = None; passes = refl; fits = λ f. absurd (cc); is = no_run text }

pub any_common_unit : {text rest : List ℕ} (system : SystemKind) (dimension : ℕ) (has_unit : Bool) (which : UnitKind) → ReadsUnit which text rest → has_unit ≡ true → ReadsCommonUnit system dimension has_unit text rest
any_common_unit system dimension has_unit which r h = record { value = Some r.value; passes = r.passes; fits = λ f. absurd (cc); is = r.is }

pub fitting_common_unit : {text rest : List ℕ} (system : SystemKind) (dimension : ℕ) (has_unit : Bool) (which : UnitKind) → ReadsUnit which text rest → FitsEach system dimension which → ReadsCommonUnit system dimension has_unit text rest
fitting_common_unit system dimension has_unit which r h = record {
  value = Some r.value;
  passes = r.passes;
  fits = λ f. (refl, λ k small below. ap (takes_unit system k) r.kind ∙ h k small below);
  is = r.is;
}

pub fits_each : (system : SystemKind) (dimension : ℕ) (which : UnitKind) → takes_unit system 0 which ≡ true → (1 < dimension → takes_unit system 1 which ≡ true) → (2 < dimension → takes_unit system 2 which ≡ true) → FitsEach system dimension which
fits_each system dimension which a b c zero small below = a
fits_each system dimension which a b c (suc zero) small below = b below
fits_each system dimension which a b c (suc (suc zero)) small below = c below
fits_each system dimension which a b c (suc (suc (suc k))) small below = absurd (no small)
  where
    no : suc (suc (suc k)) < 3 → ⊥
    no h = omega arith

same_truth : (a b : Bool) → not (beq a b) ≡ false → a ≡ b
same_truth true true h = refl
same_truth true false h = absurd (cc)
same_truth false true h = absurd (cc)
same_truth false false h = refl

pub as_before : {system : SystemKind} {k : ℕ} {text rest : List ℕ} (order_too unit_too has_order has_unit : Bool) → not (beq order_too has_order) ≡ false → not (beq unit_too has_unit) ≡ false → ReadsAxis system k order_too unit_too text rest → ReadsAxis system k has_order has_unit text rest
as_before {system} {k} {text} {rest} order_too unit_too has_order has_unit h g r =
    subst (λ b. ReadsAxis system k has_order b text rest) (same_truth unit_too has_unit g) (subst (λ b. ReadsAxis system k b unit_too text rest) (same_truth order_too has_order h) r)
