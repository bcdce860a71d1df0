-- The rules, and what a reference system has that breaks one.
use Rattle.std.specs.Prelude.{ℕ, Bool, List, [], ◌∷◌, Option, Some, None, codes}
use Rattle.std.specs.Option.{option_or, is_some}
use Rattle.crs_part.specs.declared.crs.Single.{Single}
use Rattle.crs_part.specs.declared.crs.Compound.{Compound}
use Rattle.crs_part.specs.declared.crs.CrsParts.{CrsParts}
use Rattle.crs_part.specs.declared.crs.CrsParts.TheVariants as whole
use Rattle.crs_exact.specs.Parts.{usages_of}
use Rattle.crs_conversion.specs.Angle.{angle}
use Rattle.crs_conversion.specs.FalseUnit.{false_unit}
use Rattle.crs_conversion.specs.Operation.{operation}
use Rattle.crs_conversion.specs.Packed.{packed}
use Rattle.crs_conversion.specs.Parallels.{parallels}
use Rattle.crs_conversion.specs.Quantity.{quantity}
use Rattle.crs_conversion.specs.Radian.{radian}
use Rattle.crs_conversion.specs.Scale.{scale}
use Rattle.crs_meridians.specs.Away.{away}
use Rattle.crs_meridians.specs.Meridian.{meridian}
use Rattle.crs_meridians.specs.Zone.{zone}
use Rattle.crs_names.specs.declared.odd.Seek.TheVariants as seek
use Rattle.crs_names.specs.Nodes.{all_of_single, whole_of_compound}
use Rattle.crs_names.specs.Odd.{first_odd}
use Rattle.crs_sense.specs.declared.rule.Rule.{Rule}
use Rattle.crs_sense.specs.declared.rule.Rule.TheVariants as the
use Rattle.crs_sense.specs.Accuracy.{accuracy}
use Rattle.crs_sense.specs.Axes.{axes}
use Rattle.crs_sense.specs.AxisName.{axis_name}
use Rattle.crs_sense.specs.Box.{boxes}
use Rattle.crs_sense.specs.Ellipsoid.{ellipsoid}
use Rattle.crs_sense.specs.Figure.{figure}
use Rattle.crs_sense.specs.Height.{height}
use Rattle.crs_sense.specs.Prime.{prime}
use Rattle.crs_sense.specs.UnitName.{unit_name}

-- the name that is printed
abbrev pub rule_name : Rule → List ℕ
rule_name the.Accuracy = codes "accuracy"
rule_name the.Angle = codes "angle"
rule_name the.Away = codes "away"
rule_name the.Axes = codes "axes"
rule_name the.AxisName = codes "axisname"
rule_name the.Box = codes "box"
rule_name the.Packed = codes "dms"
rule_name the.Ellipsoid = codes "ellipsoid"
rule_name the.FalseUnit = codes "falseunit"
rule_name the.Figure = codes "figure"
rule_name the.Height = codes "height"
rule_name the.Key = codes "key"
rule_name the.Meridian = codes "meridian"
rule_name the.Name = codes "name"
rule_name the.Operation = codes "operation"
rule_name the.Parallels = codes "parallels"
rule_name the.Prime = codes "primem"
rule_name the.Quantity = codes "quantity"
rule_name the.Radian = codes "radian"
rule_name the.Scale = codes "scale"
rule_name the.Unit = codes "unit"
rule_name the.UnitName = codes "unitname"
rule_name the.Zone = codes "zone"

-- all rules, by name
abbrev pub rules_listed : List Rule
rules_listed = the.Accuracy ∷ the.Angle ∷ the.Away ∷ the.Axes ∷ the.AxisName ∷ the.Box ∷ the.Packed ∷ the.Ellipsoid ∷ the.FalseUnit ∷ the.Figure ∷ the.Height ∷ the.Key ∷ the.Meridian ∷ the.Name ∷ the.Operation ∷ the.Parallels ∷ the.Prime ∷ the.Quantity ∷ the.Radian ∷ the.Scale ∷ the.Unit ∷ the.UnitName ∷ the.Zone ∷ []

-- the sentence about what a system of one part has that breaks the rule
abbrev pub found_in : Rule → Single → Option (List ℕ)
found_in the.Accuracy crs = accuracy crs
found_in the.Angle crs = angle crs
found_in the.Away crs = away crs
found_in the.Axes crs = axes crs
found_in the.AxisName crs = axis_name crs
found_in the.Box crs = boxes (usages_of crs)
found_in the.Packed crs = packed crs
found_in the.Ellipsoid crs = ellipsoid crs
found_in the.FalseUnit crs = false_unit crs
found_in the.Figure crs = figure crs
found_in the.Height crs = height crs
found_in the.Key crs = first_odd seek.Ids (all_of_single crs [])
found_in the.Meridian crs = meridian crs
found_in the.Name crs = first_odd seek.Names (all_of_single crs [])
found_in the.Operation crs = operation crs
found_in the.Parallels crs = parallels crs
found_in the.Prime crs = prime crs
found_in the.Quantity crs = quantity crs
found_in the.Radian crs = radian crs
found_in the.Scale crs = scale crs
found_in the.Unit crs = first_odd seek.Units (all_of_single crs [])
found_in the.UnitName crs = unit_name crs
found_in the.Zone crs = zone crs

-- about what a compound has, apart from its components
abbrev pub found_in_whole : Rule → Compound → Option (List ℕ)
found_in_whole the.Box crs = boxes crs.usages
found_in_whole the.Key crs = first_odd seek.Ids (whole_of_compound crs [])
found_in_whole the.Name crs = first_odd seek.Names (whole_of_compound crs [])
found_in_whole the.Unit crs = first_odd seek.Units (whole_of_compound crs [])
found_in_whole _ crs = None

-- of the first component that has it, or else of the whole
abbrev pub found_in_both : Rule → Compound → Option (List ℕ)
found_in_both rule crs = option_or (found_in rule crs.first) (option_or (found_in rule crs.second) (found_in_whole rule crs))

abbrev pub found : Rule → CrsParts → Option (List ℕ)
found rule (whole.Single crs) = found_in rule crs
found rule (whole.Compound crs) = found_in_both rule crs

-- a reference system breaks a rule: there is something
abbrev pub breaks : Rule → CrsParts → Bool
breaks rule crs = is_some (found rule crs)
