-- The rules: those about one reference system, and those about one beside others.
use Rattle.std.specs.Prelude.{ℕ, Bool, true, false, ◌&&◌, List, [], ◌∷◌, map, Option, Some, None}
use Rattle.std.specs.Char.{to_ascii_lowercase}
use Rattle.std.specs.Cmp.Lexicographic.{slice_cmp}
use Rattle.std.specs.Ordering.{nat_cmp, is_lt}
use Rattle.crs_part.specs.Words.{first_word}
use Rattle.crs_sense.specs.declared.rule.Rule.{Rule}
use Rattle.crs_sense.specs.declared.rule.Rule.TheVariants as own
use Rattle.crs_sense.specs.Rules.{rule_name, rules_listed}
use Rattle.reg_sense.specs.declared.rule.WideRule.{WideRule}
use Rattle.reg_sense.specs.declared.rule.WideRule.TheVariants as wide
use Rattle.reg_sense.specs.Rules.{wide_name, wide_listed}
use Rattle.reg_lint.specs.declared.rule.AnyRule.{AnyRule}
use Rattle.reg_lint.specs.declared.rule.AnyRule.TheVariants as any

-- the name that is printed
abbrev pub any_name : AnyRule → List ℕ
any_name (any.Own rule) = rule_name rule
any_name (any.Wide rule) = wide_name rule

-- all rules, by name
abbrev pub any_listed : List AnyRule
any_listed = any.Own own.Accuracy ∷ any.Own own.Angle ∷ any.Own own.Away ∷ any.Own own.Axes ∷ any.Own own.AxisName ∷ any.Own own.Box ∷ any.Wide wide.Case ∷ any.Wide wide.Datum ∷ any.Own own.Packed ∷ any.Own own.Ellipsoid ∷ any.Own own.FalseUnit ∷ any.Own own.Figure ∷ any.Own own.Height ∷ any.Own own.Key ∷ any.Own own.Meridian ∷ any.Own own.Name ∷ any.Own own.Operation ∷ any.Own own.Parallels ∷ any.Wide wide.Parts ∷ any.Own own.Prime ∷ any.Own own.Quantity ∷ any.Own own.Radian ∷ any.Wide wide.RefName ∷ any.Wide wide.SameName ∷ any.Own own.Scale ∷ any.Wide wide.Twin ∷ any.Own own.Unit ∷ any.Own own.UnitName ∷ any.Own own.Zone ∷ []

-- each text comes before the next, by bytes
abbrev pub ascend : List (List ℕ) → Bool
ascend [] = true
ascend (a ∷ []) = true
ascend (a ∷ b ∷ texts) = is_lt (slice_cmp nat_cmp a b) && ascend (b ∷ texts)

abbrev pub own_or_wide : Option Rule → Option WideRule → Option AnyRule
own_or_wide (Some rule) o = Some (any.Own rule)
own_or_wide None (Some rule) = Some (any.Wide rule)
own_or_wide None None = None

-- the rule of a name, whose letters may be small or capital
abbrev pub any_of_name : List ℕ → Option AnyRule
any_of_name name = own_or_wide (first_word rule_name rules_listed (map to_ascii_lowercase name)) (first_word wide_name wide_listed (map to_ascii_lowercase name))

abbrev pub is_usual_wide : WideRule → Bool
is_usual_wide wide.Case = true
is_usual_wide wide.Datum = true
is_usual_wide wide.Parts = true
is_usual_wide wide.RefName = true
is_usual_wide wide.SameName = true
is_usual_wide wide.Twin = false

-- all rules but `twin` are looked at where none is named
abbrev pub is_usual : AnyRule → Bool
is_usual (any.Own rule) = true
is_usual (any.Wide rule) = is_usual_wide rule
