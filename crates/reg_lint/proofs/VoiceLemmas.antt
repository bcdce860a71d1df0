-- The sentences about reference systems beside each other.
use Rattle.std.proofs.Common.{◌≡◌, List, [], ◌∷◌, map, refl, ap}
use Rattle.reg_sense.specs.declared.rule.WideRule.{WideRule}
use Rattle.reg_sense.specs.declared.rule.WideRule.TheVariants as wide
use Rattle.reg_sense.specs.Claimants.{Voice}
use Rattle.reg_sense.specs.Rules.{wide_told}
use Rattle.reg_lint.specs.Subjects.{Subject}
use Rattle.reg_lint.specs.Details.{names_in, names_for}

pub map_twice : {X Y Z : Type 0} (f : Y → Z) (g : X → Y) (xs : List X) → map (λ x. f (g x)) xs ≡ map f (map g xs)
map_twice f g [] = refl
map_twice f g (x ∷ xs) = ap (λ l. f (g x) ∷ l) (map_twice f g xs)

-- a rule that looks at no names says the same whatever they are
pub told_by_names : (rule : WideRule) (ss : List Subject) (vs : List Voice) (v : Voice) → wide_told rule (names_for rule ss) vs v ≡ wide_told rule (names_in ss) vs v
told_by_names wide.Case ss vs v = refl
told_by_names wide.Datum ss vs v = refl
told_by_names wide.Parts ss vs v = refl
told_by_names wide.RefName ss vs v = refl
told_by_names wide.SameName ss vs v = refl
told_by_names wide.Twin ss vs v = refl
