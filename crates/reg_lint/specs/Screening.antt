-- Reference systems that were looked at once.
use Rattle.std.specs.Prelude.{List, [], ◌∷◌, if◌then◌else◌}
use Rattle.crs_part.specs.declared.crs.CrsParts.{CrsParts}
use Rattle.crs_sense.specs.declared.rule.Rule.{Rule}
use Rattle.crs_sense.specs.Rules.{breaks}
use Rattle.reg_lint.specs.declared.kept.KeptSubject.{KeptSubject}
use Rattle.reg_lint.specs.declared.rule.AnyRule.{AnyRule}
use Rattle.reg_lint.specs.declared.rule.AnyRule.TheVariants as any
use Rattle.reg_lint.specs.declared.screened.Screened.{Screened}

-- the rule, if it is about one alone and the reference system breaks it
abbrev pub broken_own : CrsParts → AnyRule → List Rule
broken_own crs (any.Own rule) = if breaks rule crs then rule ∷ [] else []
broken_own crs (any.Wide rule) = []

abbrev pub kept_in : Screened → KeptSubject
kept_in x = x.kept.now
