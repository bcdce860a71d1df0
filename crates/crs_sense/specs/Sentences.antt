-- What is odd about a reference system, in a sentence.
use Rattle.std.specs.Prelude.{ℕ, List, [], Option, Some, None}
use Rattle.crs_part.specs.declared.crs.CrsParts.{CrsParts}
use Rattle.crs_sense.specs.declared.rule.Rule.{Rule}
use Rattle.crs_sense.specs.Rules.{found}

abbrev told : Option (List ℕ) → List ℕ
told None = []
told (Some text) = text

abbrev pub sentence : Rule → CrsParts → List ℕ
sentence rule crs = told (found rule crs)
