-- What an expert would ask about a reference system, a text for each rule.
use Rattle.std.specs.Prelude.{ℕ, List, [], ◌∷◌, ◌++◌, codes, if◌then◌else◌}
use Rattle.std.specs.List.{flat_map}
use Rattle.crs_part.specs.declared.crs.CrsParts.{CrsParts}
use Rattle.crs_sense.specs.declared.rule.Rule.{Rule}
use Rattle.crs_sense.specs.Rules.{rule_name, breaks}
use Rattle.crs_sense.specs.Sentences.{sentence}

-- the name of the rule, and its sentence
abbrev pub question_of : Rule → CrsParts → List ℕ
question_of rule crs = rule_name rule ++ codes ": " ++ sentence rule crs

-- if the reference system breaks the rule
abbrev pub question_by : Rule → CrsParts → List (List ℕ)
question_by rule crs = if breaks rule crs then question_of rule crs ∷ [] else []

abbrev pub questions_of : List Rule → CrsParts → List (List ℕ)
questions_of rules crs = flat_map (λ (rule : Rule). question_by rule crs) rules
