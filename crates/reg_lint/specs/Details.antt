-- The sentence about each reference system that breaks a rule.
use Rattle.std.specs.Prelude.{ℕ, List, [], map, Option, Some, None, if◌then◌else◌}
use Rattle.std.specs.List.{flat_map}
use Rattle.crs_part.specs.declared.crs.CrsParts.{CrsParts}
use Rattle.crs_part.specs.Slots.{name_of, ids_of}
use Rattle.crs_said.specs.References.{system_names}
use Rattle.crs_sense.specs.declared.rule.Rule.{Rule}
use Rattle.crs_sense.specs.Rules.{breaks}
use Rattle.crs_sense.specs.Sentences.{sentence}
use Rattle.reg_sense.specs.declared.rule.WideRule.{WideRule}
use Rattle.reg_sense.specs.declared.rule.WideRule.TheVariants as wide
use Rattle.reg_sense.specs.Claimants.{Voice}
use Rattle.reg_sense.specs.Rules.{claims_of, wide_told}
use Rattle.reg_lint.specs.declared.rule.AnyRule.{AnyRule}
use Rattle.reg_lint.specs.declared.rule.AnyRule.TheVariants as any
use Rattle.reg_lint.specs.Subjects.{Subject}
use Rattle.reg_lint.specs.Subjects.{authority_of, code_of}

-- the sentence of a reference system that breaks the rule
abbrev pub told_in : Rule → CrsParts → Option (List ℕ)
told_in rule crs = if breaks rule crs then Some (sentence rule crs) else None

abbrev pub told : Rule → Subject → Option (List ℕ)
told rule s = told_in rule s.crs.parts

abbrev pub own_details : Rule → List Subject → List (Option (List ℕ))
own_details rule subjects = map (told rule) subjects

-- its key, its name, and what it claims, as far as the rule asks
abbrev pub voice_in : WideRule → CrsParts → Voice
voice_in rule crs = record { authority = authority_of (ids_of crs); code = code_of (ids_of crs); name = (name_of crs).bytes; claims = claims_of rule crs }

abbrev pub voice_of : WideRule → Subject → Voice
voice_of rule s = voice_in rule s.crs.parts

-- the names of some reference systems, and of their parts
abbrev pub names_in : List Subject → List (List ℕ)
names_in subjects = flat_map (λ (s : Subject). system_names s.crs.parts) subjects

-- those that the rule looks at: none, unless it is about names
abbrev pub names_for : WideRule → List Subject → List (List ℕ)
names_for wide.Case subjects = []
names_for wide.Datum subjects = []
names_for wide.Parts subjects = []
names_for wide.RefName subjects = names_in subjects
names_for wide.SameName subjects = []
names_for wide.Twin subjects = []

-- the sentence of one that breaks the rule beside the others
abbrev pub told_beside : WideRule → List Subject → Subject → Option (List ℕ)
told_beside rule subjects s = wide_told rule (names_in subjects) (map (voice_of rule) subjects) (voice_of rule s)

abbrev pub wide_details : WideRule → List Subject → List (Option (List ℕ))
wide_details rule subjects = map (told_beside rule subjects) subjects

-- the sentence of one that breaks the rule, which may look at the others
abbrev pub detail_of : AnyRule → List Subject → Subject → Option (List ℕ)
detail_of (any.Own rule) subjects = told rule
detail_of (any.Wide rule) subjects = told_beside rule subjects

abbrev pub details : AnyRule → List Subject → List (Option (List ℕ))
details rule subjects = map (detail_of rule subjects) subjects
