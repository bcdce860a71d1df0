-- Explanations of the faults of a command that read a text.
use Rattle.std.specs.Prelude.{◌≡◌, ◌⊎◌, ℕ, List, [], length, Option, Some, None, IsSome}
use Rattle.wkt_crs.specs.declared.fault.Unspelled.TheVariants as refused
use Rattle.wkt_crs.specs.declared.definition.DefinitionFault.{DefinitionFault}
use Rattle.wkt_crs.specs.declared.definition.DefinitionFault.TheVariants as undefined
use Rattle.wkt_explain.specs.Explains.{explanation}
use Rattle.reg_engine.specs.declared.fault.Refusal.{Refusal}
use Rattle.reg_engine.specs.declared.fault.Refusal.TheVariants as refusal
use Rattle.reg_engine.specs.declared.fault.CliFault.{CliFault}
use Rattle.reg_engine.specs.declared.fault.CliFault.TheVariants as cli

-- the fault of the text, if that is the reason of the refusal
abbrev pub text_problem : Refusal → Option DefinitionFault
text_problem (refusal.Text f) = Some (undefined.Read (refused.Text f))
text_problem (refusal.Slot f) = Some (undefined.Read (refused.Slot f))
text_problem (refusal.Broken c place) = Some (undefined.Read (refused.Broken c place))
text_problem refusal.NoIdentifier = Some undefined.NoIdentifier
text_problem refusal.CanonicalTooLong = Some undefined.CanonicalTooLong
text_problem _ = None

abbrev pub problem_of : CliFault → Option DefinitionFault
problem_of (cli.Refused r) = text_problem r
problem_of _ = None

-- the fault of a command, which is one of these; or memory ran out while its text was explained
abbrev pub IsExplained : (CliFault → Type 0) → CliFault → Type 0
IsExplained Is e = (f : CliFault) × Is f × ((e ≡ f) ⊎ ((e ≡ cli.Memory) × IsSome (problem_of f)))

-- the explanation of the fault of a text, which fills the file with this name; or nothing
abbrev pub note_text : List ℕ → List ℕ → Option DefinitionFault → List ℕ
note_text name text (Some f) = explanation name text 0 (length text) f
note_text name text None = []
