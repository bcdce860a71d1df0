-- The rules over several systems, and the sentence about one that breaks a rule.
use Rattle.std.specs.Prelude.{ℕ, List, [], ◌∷◌, Option, codes}
use Rattle.crs_part.specs.declared.crs.CrsParts.{CrsParts}
use Rattle.crs_said.specs.Claims.{Said}
use Rattle.crs_said.specs.Content.{kind_and_name, without_names}
use Rattle.crs_said.specs.Datums.{datum_claims}
use Rattle.crs_said.specs.Parts.{part_claims}
use Rattle.crs_said.specs.References.{said_names}
use Rattle.crs_said.specs.Spellings.{case_claims}
use Rattle.reg_sense.specs.declared.rule.WideRule.{WideRule}
use Rattle.reg_sense.specs.declared.rule.WideRule.TheVariants as the
use Rattle.reg_sense.specs.Claimants.{Voice}
use Rattle.reg_sense.specs.Most.{told_against}
use Rattle.reg_sense.specs.Names.{told_names}
use Rattle.reg_sense.specs.Others.{told_other}
use Rattle.reg_sense.specs.Twins.{told_twin}

-- the name that is printed
abbrev pub wide_name : WideRule → List ℕ
wide_name the.Case = codes "case"
wide_name the.Datum = codes "datum"
wide_name the.Parts = codes "parts"
wide_name the.RefName = codes "refname"
wide_name the.SameName = codes "samename"
wide_name the.Twin = codes "twin"

-- all of these rules, by name
abbrev pub wide_listed : List WideRule
wide_listed = the.Case ∷ the.Datum ∷ the.Parts ∷ the.RefName ∷ the.SameName ∷ the.Twin ∷ []

-- its kind and its name are its only word, for which it claims all that it says
abbrev pub named_claim : CrsParts → Said
named_claim crs = record { word = kind_and_name crs; content = without_names crs; said = [] }

-- what a system says is its only word
abbrev pub whole_claim : CrsParts → Said
whole_claim crs = record { word = without_names crs; content = []; said = [] }

-- what a system claims, as far as a rule asks
abbrev pub claims_of : WideRule → CrsParts → List Said
claims_of the.Case crs = case_claims crs
claims_of the.Datum crs = datum_claims crs
claims_of the.Parts crs = part_claims crs
claims_of the.RefName crs = said_names crs
claims_of the.SameName crs = named_claim crs ∷ []
claims_of the.Twin crs = whole_claim crs ∷ []

-- the sentence about one of some systems that breaks a rule, given the names of all of them
abbrev pub wide_told : WideRule → List (List ℕ) → List Voice → Voice → Option (List ℕ)
wide_told the.Case names vs v = told_against vs v
wide_told the.Datum names vs v = told_against vs v
wide_told the.Parts names vs v = told_against vs v
wide_told the.RefName names vs v = told_names names v
wide_told the.SameName names vs v = told_other vs v
wide_told the.Twin names vs v = told_twin vs v
