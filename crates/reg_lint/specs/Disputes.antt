-- What reference systems say otherwise than each other, by each rule over several.
use Rattle.std.specs.Prelude.{◌≡◌, ◌||◌, not, true, false, ℕ, Bool, List, [], ◌++◌, filter}
use Rattle.std.specs.List.{flat_map, list_any}
use Rattle.crs_part.specs.declared.crs.CrsParts.{CrsParts}
use Rattle.crs_said.specs.Claims.{Said}
use Rattle.reg_sense.specs.declared.rule.WideRule.{WideRule}
use Rattle.reg_sense.specs.declared.rule.WideRule.TheVariants as wide
use Rattle.reg_sense.specs.Claimants.{Voice, is_about}
use Rattle.reg_sense.specs.Rules.{claims_of}
use Rattle.reg_lint.specs.declared.disputes.Disputes.{Disputes}
use Rattle.reg_lint.specs.Subjects.{Subject}
use Rattle.reg_lint.specs.Words.{is_disputed, HaveHeard, Agree}

-- what one claims, as far as a rule asks
abbrev pub claims_by : WideRule → Subject → List Said
claims_by rule s = claims_of rule s.crs.parts

-- without the claims about words that do not pass
abbrev pub sifted : (List ℕ → Bool) → Voice → Voice
sifted keep v = record { authority = v.authority; code = v.code; name = v.name; claims = filter (λ (x : Said). keep x.word) v.claims }

-- ---- what was heard

-- these claims were heard by the rule
abbrev pub AreHeard : Disputes → WideRule → List Said → Type 0
AreHeard d wide.Case xs = HaveHeard d.case xs
AreHeard d wide.Datum xs = HaveHeard d.datum xs
AreHeard d wide.Parts xs = HaveHeard d.parts xs
AreHeard d wide.RefName xs = d.named ≡ false → xs ≡ []
AreHeard d wide.SameName xs = HaveHeard d.same_name xs
AreHeard d wide.Twin xs = Unit {0}

-- those of one more reference system
abbrev pub Hears : CrsParts → Disputes → Disputes → Type 0
Hears crs old new = (rule : WideRule) (xs : List Said) → AreHeard old rule xs → AreHeard new rule (xs ++ claims_of rule crs)

-- ---- words of which a rule may tell something

abbrev pub is_open_by : Disputes → WideRule → List ℕ → Bool
is_open_by d wide.Case w = is_disputed d.case w
is_open_by d wide.Datum w = is_disputed d.datum w
is_open_by d wide.Parts w = is_disputed d.parts w
is_open_by d wide.RefName w = d.named
is_open_by d wide.SameName w = is_disputed d.same_name w
is_open_by d wide.Twin w = true

abbrev pub is_open : Disputes → WideRule → List ℕ → Bool
is_open d rule w = not d.heard || is_open_by d rule w

-- the rule tells nothing of the word: all these claims about it have one content; or there is none
abbrev pub IsSettled : WideRule → List Said → List ℕ → Type 0
IsSettled wide.Case xs w = Agree xs w
IsSettled wide.Datum xs w = Agree xs w
IsSettled wide.Parts xs w = Agree xs w
IsSettled wide.RefName xs w = list_any (is_about w) xs ≡ false
IsSettled wide.SameName xs w = Agree xs w
IsSettled wide.Twin xs w = list_any (is_about w) xs ≡ false

-- of each other word, among the claims of these reference systems
abbrev pub AreSettled : Disputes → List Subject → Type 0
AreSettled d ss = (rule : WideRule) (w : List ℕ) → is_open d rule w ≡ false → IsSettled rule (flat_map (claims_by rule) ss) w
