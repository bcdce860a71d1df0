-- The rules about one alone that a reference system breaks.
use Rattle.std.proofs.Common.{◌≡◌, ◌↔◌, Bool, true, false, List, [], ◌∷◌, ◌++◌, if◌then◌else◌, refl, sym, ap, ◌∙◌, subst, inl, inr}
use Rattle.std.proofs.lemmas.Bool.{true≢false}
use Rattle.std.proofs.lemmas.List.Elements.{Contains-append_right}
use Rattle.std.specs.List.{flat_map, Contains}
use Rattle.crs_part.specs.declared.crs.CrsParts.{CrsParts}
use Rattle.crs_sense.specs.declared.rule.Rule.{Rule}
use Rattle.crs_sense.specs.declared.rule.Rule.TheVariants as own
use Rattle.crs_sense.specs.contracts.rule.Rule.{the_type}
use Rattle.crs_sense.specs.Rules.{breaks}
use Rattle.reg_report.proofs.ConflictLemmas.{none_in, in_cons, in_head, in_tail}
use Rattle.reg_lint.specs.declared.rule.AnyRule.{AnyRule}
use Rattle.reg_lint.specs.declared.rule.AnyRule.TheVariants as any
use Rattle.reg_lint.specs.AnyRules.{any_listed}
use Rattle.reg_lint.specs.Screening.{broken_own}
use Rattle.reg_lint.proofs.RuleLemmas.{each}
use denote.Enum.Bare.{sameb}

module _ (crs : CrsParts) where
  has_broken : (rules : List AnyRule) (rule : Rule) → Contains rules (any.Own rule) → breaks rule crs ≡ true → Contains (flat_map (broken_own crs) rules) rule
  has_broken [] rule h b = absurd (none_in (any.Own rule) h)
  has_broken (r ∷ rs) rule h b = elim (in_cons (any.Own rule) r rs h) [
    | inl e ↦ subst (λ (q : AnyRule). Contains (broken_own crs q ++ flat_map (broken_own crs) rs) rule) e
        (subst (λ (t : Bool). Contains ((if t then rule ∷ [] else []) ++ flat_map (broken_own crs) rs) rule) (sym b) (in_head rule (flat_map (broken_own crs) rs)))
    | inr later ↦ Contains-append_right (broken_own crs r) (flat_map (broken_own crs) rs) rule (has_broken rs rule later b)
  ]

  -- a rule that is not among those that it breaks is not broken
  pub not_broken : (broken : List Rule) → broken ≡ flat_map (broken_own crs) any_listed → (rule : Rule) → ¬ (Contains broken rule) → breaks rule crs ≡ false
  not_broken broken e rule none = elim (breaks rule crs) as (λ b. breaks rule crs ≡ b → breaks rule crs ≡ false) [
    | true ↦ λ t. absurd (none (subst (λ (l : List Rule). Contains l rule) (sym e) (has_broken any_listed rule (each (any.Own rule)) t)))
    | false ↦ λ f. f
  ] refl

-- a rule equals itself
itself : (rule : Rule) → sameb the_type rule rule ≡ true
itself own.Accuracy = refl
itself own.Angle = refl
itself own.Away = refl
itself own.Axes = refl
itself own.AxisName = refl
itself own.Box = refl
itself own.Packed = refl
itself own.Ellipsoid = refl
itself own.FalseUnit = refl
itself own.Figure = refl
itself own.Height = refl
itself own.Key = refl
itself own.Meridian = refl
itself own.Name = refl
itself own.Operation = refl
itself own.Parallels = refl
itself own.Prime = refl
itself own.Quantity = refl
itself own.Radian = refl
itself own.Scale = refl
itself own.Unit = refl
itself own.UnitName = refl
itself own.Zone = refl

-- the first of some rules is another one
pub among_later : (rules rest others : List Rule) (first rule : Rule) → rest ≡ first ∷ others → sameb the_type first rule ≡ false
    → Contains rules rule ↔ Contains rest rule → Contains rules rule ↔ Contains others rule
among_later rules rest others first rule r other inv = (
  λ h. elim (in_cons rule first others (subst (λ (l : List Rule). Contains l rule) r (inv.0 h))) [
    | inl e ↦ absurd (true≢false (sym (itself rule) ∙ ap (λ (x : Rule). sameb the_type x rule) e ∙ other))
    | inr later ↦ later
  ],
  λ h. inv.1 (subst (λ (l : List Rule). Contains l rule) (sym r) (in_tail rule first others h)),
)
