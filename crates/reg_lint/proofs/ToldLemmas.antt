-- The sentences about reference systems depend on their values and their order alone.
use Rattle.std.proofs.Common.{◌≡◌, ℕ, not, cond, Some, None, List, [], ◌∷◌, ◌++◌, map, filter, if◌then◌else◌, refl, sym, ap, ◌∙◌, subst}
use Rattle.std.specs.List.{flat_map}
use Rattle.crs_part.specs.Slots.{name_of, ids_of}
use Rattle.crs_said.specs.References.{system_names}
use Rattle.crs_sense.specs.Rules.{breaks}
use Rattle.crs_sense.specs.Sentences.{sentence}
use Rattle.crs_value.specs.declared.crs.Crs.{Crs}
use Rattle.reg_sense.specs.declared.rule.WideRule.{WideRule}
use Rattle.reg_sense.specs.Claimants.{Voice}
use Rattle.reg_sense.specs.Rules.{claims_of, wide_told}
use Rattle.wkt_crs.specs.Definition.{IsCrsOf}
use Rattle.wkt_crs.proofs.Texts.{one_value}
use Rattle.reg_op.specs.Contents.{Content}
use Rattle.reg_op.specs.Rows.{Row, rows}
use Rattle.reg_lint.specs.declared.rule.AnyRule.{AnyRule}
use Rattle.reg_lint.specs.declared.rule.AnyRule.TheVariants as any
use Rattle.reg_lint.specs.Subjects.{Subject}
use Rattle.reg_lint.specs.Details.{voice_of, names_in, wide_details, details}
use Rattle.reg_lint.specs.Laws.{live_texts}
use Rattle.reg_lint.specs.Subjects.{is_retired, authority_of, code_of, AreLive, AreLiveIn}
use Rattle.reg_lint.proofs.VoiceLemmas.{map_twice}

-- ---- the same reference systems in the same order

module _ (ss ts : List Subject) (same : map (λ (s : Subject). s.crs) ss ≡ map (λ (s : Subject). s.crs) ts) where
  through : {Z : Type 0} (f : Crs → Z) → map (λ (s : Subject). f s.crs) ss ≡ map (λ (s : Subject). f s.crs) ts
  through f = map_twice f (λ (s : Subject). s.crs) ss ∙ ap (map f) same ∙ sym (map_twice f (λ (s : Subject). s.crs) ts)

  same_names : names_in ss ≡ names_in ts
  same_names = flat ss ∙ ap (flat_map (λ (c : Crs). system_names c.parts)) same ∙ sym (flat ts)
    where
      flat : (us : List Subject) → names_in us ≡ flat_map (λ (c : Crs). system_names c.parts) (map (λ (s : Subject). s.crs) us)
      flat [] = refl
      flat (u ∷ us) = ap (λ l. system_names u.crs.parts ++ l) (flat us)

  same_wide : (rule : WideRule) → wide_details rule ss ≡ wide_details rule ts
  same_wide rule =
      through (λ (c : Crs). wide_told rule (names_in ss) (map (voice_of rule) ss) (voice c))
      ∙ (λ j. map (λ (s : Subject). wide_told rule (same_names j) (through voice j) (voice_of rule s)) ts)
    where
      voice : Crs → Voice
      voice c = record { authority = authority_of (ids_of c.parts); code = code_of (ids_of c.parts); name = (name_of c.parts).bytes; claims = claims_of rule c.parts }

  pub same_details : (rule : AnyRule) → details rule ss ≡ details rule ts
  same_details (any.Own rule) = through (λ (c : Crs). if breaks rule c.parts then Some (sentence rule c.parts) else None)
  same_details (any.Wide rule) = same_wide rule

-- ---- the same texts in the same order

abbrev pub Spell : List (List ℕ) → List Subject → Type 0
Spell [] ss = ss ≡ []
Spell (t ∷ ts) ss = (s : Subject) × (rest : List Subject) × IsCrsOf s.crs t × Spell ts rest × (ss ≡ s ∷ rest)

abbrev texts : List Row → List (List ℕ)
texts rs = map (λ (r : Row). r.definition) (filter (λ (r : Row). not (is_retired r.status)) rs)

pub spelled : (rs : List Row) (ss : List Subject) → AreLive rs ss → Spell (texts rs) ss
spelled [] ss none = none
spelled (r ∷ rs) ss (None, rest, is, more, e) =
    subst (λ b. Spell (map (λ (q : Row). q.definition) (cond (not b) (r ∷ filter (λ (q : Row). not (is_retired q.status)) rs) (filter (λ (q : Row). not (is_retired q.status)) rs))) ss) (sym is)
    (subst (Spell (texts rs)) (sym e) (spelled rs rest more))
spelled (r ∷ rs) ss (Some s, rest, is, more, e) =
    subst (λ b. Spell (map (λ (q : Row). q.definition) (cond (not b) (r ∷ filter (λ (q : Row). not (is_retired q.status)) rs) (filter (λ (q : Row). not (is_retired q.status)) rs))) ss) (sym is.0)
    (s, rest, is.2, spelled rs rest more, e)

pub one_list : (ts : List (List ℕ)) (ss us : List Subject) → Spell ts ss → Spell ts us → map (λ (s : Subject). s.crs) ss ≡ map (λ (s : Subject). s.crs) us
one_list [] ss us e f = ap (map (λ (s : Subject). s.crs)) (e ∙ sym f)
one_list (t ∷ ts) ss us (s, rest, is, more, e) (u, other, also, later, f) =
    ap (map (λ (s : Subject). s.crs)) e
    ∙ (λ j. one_value t s.crs u.crs is.1 also.1 j ∷ one_list ts rest other more later j)
    ∙ sym (ap (map (λ (s : Subject). s.crs)) f)

pub same_in_order : (x y : Content) (ss ts : List Subject) → live_texts x ≡ live_texts y → AreLiveIn x ss → AreLiveIn y ts → (rule : AnyRule) → details rule ss ≡ details rule ts
same_in_order x y ss ts same are also = same_details ss ts
    (one_list (live_texts y) ss ts (subst (λ l. Spell l ss) same (spelled (rows x.ops) ss are)) (spelled (rows y.ops) ts also))
