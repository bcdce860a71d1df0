-- The same live texts in another order: the same reference systems, which break the same rules.
use lib.ListN.{get_or-map}
use lib.Seq.{map-set}
use Rattle.std.proofs.Common.{◌≡◌, ◌<◌, ◌↔◌, ℕ, Bool, Some, None, cond, is_some, IsSome, List, [], ◌∷◌, map, length, set, get_or, refl, sym, ap, ◌∙◌, subst, arith, IsPermutation}
use Rattle.std.proofs.lemmas.List.{length-map}
use Rattle.std.proofs.lemmas.List.Sorted.{IsPermutation-refl, IsPermutation-sym, IsPermutation-trans, IsPermutation-swap, IsPermutation-keeps, IsPermutation-map, Contains-permutation, list_any-IsPermutation}
use Rattle.std.specs.List.{list_any, swap}
use Rattle.std.specs.Str.{bytes_eq}
use Rattle.crs_part.specs.Slots.{name_of, ids_of}
use Rattle.crs_said.specs.References.{system_names}
use Rattle.crs_sense.specs.Rules.{breaks}
use Rattle.crs_sense.specs.Sentences.{sentence}
use Rattle.crs_value.specs.declared.crs.Crs.{Crs}
use Rattle.reg_sense.specs.declared.rule.WideRule.{WideRule}
use Rattle.reg_sense.specs.Claimants.{Voice}
use Rattle.reg_sense.specs.Laws.{HaveSameNames}
use Rattle.reg_sense.specs.Names.{is_among}
use Rattle.reg_sense.specs.Rules.{claims_of, wide_told}
use Rattle.reg_sense.proofs.AlikeLemmas.{any_map, any_flat_map}
use Rattle.reg_sense.proofs.OrderLemmas.{same_breaks}
use Rattle.wkt_crs.specs.Definition.{IsCrsOf}
use Rattle.wkt_crs.proofs.Texts.{one_value}
use Rattle.reg_op.specs.Contents.{Content}
use Rattle.reg_op.specs.Rows.{rows}
use Rattle.reg_report.proofs.ConflictLemmas.{in_map, from_map}
use Rattle.reg_lint.specs.declared.rule.AnyRule.{AnyRule}
use Rattle.reg_lint.specs.declared.rule.AnyRule.TheVariants as any
use Rattle.reg_lint.specs.Subjects.{Subject}
use Rattle.reg_lint.specs.Details.{voice_of, names_in, told_beside, detail_of}
use Rattle.reg_lint.specs.Laws.{live_texts, HaveSameTextsAsOften, HasRowBy}
use Rattle.reg_lint.specs.Subjects.{authority_of, code_of, AreLiveIn}
use Rattle.reg_lint.proofs.ToldLemmas.{Spell, spelled, one_list}
use Rattle.reg_lint.proofs.VoiceLemmas.{map_twice}

-- ---- another order of what is made of elements is made of another order of these

module _ {A B : Type 0} (f : A → B) where
  map_swap : (xs : List A) (i j : ℕ) → map f (swap xs i j) ≡ swap (map f xs) i j
  map_swap [] i j = refl
  map_swap (d ∷ ds) i j =
      let l = d ∷ ds in
      map-set f (set l i (get_or l j d)) j (get_or l i d)
      ∙ (λ t. set ((map-set f l i (get_or l j d) ∙ ap (set (map f l) i) (sym (get_or-map f l j d))) t) j (sym (get_or-map f l i d) t))

  abbrev IsOf : List A → List B → Type 0
  IsOf from ys = (to : List A) × IsPermutation from to × (ys ≡ map f to)

  exchanged : (from : List A) (ys : List B) (i j : ℕ) → i < length ys → j < length ys → IsOf from ys → IsOf from (swap ys i j)
  exchanged from ys i j p q (to, same, e) =
      let long : length ys ≡ length to = ap length e ∙ length-map to f in (
        swap to i j,
        IsPermutation-trans from to (swap to i j) same (IsPermutation-swap to (swap to i j) i j (omega (arith, p, long)) (omega (arith, q, long)) refl),
        ap (λ l. swap l i j) e ∙ sym (map_swap to i j),
      )

  pub drawn : (from : List A) (ys : List B) → IsPermutation (map f from) ys → IsOf from ys
  drawn from ys same = IsPermutation-keeps (map f from) (IsOf from) (from, IsPermutation-refl from, refl) (exchanged from) ys same

-- ---- the reference systems of the texts

abbrev crs_in : List Subject → List Crs
crs_in ss = map (λ (s : Subject). s.crs) ss

-- a text and what it spells
record Spelled : Type 0 where
  pub text : List ℕ
  pub subject : Subject
  pub is : IsCrsOf subject.crs text

abbrev texts_in : List Spelled → List (List ℕ)
texts_in ps = map (λ (p : Spelled). p.text) ps

abbrev subjects_in : List Spelled → List Subject
subjects_in ps = map (λ (p : Spelled). p.subject) ps

paired : (ts : List (List ℕ)) (ss : List Subject) → Spell ts ss → (ps : List Spelled) × (texts_in ps ≡ ts) × (subjects_in ps ≡ ss)
paired [] ss none = ([], refl, sym none)
paired (t ∷ ts) ss (s, rest, is, later, e) =
    let f = paired ts rest later in
    (record { text = t; subject = s; is = is } ∷ f.0, ap (λ l. t ∷ l) f.1, ap (λ l. s ∷ l) f.2 ∙ sym e)

each_spelled : (ps : List Spelled) → Spell (texts_in ps) (subjects_in ps)
each_spelled [] = refl
each_spelled (p ∷ ps) = (p.subject, subjects_in ps, p.is, each_spelled ps, refl)

same_systems : (x y : Content) (ss ts : List Subject) → HaveSameTextsAsOften x y → AreLiveIn x ss → AreLiveIn y ts → IsPermutation (crs_in ss) (crs_in ts)
same_systems x y ss ts same are also =
    let f = paired (live_texts x) ss (spelled (rows x.ops) ss are) in
    let g = drawn (λ (p : Spelled). p.text) f.0 (live_texts y) (subst (λ l. IsPermutation l (live_texts y)) (sym f.1) same) in
    let other : crs_in (subjects_in g.0) ≡ crs_in ts = one_list (live_texts y) (subjects_in g.0) ts (subst (λ l. Spell l (subjects_in g.0)) (sym g.2) (each_spelled g.0)) (spelled (rows y.ops) ts also) in
    let moved : IsPermutation (crs_in (subjects_in f.0)) (crs_in (subjects_in g.0)) =
    IsPermutation-map (λ (s : Subject). s.crs) (subjects_in f.0) (subjects_in g.0) (IsPermutation-map (λ (p : Spelled). p.subject) f.0 g.0 g.1) in
    subst (λ l. IsPermutation l (crs_in ts)) (ap crs_in f.2) (subst (IsPermutation (crs_in (subjects_in f.0))) other moved)

-- ---- what they break

module _ (ss ts : List Subject) (same : IsPermutation (crs_in ss) (crs_in ts)) where
  through : {Z : Type 0} (f : Crs → Z) → IsPermutation (map (λ (s : Subject). f s.crs) ss) (map (λ (s : Subject). f s.crs) ts)
  through f =
      subst (λ l. IsPermutation l (map (λ (s : Subject). f s.crs) ts)) (sym (map_twice f (λ (s : Subject). s.crs) ss))
      (subst (IsPermutation (map f (crs_in ss))) (sym (map_twice f (λ (s : Subject). s.crs) ts)) (IsPermutation-map f (crs_in ss) (crs_in ts) same))

  abbrev is_name_in : List ℕ → Crs → Bool
  is_name_in word c = list_any (λ name. bytes_eq name word) (system_names c.parts)

  names_among : (word : List ℕ) (us : List Subject) → is_among (names_in us) word ≡ list_any (is_name_in word) (crs_in us)
  names_among word us =
      any_flat_map (λ (s : Subject). system_names s.crs.parts) (λ name. bytes_eq name word) us
      ∙ sym (any_map (λ (s : Subject). s.crs) (is_name_in word) us)

  same_names : HaveSameNames (names_in ss) (names_in ts)
  same_names word = names_among word ss ∙ list_any-IsPermutation (is_name_in word) (crs_in ss) (crs_in ts) same ∙ sym (names_among word ts)

  abbrev voice : WideRule → Crs → Voice
  voice rule c = record { authority = authority_of (ids_of c.parts); code = code_of (ids_of c.parts); name = (name_of c.parts).bytes; claims = claims_of rule c.parts }

  same_beside : (rule : WideRule) (s t : Subject) → s.crs ≡ t.crs → is_some (told_beside rule ss s) ≡ is_some (told_beside rule ts t)
  same_beside rule s t e =
      same_breaks rule (names_in ss) (names_in ts) (map (voice_of rule) ss) (map (voice_of rule) ts) (voice_of rule s) same_names (through (voice rule))
      ∙ (λ j. is_some (wide_told rule (names_in ts) (map (voice_of rule) ts) (voice rule (e j))))

  same_by : (rule : AnyRule) (s t : Subject) → s.crs ≡ t.crs → is_some (detail_of rule ss s) ≡ is_some (detail_of rule ts t)
  same_by (any.Own rule) s t e = (λ j. is_some (cond (breaks rule (e j).parts) (Some (sentence rule (e j).parts)) None))
  same_by (any.Wide rule) s t e = same_beside rule s t e

  row_too : (rule : AnyRule) (authority code : List ℕ) → HasRowBy ss rule authority code → HasRowBy ts rule authority code
  row_too rule authority code h =
      let s = h.subject in
      let f = from_map (λ (t : Subject). t.crs) ts s.crs (Contains-permutation (crs_in ss) (crs_in ts) s.crs same (in_map (λ (t : Subject). t.crs) ss s h.there)) in
      record {
        subject = f.0;
        there = f.1;
        broken = sym (same_by rule s f.0 f.2) ∙ h.broken;
        authority_is = ap (λ (c : Crs). authority_of (ids_of c.parts)) (sym f.2) ∙ h.authority_is;
        code_is = ap (λ (c : Crs). code_of (ids_of c.parts)) (sym f.2) ∙ h.code_is;
      }

-- ---- the laws

pub same_broken : (x y : Content) (ss ts : List Subject) → HaveSameTextsAsOften x y → AreLiveIn x ss → AreLiveIn y ts
    → (rule : AnyRule) (text : List ℕ) (s t : Subject) → IsCrsOf s.crs text → IsCrsOf t.crs text → IsSome (detail_of rule ss s) ↔ IsSome (detail_of rule ts t)
same_broken x y ss ts same are also rule text s t is too =
    let e = same_by ss ts (same_systems x y ss ts same are also) rule s t (one_value text s.crs t.crs is.1 too.1) in
    (λ h. sym e ∙ h, λ h. e ∙ h)

pub same_rows_by : (x y : Content) (ss ts : List Subject) → HaveSameTextsAsOften x y → AreLiveIn x ss → AreLiveIn y ts
    → (rule : AnyRule) (authority code : List ℕ) → HasRowBy ss rule authority code ↔ HasRowBy ts rule authority code
same_rows_by x y ss ts same are also rule authority code =
    let systems = same_systems x y ss ts same are also in
    (λ h. row_too ss ts systems rule authority code h, λ h. row_too ts ss (IsPermutation-sym (crs_in ss) (crs_in ts) systems) rule authority code h)
