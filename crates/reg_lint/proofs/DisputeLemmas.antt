-- What is heard of reference systems, and what rules over several tell without the rest.
use Rattle.std.proofs.Common.{◌≡◌, ◌||◌, not, ℕ, Bool, true, false, Option, None, List, [], ◌∷◌, ◌++◌, length, map, filter, cond, refl, sym, ap, ◌∙◌, subst}
use Rattle.std.proofs.lemmas.Bool.{true≢false, or_parts}
use Rattle.std.proofs.lemmas.List.{append_assoc, append-nil}
use Rattle.std.specs.BTreeSet.{contains_by}
use Rattle.std.specs.Cmp.Lexicographic.{slice_cmp}
use Rattle.std.specs.Global.{Vec}
use Rattle.std.specs.List.{flat_map, list_any}
use Rattle.std.specs.Ordering.{nat_cmp}
use Rattle.crs_part.specs.declared.crs.CrsParts.{CrsParts}
use Rattle.crs_said.specs.Claims.{Said}
use Rattle.reg_sense.specs.declared.claimant.Claimant.{Claimant}
use Rattle.reg_sense.specs.declared.rule.WideRule.{WideRule}
use Rattle.reg_sense.specs.declared.rule.WideRule.TheVariants as wide
use Rattle.reg_sense.specs.Claimants.{Voice, voice, is_about, first_told}
use Rattle.reg_sense.specs.Most.{all_claims, odd_told}
use Rattle.reg_sense.specs.Names.{name_told, told_names}
use Rattle.reg_sense.specs.Others.{other_told}
use Rattle.reg_sense.specs.Rules.{claims_of, wide_told}
use Rattle.reg_sense.specs.Twins.{twin_told, told_twin}
use Rattle.reg_lint.specs.declared.disputes.Disputes.{Disputes}
use Rattle.reg_lint.specs.declared.kept.KeptSubject.{KeptSubject}
use Rattle.reg_lint.specs.declared.words.Words.{Words}
use Rattle.reg_lint.specs.Details.{voice_of, names_in, names_for, wide_details}
use Rattle.reg_lint.specs.Disputes.{claims_by, sifted, AreHeard, Hears, is_open_by, is_open, IsSettled, AreSettled}
use Rattle.reg_lint.specs.Subjects.{Subject, IsKept, AreKept}
use Rattle.reg_lint.specs.Words.{first_content, is_disputed, HaveHeard, Agree}
use Rattle.reg_lint.proofs.KeptLemmas.{first_of, none_left}
use Rattle.reg_lint.proofs.SiftLemmas.{against_sifted, others_sifted, sift_all}
use Rattle.reg_lint.proofs.VoiceLemmas.{map_twice, told_by_names}
use Rattle.reg_lint.proofs.WordLemmas.{agreed}

-- ---- each rule

pub fresh : (d : Disputes) → HaveHeard d.case [] → HaveHeard d.datum [] → HaveHeard d.parts [] → HaveHeard d.same_name [] → (rule : WideRule) → AreHeard d rule []
fresh d case datum parts same_name wide.Case = case
fresh d case datum parts same_name wide.Datum = datum
fresh d case datum parts same_name wide.Parts = parts
fresh d case datum parts same_name wide.RefName = λ e. refl
fresh d case datum parts same_name wide.SameName = same_name
fresh d case datum parts same_name wide.Twin = tt

abbrev HearsBy : WideRule → CrsParts → Words → Words → Type 0
HearsBy rule crs old new = (xs : List Said) → HaveHeard old xs → HaveHeard new (xs ++ claims_of rule crs)

pub hears_all : (crs : CrsParts) (old new : Disputes) → (any : Bool) → new.named ≡ (old.named || any) → (any ≡ false → claims_of wide.RefName crs ≡ [])
    → HearsBy wide.Case crs old.case new.case → HearsBy wide.Datum crs old.datum new.datum → HearsBy wide.Parts crs old.parts new.parts → HearsBy wide.SameName crs old.same_name new.same_name → Hears crs old new
hears_all crs old new any is none case datum parts same_name wide.Case = case
hears_all crs old new any is none case datum parts same_name wide.Datum = datum
hears_all crs old new any is none case datum parts same_name wide.Parts = parts
hears_all crs old new any is none case datum parts same_name wide.RefName = λ xs had off.
    let p = or_parts old.named any (sym is ∙ off) in λ j. had p.0 j ++ none p.1 j
hears_all crs old new any is none case datum parts same_name wide.SameName = same_name
hears_all crs old new any is none case datum parts same_name wide.Twin = λ xs had. tt

settled_words : (old new : Words) → new.disputed ≡ old.disputed → (xs : List Said) → HaveHeard old xs → (w : List ℕ) → is_disputed new w ≡ false → Agree xs w
settled_words old new same xs had w n = agreed w xs (first_content old.firsts w) (had w ((λ j. contains_by (λ (k : Vec ℕ). slice_cmp nat_cmp w k.items) (sym same j)) ∙ n))

pub all_settled : (old new : Disputes) → new.case.disputed ≡ old.case.disputed → new.datum.disputed ≡ old.datum.disputed → new.parts.disputed ≡ old.parts.disputed
    → new.same_name.disputed ≡ old.same_name.disputed → new.named ≡ old.named
    → (rule : WideRule) (xs : List Said) → AreHeard old rule xs → (w : List ℕ) → is_open new rule w ≡ false → IsSettled rule xs w
all_settled old new case datum parts same_name named rule xs had w n = by rule had (or_parts (not new.heard) (is_open_by new rule w) n).1
  where
    by : (rule : WideRule) → AreHeard old rule xs → is_open_by new rule w ≡ false → IsSettled rule xs w
    by wide.Case h e = settled_words old.case new.case case xs h w e
    by wide.Datum h e = settled_words old.datum new.datum datum xs h w e
    by wide.Parts h e = settled_words old.parts new.parts parts xs h w e
    by wide.RefName h e = λ j. list_any (is_about w) (h (sym named ∙ e) j)
    by wide.SameName h e = settled_words old.same_name new.same_name same_name xs h w e
    by wide.Twin h e = absurd (true≢false e)

-- ---- one reference system at a time

-- the claims of all but the rest were heard
abbrev pub Hearing : List KeptSubject → List KeptSubject → Disputes → Type 0
Hearing all rest d = (ss : List Subject) → AreKept all ss
    → (rs : List Subject) × AreKept rest rs × ((rule : WideRule) → (xs : List Said) × AreHeard d rule xs × (xs ++ flat_map (claims_by rule) rs ≡ flat_map (claims_by rule) ss))

pub hearing_begun : (all : List KeptSubject) (d : Disputes) → ((rule : WideRule) → AreHeard d rule []) → Hearing all all d
hearing_begun all d none ss are = (ss, are, λ rule. ([], none rule, refl))

pub hearing_step : (all rest others : List KeptSubject) (k : KeptSubject) (old new : Disputes) → rest ≡ k ∷ others → ((s : Subject) → IsKept k s → Hears s.crs.parts old new)
    → Hearing all rest old → Hearing all others new
hearing_step all rest others k old new r hears goes ss are =
    let m = goes ss are in
    let h = first_of k others m.0 (subst (λ l. AreKept l m.0) r m.1) in (
      h.others,
      h.are,
      λ rule. let x = m.2 rule in (
        x.0 ++ claims_by rule h.subject,
        hears h.subject h.is rule x.0 x.1,
        append_assoc x.0 (claims_by rule h.subject) (flat_map (claims_by rule) h.others) ∙ ap (λ l. x.0 ++ flat_map (claims_by rule) l) (sym h.same) ∙ x.2,
      ),
    )

pub hearing_done : (all rest : List KeptSubject) (d : Disputes) → length rest ≡ 0 → Hearing all rest d
    → (ss : List Subject) → AreKept all ss → (rule : WideRule) → AreHeard d rule (flat_map (claims_by rule) ss)
hearing_done all rest d e goes ss are rule =
    let m = goes ss are in
    let x = m.2 rule in
    subst (AreHeard d rule) (sym (append-nil x.0) ∙ ap (λ l. x.0 ++ flat_map (claims_by rule) l) (sym (none_left rest m.0 e m.1)) ∙ x.2) x.1

-- ---- claims

pub map_filter : {X Y : Type 0} (f : X → Y) (p : Y → Bool) (xs : List X) → map f (filter (λ x. p (f x)) xs) ≡ filter p (map f xs)
map_filter f p [] = refl
map_filter f p (x ∷ xs) = elim (p (f x)) as (λ b. map f (cond b (x ∷ filter (λ y. p (f y)) xs) (filter (λ y. p (f y)) xs)) ≡ cond b (f x ∷ filter p (map f xs)) (filter p (map f xs))) [
  | true ↦ ap (λ l. f x ∷ l) (map_filter f p xs)
  | false ↦ map_filter f p xs
]

claims_all : (rule : WideRule) (ss : List Subject) → all_claims (map (voice_of rule) ss) ≡ flat_map (claims_by rule) ss
claims_all rule [] = refl
claims_all rule (s ∷ ss) = ap (λ l. claims_by rule s ++ l) (claims_all rule ss)

-- ---- what is reported

abbrev pub no_detail : Subject → Option (List ℕ)
no_detail s = None

module _ (d : Disputes) (ss : List Subject) (settled : AreSettled d ss) where
  agree : (rule : WideRule) → ((w : List ℕ) → is_open d rule w ≡ false → Agree (flat_map (claims_by rule) ss) w) → (w : List ℕ) → is_open d rule w ≡ false → Agree (all_claims (map (voice_of rule) ss)) w
  agree rule h w n = subst (λ xs. Agree xs w) (sym (claims_all rule ss)) (h w n)

  absent : (rule : WideRule) → ((w : List ℕ) → is_open d rule w ≡ false → list_any (is_about w) (flat_map (claims_by rule) ss) ≡ false)
      → map (sifted (is_open d rule)) (map (voice_of rule) ss) ≡ map (voice_of rule) ss
  absent rule h = sift_all (is_open d rule) (map (voice_of rule) ss) (λ w n. (λ j. list_any (is_about w) (claims_all rule ss j)) ∙ h w n)

  told_sifted : (rule : WideRule) (names : List (List ℕ))
      → map (wide_told rule names (map (sifted (is_open d rule)) (map (voice_of rule) ss))) (map (sifted (is_open d rule)) (map (voice_of rule) ss)) ≡ map (wide_told rule names (map (voice_of rule) ss)) (map (voice_of rule) ss)
  told_sifted wide.Case names = against_sifted (is_open d wide.Case) (map (voice_of wide.Case) ss) (agree wide.Case (settled wide.Case))
  told_sifted wide.Datum names = against_sifted (is_open d wide.Datum) (map (voice_of wide.Datum) ss) (agree wide.Datum (settled wide.Datum))
  told_sifted wide.Parts names = against_sifted (is_open d wide.Parts) (map (voice_of wide.Parts) ss) (agree wide.Parts (settled wide.Parts))
  told_sifted wide.RefName names = ap (map (told_names names)) (absent wide.RefName (settled wide.RefName))
  told_sifted wide.SameName names = others_sifted (is_open d wide.SameName) (map (voice_of wide.SameName) ss) (agree wide.SameName (settled wide.SameName))
  told_sifted wide.Twin names = λ j. map (told_twin (absent wide.Twin (settled wide.Twin) j)) (absent wide.Twin (settled wide.Twin) j)

  -- the sentences about claimants without the other claims are those about the reference systems
  pub told_of_claimants : (rule : WideRule) (names : List (List ℕ)) (cs : List Claimant) → names ≡ names_for rule ss → map voice cs ≡ map (λ (s : Subject). sifted (is_open d rule) (voice_of rule s)) ss
      → map (λ (c : Claimant). wide_told rule names (map voice cs) (voice c)) cs ≡ wide_details rule ss
  told_of_claimants rule names cs e h =
      map_twice (wide_told rule names (map voice cs)) voice cs
      ∙ (λ j. map (wide_told rule (e j) ((h ∙ map_twice (sifted (is_open d rule)) (voice_of rule) ss) j)) ((h ∙ map_twice (sifted (is_open d rule)) (voice_of rule) ss) j))
      ∙ told_sifted rule (names_for rule ss)
      ∙ (λ j. map (λ v. told_by_names rule ss (map (voice_of rule) ss) v j) (map (voice_of rule) ss))
      ∙ sym (map_twice (wide_told rule (names_in ss) (map (voice_of rule) ss)) (voice_of rule) ss)

  module _ (rule : WideRule) (off : (w : List ℕ) → is_open d rule w ≡ false) where
    nothing : (xs : List Said) → filter (λ (x : Said). is_open d rule x.word) xs ≡ []
    nothing [] = refl
    nothing (x ∷ xs) = (λ j. cond (off x.word j) (x ∷ filter (λ (y : Said). is_open d rule y.word) xs) (filter (λ (y : Said). is_open d rule y.word) xs)) ∙ nothing xs

    none_told : (as_rule : WideRule) (names : List (List ℕ)) (us : List Voice) (v : Voice) → wide_told as_rule names us (sifted (is_open d rule) v) ≡ None
    none_told wide.Case names us v = ap (first_told (odd_told us)) (nothing v.claims)
    none_told wide.Datum names us v = ap (first_told (odd_told us)) (nothing v.claims)
    none_told wide.Parts names us v = ap (first_told (odd_told us)) (nothing v.claims)
    none_told wide.RefName names us v = ap (first_told (name_told names)) (nothing v.claims)
    none_told wide.SameName names us v = ap (first_told (other_told us)) (nothing v.claims)
    none_told wide.Twin names us v = ap (first_told (twin_told us (sifted (is_open d rule) v))) (nothing v.claims)

    -- nothing is reported of no word
    pub silent : map (λ (s : Subject). None) ss ≡ wide_details rule ss
    silent =
        let vs = map (voice_of rule) ss in
        let us = map (sifted (is_open d rule)) vs in
        (λ j. map (λ (s : Subject). sym (none_told rule (names_in ss) us (voice_of rule s)) j) ss)
        ∙ map_twice (λ v. wide_told rule (names_in ss) us (sifted (is_open d rule) v)) (voice_of rule) ss
        ∙ map_twice (wide_told rule (names_in ss) us) (sifted (is_open d rule)) vs
        ∙ told_sifted rule (names_in ss)
        ∙ sym (map_twice (wide_told rule (names_in ss) vs) (voice_of rule) ss)
