-- What is kept of reference systems, one at a time.
use Rattle.std.proofs.Common.{◌≡◌, List, [], ◌∷◌, ◌++◌, map, length, refl, sym, ap, ◌∙◌, subst, arith}
use Rattle.std.proofs.lemmas.List.{append_assoc, append-nil}
use Rattle.std.specs.List.{flat_map}
use Rattle.reg_lint.specs.declared.kept.KeptSubject.{KeptSubject}
use Rattle.reg_lint.specs.Subjects.{Subject, IsKept, AreKept}

pub kept_more : (ks : List KeptSubject) (ss : List Subject) (k : KeptSubject) (s : Subject) → AreKept ks ss → IsKept k s → AreKept (ks ++ k ∷ []) (ss ++ s ∷ [])
kept_more [] [] k s are is = (is, tt)
kept_more [] (t ∷ ts) k s are is = absurd are
kept_more (j ∷ ks) [] k s are is = absurd are
kept_more (j ∷ ks) (t ∷ ts) k s are is = (are.0, kept_more ks ts k s are.1 is)

-- the reference system of the first that is kept, and those of the others
pub record First (k : KeptSubject) (ks : List KeptSubject) (ss : List Subject) : Type 0 where
  pub subject : Subject
  pub others : List Subject
  pub is : IsKept k subject
  pub are : AreKept ks others
  pub same : ss ≡ subject ∷ others

pub first_of : (k : KeptSubject) (ks : List KeptSubject) (ss : List Subject) → AreKept (k ∷ ks) ss → First k ks ss
first_of k ks [] are = absurd are
first_of k ks (s ∷ ss) are = record { subject = s; others = ss; is = are.0; are = are.1; same = refl }

none_kept : (ss : List Subject) → AreKept [] ss → ss ≡ []
none_kept [] are = refl
none_kept (s ∷ ss) are = absurd are

pub none_left : (ks : List KeptSubject) (ss : List Subject) → length ks ≡ 0 → AreKept ks ss → ss ≡ []
none_left [] ss e are = none_kept ss are
none_left (k ∷ ks) ss e are = absurd (omega (arith, e))

-- ---- what is made of each, while some are left

module _ {B : Type 0} (f : Subject → B) where
  abbrev pub Maps : List KeptSubject → List KeptSubject → List B → Type 0
  Maps all rest made = (ss : List Subject) → AreKept all ss → (rs : List Subject) × AreKept rest rs × (made ++ map f rs ≡ map f ss)

  pub map_begun : (all : List KeptSubject) (made : List B) → made ≡ [] → Maps all all made
  map_begun all made e ss are = (ss, are, ap (λ l. l ++ map f ss) e)

  pub map_step : (all rest others : List KeptSubject) (k : KeptSubject) (old new : List B) (b : B) → rest ≡ k ∷ others → new ≡ old ++ b ∷ []
      → ((s : Subject) → IsKept k s → b ≡ f s) → Maps all rest old → Maps all others new
  map_step all rest others k old new b r e is maps ss are =
      let m = maps ss are in
      let h = first_of k others m.0 (subst (λ l. AreKept l m.0) r m.1) in (
        h.others,
        h.are,
        (λ j. (e ∙ ap (λ x. old ++ x ∷ []) (is h.subject h.is)) j ++ map f h.others)
            ∙ append_assoc old (f h.subject ∷ []) (map f h.others)
            ∙ ap (λ l. old ++ map f l) (sym h.same)
            ∙ m.2,
      )

  pub map_done : (all rest : List KeptSubject) (made : List B) → length rest ≡ 0 → Maps all rest made → (ss : List Subject) → AreKept all ss → made ≡ map f ss
  map_done all rest made e maps ss are =
      let m = maps ss are in
      sym (append-nil made) ∙ ap (λ l. made ++ map f l) (sym (none_left rest m.0 e m.1)) ∙ m.2

-- ---- the same of lists

module _ {B : Type 0} (f : Subject → List B) where
  abbrev pub FlatMaps : List KeptSubject → List KeptSubject → List B → Type 0
  FlatMaps all rest made = (ss : List Subject) → AreKept all ss → (rs : List Subject) × AreKept rest rs × (made ++ flat_map f rs ≡ flat_map f ss)

  pub flat_begun : (all : List KeptSubject) (made : List B) → made ≡ [] → FlatMaps all all made
  flat_begun all made e ss are = (ss, are, ap (λ l. l ++ flat_map f ss) e)

  pub flat_step : (all rest others : List KeptSubject) (k : KeptSubject) (old new bs : List B) → rest ≡ k ∷ others → new ≡ old ++ bs
      → ((s : Subject) → IsKept k s → bs ≡ f s) → FlatMaps all rest old → FlatMaps all others new
  flat_step all rest others k old new bs r e is maps ss are =
      let m = maps ss are in
      let h = first_of k others m.0 (subst (λ l. AreKept l m.0) r m.1) in (
        h.others,
        h.are,
        (λ j. (e ∙ ap (λ x. old ++ x) (is h.subject h.is)) j ++ flat_map f h.others)
            ∙ append_assoc old (f h.subject) (flat_map f h.others)
            ∙ ap (λ l. old ++ flat_map f l) (sym h.same)
            ∙ m.2,
      )

  pub flat_done : (all rest : List KeptSubject) (made : List B) → length rest ≡ 0 → FlatMaps all rest made → (ss : List Subject) → AreKept all ss → made ≡ flat_map f ss
  flat_done all rest made e maps ss are =
      let m = maps ss are in
      sym (append-nil made) ∙ ap (λ l. made ++ flat_map f l) (sym (none_left rest m.0 e m.1)) ∙ m.2
