-- The notes on names, name by name, and what they say of the texts.
use Rattle.std.proofs.Common.{◌≡◌, ◌≢◌, ◌⊎◌, ℕ, Bool, true, false, not, ◌&&◌, ◌||◌, cond, List, [], ◌∷◌, ◌++◌, map, Option, Some, None, refl, sym, ap, ◌∙◌, subst, inl, inr, append_assoc, append-nil}
use Rattle.std.specs.Prelude.{Contains}
use Rattle.std.specs.List.{list_any}
use Rattle.std.specs.Str.{bytes_eq}
use Rattle.std.specs.Global.{Vec}
use Rattle.std.specs.BTreeMap.{BTreeMap}
use Rattle.std.specs.Map.{lookup}
use Rattle.std.specs.Cmp.{Equal-is}
use Rattle.std.specs.Cmp.Lexicographic.{slice_cmp}
use Rattle.std.specs.Ordering.{nat_cmp, is_eq}
use Rattle.std.proofs.lemmas.Bool.{true≢false, and_from}
use Rattle.std.proofs.lemmas.Cmp.{nat_list_cmp_total, tied_itself}
use Rattle.std.proofs.lemmas.List.Elements.{Contains-append_cases, Contains-append_left, Contains-append_right}
use Rattle.std.proofs.lemmas.Map.Lookups.{exact_bytes}
use Rattle.std.proofs.lemmas.Slice.Eq.{bytes_eq-Decides}
use Rattle.reg_export.specs.declared.twins.NameTwin.{NameTwin}
use Rattle.reg_export.specs.KeyFiles.{KeyedText, plain_name, lower, differ_by_case, has_twin}
use Rattle.reg_export.specs.Twins.{vec_cmp, Noted, At, noted, has_several, Holds, with_name, with_note, HasOthers, Tells}
use Rattle.reg_report.proofs.ConflictLemmas.{none_in, in_cons, in_head, in_map, from_map, any_of_member}

pub nothing_held : (m : BTreeMap (Vec ℕ) NameTwin) → m.entries ≡ [] → Holds m (λ _. None)
nothing_held m e q = ap (λ l. noted (lookup (λ k. is_eq (vec_cmp q k)) l)) e

pub nothing_told : (k : List ℕ) → Tells [] k None
nothing_told k n there is = none_in n there

-- ---- one more name

in_last : (done : List (List ℕ)) (n q : List ℕ) → Contains (done ++ n ∷ []) q → Contains done q ⊎ (q ≡ n)
in_last done n q h = elim (Contains-append_cases done (n ∷ []) q h) [
  | inl early ↦ inl early
  | inr late ↦ elim (in_cons q n [] late) [ inl same ↦ inr same | inr never ↦ absurd (none_in q never) ]
]

same_letters : (k l : List ℕ) → is_eq (slice_cmp nat_cmp k l) ≡ true → k ≡ l
same_letters k l e = exact_bytes k l ((Equal-is (slice_cmp nat_cmp k l)).0 e)

letters_itself : (k l : List ℕ) → k ≡ l → is_eq (slice_cmp nat_cmp k l) ≡ true
letters_itself k l e = subst (λ m. is_eq (slice_cmp nat_cmp k m) ≡ true) e (ap is_eq (tied_itself nat_list_cmp_total k))

other_name : (a b : List ℕ) → bytes_eq a b ≡ false → a ≡ b → ⊥
other_name a b h e = true≢false (sym ((bytes_eq-Decides a b).1 e) ∙ h)

module _ (done : List (List ℕ)) (n : List ℕ) where
  last : Contains (done ++ n ∷ []) n
  last = Contains-append_right done (n ∷ []) n (in_head n [])

  wider : (q : List ℕ) → Contains done q → Contains (done ++ n ∷ []) q
  wider q h = Contains-append_left done (n ∷ []) q h

  -- if each earlier name with these small letters is t, and n is, each of them is
  each : (k t : List ℕ) → ((q : List ℕ) → Contains done q → lower q ≡ k → q ≡ t) → n ≡ t → (q : List ℕ) → Contains (done ++ n ∷ []) q → lower q ≡ k → q ≡ t
  each k t all is q h its = elim (in_last done n q h) [
    | inl early ↦ all q early its
    | inr same ↦ same ∙ is
  ]

  own : (k : List ℕ) → lower n ≡ k → (o : Option Noted) → Tells done k o → Tells (done ++ n ∷ []) k (Some (with_name n o))
  own k keyed None none = ((last, keyed), each k n (λ q h its. absurd (none q h its)) refl)
  own k keyed (Some m) (one, more) = ((wider m.name one.0, one.1), by m.several (bytes_eq m.name n) refl more)
    where
      by : (s p : Bool) → bytes_eq m.name n ≡ p → HasOthers done k m.name s → HasOthers (done ++ n ∷ []) k m.name (s || not p)
      by true p e h = (h.0, wider h.0 h.1, h.2, h.3)
      by false true e h = each k m.name h (sym ((bytes_eq-Decides m.name n).0 e))
      by false false e h = (n, last, keyed, λ same. other_name m.name n e (sym same))

  other : (k l : List ℕ) → lower n ≡ k → is_eq (slice_cmp nat_cmp k l) ≡ false → (o : Option Noted) → Tells done l o → Tells (done ++ n ∷ []) l o
  other k l keyed differs o tells = by o tells
    where
      not_n : ¬ (lower n ≡ l)
      not_n its = true≢false (sym (letters_itself k l (sym keyed ∙ its)) ∙ differs)

      early : (q : List ℕ) → Contains (done ++ n ∷ []) q → lower q ≡ l → Contains done q
      early q h its = elim (in_last done n q h) [
        | inl before ↦ before
        | inr same ↦ absurd (not_n (subst (λ p. lower p ≡ l) same its))
      ]

      by : (o : Option Noted) → Tells done l o → Tells (done ++ n ∷ []) l o
      by None none = λ q h its. none q (early q h its) its
      by (Some m) (one, more) = ((wider m.name one.0, one.1), deeper m.several more)
        where
          deeper : (s : Bool) → HasOthers done l m.name s → HasOthers (done ++ n ∷ []) l m.name s
          deeper true h = (h.0, wider h.0 h.1, h.2, h.3)
          deeper false h = λ q there its. h q (early q there its) its

  pub told_more : (at : At) (k name : List ℕ) → lower n ≡ k → n ≡ name → ((l : List ℕ) → Tells done l (at l)) → (l : List ℕ) → Tells (done ++ n ∷ []) l (with_note k (with_name name (at k)) at l)
  told_more at k name keyed is tells l = by (is_eq (slice_cmp nat_cmp k l)) refl
    where
      by : (t : Bool) → is_eq (slice_cmp nat_cmp k l) ≡ t → Tells (done ++ n ∷ []) l (cond t (Some (with_name name (at k))) (at l))
      by true same =
          subst (λ m. Tells (done ++ n ∷ []) m (Some (with_name name (at k)))) (same_letters k l same) (subst (λ m. Tells (done ++ n ∷ []) k (Some (with_name m (at k)))) is (own k keyed (at k) (tells k)))
      by false differs = other k l keyed differs (at l) (tells l)

-- ---- lists of which some names are done

pub more_done : (all done rest others : List (List ℕ)) (n : List ℕ) → all ≡ done ++ rest → rest ≡ n ∷ others → all ≡ (done ++ n ∷ []) ++ others
more_done all done rest others n e f = e ∙ ap (λ l. done ++ l) f ∙ sym (append_assoc done (n ∷ []) others)

pub all_done : (all done rest : List (List ℕ)) → all ≡ done ++ rest → rest ≡ [] → all ≡ done
all_done all done rest e f = e ∙ ap (λ l. done ++ l) f ∙ append-nil done

-- ---- whether a name has a twin

not_found : {X : Type 0} (p : X → Bool) (xs : List X) → ((x : X) → Contains xs x → p x ≡ false) → list_any p xs ≡ false
not_found p [] none = refl
not_found p (y ∷ ys) none =
    let first = none y (in_head y ys) in
    let rest = not_found p ys (λ x there. none x (Contains-append_right (y ∷ []) ys x there)) in
    rw first rest

pub differs : (n m : List ℕ) → lower n ≡ lower m → (n ≡ m → ⊥) → differ_by_case n m ≡ true
differs n m alike other = and_from _ _ ((bytes_eq-Decides (lower n) (lower m)).1 alike) (by (bytes_eq n m) refl)
  where
    by : (t : Bool) → bytes_eq n m ≡ t → not t ≡ true
    by true e = absurd (other ((bytes_eq-Decides n m).0 e))
    by false e = refl

same_or_not : (n m : List ℕ) → (lower n ≡ lower m → n ≡ m) → differ_by_case n m ≡ false
same_or_not n m one = by (bytes_eq (lower n) (lower m)) (bytes_eq n m) refl refl
  where
    by : (s t : Bool) → bytes_eq (lower n) (lower m) ≡ s → bytes_eq n m ≡ t → (s && not t) ≡ false
    by false t e f = refl
    by true true e f = refl
    by true false e f = absurd (other_name n m f (one ((bytes_eq-Decides (lower n) (lower m)).0 e)))

pub twin_found : (ts : List KeyedText) (u : KeyedText) (n : List ℕ) → Contains ts u → lower (plain_name u) ≡ lower n → (plain_name u ≡ n → ⊥) → has_twin ts n ≡ true
twin_found ts u n there alike other = any_of_member (λ t. differ_by_case (plain_name t) n) ts u there (differs (plain_name u) n alike other)

pub twin_is : (ts : List KeyedText) (t : KeyedText) (o : Option Noted) → Contains ts t → Tells (map plain_name ts) (lower (plain_name t)) o → has_several o ≡ has_twin ts (plain_name t)
twin_is ts t None there none = absurd (none (plain_name t) (in_map plain_name ts t there) refl)
twin_is ts t (Some m) there (one, more) = by m.several more
  where
    twin : (q : List ℕ) → Contains (map plain_name ts) q → lower q ≡ lower (plain_name t) → (q ≡ plain_name t → ⊥) → true ≡ has_twin ts (plain_name t)
    twin q h alike other =
        let u = from_map plain_name ts q h in
        sym (twin_found ts u.0 (plain_name t) u.1 (ap lower (sym u.2) ∙ alike) (λ e. other (u.2 ∙ e)))

    by : (s : Bool) → HasOthers (map plain_name ts) (lower (plain_name t)) m.name s → s ≡ has_twin ts (plain_name t)
    by true h = two (bytes_eq h.0 (plain_name t)) refl
      where
        two : (b : Bool) → bytes_eq h.0 (plain_name t) ≡ b → true ≡ has_twin ts (plain_name t)
        two true e = twin m.name one.0 one.1 (λ same. h.3 ((bytes_eq-Decides h.0 (plain_name t)).0 e ∙ sym same))
        two false e = twin h.0 h.1 h.2 (λ same. other_name h.0 (plain_name t) e same)
    by false h =
        sym (not_found (λ u. differ_by_case (plain_name u) (plain_name t)) ts (λ u within.
        same_or_not (plain_name u) (plain_name t) (λ alike. h (plain_name u) (in_map plain_name ts u within) alike ∙ sym (h (plain_name t) (in_map plain_name ts t there) refl))))
