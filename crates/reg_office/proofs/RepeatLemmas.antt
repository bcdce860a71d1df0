-- The first entry that is named again, and the walk along the entries up to it.
use Rattle.std.proofs.Common.{◌≡◌, ℕ, ◌+◌, ◌<◌, ◌≤◌, nat_eq, Bool, true, false, not, ◌||◌, cond, List, [], ◌∷◌, ◌++◌, length, get_or, take, drop, zero, suc, Some, None, refl, sym, ap, ◌∙◌, subst, inl, inr, arith}
use Rattle.std.proofs.lemmas.Bool.{true≢false, cases_lt}
use Rattle.std.proofs.lemmas.Bool.Decides.{nat_tests}
use Rattle.std.proofs.lemmas.List.{take_more, drop_more}
use Rattle.std.proofs.lemmas.List.Folds.{list_any-append}
use Rattle.std.specs.List.{list_any}
use Rattle.std.specs.Cmp.{eq_by_cmp_equiv}
use Rattle.reg_op.specs.Ids.{Id, is_same}
use Rattle.reg_op.specs.Operations.{Ops}
use Rattle.reg_op.specs.Status.{enters, retires, is_replaced_by}
use Rattle.reg_op.proofs.OpLemmas.{id_total}
use Rattle.reg_office.specs.declared.command.Command.{Command}
use Rattle.reg_office.specs.declared.command.Command.TheVariants.{Retire, Supersede}
use Rattle.reg_office.specs.declared.fault.OfficeFault.TheVariants as fault
use Rattle.reg_office.specs.Making.{else_next}
use Rattle.reg_office.specs.Effects.{fault_of}
use Rattle.reg_office.specs.Repeats.{IsFirstRepeat}
use Rattle.reg_office.proofs.EffectLemmas.{chain, faults}

-- no entry before index n is equal to an earlier one
abbrev pub Fresh : List Id → ℕ → Type 0
Fresh named n = (k : ℕ) (d : Id) → k < n → list_any (is_same (get_or named k d)) (take k named) ≡ false

same_at : (xs : List Id) (k : ℕ) (d e : Id) → k < length xs → get_or xs k d ≡ get_or xs k e
same_at [] k d e h = absurd (omega arith)
same_at (x ∷ xs) zero d e h = refl
same_at (x ∷ xs) (suc k) d e h = same_at xs k d e (omega arith)

pub fresh_more : (named : List Id) (at : ℕ) (e : Id) → at < length named → e ≡ get_or named at e → list_any (is_same e) (take at named) ≡ false → Fresh named at → Fresh named (at + 1)
fresh_more named at e h is new fresh k d lt = elim (cases_lt k at) [
  | inl below ↦ fresh k d below
  | inr up ↦
      let here : at ≡ k = omega arith in
      subst (λ j. list_any (is_same (get_or named j d)) (take j named) ≡ false) here (subst (λ f. list_any (is_same f) (take at named) ≡ false) (is ∙ same_at named at e d h) new)
]

-- the entries before the next index are those before this one, and the entry at it
pub before_more : (named : List Id) (at : ℕ) (e q : Id) → at < length named → e ≡ get_or named at e → cond (is_same e q) true (list_any (is_same q) (take at named)) ≡ list_any (is_same q) (take (at + 1) named)
before_more named at e q h is =
    sym (ap (list_any (is_same q)) (take_more named at e h) ∙ ap (λ f. list_any (is_same q) (take at named ++ f ∷ [])) (sym is)
    ∙ list_any-append (is_same q) (take at named) (e ∷ []) ∙ turned (is_same q e) (list_any (is_same q) (take at named))
    ∙ ap (λ b. cond b true (list_any (is_same q) (take at named))) ((eq_by_cmp_equiv id_total).symm q e))
  where
    turned : (a b : Bool) → (b || (a || false)) ≡ cond a true b
    turned true true = refl
    turned true false = refl
    turned false true = refl
    turned false false = refl

-- ---- the walk along the entries

pub again_at : (named : List Id) (r k : ℕ) (e : Id) → IsFirstRepeat named r → k ≤ r → k < length named → e ≡ get_or named k e → nat_eq k r ≡ list_any (is_same e) (take k named)
again_at named r k e first up h is = elim (cases_lt k r) [
  | inl below ↦ other k r below ∙ sym (subst (λ f. list_any (is_same f) (take k named) ≡ false) (sym is) (first.fresh k e below))
  | inr at ↦
      let here : r ≡ k = omega arith in
      same k r here ∙ sym (subst (λ f. list_any (is_same f) (take k named) ≡ true) (sym is) (subst (λ j. list_any (is_same (get_or named j e)) (take j named) ≡ true) here (first.again e (omega arith))))
]
  where
    other : (k r : ℕ) → k < r → nat_eq k r ≡ false
    other k r h = grind (arith, nat_tests)

    same : (k r : ℕ) → r ≡ k → nat_eq k r ≡ true
    same k r h = grind (arith, nat_tests)

refused_chain : (old newer : Id) (a b same r q p : Bool) → chain old newer a b same r q (p || true) ≡ None → ⊥
refused_chain old newer false b same r q p h = cc
refused_chain old newer true false same r q p h = cc
refused_chain old newer true true true r q p h = cc
refused_chain old newer true true false true q p h = cc
refused_chain old newer true true false false true p h = cc
refused_chain old newer true true false false false true h = cc
refused_chain old newer true true false false false false h = cc

-- an entry that is named again is refused
pub again_refused : (c : Command) (ops : Ops) (e : Id) → fault_of c ops true e ≡ None → ⊥
again_refused Retire ops e h = two e (enters ops e) (retires ops e) h
  where
    two : (entry : Id) (a r : Bool) → cond (not a) (Some (fault.UnknownEntry entry)) (cond (r || true) (Some (fault.AlreadyRetired entry)) None) ≡ None → ⊥
    two entry true true h = cc
    two entry true false h = cc
    two entry false r h = cc
again_refused (Supersede old) ops e h = refused_chain old e (enters ops old) (enters ops e) (is_same old e) (retires ops old) (retires ops e) (is_replaced_by ops old e) h

pub walk_more : (c : Command) (ops : Ops) (named : List Id) (r k : ℕ) (e : Id) → IsFirstRepeat named r → k ≤ r → k < length named → e ≡ get_or named k e → fault_of c ops (nat_eq k r) e ≡ None
    → faults c ops [] named ≡ faults c ops (take k named) (drop k named) → (k + 1 ≤ r) × (faults c ops [] named ≡ faults c ops (take (k + 1) named) (drop (k + 1) named))
walk_more c ops named r k e first up h is none walked = (
  past,
  walked ∙ ap (faults c ops (take k named)) (drop_more named k e h)
      ∙ (λ j. faults c ops (take k named) (sym is j ∷ drop (k + 1) named))
      ∙ (λ j. else_next ((ap (λ b. fault_of c ops b e) (sym (again_at named r k e first up h is)) ∙ none) j) (faults c ops (take k named ++ e ∷ []) (drop (k + 1) named)))
      ∙ (λ j. faults c ops (take k named ++ is j ∷ []) (drop (k + 1) named))
      ∙ ap (λ l. faults c ops l (drop (k + 1) named)) (sym (take_more named k e h)),
)
  where
    same : (k r : ℕ) → r ≡ k → nat_eq k r ≡ true
    same k r h = grind (arith, nat_tests)

    past : k + 1 ≤ r
    past = elim (cases_lt k r) [
      | inl below ↦ omega arith
      | inr at ↦ let here : r ≡ k = omega arith in absurd (again_refused c ops e (subst (λ b. fault_of c ops b e ≡ None) (same k r here) none))
    ]

-- an element that was added was absent
pub was_absent : (there added : Bool) → added ≡ not there → added ≡ true → there ≡ false
was_absent false added e h = refl
was_absent true added e h = absurd (true≢false (sym h ∙ e))
