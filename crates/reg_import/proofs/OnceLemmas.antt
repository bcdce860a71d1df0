-- Effects that retire each entry once meet no objection, and none of their operations replaces another.
use Rattle.std.proofs.Common.{◌≡◌, ℕ, ◌+◌, Bool, true, false, not, ◌&&◌, ◌||◌, cond, List, [], ◌∷◌, ◌++◌, Some, None, refl, sym, ap, ◌∙◌, subst, inl, inr}
use Rattle.std.specs.Prelude.{option_map}
use Rattle.std.proofs.lemmas.Bool.{true≢false, or_left, and_parts, false_from_ne_true, or_parts}
use Rattle.std.proofs.Math.Bool.{or-false}
use Rattle.std.specs.List.{list_any}
use Rattle.reg_op.specs.Set as set
use Rattle.reg_op.specs.Ids.{Id, is_same, is_before}
use Rattle.reg_op.specs.Finite.{any}
use Rattle.reg_op.specs.Lists.{has}
use Rattle.reg_op.specs.Operations.{Op, Ops, one, op_cmp, kept, replaces, replaces_body}
use Rattle.reg_op.specs.declared.operation.OpBody.{OpBody as Body}
use Rattle.reg_op.specs.declared.operation.OpBody.TheVariants.{Enter, Supersede, Retire}
use Rattle.reg_op.specs.Contents.{Content}
use Rattle.reg_op.specs.Status.{enters, retires, is_enter, is_retirement}
use Rattle.reg_op.proofs.FiniteLemmas.{member_from_any}
use Rattle.reg_op.proofs.OpLemmas.{op_total, op_exact, is_same_exact, replaces_irreflexive}
use Rattle.reg_op.proofs.ContentLemmas.{kept-union_right}
use Rattle.reg_op.proofs.StatusLemmas.{enters-kept, retires-kept}
use Rattle.reg_op.proofs.ClashLemmas.{find_none}
use Rattle.reg_state.specs.Runs.{id_at}
use Rattle.reg_state.specs.Tables.{first_dropped}
use Rattle.reg_office.specs.declared.fault.OfficeFault.TheVariants as fault
use Rattle.reg_office.specs.Making.{numbered, with_op, else_next, objections}
use Rattle.reg_office.proofs.NumberLemmas.{op_cases}
use Rattle.reg_office.proofs.BodyLemmas.{same_itself}
use Rattle.reg_office.proofs.NewLemmas.{in_list}
use Rattle.reg_office.proofs.EffectLemmas.{any-with}

-- the effects enter entries, or retire entries that are entered, not retired and not in `before`, each once
abbrev pub Once : Ops → List Id → List Body → Type 0
Once ops before [] = Unit {0}
Once ops before (Enter text ∷ bs) = Once ops before bs
Once ops before (Supersede old newer ∷ bs) = ⊥
Once ops before (Retire e ∷ bs) = (enters ops e ≡ true) × (retires ops e ≡ false) × (list_any (is_same e) before ≡ false) × Once ops (e ∷ before) bs

-- `before` with the entries that the effects retire
abbrev pub and_retired : List Id → List Body → List Id
and_retired before [] = before
and_retired before (Enter text ∷ bs) = and_retired before bs
and_retired before (Supersede old newer ∷ bs) = and_retired before bs
and_retired before (Retire e ∷ bs) = and_retired (e ∷ before) bs

pub once_append : (ops : Ops) (before : List Id) (bs cs : List Body) → Once ops before bs → Once ops (and_retired before bs) cs → Once ops before (bs ++ cs)
once_append ops before [] cs a b = b
once_append ops before (Enter text ∷ bs) cs a b = once_append ops before bs cs a b
once_append ops before (Supersede old newer ∷ bs) cs a b = absurd a
once_append ops before (Retire e ∷ bs) cs a b = (a.0, a.1, a.2, once_append ops (e ∷ before) bs cs a.3 b)

-- ---- they meet no objection

-- `now` enters all entries of `ops`, and retires exactly those that `ops` retires and those in `before`
record Grown (ops : Ops) (before : List Id) (now : Ops) : Type 0 where
  entered : (e : Id) → enters ops e ≡ true → enters now e ≡ true
  retired : (e : Id) → retires now e ≡ (retires ops e || list_any (is_same e) before)

or_turn : (a b c : Bool) → ((a || b) || c) ≡ (a || (c || b))
or_turn true b c = refl
or_turn false true true = refl
or_turn false true false = refl
or_turn false false true = refl
or_turn false false false = refl

module _ (ops : Ops) (before : List Id) (y : Content) (i : Id) (b : Body) (note : List ℕ) (g : Grown ops before y.ops) where
  abbrev made : Op
  made = record { id = i; body = b; note = note }

  abbrev s : Ops
  s = set.union y.ops (one made)

  still_entered : (e : Id) → enters ops e ≡ true → enters (kept s) e ≡ true
  still_entered e h = enters-kept s e ∙ any-with (λ p. is_same e p.id && is_enter p.body) y.ops made ∙ or_left (enters y.ops e) _ (g.entered e h)

  then_retired : (e : Id) → retires (kept s) e ≡ ((retires ops e || list_any (is_same e) before) || is_retirement e b)
  then_retired e = retires-kept s e ∙ any-with (λ p. is_retirement e p.body) y.ops made ∙ ap (λ r. r || is_retirement e b) (g.retired e)

  grown : (more : List Id) → ((e : Id) → ((retires ops e || list_any (is_same e) before) || is_retirement e b) ≡ (retires ops e || list_any (is_same e) more)) → Grown ops more (with_op y made).ops
  grown more h = subst (Grown ops more) (sym (kept-union_right y.ops (one made))) (record { entered = still_entered; retired = λ e. then_retired e ∙ h e })

against_none : (ops : Ops) (before : List Id) (y : Content) (r : List ℕ) (n : ℕ) (note : List ℕ) (bs : List Body) → Grown ops before y.ops → Once ops before bs → objections y (numbered r n note bs) ≡ None
against_none ops before y r n note [] g once = refl
against_none ops before y r n note (Enter text ∷ bs) g once =
    against_none ops before (with_op y (record { id = id_at r n; body = Enter text; note = note })) r (n + 1) note bs (grown ops before y (id_at r n) (Enter text) note g before (λ e. or-false _)) once
against_none ops before y r n note (Supersede old newer ∷ bs) g once = absurd once
against_none ops before y r n note (Retire e ∷ bs) g once =
    let there : enters y.ops e ≡ true = g.entered e once.0 in
    let stands : retires y.ops e ≡ false = g.retired e ∙ (λ j. once.1 j || once.2 j) in
    let rest = against_none ops (e ∷ before) (with_op y (record { id = id_at r n; body = Retire e; note = note })) r (n + 1) note bs
    (grown ops before y (id_at r n) (Retire e) note g (e ∷ before) (λ f. or_turn (retires ops f) (list_any (is_same f) before) (is_same f e))) once.3 in
    (λ j. else_next (cond (not (there j)) (Some (fault.UnknownEntry e)) (cond (stands j) (Some (fault.AlreadyRetired e)) None)) (rest j))

pub nothing_against : (x : Content) (r : List ℕ) (n : ℕ) (note : List ℕ) (bs : List Body) → Once x.ops [] bs → objections x (numbered r n note bs) ≡ None
nothing_against x r n note bs once = against_none x.ops [] x r n note bs (record { entered = λ e h. h; retired = λ e. sym (or-false (retires x.ops e)) }) once

-- ---- none replaces another

-- the effect enters an entry, or retires one that is not in `before`
abbrev IsOne : List Id → Body → Type 0
IsOne before (Enter text) = Unit {0}
IsOne before (Supersede old newer) = ⊥
IsOne before (Retire e) = list_any (is_same e) before ≡ false

fewer : (e : Id) (before : List Id) (b : Body) → IsOne (e ∷ before) b → IsOne before b
fewer e before (Enter text) h = h
fewer e before (Supersede old newer) h = h
fewer e before (Retire f) h = (or_parts (is_same f e) (list_any (is_same f) before) h).1

module _ (ops : Ops) (r : List ℕ) (note : List ℕ) where
  abbrev at : ℕ → Body → Op
  at n b = record { id = id_at r n; body = b; note = note }

  one_of : (before : List Id) (n : ℕ) (bs : List Body) (o : Op) → Once ops before bs → has (numbered r n note bs) o ≡ true → IsOne before o.body
  one_of before n [] o once h = absurd (true≢false (sym h))
  one_of before n (Enter text ∷ bs) o once h = elim (op_cases o (at n (Enter text)) (numbered r (n + 1) note bs) h) [
    | inl a ↦ subst (λ (p : Op). IsOne before p.body) (sym a) tt
    | inr a ↦ one_of before (n + 1) bs o once a
  ]
  one_of before n (Supersede old newer ∷ bs) o once h = absurd once
  one_of before n (Retire e ∷ bs) o once h = elim (op_cases o (at n (Retire e)) (numbered r (n + 1) note bs) h) [
    | inl a ↦ subst (λ (p : Op). IsOne before p.body) (sym a) once.2
    | inr a ↦ fewer e before o.body (one_of (e ∷ before) (n + 1) bs o once.3 a)
  ]

  -- effects that can follow the retirement of an entry do not retire it again
  no_more : (before : List Id) (n : ℕ) (bs : List Body) (e f : Id) (o : Op) → Once ops (e ∷ before) bs → has (numbered r n note bs) o ≡ true → o.body ≡ Retire f → f ≡ e → ⊥
  no_more before n bs e f o once h b same =
      let is = subst (IsOne (e ∷ before)) b (one_of (e ∷ before) n bs o once h) in
      true≢false (sym (subst (λ i. is_same f i ≡ true) same (same_itself f)) ∙ (or_parts (is_same f e) (list_any (is_same f) before) is).0)

  retired_once : (before : List Id) (n : ℕ) (bs : List Body) (p o : Op) (e f : Id) → Once ops before bs → has (numbered r n note bs) p ≡ true → has (numbered r n note bs) o ≡ true → p.body ≡ Retire e → o.body ≡ Retire f → e ≡ f → p ≡ o
  retired_once before n [] p o e f once h k a b same = absurd (true≢false (sym h))
  retired_once before n (Enter text ∷ bs) p o e f once h k a b same = elim (op_cases p (at n (Enter text)) (numbered r (n + 1) note bs) h) [
    | inl c ↦ let is : Enter text ≡ Retire e = sym (ap (λ (q : Op). q.body) c) ∙ a in absurd cc
    | inr c ↦ elim (op_cases o (at n (Enter text)) (numbered r (n + 1) note bs) k) [
      | inl d ↦ let is : Enter text ≡ Retire f = sym (ap (λ (q : Op). q.body) d) ∙ b in absurd cc
      | inr d ↦ retired_once before (n + 1) bs p o e f once c d a b same
    ]
  ]
  retired_once before n (Supersede old newer ∷ bs) p o e f once h k a b same = absurd once
  retired_once before n (Retire g ∷ bs) p o e f once h k a b same = elim (op_cases p (at n (Retire g)) (numbered r (n + 1) note bs) h) [
    | inl c ↦ elim (op_cases o (at n (Retire g)) (numbered r (n + 1) note bs) k) [
      | inl d ↦ c ∙ sym d
      | inr d ↦
          let is : Retire g ≡ Retire e = sym (ap (λ (q : Op). q.body) c) ∙ a in
          let head : g ≡ e = cc in
          absurd (no_more before (n + 1) bs g f o once.3 d b (sym same ∙ sym head))
    ]
    | inr c ↦ elim (op_cases o (at n (Retire g)) (numbered r (n + 1) note bs) k) [
      | inl d ↦
          let is : Retire g ≡ Retire f = sym (ap (λ (q : Op). q.body) d) ∙ b in
          let head : g ≡ f = cc in
          absurd (no_more before (n + 1) bs g e p once.3 c a (same ∙ sym head))
      | inr d ↦ retired_once (g ∷ before) (n + 1) bs p o e f once.3 c d a b same
    ]
  ]

  -- no operation of the effects replaces one of them
  over_none : (before : List Id) (n : ℕ) (bs : List Body) (p o : Op) → Once ops before bs → has (numbered r n note bs) p ≡ true → has (numbered r n note bs) o ≡ true → replaces p o ≡ true → ⊥
  over_none before n bs p o once h k over = by_body p.body o.body refl refl
    where
      by_body : (a b : Body) → p.body ≡ a → o.body ≡ b → ⊥
      by_body (Enter text) b e f = true≢false (sym over ∙ (λ j. replaces_body (is_before p.id o.id) (e j) (o.body)) ∙ none text o.body)
        where
          none : (text : List ℕ) (b : Body) → replaces_body (is_before p.id o.id) (Enter text) b ≡ false
          none text (Enter t) = refl
          none text (Supersede x y) = refl
          none text (Retire x) = refl
      by_body (Supersede x y) b e f = subst (IsOne before) e (one_of before n bs p once h)
      by_body (Retire x) (Enter text) e f = true≢false (sym over ∙ (λ j. replaces_body (is_before p.id o.id) (e j) (f j)))
      by_body (Retire x) (Supersede y z) e f = subst (IsOne before) f (one_of before n bs o once k)
      by_body (Retire x) (Retire z) e f =
          let both : (is_same x z && is_before p.id o.id) ≡ true = sym (λ j. replaces_body (is_before p.id o.id) (e j) (f j)) ∙ over in
          let same : x ≡ z = is_same_exact x z (and_parts _ _ both).0 in
          let one : p ≡ o = retired_once before n bs p o x z once h k e f same in
          replaces_irreflexive o (subst (λ q. replaces q o ≡ true) one over)

abbrev of_list : List Op → Ops
of_list os = set.from_list {R = op_cmp} os

pub none_dropped : (ops : Ops) (r : List ℕ) (n : ℕ) (note : List ℕ) (bs : List Body) → Once ops [] bs → first_dropped (of_list (numbered r n note bs)) ≡ None
none_dropped ops r n note bs once =
    let os : List Op = numbered r n note bs in
    ap (option_map (λ (o : Op). o.id)) (find_none (λ o. any (λ p. replaces p o) (of_list os)) (set.items (of_list os)) (false_from_ne_true _ (λ h.
    let o = member_from_any op_total op_exact (λ o. any (λ p. replaces p o) (of_list os)) (of_list os) h in
    let p = member_from_any op_total op_exact (λ p. replaces p o.0) (of_list os) o.2 in
    over_none ops r note [] n bs p.0 o.0 once (in_list os p.0 p.1) (in_list os o.0 o.1) p.2)))
