-- The operations of a command are kept after the join, as each of its effects is new.
use Rattle.std.proofs.Common.{◌≡◌, ℕ, ◌+◌, Bool, true, false, not, ◌&&◌, ◌||◌, cond, List, [], ◌∷◌, ◌++◌, map, length, Option, Some, None, Ok, refl, sym, ap, ◌∙◌, subst, inl, inr}
use Rattle.std.proofs.lemmas.Bool.{true≢false, and_parts, and_from, or_cases, or_left, or_right, false_from_ne_true}
use Rattle.std.proofs.lemmas.List.Folds.{list_any-append}
use Rattle.std.specs.List.{list_any}
use Rattle.std.specs.Prelude.{option_map}
use Rattle.reg_op.specs.Set as set
use Rattle.reg_op.specs.Set.{contains, contains-from_list}
use Rattle.reg_op.specs.Ids.{Id, is_same, is_before}
use Rattle.reg_op.specs.Finite.{any}
use Rattle.reg_op.specs.Lists.{has}
use Rattle.reg_op.specs.Operations.{Op, Ops, op_cmp, kept, replaces, replaces_body}
use Rattle.reg_op.specs.declared.operation.OpBody.{OpBody as Body}
use Rattle.reg_op.specs.declared.operation.OpBody.TheVariants.{Enter, Supersede as Superseding, Retire as Retiring}
use Rattle.reg_op.specs.Contents.{Content, state, merged}
use Rattle.reg_op.specs.Status.{enters, retires, is_replaced_by, is_retirement, is_supersession}
use Rattle.reg_op.proofs.OpLemmas.{op_total, op_exact, is_same_exact, is_same_back, replaces_irreflexive}
use Rattle.reg_op.proofs.FiniteLemmas.{any_from_member, member_from_any}
use Rattle.reg_op.proofs.ContentLemmas.{contains_op-union, kept_is_within}
use Rattle.reg_op.proofs.OneLemmas.{kept_has}
use Rattle.reg_op.proofs.ClashLemmas.{find_none}
use Rattle.reg_state.specs.Tables.{first_dropped}
use Rattle.reg_office.specs.declared.command.Command.{Command}
use Rattle.reg_office.specs.declared.command.Command.TheVariants.{Retire, Supersede}
use Rattle.reg_office.specs.declared.fault.OfficeFault.{OfficeFault}
use Rattle.reg_office.specs.declared.fault.OfficeFault.TheVariants as fault
use Rattle.reg_office.specs.Making.{greatest, numbered, objections, else_next, note_fault, is_spent, made_unless, made}
use Rattle.reg_office.specs.Effects.{effect_of, fault_of}
use Rattle.reg_office.proofs.EffectLemmas.{chain, faults, effects, objections_are, nothing_against}
use Rattle.reg_office.proofs.NumberLemmas.{op_cases}
use Rattle.reg_office.proofs.LawLemmas.{made_are}
use Rattle.reg_office.proofs.RepeatLemmas.{again_refused}
use Rattle.reg_file.proofs.BodyLemmas.{same_itself}

-- no entry is in the list twice
abbrev pub Distinct : List Id → Type 0
Distinct [] = Unit {0}
Distinct (e ∷ es) = (list_any (is_same e) es ≡ false) × Distinct es

not_again : (c : Command) (ops : Ops) (b : Bool) (e : Id) → fault_of c ops b e ≡ None → b ≡ false
not_again c ops false e h = refl
not_again c ops true e h = absurd (again_refused c ops e h)

in_end : (before : List Id) (e : Id) → list_any (is_same e) (before ++ e ∷ []) ≡ true
in_end before e = list_any-append (is_same e) before (e ∷ []) ∙ or_right (list_any (is_same e) before) _ (or_left (is_same e e) false (same_itself e))

in_front : (before : List Id) (e f : Id) → list_any (is_same e) before ≡ true → list_any (is_same e) (before ++ f ∷ []) ≡ true
in_front before e f h = list_any-append (is_same e) before (f ∷ []) ∙ or_left (list_any (is_same e) before) _ h

-- a command that is not refused names each entry once
pub named_once : (c : Command) (ops : Ops) (before es : List Id) → faults c ops before es ≡ None → Distinct es × ((e : Id) → list_any (is_same e) before ≡ true → list_any (is_same e) es ≡ false)
named_once c ops before [] h = (tt, λ e k. refl)
named_once c ops before (f ∷ fs) h =
    let p = nothing_against (fault_of c ops (list_any (is_same f) before) f) (faults c ops (before ++ f ∷ []) fs) h in
    let rest = named_once c ops (before ++ f ∷ []) fs p.1 in
    let fresh : list_any (is_same f) before ≡ false = not_again c ops (list_any (is_same f) before) f p.0 in (
      (rest.1 f (in_end before f), rest.0),
      λ e k.
          let other : is_same e f ≡ false = false_from_ne_true _ (λ t. true≢false (sym (subst (λ i. list_any (is_same i) before ≡ true) (is_same_exact e f t) k) ∙ fresh)) in
          ap (λ b. b || list_any (is_same e) fs) other ∙ rest.1 e (in_front before e f k),
    )

-- if a command is not refused, none of its effects is refused on its own
pub each_new : (c : Command) (ops : Ops) (before es : List Id) → faults c ops before es ≡ None → (e : Id) → list_any (is_same e) es ≡ true → fault_of c ops false e ≡ None
each_new c ops before [] h e m = absurd (true≢false (sym m))
each_new c ops before (f ∷ fs) h e m =
    let p = nothing_against (fault_of c ops (list_any (is_same f) before) f) (faults c ops (before ++ f ∷ []) fs) h in
    elim (or_cases (is_same e f) (list_any (is_same e) fs) m) [
      | inl t ↦ subst (λ i. fault_of c ops false i ≡ None) (sym (is_same_exact e f t)) (subst (λ b. fault_of c ops b f ≡ None) (not_again c ops (list_any (is_same f) before) f p.0) p.0)
      | inr t ↦ each_new c ops (before ++ f ∷ []) fs p.1 e t
    ]

-- ---- no operation of a command replaces another of it

pub member_of : (f : Id → Body) (r : List ℕ) (n : ℕ) (note : List ℕ) (es : List Id) (o : Op) → has (numbered r n note (map f es)) o ≡ true → (e : Id) × (list_any (is_same e) es ≡ true) × (o.body ≡ f e)
member_of f r n note [] o h = absurd (true≢false (sym h))
member_of f r n note (e ∷ es) o h = elim (op_cases o _ (numbered r (n + 1) note (map f es)) h) [
  | inl a ↦ (e, or_left (is_same e e) _ (same_itself e), ap (λ (p : Op). p.body) a)
  | inr a ↦ let m = member_of f r (n + 1) note es o a in (m.0, or_right (is_same m.0 e) _ m.1, m.2)
]

same_effect : (c : Command) (before : Bool) (e f : Id) → replaces_body before (effect_of c e) (effect_of c f) ≡ true → is_same e f ≡ true
same_effect Retire before e f h = (and_parts _ _ h).0
same_effect (Supersede old) before e f h = (and_parts _ _ (and_parts _ _ h).1).0

same_entry : (c : Command) (p o : Op) (e f : Id) → p.body ≡ effect_of c e → o.body ≡ effect_of c f → replaces p o ≡ true → e ≡ f
same_entry c p o e f a b h = is_same_exact e f (same_effect c (is_before p.id o.id) e f (subst (λ x. replaces_body (is_before p.id o.id) (effect_of c e) x ≡ true) b (subst (λ x. replaces_body (is_before p.id o.id) x o.body ≡ true) a h)))

pub none_replaces : (c : Command) (r : List ℕ) (n : ℕ) (note : List ℕ) (es : List Id) → Distinct es → (p o : Op) → has (numbered r n note (effects c es)) p ≡ true → has (numbered r n note (effects c es)) o ≡ true → replaces p o ≡ true → ⊥
none_replaces c r n note [] d p o h k over = true≢false (sym h)
none_replaces c r n note (e ∷ es) d p o h k over =
    elim (op_cases p _ (numbered r (n + 1) note (effects c es)) h) [
      | inl a ↦ elim (op_cases o _ (numbered r (n + 1) note (effects c es)) k) [
        | inl b ↦ replaces_irreflexive o (subst (λ q. replaces q o ≡ true) (a ∙ sym b) over)
        | inr b ↦
            let m = member_of (effect_of c) r (n + 1) note es o b in
            true≢false (sym (subst (λ i. list_any (is_same i) es ≡ true) (sym (same_entry c p o e m.0 (ap (λ (q : Op). q.body) a) m.2 over)) m.1) ∙ d.0)
      ]
      | inr a ↦ elim (op_cases o _ (numbered r (n + 1) note (effects c es)) k) [
        | inl b ↦
            let m = member_of (effect_of c) r (n + 1) note es p a in
            true≢false (sym (subst (λ i. list_any (is_same i) es ≡ true) (same_entry c p o m.0 e m.2 (ap (λ (q : Op). q.body) b) over) m.1) ∙ d.0)
        | inr b ↦ none_replaces c r (n + 1) note es d.1 p o a b over
      ]
    ]

abbrev of_list : List Op → Ops
of_list os = set.from_list {R = op_cmp} os

pub in_list : (os : List Op) (o : Op) → contains (of_list os) o ≡ true → has os o ≡ true
in_list os o h = sym (contains-from_list op_total os o) ∙ h

in_set : (os : List Op) (o : Op) → has os o ≡ true → contains (of_list os) o ≡ true
in_set os o h = contains-from_list op_total os o ∙ h

abbrev pub Unreplaced : List Op → Type 0
Unreplaced os = (p o : Op) → has os p ≡ true → has os o ≡ true → replaces p o ≡ true → ⊥

-- if no operation of a list replaces another, none is dropped
drops_none : (os : List Op) → Unreplaced os → first_dropped (of_list os) ≡ None
drops_none os free = ap (option_map (λ (o : Op). o.id)) (find_none (λ o. any (λ p. replaces p o) (of_list os)) (set.items (of_list os)) (false_from_ne_true _ (λ h.
    let o = member_from_any op_total op_exact (λ o. any (λ p. replaces p o) (of_list os)) (of_list os) h in
    let p = member_from_any op_total op_exact (λ p. replaces p o.0) (of_list os) o.2 in
    free p.0 o.0 (in_list os p.0 p.1) (in_list os o.0 o.1) p.2)))

pub none_dropped : (c : Command) (x : Content) (r : List ℕ) (n : ℕ) (note : List ℕ) (es : List Id) → objections x (numbered r n note (effects c es)) ≡ None → first_dropped (of_list (numbered r n note (effects c es))) ≡ None
none_dropped c x r n note es h = drops_none (numbered r n note (effects c es)) (none_replaces c r n note es (named_once c x.ops [] es (sym (objections_are c x r n note es) ∙ h)).0)

-- ---- no operation of the content replaces one of the command

two_new : (entry : Id) (a r : Bool) → cond (not a) (Some (fault.UnknownEntry entry)) (cond (r || false) (Some (fault.AlreadyRetired entry)) None) ≡ None → r ≡ true → ⊥
two_new entry false r h k = cc
two_new entry true true h k = cc
two_new entry true false h k = true≢false (sym k)

old_stands : (old newer : Id) (a b same r q p : Bool) → chain old newer a b same r q p ≡ None → r ≡ true → ⊥
old_stands old newer false b same r q p h k = cc
old_stands old newer true false same r q p h k = cc
old_stands old newer true true true r q p h k = cc
old_stands old newer true true false true q p h k = cc
old_stands old newer true true false false q p h k = true≢false (sym k)

pair_new : (old newer : Id) (a b same r q t : Bool) → chain old newer a b same r q ((not r && t) || false) ≡ None → t ≡ true → ⊥
pair_new old newer false b same r q t h k = cc
pair_new old newer true false same r q t h k = cc
pair_new old newer true true true r q t h k = cc
pair_new old newer true true false true q t h k = cc
pair_new old newer true true false false true t h k = cc
pair_new old newer true true false false false true h k = cc
pair_new old newer true true false false false false h k = true≢false (sym k)

none_above : (c : Command) (ops : Ops) (e : Id) → fault_of c ops false e ≡ None → (i : Id) (b : Body) (t : List ℕ) (before : Bool) → contains ops (record { id = i; body = b; note = t }) ≡ true → replaces_body before b (effect_of c e) ≡ true → ⊥
none_above Retire ops e h i (Enter text) t before m over = true≢false (sym over)
none_above Retire ops e h i (Superseding a n) t before m over = true≢false (sym over)
none_above Retire ops e h i (Retiring f) t before m over =
    two_new e (enters ops e) (retires ops e) h (any_from_member op_total op_exact (λ o. is_retirement e o.body) ops (record { id = i; body = Retiring f; note = t }) m (is_same_back f e (and_parts _ _ over).0))
none_above (Supersede old) ops e h i (Enter text) t before m over = true≢false (sym over)
none_above (Supersede old) ops e h i (Retiring f) t before m over =
    old_stands old e (enters ops old) (enters ops e) (is_same old e) (retires ops old) (retires ops e) (is_replaced_by ops old e || false) h
    (any_from_member op_total op_exact (λ o. is_retirement old o.body) ops (record { id = i; body = Retiring f; note = t }) m (is_same_back f old over))
none_above (Supersede old) ops e h i (Superseding a n) t before m over =
    let p = and_parts _ _ over in
    let q = and_parts _ _ p.1 in
    pair_new old e (enters ops old) (enters ops e) (is_same old e) (retires ops old) (retires ops e) (any (λ o. is_supersession old (is_same e) o.body) ops) h
    (any_from_member op_total op_exact (λ o. is_supersession old (is_same e) o.body) ops (record { id = i; body = Superseding a n; note = t }) m (and_from _ _ (is_same_back a old p.0) (is_same_back n e q.0)))

-- a new operation that no other one replaces, old or new, is kept after the join
joined_has : (x : Content) (os : List Op) (o : Op) → has os o ≡ true → Unreplaced os → ((p : Op) → contains x.ops p ≡ true → replaces p o ≡ true → ⊥) → contains (merged x (state (of_list os))).ops o ≡ true
joined_has x os o h free past =
    kept_has (set.union x.ops (kept (of_list os))) o
    (contains_op-union x.ops (kept (of_list os)) o ∙ or_right (contains x.ops o) _ (kept_has (of_list os) o (in_set os o h) (λ p m over. free p o (in_list os p m) h over)))
    (λ p m over. elim (or_cases (contains x.ops p) (contains (kept (of_list os)) p) (sym (contains_op-union x.ops (kept (of_list os)) p) ∙ m)) [
      | inl a ↦ past p a over
      | inr b ↦ free p o (in_list os p (kept_is_within (of_list os) p b)) h over
    ])

pub not_refused : (f : Option OfficeFault) (spent : Bool) (os ps : List Op) → made_unless f spent os ≡ Ok ps → f ≡ None
not_refused None spent os ps h = refl
not_refused (Some f) spent os ps h = cc

pub effects_kept : (c : Command) (x : Content) (r note : List ℕ) (es : List Id) (os : List Op) (o : Op) → made x r note (effects c es) ≡ Ok os → has os o ≡ true → contains (merged x (state (of_list os))).ops o ≡ true
effects_kept c x r note es os o h k =
    let n : ℕ = greatest r x.seen + 1 in
    let are : os ≡ numbered r n note (effects c es) = made_are x r note (effects c es) os h in
    let none : faults c x.ops [] es ≡ None = sym (objections_are c x r n note es) ∙ (nothing_against (note_fault note) _ (not_refused (else_next (note_fault note) (objections x (numbered r n note (effects c es)))) (is_spent (greatest r x.seen) (length (effects c es))) (numbered r n note (effects c es)) os h)).1 in
    let mine : has (numbered r n note (effects c es)) o ≡ true = subst (λ l. has l o ≡ true) are k in
    let m = member_of (effect_of c) r n note es o mine in
    subst (λ l. contains (merged x (state (of_list l))).ops o ≡ true) (sym are)
    (joined_has x (numbered r n note (effects c es)) o mine (none_replaces c r n note es (named_once c x.ops [] es none).0)
    (λ p a over. none_above c x.ops m.0 (each_new c x.ops [] es none m.0 m.1) p.id p.body p.note (is_before p.id o.id) a (subst (λ b. replaces_body (is_before p.id o.id) p.body b ≡ true) m.2 over)))

-- no body replaces an Enter
pub over_enter : (before : Bool) (b : Body) (text : List ℕ) → replaces_body before b (Enter text) ≡ true → ⊥
over_enter before (Enter t) text h = true≢false (sym h)
over_enter before (Superseding a n) text h = true≢false (sym h)
over_enter before (Retiring e) text h = true≢false (sym h)

over_none : (r : List ℕ) (n : ℕ) (note text : List ℕ) (os : List Op) (p q : Op) → os ≡ numbered r n note (Enter text ∷ []) → has os q ≡ true → replaces p q ≡ true → ⊥
over_none r n note text os p q are h over = elim (op_cases q _ [] (subst (λ l. has l q ≡ true) are h)) [
  | inl e ↦ over_enter (is_before p.id q.id) p.body text (subst (λ (i : Op). replaces_body (is_before p.id q.id) p.body i.body ≡ true) e over)
  | inr e ↦ true≢false (sym e)
]

pub entered_kept : (x : Content) (r note text : List ℕ) (os : List Op) (o : Op) → made x r note (Enter text ∷ []) ≡ Ok os → has os o ≡ true → contains (merged x (state (of_list os))).ops o ≡ true
entered_kept x r note text os o h k =
    let n : ℕ = greatest r x.seen + 1 in
    let are : os ≡ numbered r n note (Enter text ∷ []) = made_are x r note (Enter text ∷ []) os h in
    joined_has x os o k (λ p q a b over. over_none r n note text os p q are b over) (λ p a over. over_none r n note text os p o are k over)
