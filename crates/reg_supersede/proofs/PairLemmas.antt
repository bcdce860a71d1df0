-- Supersessions after others: the fault of one more, and that none of them replaces another.
use Rattle.std.proofs.Common.{◌≡◌, ℕ, ◌+◌, Bool, true, false, not, ◌&&◌, ◌||◌, List, [], ◌∷◌, ◌++◌, None, refl, sym, ap, ◌∙◌, subst, inl, inr}
use Rattle.std.specs.Prelude.{option_map}
use Rattle.std.proofs.lemmas.Bool.{true≢false, not-true, and_parts, and_from, or_cases, or_left, or_right, false_from_ne_true}
use Rattle.std.proofs.lemmas.List.Folds.{list_any-append}
use Rattle.std.proofs.Math.Bool.{and-false}
use Rattle.std.specs.List.{list_any}
use mathlib.Core.Bool.{or-false}
use Rattle.reg_op.specs.Set as set
use Rattle.reg_op.specs.Set.{contains, contains-from_list}
use Rattle.reg_op.specs.Ids.{Id, is_same, is_before}
use Rattle.reg_op.specs.Finite.{any}
use Rattle.reg_op.specs.Lists.{has}
use Rattle.reg_op.specs.Operations.{Op, Ops, one, kept, replaces, replaces_body}
use Rattle.reg_op.specs.declared.operation.OpBody.{OpBody as Body}
use Rattle.reg_op.specs.declared.operation.OpBody.TheVariants.{Enter, Supersede, Retire}
use Rattle.reg_op.specs.Contents.{Content, IsContent}
use Rattle.reg_op.specs.Kept.{first_dropped, superseding}
use Rattle.reg_op.specs.Status.{enters, retires, is_replaced_by, is_enter, is_retirement, is_supersession}
use Rattle.reg_op.proofs.OpLemmas.{op_total, op_exact, is_same_exact, is_same_back, replaces_irreflexive}
use Rattle.reg_op.proofs.FiniteLemmas.{any-union, member_from_any}
use Rattle.reg_op.proofs.ContentLemmas.{kept-union_right}
use Rattle.reg_op.proofs.OneLemmas.{any-from_list}
use Rattle.reg_op.proofs.ClashLemmas.{find_none}
use Rattle.reg_op.proofs.KeptLemmas.{kept_supersession}
use Rattle.reg_op.proofs.StatusLemmas.{enters-kept, retires-kept, replaced_by-kept}
use Rattle.reg_state.specs.Runs.{id_at}
use Rattle.reg_office.specs.Making.{greatest, numbered, objection, objections, with_op}
use Rattle.reg_office.proofs.EffectLemmas.{chain, nothing_against}
use Rattle.reg_office.proofs.NumberLemmas.{op_cases}
use Rattle.reg_office.proofs.BodyLemmas.{same_itself}
use Rattle.reg_supersede.specs.declared.pair.Pair.{Pair}
use Rattle.reg_supersede.specs.Lists.{is_there}
use Rattle.reg_supersede.specs.Effects.{AreSupersessions, has_pair, pair_fault}
use Rattle.reg_supersede.proofs.AfterLemmas.{of_list, after, ops_of}

pub supersessions_both : (bs cs : List Body) → AreSupersessions bs → AreSupersessions cs → AreSupersessions (bs ++ cs)
supersessions_both [] cs h k = k
supersessions_both (Supersede old newer ∷ bs) cs h k = supersessions_both bs cs h k
supersessions_both (Enter text ∷ bs) cs h k = absurd h
supersessions_both (Retire entry ∷ bs) cs h k = absurd h

abbrev pub supersession : Id → Id → Op → Bool
supersession e m o = is_supersession e (is_same m) o.body

abbrev is_off : Id → Op → Bool
is_off e o = is_retirement e o.body

abbrev is_in : Id → Op → Bool
is_in e o = is_same e o.id && is_enter o.body

-- ---- a content keeps no supersession of a retired entry

stands_under : (x : Content) → IsContent x → (i : Id) (b : Body) (note : List ℕ) (e m : Id) → contains x.ops (record { id = i; body = b; note = note }) ≡ true → is_supersession e (is_same m) b ≡ true
    → retires x.ops e ≡ false
stands_under x is i (Enter text) note e m h s = absurd (true≢false (sym s))
stands_under x is i (Retire f) note e m h s = absurd (true≢false (sym s))
stands_under x is i (Supersede old newer) note e m h s =
    let same : e ≡ old = is_same_exact e old (and_parts (is_same e old) (is_same m newer) s).0 in
    let least = (kept_supersession x.ops i old newer note).0 (subst (λ (t : Ops). contains t (superseding i old newer note) ≡ true) (sym is.is_kept) h) in
    subst (λ (j : Id). retires x.ops j ≡ false) (sym same) least.stands

pub stands_superseded : (x : Content) → IsContent x → (e m : Id) → any (supersession e m) x.ops ≡ true → retires x.ops e ≡ false
stands_superseded x is e m h =
    let it = member_from_any op_total op_exact (supersession e m) x.ops h in
    stands_under x is it.0.id it.0.body it.0.note e m it.1 it.2

-- ---- properties of numbered supersessions

module _ (r : List ℕ) (note : List ℕ) where
  none_enter : (n : ℕ) (bs : List Body) (e : Id) → AreSupersessions bs → list_any (is_in e) (numbered r n note bs) ≡ false
  none_enter n [] e h = refl
  none_enter n (Supersede old newer ∷ bs) e h = λ k. and-false (is_same e (id_at r n)) k || none_enter (n + 1) bs e h k
  none_enter n (Enter text ∷ bs) e h = absurd h
  none_enter n (Retire entry ∷ bs) e h = absurd h

  none_retire : (n : ℕ) (bs : List Body) (e : Id) → AreSupersessions bs → list_any (is_off e) (numbered r n note bs) ≡ false
  none_retire n [] e h = refl
  none_retire n (Supersede old newer ∷ bs) e h = none_retire (n + 1) bs e h
  none_retire n (Enter text ∷ bs) e h = absurd h
  none_retire n (Retire entry ∷ bs) e h = absurd h

  pairs_are : (n : ℕ) (bs : List Body) (e m : Id) → list_any (supersession e m) (numbered r n note bs) ≡ has_pair bs e m
  pairs_are n [] e m = refl
  pairs_are n (b ∷ bs) e m = ap (λ c. is_supersession e (is_same m) b || c) (pairs_are (n + 1) bs e m)

-- ---- after supersessions

any-with : (t : Op → Bool) (s : Ops) (os : List Op) → any t (set.union s (of_list os)) ≡ (any t s || list_any t os)
any-with t s os = any-union op_total op_exact t s (of_list os) ∙ ap (λ b. any t s || b) (any-from_list t os)

module _ (x : Content) (r note : List ℕ) (bs : List Body) (are : AreSupersessions bs) where
  abbrev here : Ops
  here = (after x r note bs).ops

  abbrev union : Ops
  union = set.union x.ops (of_list (ops_of x r note bs))

  pub kept_is : here ≡ kept union
  kept_is = kept-union_right x.ops (of_list (ops_of x r note bs))

  pub entered : (e : Id) → enters here e ≡ enters x.ops e
  entered e = ap (λ s. enters s e) kept_is ∙ enters-kept union e ∙ any-with (is_in e) x.ops (ops_of x r note bs) ∙ ap (λ b. enters x.ops e || b) (none_enter r note _ bs e are) ∙ or-false (enters x.ops e)

  off_is : (e : Id) → retires union e ≡ retires x.ops e
  off_is e = any-with (is_off e) x.ops (ops_of x r note bs) ∙ ap (λ b. retires x.ops e || b) (none_retire r note _ bs e are) ∙ or-false (retires x.ops e)

  pub retired : (e : Id) → retires here e ≡ retires x.ops e
  retired e = ap (λ s. retires s e) kept_is ∙ retires-kept union e ∙ off_is e

  pub replaced : (e m : Id) → is_replaced_by here e m ≡ (not (retires x.ops e) && (any (supersession e m) x.ops || has_pair bs e m))
  replaced e m =
      ap (λ s. is_replaced_by s e m) kept_is ∙ replaced_by-kept union e m
      ∙ (λ k. not (off_is e k) && (any-with (supersession e m) x.ops (ops_of x r note bs) ∙ ap (λ b. any (supersession e m) x.ops || b) (pairs_are r note _ bs e m)) k)

  -- whether a pair is there after the effects
  pub there_is : (p : Pair) → is_there here p ≡ (not (retires x.ops p.old) && (any (supersession p.old p.newer) x.ops || has_pair bs p.old p.newer))
  there_is p = replaced p.old p.newer

  pub there_now : (p : Pair) → retires x.ops p.old ≡ false → is_there here p ≡ (any (supersession p.old p.newer) x.ops || has_pair bs p.old p.newer)
  there_now p f = there_is p ∙ (λ k. not (f k) && (any (supersession p.old p.newer) x.ops || has_pair bs p.old p.newer))

  pub there_never : (p : Pair) → any (supersession p.old p.newer) x.ops ≡ false → has_pair bs p.old p.newer ≡ false → is_there here p ≡ false
  there_never p e f = there_is p ∙ (λ k. not (retires x.ops p.old) && (e k || f k)) ∙ and-false (not (retires x.ops p.old))

  -- a pair that is there stays there
  pub still_there : (p : Pair) → is_there x.ops p ≡ true → is_there here p ≡ true
  still_there p h =
      let b = and_parts (not (retires x.ops p.old)) (any (supersession p.old p.newer) x.ops) h in
      there_now p (not-true (retires x.ops p.old) b.0) ∙ or_left (any (supersession p.old p.newer) x.ops) (has_pair bs p.old p.newer) b.1

  -- a content keeps no supersession of a retired entry
  pub there_before : IsContent x → (p : Pair) → any (supersession p.old p.newer) x.ops ≡ true → is_there here p ≡ true
  there_before is p h = there_now p (stands_superseded x is p.old p.newer h) ∙ or_left (any (supersession p.old p.newer) x.ops) (has_pair bs p.old p.newer) h

and_free : (r y h g : Bool) → (not r && (y || h)) ≡ false → g ≡ false → (not r && (y || (h || g))) ≡ false
and_free true y h g p q = refl
and_free false true h g p q = p
and_free false false true g p q = p
and_free false false false g p q = q

-- a pair that is not there after the effects `bs`, nor one of the effects `cs`, has after both the fault that it has before
module _ (x : Content) (r note : List ℕ) (bs cs : List Body) (are : AreSupersessions bs) (both : AreSupersessions (bs ++ cs)) (p : Pair) where
  pub fresh_fault : is_there (after x r note bs).ops p ≡ false → has_pair cs p.old p.newer ≡ false → objection (after x r note (bs ++ cs)).ops (Supersede p.old p.newer) ≡ pair_fault x.ops p
  fresh_fault free none =
      let off : is_replaced_by (after x r note (bs ++ cs)).ops p.old p.newer ≡ false =
      replaced x r note (bs ++ cs) both p.old p.newer ∙ ap (λ b. not (retires x.ops p.old) && (any (supersession p.old p.newer) x.ops || b)) (list_any-append (is_supersession p.old (is_same p.newer)) bs cs)
      ∙ and_free (retires x.ops p.old) (any (supersession p.old p.newer) x.ops) (has_pair bs p.old p.newer) (has_pair cs p.old p.newer) (sym (there_is x r note bs are p) ∙ free) none in
      λ k. chain p.old p.newer (entered x r note (bs ++ cs) both p.old k) (entered x r note (bs ++ cs) both p.newer k) (is_same p.old p.newer) (retired x r note (bs ++ cs) both p.old k)
      (retired x r note (bs ++ cs) both p.newer k) (off k)

-- ---- supersessions without objections have distinct pairs

open_chain : (old newer : Id) (a b same p q c : Bool) → chain old newer a b same p q c ≡ None → (p ≡ false) × (c ≡ false)
open_chain old newer false b same p q c h = cc
open_chain old newer true false same p q c h = cc
open_chain old newer true true true p q c h = cc
open_chain old newer true true false true q c h = cc
open_chain old newer true true false false true c h = cc
open_chain old newer true true false false false true h = cc
open_chain old newer true true false false false false h = (refl, refl)

open_entered : (old newer : Id) (a b same p q c : Bool) → chain old newer a b same p q c ≡ None → a ≡ true
open_entered old newer false b same p q c h = cc
open_entered old newer true b same p q c h = refl

open_pair : (ops : Ops) (old newer : Id) → objection ops (Supersede old newer) ≡ None → (retires ops old ≡ false) × (is_replaced_by ops old newer ≡ false)
open_pair ops old newer h = open_chain old newer (enters ops old) (enters ops newer) (is_same old newer) (retires ops old) (retires ops newer) (is_replaced_by ops old newer) h

module _ (y : Content) (o : Op) (old newer : Id) (is : o.body ≡ Supersede old newer) where
  abbrev two : Ops
  two = set.union y.ops (one o)

  two_any : (t : Op → Bool) → any t two ≡ (any t y.ops || t o)
  two_any t = any-with t y.ops (o ∷ []) ∙ ap (λ b. any t y.ops || b) (or-false (t o))

  two_off : (e : Id) → retires two e ≡ retires y.ops e
  two_off e = two_any (is_off e) ∙ ap (λ b. retires y.ops e || is_retirement e b) is ∙ or-false (retires y.ops e)

  pub with_entered : (e : Id) → enters (with_op y o).ops e ≡ enters y.ops e
  with_entered e =
      ap (λ s. enters s e) (kept-union_right y.ops (one o)) ∙ enters-kept two e ∙ two_any (is_in e)
      ∙ ap (λ b. enters y.ops e || (is_same e o.id && is_enter b)) is ∙ ap (λ b. enters y.ops e || b) (and-false (is_same e o.id)) ∙ or-false (enters y.ops e)

  pub with_retired : (e : Id) → retires (with_op y o).ops e ≡ retires y.ops e
  with_retired e = ap (λ s. retires s e) (kept-union_right y.ops (one o)) ∙ retires-kept two e ∙ two_off e

  pub with_is : (e m : Id) → is_replaced_by (with_op y o).ops e m ≡ (not (retires y.ops e) && (any (supersession e m) y.ops || is_supersession e (is_same m) (Supersede old newer)))
  with_is e m =
      ap (λ s. is_replaced_by s e m) (kept-union_right y.ops (one o)) ∙ replaced_by-kept two e m
      ∙ (λ k. not (two_off e k) && (two_any (supersession e m) ∙ ap (λ b. any (supersession e m) y.ops || is_supersession e (is_same m) b) is) k)

  stays_replaced : (e m : Id) → is_replaced_by y.ops e m ≡ true → is_replaced_by (with_op y o).ops e m ≡ true
  stays_replaced e m h =
      let off : Bool = not (retires y.ops e) in
      let there : Bool = any (supersession e m) y.ops in
      let here : Bool = is_supersession e (is_same m) (Supersede old newer) in
      let p = and_parts off there h in
      with_is e m ∙ and_from off (there || here) p.0 (or_left there here p.1)

  now_replaced : retires y.ops old ≡ false → is_replaced_by (with_op y o).ops old newer ≡ true
  now_replaced h =
      let there : Bool = any (supersession old newer) y.ops in
      let here : Bool = is_same old old && is_same newer newer in
      with_is old newer ∙ and_from (not (retires y.ops old)) (there || here) (ap not h) (or_right there here (and_from (is_same old old) (is_same newer newer) (same_itself old) (same_itself newer)))

module _ (r : List ℕ) (note : List ℕ) where
  abbrev first : ℕ → Id → Id → Op
  first n old newer = record { id = id_at r n; body = Supersede old newer; note = note }

  -- if there is no objection, the effects make no pair that the content has
  fresh : (n : ℕ) (bs : List Body) (y : Content) → AreSupersessions bs → objections y (numbered r n note bs) ≡ None → (e m : Id) → is_replaced_by y.ops e m ≡ true → has_pair bs e m ≡ false
  fresh n [] y are none e m there = refl
  fresh n (Enter text ∷ bs) y are none e m there = absurd are
  fresh n (Retire entry ∷ bs) y are none e m there = absurd are
  fresh n (Supersede old newer ∷ bs) y are none e m there =
      let p = nothing_against (objection y.ops (Supersede old newer)) (objections (with_op y (first n old newer)) (numbered r (n + 1) note bs)) none in
      let other : is_supersession e (is_same m) (Supersede old newer) ≡ false = false_from_ne_true _ (λ t.
      let both = and_parts (is_same e old) (is_same m newer) t in
      let at : is_replaced_by y.ops old newer ≡ true = subst (λ i. is_replaced_by y.ops old i ≡ true) (is_same_exact m newer both.1) (subst (λ i. is_replaced_by y.ops i m ≡ true) (is_same_exact e old both.0) there) in
      true≢false (sym at ∙ (open_pair y.ops old newer p.0).1)) in
      λ k. other k || fresh (n + 1) bs (with_op y (first n old newer)) are p.1 e m (stays_replaced y (first n old newer) old newer refl e m there) k

  -- without objections the old entry of each pair is entered, and not retired
  may_pair : (n : ℕ) (bs : List Body) (y : Content) → AreSupersessions bs → objections y (numbered r n note bs) ≡ None → (e m : Id) → has_pair bs e m ≡ true → (enters y.ops e ≡ true) × (retires y.ops e ≡ false)
  may_pair n [] y are none e m h = absurd (true≢false (sym h))
  may_pair n (Enter text ∷ bs) y are none e m h = absurd are
  may_pair n (Retire entry ∷ bs) y are none e m h = absurd are
  may_pair n (Supersede old newer ∷ bs) y are none e m h =
      let it : Op = first n old newer in
      let p = nothing_against (objection y.ops (Supersede old newer)) (objections (with_op y it) (numbered r (n + 1) note bs)) none in
      elim (or_cases (is_supersession e (is_same m) (Supersede old newer)) (has_pair bs e m) h) [
        | inl here ↦
            let same = is_same_exact e old (and_parts (is_same e old) (is_same m newer) here).0 in
            subst (λ (i : Id). (enters y.ops i ≡ true) × (retires y.ops i ≡ false)) (sym same)
            (open_entered old newer (enters y.ops old) (enters y.ops newer) (is_same old newer) (retires y.ops old) (retires y.ops newer) (is_replaced_by y.ops old newer) p.0, (open_pair y.ops old newer p.0).0)
        | inr later ↦
            let may = may_pair (n + 1) bs (with_op y it) are p.1 e m later in
            (sym (with_entered y it old newer refl e) ∙ may.0, sym (with_retired y it old newer refl e) ∙ may.1)
      ]

  abbrev IsSupersession : Body → Type 0
  IsSupersession b = AreSupersessions (b ∷ [])

  pub each_is : (n : ℕ) (bs : List Body) (q : Op) → AreSupersessions bs → has (numbered r n note bs) q ≡ true → IsSupersession q.body
  each_is n [] q are h = absurd (true≢false (sym h))
  each_is n (Enter text ∷ bs) q are h = absurd are
  each_is n (Retire entry ∷ bs) q are h = absurd are
  each_is n (Supersede old newer ∷ bs) q are h = elim (op_cases q (first n old newer) (numbered r (n + 1) note bs) h) [
    | inl e ↦ subst (λ (p : Op). IsSupersession p.body) (sym e) tt
    | inr e ↦ each_is (n + 1) bs q are e
  ]

  pair_in : (n : ℕ) (bs : List Body) (q : Op) (e m : Id) → has (numbered r n note bs) q ≡ true → is_supersession e (is_same m) q.body ≡ true → has_pair bs e m ≡ true
  pair_in n [] q e m h s = absurd (true≢false (sym h))
  pair_in n (b ∷ bs) q e m h s = elim (op_cases q (record { id = id_at r n; body = b; note = note }) (numbered r (n + 1) note bs) h) [
    | inl is ↦ or_left _ (has_pair bs e m) (subst (λ (p : Op). is_supersession e (is_same m) p.body ≡ true) is s)
    | inr later ↦ or_right (is_supersession e (is_same m) b) _ (pair_in (n + 1) bs q e m later s)
  ]

  replaces_it : (before : Bool) (old newer : Id) (b : Body) → replaces_body before (Supersede old newer) b ≡ true → is_supersession old (is_same newer) b ≡ true
  replaces_it before old newer (Supersede e m) h =
      let p = and_parts (is_same old e) (is_same newer m && before) h in
      and_from (is_same old e) (is_same newer m) p.0 (and_parts (is_same newer m) before p.1).0
  replaces_it before old newer (Enter text) h = absurd (true≢false (sym h))
  replaces_it before old newer (Retire entry) h = absurd (true≢false (sym h))

  is_replaced : (before : Bool) (old newer : Id) (b : Body) → IsSupersession b → replaces_body before b (Supersede old newer) ≡ true → is_supersession old (is_same newer) b ≡ true
  is_replaced before old newer (Supersede e m) s h =
      let p = and_parts (is_same e old) (is_same m newer && before) h in
      and_from (is_same old e) (is_same newer m) (is_same_back e old p.0) (is_same_back m newer (and_parts (is_same m newer) before p.1).0)
  is_replaced before old newer (Enter text) s h = absurd s
  is_replaced before old newer (Retire entry) s h = absurd s

  abbrev Unreplaced : List Op → Type 0
  Unreplaced os = (p o : Op) → has os p ≡ true → has os o ≡ true → replaces p o ≡ true → ⊥

  unreplaced : (n : ℕ) (bs : List Body) (y : Content) → AreSupersessions bs → objections y (numbered r n note bs) ≡ None → Unreplaced (numbered r n note bs)
  unreplaced n [] y are none p o h k over = true≢false (sym h)
  unreplaced n (Enter text ∷ bs) y are none p o h k over = absurd are
  unreplaced n (Retire entry ∷ bs) y are none p o h k over = absurd are
  unreplaced n (Supersede old newer ∷ bs) y are none p o h k over =
      let it : Op = first n old newer in
      let rest : List Op = numbered r (n + 1) note bs in
      let parts = nothing_against (objection y.ops (Supersede old newer)) (objections (with_op y it) rest) none in
      let new : has_pair bs old newer ≡ false = fresh (n + 1) bs (with_op y it) are parts.1 old newer (now_replaced y it old newer refl (open_pair y.ops old newer parts.0).0) in
      elim (op_cases p it rest h) [
        | inl a ↦ elim (op_cases o it rest k) [
          | inl b ↦ replaces_irreflexive o (subst (λ q. replaces q o ≡ true) (a ∙ sym b) over)
          | inr b ↦ true≢false (sym (pair_in (n + 1) bs o old newer b (replaces_it (is_before it.id o.id) old newer o.body (subst (λ q. replaces q o ≡ true) a over))) ∙ new)
        ]
        | inr a ↦ elim (op_cases o it rest k) [
          | inl b ↦ true≢false (sym (pair_in (n + 1) bs p old newer a (is_replaced (is_before p.id it.id) old newer p.body (each_is (n + 1) bs p are a) (subst (λ q. replaces p q ≡ true) b over))) ∙ new)
          | inr b ↦ unreplaced (n + 1) bs (with_op y it) are parts.1 p o a b over
        ]
      ]

  in_list : (os : List Op) (o : Op) → contains (of_list os) o ≡ true → has os o ≡ true
  in_list os o h = sym (contains-from_list op_total os o) ∙ h

  drops_none : (os : List Op) → Unreplaced os → first_dropped (of_list os) ≡ None
  drops_none os free = ap (option_map (λ (o : Op). o.id)) (find_none (λ o. any (λ p. replaces p o) (of_list os)) (set.items (of_list os)) (false_from_ne_true _ (λ h.
      let o = member_from_any op_total op_exact (λ o. any (λ p. replaces p o) (of_list os)) (of_list os) h in
      let p = member_from_any op_total op_exact (λ p. replaces p o.0) (of_list os) o.2 in
      free p.0 o.0 (in_list os p.0 p.1) (in_list os o.0 o.1) p.2)))

  pub none_dropped : (n : ℕ) (bs : List Body) (y : Content) → AreSupersessions bs → objections y (numbered r n note bs) ≡ None → first_dropped (of_list (numbered r n note bs)) ≡ None
  none_dropped n bs y are none = drops_none (numbered r n note bs) (unreplaced n bs y are none)

-- a pair that was made is there
pub made_there : (x : Content) (r note : List ℕ) (bs : List Body) → AreSupersessions bs → objections x (ops_of x r note bs) ≡ None → (p : Pair) → has_pair bs p.old p.newer ≡ true → is_there (after x r note bs).ops p ≡ true
made_there x r note bs are none p h =
    let may = may_pair r note (greatest r x.seen + 1) bs x are none p.old p.newer h in
    there_now x r note bs are p may.1 ∙ or_right (any (supersession p.old p.newer) x.ops) (has_pair bs p.old p.newer) h

-- a pair that the content has not is there after the effects, if it was made
pub there_made : (x : Content) (r note : List ℕ) (bs : List Body) → AreSupersessions bs → objections x (ops_of x r note bs) ≡ None → (p : Pair) → any (supersession p.old p.newer) x.ops ≡ false
    → is_there (after x r note bs).ops p ≡ has_pair bs p.old p.newer
there_made x r note bs are none p lacks = elim (has_pair bs p.old p.newer) as (λ b. has_pair bs p.old p.newer ≡ b → is_there (after x r note bs).ops p ≡ b) [
  | true ↦ λ h. made_there x r note bs are none p h
  | false ↦ λ h. there_never x r note bs are p lacks h
] refl
