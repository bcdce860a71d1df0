-- How the effects of a command change a content, one by one.
use Rattle.std.proofs.Common.{◌≡◌, ℕ, ◌+◌, ◌<◌, ◌≤◌, length, get_or, take, drop, arith, Bool, true, false, not, ◌&&◌, ◌||◌, cond, List, [], ◌∷◌, ◌++◌, map, All, Option, Some, None, refl, sym, ap, ◌∙◌, subst}
use Rattle.std.proofs.lemmas.Bool.{true≢false}
use Rattle.std.proofs.lemmas.List.{drop_more, drop_all}
use Rattle.std.proofs.lemmas.List.Folds.{list_any-append}
use Rattle.std.proofs.lemmas.List.Elements.{All-cons}
use Rattle.std.proofs.Math.Bool.{or_assoc, and-or_distrib_left, and-false}
use Rattle.std.specs.List.{list_any}
use Rattle.std.specs.Cmp.{tied_itself}
use Rattle.std.specs.Ordering.{is_eq}
use mathlib.Core.Bool.{or-false}
use Rattle.reg_op.specs.Set as set
use Rattle.reg_op.specs.Ids.{Id, is_same}
use Rattle.reg_op.specs.Finite.{any}
use Rattle.reg_op.specs.Operations.{Op, Ops, one, IsOfItself}
use Rattle.reg_op.specs.declared.operation.OpBody.{OpBody as Body}
use Rattle.reg_op.specs.declared.operation.OpBody.TheVariants as body
use Rattle.reg_op.specs.Contents.{Content}
use Rattle.reg_op.specs.Status.{enters, retires, is_replaced_by, is_enter, is_retirement, is_supersession}
use Rattle.reg_op.proofs.FiniteLemmas.{any-union}
use Rattle.reg_op.proofs.OpLemmas.{id_total, op_total, op_exact}
use Rattle.reg_op.proofs.ContentLemmas.{kept-union_right}
use Rattle.reg_op.proofs.OneLemmas.{any-from_list}
use Rattle.reg_op.proofs.StatusLemmas.{enters-kept, retires-kept, replaced_by-kept}
use Rattle.reg_state.specs.Runs.{id_at}
use Rattle.reg_office.specs.declared.command.Command.{Command}
use Rattle.reg_office.specs.declared.command.Command.TheVariants.{Retire, Supersede}
use Rattle.reg_office.specs.declared.fault.OfficeFault.{OfficeFault}
use Rattle.reg_office.specs.declared.fault.OfficeFault.TheVariants as fault
use Rattle.reg_office.specs.Making.{numbered, objection, with_op, else_next, objections}
use Rattle.reg_office.specs.Effects.{effect_of, fault_of}

abbrev pub retired_by : Command → List Id → Id → Bool
retired_by Retire before e = list_any (is_same e) before
retired_by (Supersede old) before e = false

abbrev pub superseded_by : Command → List Id → Id → Id → Bool
superseded_by Retire before e n = false
superseded_by (Supersede old) before e n = is_same e old && list_any (is_same n) before

abbrev supersession : Id → Id → Op → Bool
supersession e n o = is_supersession e (is_same n) o.body

-- `now` has the entries of `ops`, and their statuses after the effects of the command on some entries
record Grown (c : Command) (ops : Ops) (before : List Id) (now : Ops) : Type 0 where
  entered : (e : Id) → enters now e ≡ enters ops e
  retired : (e : Id) → retires now e ≡ (retires ops e || retired_by c before e)
  replaced : (e n : Id) → is_replaced_by now e n ≡ (not (retires now e) && (any (supersession e n) ops || superseded_by c before e n))

grown_none : (c : Command) (ops : Ops) → Grown c ops [] ops
grown_none c ops = record {
  entered = λ e. refl;
  retired = λ e. sym (or-false (retires ops e)) ∙ ap (λ b. retires ops e || b) (none c e);
  replaced = λ e n. ap (λ b. not (retires ops e) && b) (sym (or-false (any (supersession e n) ops)) ∙ ap (λ b. any (supersession e n) ops || b) (none_by c e n));
}
  where
    none : (c : Command) (e : Id) → false ≡ retired_by c [] e
    none Retire e = refl
    none (Supersede old) e = refl

    none_by : (c : Command) (e n : Id) → false ≡ superseded_by c [] e n
    none_by Retire e n = refl
    none_by (Supersede old) e n = sym (and-false (is_same e old))

-- ---- one more effect

any-one : (t : Op → Bool) (o : Op) → any t (one o) ≡ t o
any-one t o = any-from_list t (o ∷ []) ∙ or-false (t o)

pub any-with : (t : Op → Bool) (s : Ops) (o : Op) → any t (set.union s (one o)) ≡ (any t s || t o)
any-with t s o = any-union op_total op_exact t s (one o) ∙ ap (λ b. any t s || b) (any-one t o)

no_enter : (c : Command) (e : Id) → is_enter (effect_of c e) ≡ false
no_enter Retire e = refl
no_enter (Supersede old) e = refl

retired_more : (c : Command) (before : List Id) (f e : Id) → (retired_by c before e || is_retirement e (effect_of c f)) ≡ retired_by c (before ++ f ∷ []) e
retired_more Retire before f e = ap (λ b. list_any (is_same e) before || b) (sym (or-false (is_same e f))) ∙ sym (list_any-append (is_same e) before (f ∷ []))
retired_more (Supersede old) before f e = refl

superseded_more : (c : Command) (before : List Id) (f e n : Id) → (superseded_by c before e n || is_supersession e (is_same n) (effect_of c f)) ≡ superseded_by c (before ++ f ∷ []) e n
superseded_more Retire before f e n = refl
superseded_more (Supersede old) before f e n =
    sym (and-or_distrib_left (is_same e old) (list_any (is_same n) before) (is_same n f))
    ∙ ap (λ b. is_same e old && b) (ap (λ b. list_any (is_same n) before || b) (sym (or-false (is_same n f))) ∙ sym (list_any-append (is_same n) before (f ∷ [])))

still_replaced : (r p a b t u : Bool) → (not r && a) ≡ (not r && (t || u)) → (not (r || p) && (a || b)) ≡ (not (r || p) && (t || (u || b)))
still_replaced true p a b t u h = refl
still_replaced false p a b t u h = ap (λ x. not p && (x || b)) h ∙ ap (λ x. not p && x) (or_assoc t u b)

module _ (c : Command) (ops : Ops) (before : List Id) (y : Content) (i f : Id) (note : List ℕ) where
  abbrev o : Op
  o = record { id = i; body = effect_of c f; note = note }

  abbrev s : Ops
  s = set.union y.ops (one o)

  abbrev is_off : Id → Op → Bool
  is_off e p = is_retirement e p.body

  grown_more : Grown c ops before y.ops → Grown c ops (before ++ f ∷ []) (with_op y o).ops
  grown_more g = subst (Grown c ops (before ++ f ∷ [])) (sym (kept-union_right y.ops (one o))) (record {
    entered = λ e. enters-kept s e ∙ any-with (λ p. is_same e p.id && is_enter p.body) y.ops o ∙ (λ k. g.entered e k || (is_same e i && no_enter c f k)) ∙ ap (λ b. enters ops e || b) (and-false (is_same e i)) ∙ or-false (enters ops e);
    retired = λ e. retires-kept s e ∙ any-with (is_off e) y.ops o ∙ ap (λ b. b || is_retirement e (effect_of c f)) (g.retired e) ∙ or_assoc (retires ops e) (retired_by c before e) (is_retirement e (effect_of c f)) ∙ ap (λ b. retires ops e || b) (retired_more c before f e);
    replaced = λ e n.
        replaced_by-kept s e n
        ∙ (λ k. not (any-with (is_off e) y.ops o k) && any-with (supersession e n) y.ops o k)
        ∙ still_replaced (retires y.ops e) (is_retirement e (effect_of c f)) (any (supersession e n) y.ops) (is_supersession e (is_same n) (effect_of c f)) (any (supersession e n) ops) (superseded_by c before e n) (g.replaced e n)
        ∙ (λ k. not (sym (retires-kept s e ∙ any-with (is_off e) y.ops o) k) && (any (supersession e n) ops || superseded_more c before f e n k));
  })

-- ---- the refusal of one effect after others

abbrev pub chain : Id → Id → Bool → Bool → Bool → Bool → Bool → Bool → Option OfficeFault
chain old newer a b same r q p =
    cond (not a) (Some (fault.UnknownEntry old))
    (cond (not b) (Some (fault.UnknownEntry newer))
    (cond same (Some fault.SameEntry)
    (cond r (Some (fault.AlreadyRetired old))
    (cond q (Some (fault.AlreadyRetired newer))
    (cond p (Some (fault.AlreadySuperseded newer)) None)))))

same_chain : (old newer : Id) (a b same r q p t u : Bool) → p ≡ (not r && (t || u)) → chain old newer a b same r q p ≡ chain old newer a b same r q ((not r && t) || u)
same_chain old newer a b same true q p t u h = refl
same_chain old newer a b same false q p t u h = ap (chain old newer a b same false q) h

objection_is : (c : Command) (ops : Ops) (before : List Id) (now : Ops) (e : Id) → Grown c ops before now → objection now (effect_of c e) ≡ fault_of c ops (list_any (is_same e) before) e
objection_is Retire ops before now e g = λ k. cond (not (g.entered e k)) (Some (fault.UnknownEntry e)) (cond (g.retired e k) (Some (fault.AlreadyRetired e)) None)
objection_is (Supersede old) ops before now e g =
    (λ k. chain old e (g.entered old k) (g.entered e k) (is_same old e) (not_retired old k) (not_retired e k) (g.replaced old e k))
    ∙ (λ k. chain old e (enters ops old) (enters ops e) (is_same old e) (retires ops old) (retires ops e) (not (not_retired old k) && (any (supersession old e) ops || (ap is_eq (tied_itself id_total old) k && list_any (is_same e) before))))
    ∙ same_chain old e (enters ops old) (enters ops e) (is_same old e) (retires ops old) (retires ops e) _ (any (supersession old e) ops) (list_any (is_same e) before) refl
  where
    not_retired : (q : Id) → retires now q ≡ retires ops q
    not_retired q = g.retired q ∙ or-false (retires ops q)

-- ---- the refusal of several effects

abbrev pub faults : Command → Ops → List Id → List Id → Option OfficeFault
faults c ops before [] = None
faults c ops before (e ∷ es) = else_next (fault_of c ops (list_any (is_same e) before) e) (faults c ops (before ++ e ∷ []) es)

abbrev pub effects : Command → List Id → List Body
effects c es = map (effect_of c) es

against : (c : Command) (ops : Ops) (before : List Id) (y : Content) (replica : List ℕ) (n : ℕ) (note : List ℕ) (es : List Id) → Grown c ops before y.ops → objections y (numbered replica n note (effects c es)) ≡ faults c ops before es
against c ops before y replica n note [] g = refl
against c ops before y replica n note (e ∷ es) g =
    let i : Id = id_at replica n in
    (λ k. else_next (objection_is c ops before y.ops e g k) (against c ops (before ++ e ∷ []) (with_op y (record { id = i; body = effect_of c e; note = note })) replica (n + 1) note es (grown_more c ops before y i e note g) k))

pub objections_are : (c : Command) (x : Content) (replica : List ℕ) (n : ℕ) (note : List ℕ) (es : List Id) → objections x (numbered replica n note (effects c es)) ≡ faults c x.ops [] es
objections_are c x replica n note es = against c x.ops [] x replica n note es (grown_none c x.ops)

-- if no effect before index k is refused, a refusal of the effect at k is that of the command
pub first_at : (c : Command) (x : Content) (replica : List ℕ) (n : ℕ) (note : List ℕ) (es : List Id) (k : ℕ) (e : Id) (f : OfficeFault) → k < length es → e ≡ get_or es k e
    → faults c x.ops [] es ≡ faults c x.ops (take k es) (drop k es) → Some f ≡ fault_of c x.ops (list_any (is_same e) (take k es)) e → Some f ≡ objections x (numbered replica n note (effects c es))
first_at c x replica n note es k e f h at walked found =
    sym (objections_are c x replica n note es ∙ walked
    ∙ ap (faults c x.ops (take k es)) (drop_more es k e h)
    ∙ (λ j. else_next (fault_of c x.ops (list_any (is_same (sym at j)) (take k es)) (sym at j)) (faults c x.ops (take k es ++ sym at j ∷ []) (drop (k + 1) es)))
    ∙ (λ j. else_next (sym found j) (faults c x.ops (take k es ++ e ∷ []) (drop (k + 1) es))))

pub none_left : (c : Command) (x : Content) (replica : List ℕ) (n : ℕ) (note : List ℕ) (es : List Id) (k : ℕ) → length es ≤ k → faults c x.ops [] es ≡ faults c x.ops (take k es) (drop k es) → None ≡ objections x (numbered replica n note (effects c es))
none_left c x replica n note es k h walked = sym (objections_are c x replica n note es ∙ walked ∙ ap (faults c x.ops (take k es)) (drop_all k es h))

-- ---- an effect that is not refused does not supersede an entry by itself

pub nothing_against : (r rest : Option OfficeFault) → else_next r rest ≡ None → (r ≡ None) × (rest ≡ None)
nothing_against None rest h = (refl, h)
nothing_against (Some f) rest h = cc

not_of_itself : (ops : Ops) (b : Body) → objection ops b ≡ None → IsOfItself b → ⊥
not_of_itself ops (body.Enter text) h s = s
not_of_itself ops (body.Retire entry) h s = s
not_of_itself ops (body.Supersede old newer) h s = told (enters ops old) (enters ops newer) (is_same old newer) (retires ops old) (retires ops newer) (is_replaced_by ops old newer) h (subst (λ i. is_same old i ≡ true) s (ap is_eq (tied_itself id_total old)))
  where
    told : (a b same r q p : Bool) → chain old newer a b same r q p ≡ None → same ≡ true → ⊥
    told true true true r q p h s = cc
    told true true false r q p h s = true≢false (sym s)
    told true false same r q p h s = cc
    told false b same r q p h s = cc

pub possible : (x : Content) (replica : List ℕ) (n : ℕ) (note : List ℕ) (bs : List Body) → objections x (numbered replica n note bs) ≡ None → All (λ b. ¬ (IsOfItself b)) bs
possible x replica n note [] h = λ k d lt. absurd (omega arith)
possible x replica n note (b ∷ bs) h =
    let p = nothing_against (objection x.ops b) (objections (with_op x (record { id = id_at replica n; body = b; note = note })) (numbered replica (n + 1) note bs)) h in
    All-cons (λ b. ¬ (IsOfItself b)) b bs (not_of_itself x.ops b p.0) (possible (with_op x (record { id = id_at replica n; body = b; note = note })) replica (n + 1) note bs p.1)
