-- The operations of a command that is not refused, and two of its refusals.
use Rattle.std.proofs.Common.{◌≡◌, ◌↔◌, ℕ, ◌+◌, ◌<◌, ◌≤◌, nat_lt, Bool, true, false, not, ◌&&◌, cond, List, [], ◌∷◌, map, length, Option, Some, None, Ok, Err, refl, sym, ap, ◌∙◌, subst, inl, inr, arith}
use Rattle.std.proofs.lemmas.Bool.Decides.{nat_tests}
use Rattle.std.proofs.lemmas.Bool.{true≢false, and_parts, false_from_ne_true}
use Rattle.reg_op.specs.Set as set
use Rattle.reg_op.specs.Set.{contains, contains-items}
use Rattle.reg_op.specs.Ids.{Id, Ids, is_same}
use Rattle.reg_op.specs.Lists.{has}
use Rattle.reg_op.specs.Operations.{Op, Ops, op_cmp}
use Rattle.reg_op.specs.declared.operation.OpBody.{OpBody as Body}
use Rattle.reg_op.specs.declared.operation.OpBody.TheVariants.{Enter, Supersede, Retire}
use Rattle.reg_op.specs.Status.{enters, retires, is_replaced_by}
use Rattle.reg_op.specs.Contents.{Content, state, merged, joined, IsContent}
use Rattle.reg_state.specs.Runs.{id_at, ids_from, IsGreatest}
use Rattle.reg_office.specs.declared.fault.OfficeFault.{OfficeFault}
use Rattle.reg_office.specs.declared.fault.OfficeFault.TheVariants as fault
use Rattle.reg_office.specs.Making.{greatest, numbered, objection, objections, with_op, else_next, note_fault, is_spent, made_unless, made}
use Rattle.reg_office.proofs.EffectLemmas.{chain, nothing_against}
use Rattle.reg_office.proofs.NumberLemmas.{op_cases, count-greatest, greatest_there, numbered_ids, numbered_once, number_is_new, numbers_join, made_spent}

ok_from : (f : Option OfficeFault) (spent : Bool) (os ps : List Op) → made_unless f spent os ≡ Ok ps → ps ≡ os
ok_from None false os ps h = cc
ok_from None true os ps h = cc
ok_from (Some f) spent os ps h = cc

pub made_are : (x : Content) (r note : List ℕ) (bs : List Body) (os : List Op) → made x r note bs ≡ Ok os → os ≡ numbered r (greatest r x.seen + 1) note bs
made_are x r note bs os h = ok_from (else_next (note_fault note) (objections x (numbered r (greatest r x.seen + 1) note bs))) (is_spent (greatest r x.seen) (length bs)) (numbered r (greatest r x.seen + 1) note bs) os h

numbered_bodies : (r : List ℕ) (n : ℕ) (note : List ℕ) (bs : List Body) → map (λ (o : Op). o.body) (numbered r n note bs) ≡ bs
numbered_bodies r n note [] = refl
numbered_bodies r n note (b ∷ bs) = ap (λ cs. b ∷ cs) (numbered_bodies r (n + 1) note bs)

pub bodies_are : (x : Content) (r note : List ℕ) (bs : List Body) (os : List Op) → made x r note bs ≡ Ok os → map (λ (o : Op). o.body) os ≡ bs
bodies_are x r note bs os h = ap (map (λ (o : Op). o.body)) (made_are x r note bs os h) ∙ numbered_bodies r (greatest r x.seen + 1) note bs

pub numbers_are : (x : Content) (r note : List ℕ) (bs : List Body) (os : List Op) → made x r note bs ≡ Ok os → map (λ (o : Op). o.id) os ≡ ids_from r (greatest r x.seen + 1) (length bs)
numbers_are x r note bs os h = ap (map (λ (o : Op). o.id)) (made_are x r note bs os h) ∙ numbered_ids r (greatest r x.seen + 1) note bs

numbered_notes : (r : List ℕ) (n : ℕ) (note : List ℕ) (bs : List Body) (o : Op) → has (numbered r n note bs) o ≡ true → o.note ≡ note
numbered_notes r n note [] o h = absurd (true≢false (sym h))
numbered_notes r n note (b ∷ bs) o h = elim (op_cases o _ (numbered r (n + 1) note bs) h) [
  | inl e ↦ ap (λ (p : Op). p.note) e
  | inr e ↦ numbered_notes r (n + 1) note bs o e
]

pub notes_are : (x : Content) (r note : List ℕ) (bs : List Body) (os : List Op) (o : Op) → made x r note bs ≡ Ok os → has os o ≡ true → o.note ≡ note
notes_are x r note bs os o h k = numbered_notes r (greatest r x.seen + 1) note bs o (subst (λ l. has l o ≡ true) (made_are x r note bs os h) k)

pub are_unseen : (x : Content) (r note : List ℕ) (bs : List Body) (os : List Op) (o : Op) → made x r note bs ≡ Ok os → has os o ≡ true → contains x.seen o.id ≡ false
are_unseen x r note bs os o h k = false_from_ne_true _ (number_is_new x r note bs o (subst (λ l. has l o ≡ true) (made_are x r note bs os h) k))

pub are_once : (x : Content) (r note : List ℕ) (bs : List Body) (os : List Op) (p o : Op) → made x r note bs ≡ Ok os → has os p ≡ true → has os o ≡ true → p.id ≡ o.id → p ≡ o
are_once x r note bs os p o h a b = let e = made_are x r note bs os h in numbered_once r (greatest r x.seen + 1) note bs p o (subst (λ l. has l p ≡ true) e a) (subst (λ l. has l o ≡ true) e b)

pub they_join : (x : Content) (r note : List ℕ) (bs : List Body) (os : List Op) → IsContent x → made x r note bs ≡ Ok os → joined x (state (set.from_list {R = op_cmp} os)) ≡ Ok (merged x (state (set.from_list {R = op_cmp} os)))
they_join x r note bs os is h = numbers_join x r note bs is (set.from_list os) (ap set.from_list (made_are x r note bs os h))

pub is_greatest : (r : List ℕ) (seen : Ids) → IsGreatest seen r (greatest r seen)
is_greatest r seen = record {
  there = λ h. contains-items seen (id_at r (greatest r seen)) ∙ greatest_there r (set.items seen) h;
  bound = λ count h. count-greatest r seen (id_at r count) h refl;
}

-- ---- the refusals of effects are about entries

-- the fault is about an entry
abbrev is_of_entry : OfficeFault → Bool
is_of_entry fault.NoteTooLong = false
is_of_entry (fault.UnknownEntry entry) = true
is_of_entry fault.SameEntry = true
is_of_entry (fault.AlreadyRetired entry) = true
is_of_entry (fault.AlreadySuperseded entry) = true
is_of_entry fault.CountSpent = false
is_of_entry fault.Memory = false

same_fault : (f g : OfficeFault) → Some f ≡ Some g → is_of_entry f ≡ true → is_of_entry g ≡ true
same_fault f g e h = let is : f ≡ g = cc in subst (λ x. is_of_entry x ≡ true) is h

of_chain : (old newer : Id) (a b same r q p : Bool) (f : OfficeFault) → chain old newer a b same r q p ≡ Some f → is_of_entry f ≡ true
of_chain old newer false b same r q p f h = same_fault _ f h refl
of_chain old newer true false same r q p f h = same_fault _ f h refl
of_chain old newer true true true r q p f h = same_fault _ f h refl
of_chain old newer true true false true q p f h = same_fault _ f h refl
of_chain old newer true true false false true p f h = same_fault _ f h refl
of_chain old newer true true false false false true f h = same_fault _ f h refl
of_chain old newer true true false false false false f h = cc

of_two : (entry : Id) (a r : Bool) (f : OfficeFault) → cond (not a) (Some (fault.UnknownEntry entry)) (cond r (Some (fault.AlreadyRetired entry)) None) ≡ Some f → is_of_entry f ≡ true
of_two entry false r f h = same_fault _ f h refl
of_two entry true true f h = same_fault _ f h refl
of_two entry true false f h = cc

of_entry : (ops : Ops) (b : Body) (f : OfficeFault) → objection ops b ≡ Some f → is_of_entry f ≡ true
of_entry ops (Enter text) f h = cc
of_entry ops (Retire entry) f h = of_two entry (enters ops entry) (retires ops entry) f h
of_entry ops (Supersede old newer) f h = of_chain old newer (enters ops old) (enters ops newer) (is_same old newer) (retires ops old) (retires ops newer) (is_replaced_by ops old newer) f h

of_entries : (x : Content) (os : List Op) (f : OfficeFault) → objections x os ≡ Some f → is_of_entry f ≡ true
of_entries x [] f h = cc
of_entries x (o ∷ os) f h = elim (objection x.ops o.body) as (λ r. objection x.ops o.body ≡ r → else_next r (objections (with_op x o) os) ≡ Some f → is_of_entry f ≡ true) [
  | None ↦ λ _ k. of_entries (with_op x o) os f k
  | Some g ↦ λ e k. of_entry x.ops o.body f (e ∙ k)
] refl h

-- ---- a note is too long

abbrev long_fault : Bool → Option OfficeFault
long_fault b = cond b (Some fault.NoteTooLong) None

not_long : (b : Bool) → long_fault b ≡ None → b ≡ false
not_long true h = cc
not_long false h = refl

is_long : (b : Bool) (rest : Option OfficeFault) → (rest ≡ Some fault.NoteTooLong → ⊥) → else_next (long_fault b) rest ≡ Some fault.NoteTooLong → b ≡ true
is_long true rest n h = refl
is_long false rest n h = absurd (n h)

pub short_from : (limit k : ℕ) → long_fault (nat_lt limit k) ≡ None → k ≤ limit
short_from limit k h = at_most (not_long (nat_lt limit k) h)
  where
    at_most : nat_lt limit k ≡ false → k ≤ limit
    at_most h = grind (arith, nat_tests)

pub short_is : (limit k : ℕ) → k ≤ limit → long_fault (nat_lt limit k) ≡ None
short_is limit k h = ap long_fault (at_most h)
  where
    at_most : k ≤ limit → nat_lt limit k ≡ false
    at_most h = grind (arith, nat_tests)

refused_for : (f : Option OfficeFault) (spent : Bool) (os : List Op) → made_unless f spent os ≡ Err fault.NoteTooLong → f ≡ Some fault.NoteTooLong
refused_for None true os h = cc
refused_for None false os h = cc
refused_for (Some f) spent os h = let e : f ≡ fault.NoteTooLong = cc in ap Some e

long_numbers : (limit k : ℕ) → (nat_lt limit k ≡ true) ↔ (limit < k)
long_numbers limit k = (λ h. above h, λ h. test h)
  where
    above : nat_lt limit k ≡ true → limit < k
    above h = grind (arith, nat_tests)

    test : limit < k → nat_lt limit k ≡ true
    test h = grind (arith, nat_tests)

pub long_first : (x : Content) (r note : List ℕ) (bs : List Body) → (made x r note bs ≡ Err fault.NoteTooLong) ↔ (200 < length note)
long_first x r note bs =
    let os : List Op = numbered r (greatest r x.seen + 1) note bs in
    let spent : Bool = is_spent (greatest r x.seen) (length bs) in (
      λ h. (long_numbers 200 (length note)).0 (is_long (nat_lt 200 (length note)) (objections x os) (λ k. true≢false (sym (of_entries x os fault.NoteTooLong k)))
          (refused_for (else_next (note_fault note) (objections x os)) spent os h)),
      λ h j. made_unless (else_next (long_fault ((long_numbers 200 (length note)).1 h j)) (objections x os)) spent os,
    )

-- ---- a count is spent

no_spent : (b : Bool) (x : Content) (os : List Op) → else_next (long_fault b) (objections x os) ≡ Some fault.CountSpent → ⊥
no_spent true x os h = cc
no_spent false x os h = true≢false (sym (of_entries x os fault.CountSpent h))

spent_from : (f : Option OfficeFault) (spent : Bool) (os : List Op) → (f ≡ Some fault.CountSpent → ⊥) → made_unless f spent os ≡ Err fault.CountSpent → (f ≡ None) × (spent ≡ true)
spent_from None true os n h = (refl, refl)
spent_from None false os n h = cc
spent_from (Some f) spent os n h = absurd (n (let e : f ≡ fault.CountSpent = cc in ap Some e))

spent_back : (limit g k : ℕ) → (nat_lt 0 k && nat_lt limit (g + k)) ≡ true → (0 < k) × (limit < g + k)
spent_back limit g k h = let p = and_parts _ _ h in (low p.0, high p.1)
  where
    low : nat_lt 0 k ≡ true → 0 < k
    low h = grind (arith, nat_tests)

    high : nat_lt limit (g + k) ≡ true → limit < g + k
    high h = grind (arith, nat_tests)

pub spent_last : (x : Content) (r note : List ℕ) (bs : List Body) → (made x r note bs ≡ Err fault.CountSpent) ↔ ((length note ≤ 200) × (objections x (numbered r (greatest r x.seen + 1) note bs) ≡ None) × (0 < length bs) × (4294967295 < greatest r x.seen + length bs))
spent_last x r note bs = (
  λ h.
      let os : List Op = numbered r (greatest r x.seen + 1) note bs in
      let p = spent_from (else_next (note_fault note) (objections x os)) (is_spent (greatest r x.seen) (length bs)) os (no_spent (nat_lt 200 (length note)) x os) h in
      let free = nothing_against (note_fault note) (objections x os) p.0 in
      let q = spent_back 4294967295 (greatest r x.seen) (length bs) p.1 in
      (short_from 200 (length note) free.0, free.1, q.0, q.1),
  λ p. made_spent x r note bs (short_is 200 (length note) p.0) p.1 p.2 p.3,
)
