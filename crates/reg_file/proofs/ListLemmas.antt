-- Operations that are read in sequence are ordered by id and seen, and such operations are read as they are written.
use Rattle.std.proofs.Common.{◌≡◌, ℕ, true, List, [], ◌∷◌, ◌++◌, Option, Some, refl, sym, ap, subst, ◌∙◌, append_assoc, inl, inr}
use Rattle.std.proofs.lemmas.Bool.{true≢false, or_cases, or_left, or_right}
use Rattle.std.proofs.lemmas.List.Concat.{flat_map-cons}
use Rattle.std.specs.List.{flat_map}
use Rattle.std.specs.Ordering.{is_eq, eq_by_cmp}
use Rattle.std.specs.Cmp.{Equal-is, tied_itself}
use Rattle.reg_op.specs.Set as set
use Rattle.reg_op.specs.Ids.{Id, Ids, is_before}
use Rattle.reg_op.specs.Operations.{Op, op_cmp, IsOperation}
use Rattle.reg_op.specs.Lists.{has, AllAfter, ById}
use Rattle.reg_op.proofs.OpLemmas.{op_total, op_exact, is_before_chain}
use Rattle.reg_file.specs.Layout.{op_bytes}
use Rattle.reg_file.specs.Fields.{is_after}
use Rattle.reg_file.specs.Readers.{ReadsEach}
use Rattle.reg_file.specs.Reading.{operation, id_after}
use Rattle.reg_file.proofs.FieldLemmas.{IsBytes, Takes, Takes-then, IsOwn}
use Rattle.reg_file.proofs.NoteLemmas.{IsTold, IsFit}
use Rattle.reg_file.proofs.BodyLemmas.{op_takes, op_again}

-- each operation may follow those before it
abbrev pub AreOwn : ℕ → Option Id → Ids → List Op → Type 0
AreOwn version last seen [] = Unit {0}
AreOwn version last seen (o ∷ os) = IsOwn last seen o.id × IsFit version o × AreOwn version (Some o.id) seen os

pub record TakesOps (version : ℕ) (last : Option Id) (seen : Ids) (bytes : List ℕ) (os : List Op) (rest : List ℕ) : Type 0 where
  pub takes : Takes bytes (flat_map (op_bytes version) os) rest
  pub own : AreOwn version last seen os

pub ops_take : (version : ℕ) (seen : Ids) (last : Option Id) (bytes : List ℕ) (os : List Op) (rest : List ℕ) → IsBytes bytes → ReadsEach (operation version seen) id_after last bytes os rest → TakesOps version last seen bytes os rest
ops_take version seen last bytes [] rest fits e = record { takes = record { parts = e; rest_fits = subst IsBytes e fits }; own = tt }
ops_take version seen last bytes (o ∷ os) rest fits e =
    let first = op_takes version last seen bytes o e.0 fits e.1 in
    let others = ops_take version seen (Some o.id) e.0 os rest first.takes.rest_fits e.2 in
    record {
      takes = subst (λ (t : List ℕ). Takes bytes t rest) (sym (flat_map-cons (op_bytes version) o os)) (Takes-then bytes (op_bytes version o) e.0 (flat_map (op_bytes version) os) rest first.takes others.takes);
      own = (first.own, first.fit, others.own);
    }

pub ops_again : (version : ℕ) (seen : Ids) (last : Option Id) (os : List Op) (rest : List ℕ) → AreOwn version last seen os → ReadsEach (operation version seen) id_after last (flat_map (op_bytes version) os ++ rest) os rest
ops_again version seen last [] rest own = refl
ops_again version seen last (o ∷ os) rest own = (
  flat_map (op_bytes version) os ++ rest,
  subst (λ (t : List ℕ). (operation version seen last).Reads t o (flat_map (op_bytes version) os ++ rest))
      (sym (ap (λ (t : List ℕ). t ++ rest) (flat_map-cons (op_bytes version) o os) ∙ append_assoc (op_bytes version o) (flat_map (op_bytes version) os) rest))
      (op_again version last seen o (flat_map (op_bytes version) os ++ rest) own.0 own.1),
  ops_again version seen (Some o.id) os rest own.2,
)

-- ---- the order by id

after_chain : (i j : Id) (os : List Op) → is_before i j ≡ true → AllAfter j os → AllAfter i os
after_chain i j [] h k = tt
after_chain i j (o ∷ os) h k = (is_before_chain i j o.id h k.0, after_chain i j os h k.1)

after_of : (version : ℕ) (i : Id) (seen : Ids) (os : List Op) → AreOwn version (Some i) seen os → AllAfter i os
after_of version i seen [] own = tt
after_of version i seen (o ∷ os) own = (own.0.after, after_chain i o.id os own.0.after (after_of version o.id seen os own.2))

pub by_id_of : (version : ℕ) (last : Option Id) (seen : Ids) (os : List Op) → AreOwn version last seen os → ById os
by_id_of version last seen [] own = tt
by_id_of version last seen (o ∷ os) own = (after_of version o.id seen os own.2, by_id_of version (Some o.id) seen os own.2)

pub is_it : (o x : Op) → eq_by_cmp op_cmp o x ≡ true → x ≡ o
is_it o x e = sym (op_exact o x ((Equal-is (op_cmp o x)).0 e))

-- if each operation may follow those before it, each element of the list is seen, and the version has room for its note
pub seen_of_own : (version : ℕ) (last : Option Id) (seen : Ids) (os : List Op) → AreOwn version last seen os → (o : Op) → has os o ≡ true → set.contains seen o.id ≡ true
seen_of_own version last seen [] own o h = absurd (true≢false (sym h))
seen_of_own version last seen (x ∷ os) own o h = elim (or_cases (eq_by_cmp op_cmp o x) (has os o) h) [
  | inl e ↦ subst (λ (y : Op). set.contains seen y.id ≡ true) (is_it o x e) own.0.known
  | inr e ↦ seen_of_own version (Some x.id) seen os own.2 o e
]

pub told_of_own : (version : ℕ) (last : Option Id) (seen : Ids) (os : List Op) → AreOwn version last seen os → (o : Op) → has os o ≡ true → IsTold version o.note
told_of_own version last seen [] own o h = absurd (true≢false (sym h))
told_of_own version last seen (x ∷ os) own o h = elim (or_cases (eq_by_cmp op_cmp o x) (has os o) h) [
  | inl e ↦ subst (λ (y : Op). IsTold version y.note) (is_it o x e) own.1.told
  | inr e ↦ told_of_own version (Some x.id) seen os own.2 o e
]

-- operations that are ordered by id, valid and seen may follow each other
pub own_of_by_id : (version : ℕ) (last : Option Id) (seen : Ids) (os : List Op) → ById os
    → ((o : Op) → has os o ≡ true → IsOperation o × IsTold version o.note × (set.contains seen o.id ≡ true) × (is_after last o.id ≡ true)) → AreOwn version last seen os
own_of_by_id version last seen [] up each = tt
own_of_by_id version last seen (x ∷ os) up each =
    let at = each x (or_left _ _ (ap is_eq (tied_itself op_total x))) in (
      record { id = at.0.id; after = at.3; known = at.2 },
      record { body = at.0.body; note = at.0.note; told = at.1 },
      own_of_by_id version (Some x.id) seen os up.1 (λ o h. let p = each o (or_right (eq_by_cmp op_cmp o x) _ h) in (p.0, p.1, p.2, later x.id os up.0 o h)),
    )
  where
    later : (i : Id) (xs : List Op) → AllAfter i xs → (o : Op) → has xs o ≡ true → is_before i o.id ≡ true
    later i [] k o h = absurd (true≢false (sym h))
    later i (y ∷ xs) k o h = elim (or_cases (eq_by_cmp op_cmp o y) (has xs o) h) [
      | inl e ↦ subst (λ (z : Op). is_before i z.id ≡ true) (is_it o y e) k.0
      | inr e ↦ later i xs k.1 o e
    ]
