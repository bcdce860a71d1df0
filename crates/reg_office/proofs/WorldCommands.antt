-- A command makes operations of the office's replica, ordered by id.
use Rattle.std.proofs.Common.{◌≡◌, ℕ, ◌+◌, ◌<◌, ◌≤◌, ◌^◌, nat_lt, Bool, true, false, ◌&&◌, List, [], ◌∷◌, All, length, Option, Some, None, Ok, refl, sym, ap, subst, inl, inr, arith}
use Rattle.std.proofs.lemmas.Bool.{or_cases, true≢false}
use Rattle.std.proofs.lemmas.Bool.Decides.{nat_tests}
use Rattle.std.proofs.lemmas.List.Elements.{All-head, All-tail}
use Rattle.std.specs.Prelude.{IsUtf8}
use Rattle.std.specs.Cmp.{tied_itself, Equal-is}
use Rattle.std.specs.Ordering.{is_eq, eq_by_cmp}
use Rattle.reg_op.specs.Ids.{Id, IsId, is_same}
use Rattle.reg_op.specs.Lists.{ById, has}
use Rattle.reg_op.specs.Notes.{IsNote}
use Rattle.reg_op.specs.Operations.{Op, Ops, op_cmp, IsBody, IsOperation}
use Rattle.reg_op.specs.declared.operation.OpBody.{OpBody as Body}
use Rattle.reg_op.specs.declared.operation.OpBody.TheVariants.{Enter, Supersede, Retire}
use Rattle.reg_op.specs.Status.{enters, retires, is_replaced_by}
use Rattle.reg_op.specs.Contents.{Content}
use Rattle.reg_op.proofs.OpLemmas.{id_total, op_exact}
use Rattle.reg_state.specs.Runs.{id_at}
use Rattle.reg_office.specs.declared.fault.OfficeFault.{OfficeFault}
use Rattle.reg_office.specs.Making.{greatest, numbered, objection, objections, with_op, else_next, note_fault, is_spent, made_unless, made}
use Rattle.reg_office.specs.World.{IsEffect}
use Rattle.reg_office.proofs.EffectLemmas.{chain, nothing_against}
use Rattle.reg_office.proofs.NumberLemmas.{numbered_on, numbered_by_id}
use Rattle.reg_office.proofs.LawLemmas.{made_are, short_from}

-- a supersession that has no objection does not name one entry twice
same_told : (old newer : Id) (a b same r q p : Bool) → chain old newer a b same r q p ≡ None → same ≡ true → ⊥
same_told old newer true true true r q p h s = cc
same_told old newer true true false r q p h s = true≢false (sym s)
same_told old newer true false same r q p h s = cc
same_told old newer false b same r q p h s = cc

body_from : (ops : Ops) (b : Body) → objection ops b ≡ None → IsEffect b → IsBody b
body_from ops (Enter text) h is = is
body_from ops (Supersede old newer) h is = (
  is.0,
  is.1,
  λ e. same_told old newer (enters ops old) (enters ops newer) (is_same old newer) (retires ops old) (retires ops newer) (is_replaced_by ops old newer) h (subst (λ i. is_same old i ≡ true) e (ap is_eq (tied_itself id_total old))),
)
body_from ops (Retire entry) h is = is

id_from : (r : List ℕ) (n k limit : ℕ) → length r ≡ 16 → All (λ b. b < 256) r → 0 < n → n + k < limit → limit ≡ 2 ^ 32 → IsId (id_at r n)
id_from r n k limit long bytes pos fits is = record { long = long; bytes = bytes; positive = omega arith; fits = subst (λ m. n < m) is (omega arith) }

module _ (r : List ℕ) (long : length r ≡ 16) (bytes : All (λ b. b < 256) r) (note : List ℕ) (is_note : IsNote note) where
  numbered_are : (x : Content) (n limit : ℕ) (bs : List Body) → limit ≡ 2 ^ 32 → 0 < n → n + length bs ≤ limit → All IsEffect bs → objections x (numbered r n note bs) ≡ None
      → (o : Op) → has (numbered r n note bs) o ≡ true → IsOperation o
  numbered_are x n limit [] is pos fits each free o h = absurd (true≢false (sym h))
  numbered_are x n limit (b ∷ bs) is pos fits each free o h =
      let first : Op = record { id = id_at r n; body = b; note = note } in
      let f = nothing_against (objection x.ops b) (objections (with_op x first) (numbered r (n + 1) note bs)) free in
      elim (or_cases (eq_by_cmp op_cmp o first) (has (numbered r (n + 1) note bs) o) h) [
        | inl e ↦ subst IsOperation (sym (op_exact o first ((Equal-is (op_cmp o first)).0 e))) (record {
          id = id_from r n (length bs) limit long bytes pos (omega arith) is;
          body = body_from x.ops b f.0 (All-head IsEffect b bs each);
          note = is_note;
        })
        | inr e ↦ numbered_are (with_op x first) (n + 1) limit bs is (omega arith) (omega arith) (All-tail IsEffect b bs each) f.1 o e
      ]

-- ---- the operations of a command that is not refused

free_from : (f : Option OfficeFault) (spent : Bool) (os ps : List Op) → made_unless f spent os ≡ Ok ps → (f ≡ None) × (spent ≡ false)
free_from None false os ps h = (refl, refl)
free_from None true os ps h = cc
free_from (Some f) spent os ps h = cc

unspent_back : (limit g k : ℕ) → 0 < k → (nat_lt 0 k && nat_lt limit (g + k)) ≡ false → g + 1 + k ≤ limit + 1
unspent_back limit g k pos h = grind (arith, nat_tests)

pub made_operations : (x : Content) (r note : List ℕ) (bs : List Body) (os : List Op) → length r ≡ 16 → All (λ b. b < 256) r → All IsEffect bs → IsUtf8 note → made x r note bs ≡ Ok os
    → (o : Op) → has os o ≡ true → IsOperation o
made_operations x r note [] os long bytes each utf8 h o k = absurd (true≢false (sym (subst (λ l. has l o ≡ true) (made_are x r note [] os h) k)))
made_operations x r note (b ∷ bs) os long bytes each utf8 h o k =
    let g = greatest r x.seen in
    let f = free_from (else_next (note_fault note) (objections x (numbered r (g + 1) note (b ∷ bs)))) (is_spent g (length (b ∷ bs))) (numbered r (g + 1) note (b ∷ bs)) os h in
    let free = nothing_against (note_fault note) (objections x (numbered r (g + 1) note (b ∷ bs))) f.0 in
    numbered_are r long bytes note (record { utf8 = utf8; short = short_from 200 (length note) free.0 }) x (g + 1) (4294967295 + 1) (b ∷ bs) refl (omega arith) (unspent_back 4294967295 g (length (b ∷ bs)) (omega arith) f.1) each free.1 o
    (subst (λ l. has l o ≡ true) (made_are x r note (b ∷ bs) os h) k)

pub made_on : (x : Content) (r note : List ℕ) (bs : List Body) (os : List Op) → made x r note bs ≡ Ok os → (o : Op) → has os o ≡ true → o.id.replica ≡ r
made_on x r note bs os h o k = (numbered_on r (greatest r x.seen + 1) note bs o (subst (λ l. has l o ≡ true) (made_are x r note bs os h) k)).0

pub made_by_id : (x : Content) (r note : List ℕ) (bs : List Body) (os : List Op) → made x r note bs ≡ Ok os → ById os
made_by_id x r note bs os h = subst ById (sym (made_are x r note bs os h)) (numbered_by_id r (greatest r x.seen + 1) note bs)
