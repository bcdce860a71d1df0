-- In a world of offices nobody makes numbers in another's name.
use Rattle.std.proofs.Common.{◌≡◌, ◌≤◌, true, false, not, ◌&&◌, sym, ap, ◌∙◌, subst, inl, inr, arith, nat_lt}
use Rattle.std.proofs.lemmas.Bool.{true≢false, or_cases, or_left, or_right, and_from, and_parts, cases_Bool, false_from_ne_true, ltb-true}
use Rattle.std.specs.List.{list_any}
use Rattle.reg_op.specs.Set.{contains}
use Rattle.reg_op.specs.Ids.{Id, is_same}
use Rattle.reg_op.specs.Finite.{any}
use Rattle.reg_op.specs.Operations.{Op, Ops, ids, kept, named_in, OneBody, replaces}
use Rattle.reg_op.specs.Contents.{Content, state}
use Rattle.reg_op.proofs.OpLemmas.{op_total, op_exact, is_same_exact, replaces_chain}
use Rattle.reg_op.proofs.FiniteLemmas.{member_from_any}
use Rattle.reg_op.proofs.ContentLemmas.{contains-ids, contains-kept, kept_is_within, ids_has}
use Rattle.reg_op.proofs.StatusLemmas.{any-kept}
use Rattle.reg_journal.specs.Journal.{Journal, IsOffice, is_own}
use Rattle.reg_journal.specs.Standing.{is_known, tells_forged, IsHonest}
use Rattle.reg_journal.specs.Journals.{Copy, World}
use Rattle.reg_journal.proofs.NumbersLemmas.{numbers_in, of_own}
use Rattle.reg_journal.proofs.JournalLemmas.{IsCopy, Invariant}

-- the operation of an id of a set
op_of_id : (s : Ops) (i : Id) → contains (ids s) i ≡ true → (o : Op) × (contains s o ≡ true) × (o.id ≡ i)
op_of_id s i h =
    let r = member_from_any op_total op_exact (λ o. is_same i o.id) s (sym (contains-ids s i) ∙ h) in
    (r.0, r.1, sym (is_same_exact i r.0.id r.2))

-- an operation of a set is known to the content of the set
known_in : (s : Ops) (o : Op) → OneBody s → contains s o ≡ true → is_known (kept s) o ≡ true
known_in s o one h =
    elim (cases_Bool (contains (kept s) o)) [
      | inl a ↦ or_left _ _ a
      | inr b ↦ or_right (contains (kept s) o) _ (and_from _ _ (ap not (no_id b)) (any-kept (λ p. replaces p o) (λ p q c d. replaces_chain p q o c d) s ∙ redundant b))
    ]
  where
    redundant : contains (kept s) o ≡ false → any (λ p. replaces p o) s ≡ true
    redundant b = elim (cases_Bool (any (λ p. replaces p o) s)) [
      | inl e ↦ e
      | inr e ↦ absurd (true≢false (sym (contains-kept s o ∙ and_from _ _ h (ap not e)) ∙ b))
    ]

    no_id : contains (kept s) o ≡ false → any (λ p. is_same o.id p.id) (kept s) ≡ false
    no_id b = false_from_ne_true _ (λ e.
        let r = member_from_any op_total op_exact (λ p. is_same o.id p.id) (kept s) e in
        let same : r.0 ≡ o = one r.0 o (kept_is_within s r.0 r.1) h (sym (is_same_exact o.id r.0.id r.2)) in
        true≢false (sym (subst (λ q. contains (kept s) q ≡ true) same r.1) ∙ b))

module _ (w : World) (inv : Invariant w) (c : Copy) (f : Journal) (is : IsCopy inv.all c) (office : IsOffice f) (made : f.made ≡ (w.files f.replica).content) where
  abbrev file : Copy
  file = w.files f.replica

  made_is : f.made ≡ state file.reached
  made_is = made ∙ (inv.files f.replica).content

  -- the office made each operation that bears its name, and gave its number
  in_file : (o : Op) → contains inv.all o ≡ true → o.id.replica ≡ f.replica → contains file.reached o ≡ true
  in_file o h own = subst (λ r. contains (w.files r).reached o ≡ true) own (inv.own o h)

  given : (i : Id) → is_own f.replica i ≡ true → contains (ids inv.all) i ≡ true → i.count ≤ f.last
  given i own h =
      let r = op_of_id inv.all i h in
      let there = in_file r.0 r.1 (ap (λ (j : Id). j.replica) r.2 ∙ of_own f.replica i own) in
      let seen : contains (ids file.reached) i ≡ true = subst (λ j. contains (ids file.reached) j ≡ true) r.2 (ids_has file.reached r.0 there) in
      let numbered = subst (λ s. contains s i ≡ true) (sym (ap (λ (x : Content). x.seen) made_is) ∙ office.seen) seen in
      (numbers_in f.replica f.last i numbered).high

  seen_all : (i : Id) → contains c.content.seen i ≡ true → contains (ids inv.all) i ≡ true
  seen_all i h =
      let r = op_of_id c.reached i (subst (λ (x : Content). contains x.seen i ≡ true) is.content h) in
      subst (λ j. contains (ids inv.all) j ≡ true) r.2 (ids_has inv.all r.0 (is.within r.0 r.1))

  over : (i : Id) → is_own f.replica i ≡ true → nat_lt f.last i.count ≡ true → contains (ids inv.all) i ≡ true → ⊥
  over i own lt h = let top = given i own h in let low = ltb-true f.last i.count lt in omega (arith, top, low)

  pub nobody_forges : IsHonest f c.content
  nobody_forges i = false_from_ne_true _ (λ h.
      let p = and_parts _ _ h in
      elim (or_cases (nat_lt f.last i.count && contains c.content.seen i) _ p.1) [
        | inl a ↦ let q = and_parts _ _ a in over i p.0 q.0 (seen_all i q.1)
        | inr b ↦
            let r = member_from_any op_total op_exact (tells_forged f i) c.content.ops b in
            let reached : contains c.reached r.0 ≡ true = kept_is_within c.reached r.0 (subst (λ (x : Content). contains x.ops r.0 ≡ true) is.content r.1) in
            let all : contains inv.all r.0 ≡ true = is.within r.0 reached in
            elim (or_cases (nat_lt f.last i.count && list_any (is_same i) (named_in r.0.body)) _ r.2) [
              | inl d ↦ let q = and_parts _ _ d in over i p.0 q.0 (inv.named r.0 i all q.1)
              | inr d ↦
                  let q = and_parts _ _ d in
                  let own : r.0.id.replica ≡ f.replica = sym (ap (λ (j : Id). j.replica) (is_same_exact i r.0.id q.0)) ∙ of_own f.replica i p.0 in
                  let known : is_known f.made.ops r.0 ≡ true = subst (λ (x : Content). is_known x.ops r.0 ≡ true) (sym made_is) (known_in file.reached r.0 one_body (in_file r.0 all own)) in
                  true≢false (sym q.1 ∙ ap not known)
            ]
      ])
    where
      one_body : OneBody file.reached
      one_body p o h k same = inv.one_body p o ((inv.files f.replica).within p h) ((inv.files f.replica).within o k) same
