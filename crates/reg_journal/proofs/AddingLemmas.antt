-- What an office file has after a command.
use Rattle.std.proofs.Common.{◌≡◌, ℕ, ◌+◌, ◌-◌, ◌<◌, ◌≤◌, ◌^◌, max, Bool, true, ◌&&◌, List, Some, Ok, Err, sym, ap, ◌∙◌, subst, inl, inr, arith}
use Rattle.std.proofs.lemmas.Bool.{or_cases, or_left, or_right, and_parts, ltb-true, cases_lt}
use Rattle.std.proofs.Math.Bool.{and_comm}
use Rattle.std.proofs.lemmas.Option.{none-some}
use Rattle.std.specs.Cmp.{both_ways}
use Rattle.std.specs.List.{filter}
use Rattle.reg_op.specs.Set as set
use Rattle.reg_op.specs.Set.{contains, union, contains-from_list, contains-retain, contains-union, same_set}
use Rattle.reg_op.specs.Ids.{Id, Ids, id_cmp}
use Rattle.reg_op.specs.Operations.{Op, op_cmp, OneBody}
use Rattle.reg_op.specs.Contents.{Content, IsContent, joined, merged}
use Rattle.reg_op.specs.Kept.{first_dropped}
use Rattle.reg_op.specs.Lists.{ById, has, content_at}
use Rattle.reg_op.proofs.OpLemmas.{op_total, op_exact, id_total, id_exact}
use Rattle.reg_op.proofs.FiniteLemmas.{union-empty}
use Rattle.reg_op.proofs.ContentLemmas.{contains_op-union, joined_content, same_content}
use Rattle.reg_op.proofs.OneLemmas.{merged_is_content}
use Rattle.reg_op.proofs.PieceLemmas.{kept_part}
use Rattle.reg_op.proofs.DroppedLemmas.{dropped_none}
use Rattle.reg_state.specs.Runs.{ids_from}
use Rattle.reg_state.proofs.MergeLemmas.{ById-filter, has-filter}
use Rattle.reg_office.specs.Making.{greatest}
use Rattle.reg_office.proofs.NumberLemmas.{count-greatest}
use Rattle.reg_journal.specs.Journal.{Journal, numbers, IsOffice}
use Rattle.reg_journal.specs.Adding.{is_new, new_ops, new_in}
use Rattle.reg_journal.proofs.NumbersLemmas.{IsNumber, ids_are_run, run_in, in_run_of, numbers_in, in_numbers, of_own, made_number}
use Rattle.reg_journal.proofs.JoiningLemmas.{ok_not_err, same_ok}

set_of_filter : (t : Op → Bool) (os : List Op) → set.from_list {R = op_cmp} (filter t os) ≡ set.retain (set.from_list os) t
set_of_filter t os = same_set op_total op_exact _ _ (λ q.
    contains-from_list op_total (filter t os) q
    ∙ has-filter t os q
    ∙ and_comm (t q) (has os q)
    ∙ (λ k. sym (contains-from_list op_total os q) k && t q)
    ∙ sym (contains-retain (set.from_list os) t q (λ x e. ap t (sym (op_exact q x e)))))

items_back : (s : set.Set op_cmp) → set.from_list {R = op_cmp} (set.items s) ≡ s
items_back s = same_set op_total op_exact _ _ (λ q. contains-from_list op_total (set.items s) q ∙ sym (set.contains-items s q))

-- the numbers above the last one
abbrev pub new_numbers : Journal → ℕ → Ids
new_numbers f g = set.from_list (ids_from f.replica (f.last + 1) (g - f.last))

pub numbered_above : (f : Journal) (g : ℕ) (i : Id) → contains (new_numbers f g) i ≡ true → IsNumber f.replica (f.last + 1) g i
numbered_above f g i h = run_in f.replica (f.last + 1) g i (subst (λ s. contains s i ≡ true) (ids_are_run f.replica (f.last + 1) g (g - f.last) (omega arith)) h)

pub above_numbered : (f : Journal) (g : ℕ) (i : Id) → IsNumber f.replica (f.last + 1) g i → contains (new_numbers f g) i ≡ true
above_numbered f g i is = subst (λ s. contains s i ≡ true) (sym (ids_are_run f.replica (f.last + 1) g (g - f.last) (omega arith))) (in_run_of f.replica (f.last + 1) g i is)

pub contains-new : (f : Journal) (y : Content) (o : Op) → contains (new_in f y).ops o ≡ (contains y.ops o && is_new f o.id)
contains-new f y o = contains-retain y.ops (λ (p : Op). is_new f p.id) o (λ x e. ap (λ (p : Op). is_new f p.id) (sym (op_exact o x e)))

new_number : (f : Journal) (y : Content) (o : Op) → IsContent y → contains y.ops o ≡ true → is_new f o.id ≡ true → IsNumber f.replica (f.last + 1) (greatest f.replica y.seen) o.id
new_number f y o is h new =
    let p = and_parts _ _ new in
    let own = of_own f.replica o.id p.0 in
    let over = ltb-true f.last o.id.count p.1 in
    record { own = own; low = omega (arith, over); high = count-greatest f.replica y.seen o.id (is.are_seen o h) own }

pub no_numbers : (f : Journal) (g : ℕ) (s : Ids) → g ≤ f.last → s ≡ set.empty → s ≡ new_numbers f g
no_numbers f g s le e = let none : 0 ≡ g - f.last = omega arith in e ∙ (λ k. set.from_list {R = id_cmp} (ids_from f.replica (f.last + 1) (none k)))

pub some_numbers : (f : Journal) (g : ℕ) (v w : Ids) → v ≡ set.empty → w ≡ union v (set.from_list (ids_from f.replica (f.last + 1) (g + 1 - (f.last + 1)))) → w ≡ new_numbers f g
some_numbers f g v w e h =
    let same : g + 1 - (f.last + 1) ≡ g - f.last = omega arith in
    h ∙ (λ k. union (e k) (set.from_list {R = id_cmp} (ids_from f.replica (f.last + 1) (same k)))) ∙ union-empty id_total id_exact (new_numbers f g)

-- what is new in a register is a content
module _ (f : Journal) (y : Content) (is : IsContent y) where
  pub new_seen : (o : Op) → contains y.ops o ≡ true → is_new f o.id ≡ true → contains (new_in f y).seen o.id ≡ true
  new_seen o h new = above_numbered f (greatest f.replica y.seen) o.id (new_number f y o is h new)

-- ---- making it

module _ (f : Journal) (y : Content) (is : IsContent y) (os : List Op) (all : List Op) (are : all ≡ set.items y.ops) (e : os ≡ new_ops f all) where
  pub by_id_new : ById all → ById os
  by_id_new up = subst ById (sym e) (ById-filter (λ (o : Op). is_new f o.id) all up)

  has_new : (o : Op) → has os o ≡ true → (contains y.ops o ≡ true) × (is_new f o.id ≡ true)
  has_new o h =
      let p = and_parts _ _ (sym (has-filter (λ (q : Op). is_new f q.id) all o) ∙ subst (λ l. has l o ≡ true) e h) in
      (set.contains-items y.ops o ∙ subst (λ l. has l o ≡ true) are p.1, p.0)

  pub seen_new : (seen : Ids) (g : ℕ) → g ≡ greatest f.replica y.seen → seen ≡ new_numbers f g → (o : Op) → has os o ≡ true → contains seen o.id ≡ true
  seen_new seen g eg es o h =
      let p = has_new o h in
      subst (λ s. contains s o.id ≡ true) (sym (es ∙ ap (new_numbers f) eg)) (new_seen f y is o p.0 p.1)

  set_new : set.from_list {R = op_cmp} os ≡ (new_in f y).ops
  set_new =
      ap (λ (l : List Op). set.from_list {R = op_cmp} l) (e ∙ ap (new_ops f) are)
      ∙ set_of_filter (λ (o : Op). is_new f o.id) (set.items y.ops)
      ∙ ap (λ s. set.retain s (λ (o : Op). is_new f o.id)) (items_back y.ops)

  pub content_new : (seen : Ids) (g : ℕ) (r : Content) → g ≡ greatest f.replica y.seen → seen ≡ new_numbers f g → r ≡ content_at os seen → r ≡ new_in f y
  content_new seen g r eg es er = er ∙ same_content _ _ set_new (es ∙ ap (new_numbers f) eg)

  -- none of them is redundant beside the others
  pub none_dropped : (id : Id) → first_dropped (set.from_list {R = op_cmp} os) ≡ Some id → ⊥
  none_dropped id h =
      let within : (o : Op) → contains (set.from_list {R = op_cmp} os) o ≡ true → contains y.ops o ≡ true = λ o k. (has_new o (sym (contains-from_list op_total os o) ∙ k)).0 in
      let kept = kept_part y.ops (set.from_list {R = op_cmp} os) is.is_kept within in
      none-some id (sym ((dropped_none (set.from_list {R = op_cmp} os)).1 kept) ∙ h)

-- ---- joining it

-- the office file's operations, and the new ones
module _ (f : Journal) (y z : Content) (office : IsOffice f) (content : IsContent y) (new : IsContent z) (e : z ≡ new_in f y) where
  apart : (p o : Op) → contains f.made.ops p ≡ true → contains z.ops o ≡ true → p.id ≡ o.id → ⊥
  apart p o h k same =
      let n = made_number f p office h in
      let q = and_parts _ _ (and_parts _ _ (sym (contains-new f y o) ∙ subst (λ (x : Content). contains x.ops o ≡ true) e k)).1 in
      let over = ltb-true f.last o.id.count q.1 in
      let same_count : p.id.count ≡ o.id.count = ap (λ (i : Id). i.count) same in
      let high = n.high in
      omega (arith, over, same_count, high)

  pub new_agree : OneBody (union f.made.ops z.ops)
  new_agree p o h k same =
      elim (or_cases (contains f.made.ops p) (contains z.ops p) (sym (contains_op-union f.made.ops z.ops p) ∙ h)) [
        | inl a ↦ elim (or_cases (contains f.made.ops o) (contains z.ops o) (sym (contains_op-union f.made.ops z.ops o) ∙ k)) [
          | inl b ↦ office.content.one_body p o a b same
          | inr b ↦ absurd (apart p o a b same)
        ]
        | inr a ↦ elim (or_cases (contains f.made.ops o) (contains z.ops o) (sym (contains_op-union f.made.ops z.ops o) ∙ k)) [
          | inl b ↦ absurd (apart o p b a (sym same))
          | inr b ↦ new.one_body p o a b same
        ]
      ]

  pub new_joins : joined f.made z ≡ Ok (merged f.made z)
  new_joins = joined_content f.made z new_agree

  pub no_new_clash : (id : Id) → joined f.made z ≡ Err id → ⊥
  no_new_clash id h = ok_not_err (sym new_joins ∙ h)

  -- together they have seen the numbers up to the greatest one
  all_numbers : (g : ℕ) → g ≡ greatest f.replica y.seen → union f.made.seen z.seen ≡ numbers f.replica (max f.last g)
  all_numbers g eg = same_set id_total id_exact _ _ (λ i. both_ways _ _ (there i) (back i))
    where
      z_seen : z.seen ≡ new_numbers f g
      z_seen = ap (λ (x : Content). x.seen) e ∙ ap (new_numbers f) (sym eg)

      there : (i : Id) → contains (union f.made.seen z.seen) i ≡ true → contains (numbers f.replica (max f.last g)) i ≡ true
      there i h = elim (or_cases (contains f.made.seen i) (contains z.seen i) (sym (contains-union id_total f.made.seen z.seen i) ∙ h)) [
        | inl a ↦
            let n = numbers_in f.replica f.last i (subst (λ s. contains s i ≡ true) office.seen a) in
            let high = n.high in
            in_numbers f.replica (max f.last g) i (record { own = n.own; low = n.low; high = omega (arith, high) })
        | inr b ↦
            let n = numbered_above f g i (subst (λ s. contains s i ≡ true) z_seen b) in
            let low = n.low in
            let high = n.high in
            in_numbers f.replica (max f.last g) i (record { own = n.own; low = omega (arith, low); high = omega (arith, high) })
      ]

      back : (i : Id) → contains (numbers f.replica (max f.last g)) i ≡ true → contains (union f.made.seen z.seen) i ≡ true
      back i h =
          let n = numbers_in f.replica (max f.last g) i h in
          let low = n.low in
          let high = n.high in
          contains-union id_total f.made.seen z.seen i
          ∙ elim (cases_lt f.last i.count) [
            | inl b ↦ or_right (contains f.made.seen i) _ (subst (λ s. contains s i ≡ true) (sym z_seen) (above_numbered f g i (record { own = n.own; low = omega (arith, b); high = omega (arith, b, high) })))
            | inr a ↦ or_left (contains f.made.seen i) _ (subst (λ s. contains s i ≡ true) (sym office.seen) (in_numbers f.replica f.last i (record { own = n.own; low = low; high = a })))
          ]

  -- the office file with them
  pub new_office : (g last : ℕ) (made : Content) → g ≡ greatest f.replica y.seen → last ≡ max f.last g → last < 2 ^ 32 → joined f.made z ≡ Ok made
      → IsOffice (record { replica = f.replica; last = last; stood = f.stood; made = made })
  new_office g last made eg el fits j =
      let is : merged f.made z ≡ made = same_ok (sym new_joins ∙ j) in
      let stood = office.stood in
      record {
        long = office.long;
        bytes = office.bytes;
        fits = fits;
        stood = omega (arith, el, stood);
        content = subst IsContent is (merged_is_content f.made z office.content new new_agree);
        seen = sym (ap (λ (x : Content). x.seen) is) ∙ all_numbers g eg ∙ ap (numbers f.replica) (sym el);
      }
