-- Offices whose office files keep all that they made.
use Rattle.std.proofs.Common.{◌≡◌, ℕ, ◌+◌, Bool, true, false, cond, List, [], ◌∷◌, Option, Some, None, Result, Ok, Err, zero, suc, refl, sym, ap, ◌∙◌, subst, inl, inr, ◌⊎◌}
use Rattle.std.proofs.lemmas.Bool.{true≢false, or_cases, or_left}
use Rattle.std.specs.Ordering.{is_eq}
use Rattle.std.specs.List.{slice_get, list_any}
use Rattle.reg_op.specs.Set as set
use Rattle.reg_op.specs.Set.{contains, union}
use Rattle.reg_op.specs.Ids.{Id, is_same}
use Rattle.reg_op.specs.Operations.{Op, Ops, op_cmp, ids, named_in, OneBody}
use Rattle.reg_op.specs.declared.operation.OpBody.{OpBody as Body}
use Rattle.reg_op.specs.Contents.{Content, state, joined}
use Rattle.reg_op.specs.Lists.{has}
use Rattle.reg_op.proofs.OpLemmas.{op_total, id_total}
use Rattle.reg_op.proofs.ContentLemmas.{contains_op-union, ids_has, ids-union, kept_is_within, OneBody-within, union_within, union_left, union_right, joined-state, state-empty}
use Rattle.reg_state.specs.Runs.{replica_cmp}
use Rattle.reg_state.proofs.RunLemmas.{same_replica, replica_itself}
use Rattle.reg_office.specs.declared.fault.OfficeFault.{OfficeFault}
use Rattle.reg_office.specs.Making.{greatest, made}
use Rattle.reg_office.proofs.NumberLemmas.{numbered_on}
use Rattle.reg_office.proofs.LawLemmas.{made_are, are_once, are_unseen}
use Rattle.reg_journal.proofs.MadeLemmas.{made_allowed, named_there}
use Rattle.reg_journal.specs.Journals.{Copy, World, Event, Makes, Takes, Joins, empty, start, at_office, new_ops, both, base, landed, puts, makes, makes_on, makes_at, keeps, takes, takes_at, joins_at, happens, after, IsWithin}

pub record IsCopy (all : Ops) (c : Copy) : Type 0 where
  pub content : c.content ≡ state c.reached
  pub within : IsWithin c.reached all

abbrev pub AreCopies : Ops → List Copy → Type 0
AreCopies all [] = Unit {0}
AreCopies all (c ∷ cs) = IsCopy all c × AreCopies all cs

-- all: every operation that was made. Each is in the office file of its office, and names only ids of such operations
pub record Invariant (w : World) : Type 0 where
  pub all : Ops
  pub one_body : OneBody all
  pub copies : AreCopies all w.copies
  pub files : (i : List ℕ) → IsCopy all (w.files i)
  pub own : (o : Op) → contains all o ≡ true → contains (w.files o.id.replica).reached o ≡ true
  pub named : (o : Op) (i : Id) → contains all o ≡ true → list_any (is_same i) (named_in o.body) ≡ true → contains (ids all) i ≡ true

pub copy_at : (all : Ops) (cs : List Copy) (k : ℕ) (c : Copy) → AreCopies all cs → slice_get cs k ≡ Some c → IsCopy all c
copy_at all [] k c are h = cc
copy_at all (d ∷ cs) zero c are h = let is : d ≡ c = cc in subst (IsCopy all) is are.0
copy_at all (d ∷ cs) (suc k) c are h = copy_at all cs k c are.1 h

copy_within : (all more : Ops) (c : Copy) → IsWithin all more → IsCopy all c → IsCopy more c
copy_within all more c within is = record { content = is.content; within = λ o h. within o (is.within o h) }

copies_within : (all more : Ops) (cs : List Copy) → IsWithin all more → AreCopies all cs → AreCopies more cs
copies_within all more [] within are = tt
copies_within all more (c ∷ cs) within are = (copy_within all more c within are.0, copies_within all more cs within are.1)

landed_are : (all : Ops) (lands : Bool) (d : Copy) (cs : List Copy) → IsCopy all d → AreCopies all cs → AreCopies all (landed lands d cs)
landed_are all true d cs is are = (is, are)
landed_are all false d cs is are = are

pub copies_join : (all : Ops) (c d : Copy) → OneBody all → IsCopy all c → IsCopy all d → joined c.content d.content ≡ Ok (state (both c d))
copies_join all c d one ic id =
    (λ k. joined (ic.content k) (id.content k))
    ∙ joined-state c.reached d.reached (OneBody-within (both c d) all (union_within c.reached d.reached all ic.within id.within) one)

-- an operation is in the content that it was joined to: two results of one join are the same
pub same_ok : (r : Result Content Id) (x y : Content) → r ≡ Ok x → r ≡ Ok y → y ≡ x
same_ok (Ok z) x y h k = let a : z ≡ x = cc in let b : z ≡ y = cc in sym b ∙ a
same_ok (Err id) x y h k = cc

pub own_file : (files : List ℕ → Copy) (i : List ℕ) (d : Copy) → at_office files i d i ≡ d
own_file files i d = ap (λ b. cond b d (files i)) (replica_itself i)

-- ---- a command of an office

module _ (w : World) (inv : Invariant w) (i note : List ℕ) (effects : List Body) (c : Copy) (y : Content) (os : List Op)
    (is : IsCopy inv.all c) (by : y ≡ state (both c (w.files i))) (e : made y i note effects ≡ Ok os) where
  abbrev file : Copy
  file = w.files i

  abbrev new : Ops
  new = new_ops os

  mine : (o : Op) → has os o ≡ true → o.id.replica ≡ i
  mine o h = (numbered_on i (greatest i y.seen + 1) note effects o (subst (λ l. has l o ≡ true) (made_are y i note effects os e) h)).0

  pub new_id : (o p : Op) → has os o ≡ true → contains inv.all p ≡ true → p.id ≡ o.id → ⊥
  new_id o p h k same =
      let at : p.id.replica ≡ i = ap (λ (j : Id). j.replica) same ∙ mine o h in
      let there : contains file.reached p ≡ true = subst (λ r. contains (w.files r).reached p ≡ true) at (inv.own p k) in
      let seen : contains (ids (both c file)) p.id ≡ true = ids_has (both c file) p (union_right c.reached file.reached p there) in
      let unseen : contains (ids (both c file)) o.id ≡ false = subst (λ (z : Content). contains z.seen o.id ≡ false) by (are_unseen y i note effects os o e h) in
      true≢false (sym (subst (λ j. contains (ids (both c file)) j ≡ true) same seen) ∙ unseen)

  in_new : (o : Op) → contains new o ≡ true → has os o ≡ true
  in_new o h = sym (set.contains-from_list op_total os o) ∙ h

  where_is : (o : Op) → contains (union inv.all new) o ≡ true → (contains inv.all o ≡ true) ⊎ (has os o ≡ true)
  where_is o h = elim (or_cases (contains inv.all o) (contains new o) (sym (contains_op-union inv.all new o) ∙ h)) [
    | inl a ↦ inl a
    | inr b ↦ inr (in_new o b)
  ]

  more_agree : OneBody (union inv.all new)
  more_agree p o hp ho same =
      elim (where_is p hp) [
        | inl a ↦ elim (where_is o ho) [
          | inl b ↦ inv.one_body p o a b same
          | inr b ↦ absurd (new_id o p b a same)
        ]
        | inr a ↦ elim (where_is o ho) [
          | inl b ↦ absurd (new_id p o a b (sym same))
          | inr b ↦ are_once y i note effects os p o e a b same
        ]
      ]

  with_new : (s : Ops) → IsWithin s inv.all → IsWithin (union s new) (union inv.all new)
  with_new s within = union_within s new (union inv.all new) (λ o h. union_left inv.all new o (within o h)) (union_right inv.all new)

  joins_new : (s : Ops) → IsWithin s inv.all → joined (state s) (state new) ≡ Ok (state (union s new))
  joins_new s within = joined-state s new (OneBody-within (union s new) (union inv.all new) (with_new s within) more_agree)

  both_within : IsWithin (both c file) inv.all
  both_within = union_within c.reached file.reached inv.all is.within (inv.files i).within

  pub file_join : joined file.content (state new) ≡ Ok (state (union file.reached new))
  file_join = (λ k. joined ((inv.files i).content k) (state new)) ∙ joins_new file.reached (inv.files i).within

  pub new_join : joined y (state new) ≡ Ok (state (union (both c file) new))
  new_join = (λ k. joined (by k) (state new)) ∙ joins_new (both c file) both_within

  abbrev pub new_file : Copy
  new_file = record { content = state (union file.reached new); reached = union file.reached new }

  abbrev pub new_copy : Copy
  new_copy = record { content = state (union (both c file) new); reached = union (both c file) new }

  abbrev pub left : Bool → World
  left lands = record { files = at_office w.files i new_file; copies = landed lands new_copy w.copies }

  pub makes_is : (lands : Bool) → makes w i c y lands (made y i note effects) ≡ left lands
  makes_is lands = ap (makes w i c y lands) e ∙ (λ k. puts w i c os lands (file_join k) (new_join k))

  files_are : (j : List ℕ) → IsCopy (union inv.all new) (at_office w.files i new_file j)
  files_are j = elim (is_eq (replica_cmp j i)) as (λ b. IsCopy (union inv.all new) (cond b new_file (w.files j))) [
    | true ↦ record { content = refl; within = with_new file.reached (inv.files i).within }
    | false ↦ copy_within inv.all (union inv.all new) (w.files j) (union_left inv.all new) (inv.files j)
  ]

  own_stays : (o : Op) → contains inv.all o ≡ true → contains (at_office w.files i new_file o.id.replica).reached o ≡ true
  own_stays o h =
      elim (is_eq (replica_cmp o.id.replica i)) as (λ b. is_eq (replica_cmp o.id.replica i) ≡ b → contains (cond b new_file (w.files o.id.replica)).reached o ≡ true) [
        | true ↦ λ q. union_left file.reached new o (subst (λ r. contains (w.files r).reached o ≡ true) (same_replica o.id.replica i q) (inv.own o h))
        | false ↦ λ q. inv.own o h
      ] refl

  own_new : (o : Op) → has os o ≡ true → contains (at_office w.files i new_file o.id.replica).reached o ≡ true
  own_new o h =
      let there : contains (union file.reached new) o ≡ true = union_right file.reached new o (set.contains-from_list op_total os o ∙ h) in
      subst (λ r. contains (at_office w.files i new_file r).reached o ≡ true) (sym (mine o h))
      (subst (λ (d : Copy). contains d.reached o ≡ true) (sym (own_file w.files i new_file)) there)

  named_new : (o : Op) (j : Id) → has os o ≡ true → list_any (is_same j) (named_in o.body) ≡ true → contains (ids (union inv.all new)) j ≡ true
  named_new o j h named =
      let p = named_there y os o j (made_allowed y i note effects os e) h named in
      let there : contains (union inv.all new) p.0 ≡ true =
      elim p.1 [
        | inl a ↦ union_left inv.all new p.0 (both_within p.0 (kept_is_within (both c file) p.0 (subst (λ (z : Content). contains z.ops p.0 ≡ true) by a)))
        | inr b ↦ union_right inv.all new p.0 (set.contains-from_list op_total os p.0 ∙ b)
      ] in
      subst (λ k. contains (ids (union inv.all new)) k ≡ true) p.2 (ids_has (union inv.all new) p.0 there)

  named_old : (o : Op) (j : Id) → contains inv.all o ≡ true → list_any (is_same j) (named_in o.body) ≡ true → contains (ids (union inv.all new)) j ≡ true
  named_old o j h named =
      ap (λ s. contains s j) (ids-union inv.all new) ∙ set.contains-union id_total (ids inv.all) (ids new) j ∙ or_left (contains (ids inv.all) j) _ (inv.named o j h named)

  left_keeps : (lands : Bool) → Invariant (left lands)
  left_keeps lands = record {
    all = union inv.all new;
    one_body = more_agree;
    copies = landed_are (union inv.all new) lands new_copy w.copies (record { content = refl; within = with_new (both c file) both_within }) (copies_within inv.all (union inv.all new) w.copies (union_left inv.all new) inv.copies);
    files = files_are;
    own = λ o h. elim (where_is o h) [
      | inl a ↦ own_stays o a
      | inr b ↦ own_new o b
    ];
    named = λ o j h. elim (where_is o h) [
      | inl a ↦ named_old o j a
      | inr b ↦ named_new o j b
    ];
  }

  pub makes_keeps : (lands : Bool) → Invariant (makes w i c y lands (made y i note effects))
  makes_keeps lands = subst Invariant (sym (makes_is lands)) (left_keeps lands)

  pub noted_is : (lands : Bool) → ((left lands).files i).reached ≡ union file.reached new
  noted_is lands = ap (λ (d : Copy). d.reached) (own_file w.files i new_file)

  pub all_is_there : IsWithin (union file.reached new) new_copy.reached
  all_is_there = union_within file.reached new new_copy.reached (λ o h. union_left (both c file) new o (union_right c.reached file.reached o h)) (union_right (both c file) new)

  pub old_is_there : IsWithin c.reached new_copy.reached
  old_is_there o h = union_left (both c file) new o (union_left c.reached file.reached o h)

-- ---- each event

module _ (w : World) (inv : Invariant w) where
  pub base_is : (i : List ℕ) (c : Copy) → IsCopy inv.all c → base w i c ≡ Ok (state (both c (w.files i)))
  base_is i c is = copies_join inv.all c (w.files i) inv.one_body is (inv.files i)

  made_keeps : (i note : List ℕ) (effects : List Body) (c : Copy) (y : Content) (lands : Bool) → IsCopy inv.all c → y ≡ state (both c (w.files i)) → Invariant (makes w i c y lands (made y i note effects))
  made_keeps i note effects c y lands is by =
      elim (made y i note effects) as (λ r. made y i note effects ≡ r → Invariant (makes w i c y lands r)) [
        | Ok os ↦ λ e. subst (λ r. Invariant (makes w i c y lands r)) e (makes_keeps w inv i note effects c y os is by e lands)
        | Err f ↦ λ e. inv
      ] refl

  keeps_keeps : (reached : Ops) (r : Result Content Id) → r ≡ Ok (state reached) → IsWithin reached inv.all → Invariant (keeps w reached r)
  keeps_keeps reached r e within = subst (λ q. Invariant (keeps w reached q)) (sym e) (record {
    all = inv.all;
    one_body = inv.one_body;
    copies = (record { content = refl; within = within }, inv.copies);
    files = inv.files;
    own = inv.own;
    named = inv.named;
  })

  joins_keeps : (c d : Copy) → IsCopy inv.all c → IsCopy inv.all d → Invariant (keeps w (both c d) (joined c.content d.content))
  joins_keeps c d ic id = keeps_keeps (both c d) (joined c.content d.content) (copies_join inv.all c d inv.one_body ic id) (union_within c.reached d.reached inv.all ic.within id.within)

  takes_keeps : (i : List ℕ) (c d : Copy) → IsCopy inv.all c → IsCopy inv.all d → Invariant (takes w i c d (base w i c))
  takes_keeps i c d ic id =
      let all_own : Copy = record { content = state (both c (w.files i)); reached = both c (w.files i) } in
      let io : IsCopy inv.all all_own = record { content = refl; within = union_within c.reached (w.files i).reached inv.all ic.within (inv.files i).within } in
      subst (λ r. Invariant (takes w i c d r)) (sym (base_is i c ic)) (joins_keeps all_own d io id)

  -- taking a register with the office file leaves one that has all of both, and of what the office made
  pub takes_is : (i : List ℕ) (c d : Copy) → IsCopy inv.all c → IsCopy inv.all d → takes w i c d (base w i c) ≡ keeps w (union (both c (w.files i)) d.reached) (Ok (state (union (both c (w.files i)) d.reached)))
  takes_is i c d ic id =
      let all_own : Copy = record { content = state (both c (w.files i)); reached = both c (w.files i) } in
      let io : IsCopy inv.all all_own = record { content = refl; within = union_within c.reached (w.files i).reached inv.all ic.within (inv.files i).within } in
      ap (takes w i c d) (base_is i c ic) ∙ ap (keeps w (union (both c (w.files i)) d.reached)) (copies_join inv.all all_own d inv.one_body io id)

  pub happens_keeps : (e : Event) → Invariant (happens w e)
  happens_keeps (Makes i place effects note lands) =
      elim (slice_get w.copies place) as (λ r. slice_get w.copies place ≡ r → Invariant (makes_at w i effects note lands r)) [
        | None ↦ λ at. inv
        | Some c ↦ λ at.
            let is = copy_at inv.all w.copies place c inv.copies at in
            subst (λ r. Invariant (makes_on w i c effects note lands r)) (sym (base_is i c is)) (made_keeps i note effects c (state (both c (w.files i))) lands is refl)
      ] refl
  happens_keeps (Takes i place other) =
      elim (slice_get w.copies place) as (λ r. slice_get w.copies place ≡ r → Invariant (takes_at w i r (slice_get w.copies other))) [
        | None ↦ λ at. inv
        | Some c ↦ λ at. elim (slice_get w.copies other) as (λ r. slice_get w.copies other ≡ r → Invariant (takes_at w i (Some c) r)) [
          | None ↦ λ there. inv
          | Some d ↦ λ there. takes_keeps i c d (copy_at inv.all w.copies place c inv.copies at) (copy_at inv.all w.copies other d inv.copies there)
        ] refl
      ] refl
  happens_keeps (Joins place other) =
      elim (slice_get w.copies place) as (λ r. slice_get w.copies place ≡ r → Invariant (joins_at w r (slice_get w.copies other))) [
        | None ↦ λ at. inv
        | Some c ↦ λ at. elim (slice_get w.copies other) as (λ r. slice_get w.copies other ≡ r → Invariant (joins_at w (Some c) r)) [
          | None ↦ λ there. inv
          | Some d ↦ λ there. joins_keeps c d (copy_at inv.all w.copies place c inv.copies at) (copy_at inv.all w.copies other d inv.copies there)
        ] refl
      ] refl

pub after_keeps : (es : List Event) (w : World) → Invariant w → Invariant (after es w)
after_keeps [] w inv = inv
after_keeps (e ∷ es) w inv = after_keeps es (happens w e) (happens_keeps w inv e)

none_there : (o : Op) → contains {R = op_cmp} set.empty o ≡ true → ⊥
none_there o h = true≢false (sym h ∙ set.contains-empty op_cmp o)

empty_is : IsCopy set.empty empty
empty_is = record { content = sym state-empty; within = λ o h. h }

pub start_holds : Invariant start
start_holds = record {
  all = set.empty;
  one_body = λ p o h k same. absurd (none_there p h);
  copies = (empty_is, tt);
  files = λ i. empty_is;
  own = λ o h. absurd (none_there o h);
  named = λ o i h k. absurd (none_there o h);
}

pub always : (es : List Event) → Invariant (after es start)
always es = after_keeps es start start_holds

-- ---- what is in an office file stays in it

abbrev pub Grows : World → World → Type 0
Grows w v = (i : List ℕ) → IsWithin (w.files i).reached (v.files i).reached

puts_grows : (w : World) (i : List ℕ) (c : Copy) (os : List Op) (lands : Bool) (j z : Result Content Id) → Grows w (puts w i c os lands j z)
puts_grows w i c os lands (Err id) z k o h = h
puts_grows w i c os lands (Ok j) (Err id) k o h = h
puts_grows w i c os lands (Ok j) (Ok z) k o h =
    elim (is_eq (replica_cmp k i)) as (λ b. is_eq (replica_cmp k i) ≡ b → contains (cond b (record { content = j; reached = union (w.files i).reached (new_ops os) }) (w.files k)).reached o ≡ true) [
      | true ↦ λ q. union_left (w.files i).reached (new_ops os) o (subst (λ r. contains (w.files r).reached o ≡ true) (same_replica k i q) h)
      | false ↦ λ q. h
    ] refl

makes_grows : (w : World) (i : List ℕ) (c : Copy) (y : Content) (lands : Bool) (r : Result (List Op) OfficeFault) → Grows w (makes w i c y lands r)
makes_grows w i c y lands (Ok os) = puts_grows w i c os lands (joined (w.files i).content (state (new_ops os))) (joined y (state (new_ops os)))
makes_grows w i c y lands (Err f) = λ k o h. h

makes_on_grows : (w : World) (i : List ℕ) (c : Copy) (effects : List Body) (note : List ℕ) (lands : Bool) (r : Result Content Id) → Grows w (makes_on w i c effects note lands r)
makes_on_grows w i c effects note lands (Ok y) = makes_grows w i c y lands (made y i note effects)
makes_on_grows w i c effects note lands (Err id) = λ k o h. h

makes_at_grows : (w : World) (i : List ℕ) (effects : List Body) (note : List ℕ) (lands : Bool) (r : Option Copy) → Grows w (makes_at w i effects note lands r)
makes_at_grows w i effects note lands None = λ k o h. h
makes_at_grows w i effects note lands (Some c) = makes_on_grows w i c effects note lands (base w i c)

keeps_grows : (w : World) (reached : Ops) (r : Result Content Id) → Grows w (keeps w reached r)
keeps_grows w reached (Ok y) = λ k o h. h
keeps_grows w reached (Err id) = λ k o h. h

takes_grows : (w : World) (i : List ℕ) (c d : Copy) (r : Result Content Id) → Grows w (takes w i c d r)
takes_grows w i c d (Ok y) = keeps_grows w (union (both c (w.files i)) d.reached) (joined y d.content)
takes_grows w i c d (Err id) = λ k o h. h

takes_at_grows : (w : World) (i : List ℕ) (r s : Option Copy) → Grows w (takes_at w i r s)
takes_at_grows w i None s = λ k o h. h
takes_at_grows w i (Some c) None = λ k o h. h
takes_at_grows w i (Some c) (Some d) = takes_grows w i c d (base w i c)

joins_at_grows : (w : World) (r s : Option Copy) → Grows w (joins_at w r s)
joins_at_grows w None s = λ k o h. h
joins_at_grows w (Some c) None = λ k o h. h
joins_at_grows w (Some c) (Some d) = keeps_grows w (both c d) (joined c.content d.content)

happens_grows : (w : World) (e : Event) → Grows w (happens w e)
happens_grows w (Makes i place effects note lands) = makes_at_grows w i effects note lands (slice_get w.copies place)
happens_grows w (Takes i place other) = takes_at_grows w i (slice_get w.copies place) (slice_get w.copies other)
happens_grows w (Joins place other) = joins_at_grows w (slice_get w.copies place) (slice_get w.copies other)

pub after_grows : (es : List Event) (w : World) → Grows w (after es w)
after_grows [] w k o h = h
after_grows (e ∷ es) w k o h = after_grows es (happens w e) k o (happens_grows w e k o h)
