-- The operations that a command makes on a register joined with the office file, and what is new in the register that it leaves.
use Rattle.std.proofs.Common.{◌≡◌, ◌⊎◌, ℕ, ◌+◌, ◌-◌, ◌<◌, ◌≤◌, max, Bool, true, false, not, cond, ◌&&◌, ◌||◌, List, [], ◌∷◌, map, length, Option, Some, None, Ok, refl, sym, ap, ◌∙◌, subst, inl, inr, arith, nat_lt, eq-zero-or-pos}
use Rattle.std.proofs.lemmas.Bool.{true≢false, or_cases, or_left, or_right, and_from, and_parts, lt-ltb, ltb-true, cases_lt}
use Rattle.std.specs.Cmp.{both_ways, tied_itself}
use Rattle.std.specs.Ordering.{is_eq, eq_by_cmp}
use Rattle.std.specs.List.{list_any}
use Rattle.reg_op.specs.Set as set
use Rattle.reg_op.specs.Set.{contains, union, contains-union, contains-from_list, same_set}
use Rattle.reg_op.specs.Ids.{Id, id_cmp, is_same, is_before}
use Rattle.reg_op.specs.Finite.{any}
use Rattle.reg_op.specs.Operations.{Op, Ops, op_cmp, one, ids, kept, named_in, replaces, replaces_body}
use Rattle.reg_op.specs.declared.operation.OpBody.{OpBody as Body}
use Rattle.reg_op.specs.declared.operation.OpBody.TheVariants.{Enter, Supersede, Retire}
use Rattle.reg_op.specs.Status.{enters, is_enter, retires, is_replaced_by, is_retirement, is_supersession}
use Rattle.reg_op.specs.Contents.{Content, IsContent, state, joined, merged}
use Rattle.reg_op.specs.Lists.{has, ById}
use Rattle.reg_op.proofs.OpLemmas.{op_total, op_exact, id_total, is_same_exact, replaces_chain}
use Rattle.reg_op.proofs.FiniteLemmas.{any_from_member, member_from_any}
use Rattle.reg_op.proofs.ContentLemmas.{contains_op-union, kept_is_within, same_content}
use Rattle.reg_op.proofs.OneLemmas.{kept_free, kept_has, one_is, merged_is_content}
use Rattle.reg_op.proofs.StatusLemmas.{any-kept}
use Rattle.reg_op.proofs.ClashLemmas.{items_are}
use Rattle.reg_state.specs.Runs.{ids_from, id_at}
use Rattle.reg_office.specs.declared.fault.OfficeFault.{OfficeFault}
use Rattle.reg_office.specs.Making.{greatest, numbered, made, objection, objections, else_next, with_op, note_fault, is_spent}
use Rattle.reg_office.proofs.NumberLemmas.{op_cases, numbered_on, numbered_ids, numbered_by_id, greatest_is, count-greatest}
use Rattle.reg_office.proofs.EffectLemmas.{nothing_against}
use Rattle.reg_office.proofs.LawLemmas.{made_are, they_join}
use Rattle.reg_office.proofs.NewLemmas.{not_refused}
use Rattle.reg_journal.specs.Journal.{Journal, IsOffice, is_own}
use Rattle.reg_journal.specs.Standing.{IsHonest}
use Rattle.reg_journal.specs.Adding.{is_new, new_in, added}
use Rattle.reg_journal.proofs.NumbersLemmas.{IsNumber, numbers_in, in_numbers, own_of, of_own}
use Rattle.reg_journal.proofs.JoiningLemmas.{honest_agrees, honest_joins, same_ok}
use Rattle.reg_journal.proofs.AddingLemmas.{new_numbers, contains-new, numbered_above, above_numbered}

-- ---- an effect that is not refused is not redundant

some_none : {A : Type 0} {x : A} → ◌≡◌ {A = Option A} (Some x) None → ⊥
some_none h = cc

retires_by : (ops : Ops) (p : Op) (e entry : Id) → contains ops p ≡ true → p.body ≡ Retire e → is_same e entry ≡ true → retires ops entry ≡ true
retires_by ops p e entry h is same = any_from_member op_total op_exact (λ o. is_retirement entry o.body) ops p h
    (subst (λ (b : Body). is_retirement entry b ≡ true) (sym is) (subst (λ j. is_same entry j ≡ true) (sym (is_same_exact e entry same)) itself))
  where
    itself : is_same entry entry ≡ true
    itself = subst (λ j. is_same j entry ≡ true) (is_same_exact e entry same) same

supersedes_by : (ops : Ops) (p : Op) (o n old newer : Id) → contains ops p ≡ true → p.body ≡ Supersede o n → is_same o old ≡ true → is_same n newer ≡ true → retires ops old ≡ false → is_replaced_by ops old newer ≡ true
supersedes_by ops p o n old newer h is same by stands = and_from _ _ (ap not stands) (any_from_member op_total op_exact (λ q. is_supersession old (is_same newer) q.body) ops p h
    (subst (λ (b : Body). is_supersession old (is_same newer) b ≡ true) (sym is) (and_from _ _ (back o old same) (back n newer by))))
  where
    back : (a b : Id) → is_same a b ≡ true → is_same b a ≡ true
    back a b e = subst (λ j. is_same b j ≡ true) (sym (is_same_exact a b e)) (subst (λ j. is_same j b ≡ true) (is_same_exact a b e) e)

unretired : (ops : Ops) (old newer : Id) → objection ops (Supersede old newer) ≡ None → (retires ops old ≡ false) × (is_replaced_by ops old newer ≡ false)
unretired ops old newer none = from (not (enters ops old)) (not (enters ops newer)) (is_same old newer) (retires ops old) (retires ops newer) (is_replaced_by ops old newer) _ _ _ _ _ _ none
  where
    from : (a b c d e g : Bool) (f1 f2 f3 f4 f5 f6 : OfficeFault) → cond a (Some f1) (cond b (Some f2) (cond c (Some f3) (cond d (Some f4) (cond e (Some f5) (cond g (Some f6) None))))) ≡ None → (d ≡ false) × (g ≡ false)
    from false false false false false false f1 f2 f3 f4 f5 f6 h = (refl, refl)
    from true b c d e g f1 f2 f3 f4 f5 f6 h = absurd (some_none h)
    from false true c d e g f1 f2 f3 f4 f5 f6 h = absurd (some_none h)
    from false false true d e g f1 f2 f3 f4 f5 f6 h = absurd (some_none h)
    from false false false true e g f1 f2 f3 f4 f5 f6 h = absurd (some_none h)
    from false false false false true g f1 f2 f3 f4 f5 f6 h = absurd (some_none h)
    from false false false false false true f1 f2 f3 f4 f5 f6 h = absurd (some_none h)

unretired_one : (ops : Ops) (entry : Id) → objection ops (Retire entry) ≡ None → retires ops entry ≡ false
unretired_one ops entry none = from (not (enters ops entry)) (retires ops entry) _ _ none
  where
    from : (a b : Bool) (f1 f2 : OfficeFault) → cond a (Some f1) (cond b (Some f2) None) ≡ None → b ≡ false
    from false false f1 f2 h = refl
    from true b f1 f2 h = absurd (some_none h)
    from false true f1 f2 h = absurd (some_none h)

not_redundant : (ops : Ops) (before : Bool) (p : Op) (a b : Body) → contains ops p ≡ true → p.body ≡ a → replaces_body before a b ≡ true → objection ops b ≡ None → ⊥
not_redundant ops before p (Retire e) (Retire entry) h is r none = true≢false (sym (retires_by ops p e entry h is (and_parts _ _ r).0) ∙ unretired_one ops entry none)
not_redundant ops before p (Retire e) (Supersede old newer) h is r none = true≢false (sym (retires_by ops p e old h is r) ∙ (unretired ops old newer none).0)
not_redundant ops before p (Supersede o n) (Supersede old newer) h is r none =
    let q = and_parts _ _ r in
    let stands = unretired ops old newer none in
    true≢false (sym (supersedes_by ops p o n old newer h is q.0 (and_parts _ _ q.1).0 stands.0) ∙ stands.1)
not_redundant ops before p (Enter text) b h is r none = true≢false (sym r)
not_redundant ops before p (Retire e) (Enter text) h is r none = true≢false (sym r)
not_redundant ops before p (Supersede o n) (Enter text) h is r none = true≢false (sym r)
not_redundant ops before p (Supersede o n) (Retire entry) h is r none = true≢false (sym r)

-- no operation of the register makes one of the command's redundant
none_redundant : (x : Content) (os : List Op) (o : Op) → objections x os ≡ None → has os o ≡ true → any (λ p. replaces p o) x.ops ≡ true → ⊥
none_redundant x [] o none h r = true≢false (sym h)
none_redundant x (q ∷ os) o none h r =
    let parts = nothing_against (objection x.ops q.body) (objections (with_op x q) os) none in
    elim (op_cases o q os h) [
      | inl e ↦
          let p = member_from_any op_total op_exact (λ p. replaces p o) x.ops r in
          not_redundant x.ops (is_before p.0.id o.id) p.0 p.0.body o.body p.1 refl p.2 (subst (λ (d : Op). objection x.ops d.body ≡ None) (sym e) parts.0)
      | inr e ↦
          let p = member_from_any op_total op_exact (λ p. replaces p o) x.ops r in
          let there : any (λ p. replaces p o) (union x.ops (kept (one q))) ≡ true = any_from_member op_total op_exact (λ p. replaces p o) (union x.ops (kept (one q))) p.0 (contains_op-union x.ops (kept (one q)) p.0 ∙ or_left (contains x.ops p.0) _ p.1) p.2 in
          let stays : any (λ p. replaces p o) (kept (union x.ops (kept (one q)))) ≡ true = any-kept (λ p. replaces p o) (λ a b c d. replaces_chain a b o c d) (union x.ops (kept (one q))) ∙ there in
          none_redundant (with_op x q) os o parts.1 e stays
    ]

pub made_allowed : (x : Content) (r note : List ℕ) (bs : List Body) (os : List Op) → made x r note bs ≡ Ok os → objections x os ≡ None
made_allowed x r note bs os e =
    let news : List Op = numbered r (greatest r x.seen + 1) note bs in
    let none = not_refused (else_next (note_fault note) (objections x news)) (is_spent (greatest r x.seen) (length bs)) news os e in
    subst (λ l. objections x l ≡ None) (sym (made_are x r note bs os e)) (nothing_against (note_fault note) (objections x news) none).1

-- ---- an effect that is not refused names entries

entry_of : (ops : Ops) (i entry : Id) (f : OfficeFault) (rest : Option OfficeFault) → cond (not (enters ops entry)) (Some f) rest ≡ None → is_same i entry ≡ true → enters ops i ≡ true
entry_of ops i entry f rest none same =
    let there : enters ops entry ≡ true = elim (enters ops entry) as (λ b. (cond (not b) (Some f) rest ≡ None) → b ≡ true) [
      | true ↦ λ h. refl
      | false ↦ λ h. absurd (some_none h)
    ] none in
    subst (λ j. enters ops j ≡ true) (sym (is_same_exact i entry same)) there

entered_newer : (ops : Ops) (i old newer : Id) → objection ops (Supersede old newer) ≡ None → is_same i newer ≡ true → enters ops i ≡ true
entered_newer ops i old newer none same = subst (λ j. enters ops j ≡ true) (sym (is_same_exact i newer same)) (from (enters ops old) (enters ops newer) _ _ _ none)
  where
    from : (a b : Bool) (f1 f2 : OfficeFault) (rest : Option OfficeFault) → cond (not a) (Some f1) (cond (not b) (Some f2) rest) ≡ None → b ≡ true
    from a true f1 f2 rest h = refl
    from true false f1 f2 rest h = absurd (some_none h)
    from false false f1 f2 rest h = absurd (some_none h)

named_entered : (ops : Ops) (b : Body) (i : Id) → objection ops b ≡ None → list_any (is_same i) (named_in b) ≡ true → enters ops i ≡ true
named_entered ops (Enter text) i none named = absurd (true≢false (sym named))
named_entered ops (Retire entry) i none named = elim (or_cases (is_same i entry) false named) [
  | inl a ↦ entry_of ops i entry _ _ none a
  | inr b ↦ absurd (true≢false (sym b))
]
named_entered ops (Supersede old newer) i none named = elim (or_cases (is_same i old) _ named) [
  | inl a ↦ entry_of ops i old _ _ none a
  | inr b ↦ elim (or_cases (is_same i newer) false b) [
    | inl c ↦ entered_newer ops i old newer none c
    | inr d ↦ absurd (true≢false (sym d))
  ]
]

-- an id that one of a command's operations names is that of an operation of the register, or of the command
pub named_there : (x : Content) (os : List Op) (o : Op) (i : Id) → objections x os ≡ None → has os o ≡ true → list_any (is_same i) (named_in o.body) ≡ true
    → (p : Op) × ((contains x.ops p ≡ true) ⊎ (has os p ≡ true)) × (p.id ≡ i)
named_there x [] o i none h named = absurd (true≢false (sym h))
named_there x (q ∷ os) o i none h named =
    let parts = nothing_against (objection x.ops q.body) (objections (with_op x q) os) none in
    elim (op_cases o q os h) [
      | inl e ↦
          let p = member_from_any op_total op_exact (λ p. is_same i p.id && is_enter p.body) x.ops (named_entered x.ops o.body i (subst (λ (d : Op). objection x.ops d.body ≡ None) (sym e) parts.0) named) in
          (p.0, inl p.1, sym (is_same_exact i p.0.id (and_parts _ _ p.2).0))
      | inr e ↦ later (named_there (with_op x q) os o i parts.1 e named)
    ]
  where
    later : (p : Op) × ((contains (with_op x q).ops p ≡ true) ⊎ (has os p ≡ true)) × (p.id ≡ i) → (p : Op) × ((contains x.ops p ≡ true) ⊎ (has (q ∷ os) p ≡ true)) × (p.id ≡ i)
    later (p, inr b, same) = (p, inr (or_right (eq_by_cmp op_cmp p q) _ b), same)
    later (p, inl a, same) =
        let there = kept_is_within (union x.ops (kept (one q))) p a in
        elim (or_cases (contains x.ops p) (contains (kept (one q)) p) (sym (contains_op-union x.ops (kept (one q)) p) ∙ there)) [
          | inl b ↦ (p, inl b, same)
          | inr b ↦ (p, inr (or_left (eq_by_cmp op_cmp p q) _ (subst (λ (d : Op). eq_by_cmp op_cmp p d ≡ true) (one_is q p (kept_is_within (one q) p b)) (ap is_eq (tied_itself op_total p)))), same)
        ]

-- ---- the join with the office file, and what a command leaves

module _ (f : Journal) (x y : Content) (office : IsOffice f) (content : IsContent x) (honest : IsHonest f x) (j : joined x f.made ≡ Ok y) where
  y_is : y ≡ merged x f.made
  y_is = same_ok (sym j ∙ honest_joins f x office content honest)

  pub y_content : IsContent y
  y_content = subst IsContent (sym y_is) (merged_is_content x f.made content office.content (honest_agrees f x office content honest))

  y_seen : y.seen ≡ union x.seen f.made.seen
  y_seen = ap (λ (c : Content). c.seen) y_is

  -- the register has seen no number of the office above the last one
  bounded : (i : Id) → contains x.seen i ≡ true → is_own f.replica i ≡ true → i.count ≤ f.last
  bounded i h own = elim (cases_lt f.last i.count) [
    | inl b ↦ absurd (true≢false (sym (and_from (is_own f.replica i) _ own (or_left (nat_lt f.last i.count && contains x.seen i) _ (and_from _ _ (lt-ltb f.last i.count b) h))) ∙ honest i))
    | inr a ↦ a
  ]

  -- so its join with the office file has seen the last one, and none above it
  pub next_number : greatest f.replica y.seen ≡ f.last
  next_number = sym (greatest_is f.replica y.seen f.last (record {
    there = λ h. subst (λ s. contains s (id_at f.replica f.last) ≡ true) (sym y_seen) (contains-union id_total x.seen f.made.seen (id_at f.replica f.last)
        ∙ or_right (contains x.seen (id_at f.replica f.last)) _ (subst (λ s. contains s (id_at f.replica f.last) ≡ true) (sym office.seen) (in_numbers f.replica f.last (id_at f.replica f.last) (record { own = refl; low = h; high = omega arith }))));
    bound = λ count h. elim (or_cases (contains x.seen (id_at f.replica count)) (contains f.made.seen (id_at f.replica count)) (sym (contains-union id_total x.seen f.made.seen (id_at f.replica count)) ∙ subst (λ s. contains s (id_at f.replica count) ≡ true) y_seen h)) [
      | inl a ↦ bounded (id_at f.replica count) a (own_of f.replica (id_at f.replica count) refl)
      | inr b ↦ (numbers_in f.replica f.last (id_at f.replica count) (subst (λ s. contains s (id_at f.replica count) ≡ true) office.seen b)).high
    ];
  }))

  module _ (note : List ℕ) (bs : List Body) (os : List Op) (z : Content) (e : made y f.replica note bs ≡ Ok os) (k : joined y (state (set.from_list {R = op_cmp} os)) ≡ Ok z) where
    abbrev all : Ops
    all = set.from_list {R = op_cmp} os

    abbrev news : List Op
    news = numbered f.replica (f.last + 1) note bs

    os_are : os ≡ news
    os_are = made_are y f.replica note bs os e ∙ ap (λ n. numbered f.replica (n + 1) note bs) next_number

    z_is : z ≡ merged y (state all)
    z_is = same_ok (sym k ∙ they_join y f.replica note bs os y_content e)

    new_one : (o : Op) → has os o ≡ true → is_new f o.id ≡ true
    new_one o h =
        let on = numbered_on f.replica (f.last + 1) note bs o (subst (λ l. has l o ≡ true) os_are h) in
        let low = on.1 in
        and_from _ _ (own_of f.replica o.id on.0) (lt-ltb f.last o.id.count (omega (arith, low)))

    in_all : (o : Op) → contains all o ≡ true → has os o ≡ true
    in_all o h = sym (contains-from_list op_total os o) ∙ h

    old_none : (o : Op) → contains y.ops o ≡ true → is_new f o.id ≡ true → ⊥
    old_none o h new =
        let p = and_parts _ _ new in
        let over = ltb-true f.last o.id.count p.1 in
        let top = count-greatest f.replica y.seen o.id (y_content.are_seen o h) (of_own f.replica o.id p.0) in
        let is = next_number in
        omega (arith, over, top, is)

    z_ops : (o : Op) → contains z.ops o ≡ contains (kept (union y.ops (kept all))) o
    z_ops o = ap (λ (c : Content). contains c.ops o) z_is

    -- each operation that the others of the command leave is kept
    stays : (o : Op) → contains (kept all) o ≡ true → contains z.ops o ≡ true
    stays o h = z_ops o ∙ kept_has (union y.ops (kept all)) o (contains_op-union y.ops (kept all) o ∙ or_right (contains y.ops o) _ h) (λ p there r.
        elim (or_cases (contains y.ops p) (contains (kept all) p) (sym (contains_op-union y.ops (kept all) p) ∙ there)) [
          | inl a ↦ none_redundant y os o (made_allowed y f.replica note bs os e) (in_all o (kept_is_within all o h)) (any_from_member op_total op_exact (λ q. replaces q o) y.ops p a r)
          | inr b ↦ kept_free all o p h (kept_is_within all p b) r
        ])

    new_ops_are : (new_in f z).ops ≡ (state all).ops
    new_ops_are = same_set op_total op_exact _ _ (λ o. both_ways _ _
        (λ h.
        let p = and_parts _ _ (sym (contains-new f z o) ∙ h) in
        let there = kept_is_within (union y.ops (kept all)) o (sym (z_ops o) ∙ p.0) in
        elim (or_cases (contains y.ops o) (contains (kept all) o) (sym (contains_op-union y.ops (kept all) o) ∙ there)) [
          | inl a ↦ absurd (old_none o a p.1)
          | inr b ↦ b
        ])
        (λ h. contains-new f z o ∙ and_from _ _ (stays o h) (new_one o (in_all o (kept_is_within all o h)))))

    ids_are_new : ids all ≡ set.from_list (ids_from f.replica (f.last + 1) (length bs))
    ids_are_new =
        ap (λ (l : List Op). set.from_list {R = id_cmp} (map (λ (o : Op). o.id) l)) (items_are os (subst ById (sym os_are) (numbered_by_id f.replica (f.last + 1) note bs)))
        ∙ ap (λ (l : List Op). set.from_list {R = id_cmp} (map (λ (o : Op). o.id) l)) os_are
        ∙ ap (λ (l : List Id). set.from_list {R = id_cmp} l) (numbered_ids f.replica (f.last + 1) note bs)

    count_is : length bs ≡ f.last + length bs - f.last
    count_is = omega arith

    ids_numbered : ids all ≡ new_numbers f (f.last + length bs)
    ids_numbered = ids_are_new ∙ ap (λ n. set.from_list {R = id_cmp} (ids_from f.replica (f.last + 1) n)) count_is

    in_ids : (i : Id) → contains (ids all) i ≡ true → IsNumber f.replica (f.last + 1) (f.last + length bs) i
    in_ids i h = numbered_above f (f.last + length bs) i (subst (λ s. contains s i ≡ true) ids_numbered h)

    ids_in : (i : Id) → IsNumber f.replica (f.last + 1) (f.last + length bs) i → contains (ids all) i ≡ true
    ids_in i is = subst (λ s. contains s i ≡ true) (sym ids_numbered) (above_numbered f (f.last + length bs) i is)

    z_seen : z.seen ≡ union y.seen (ids all)
    z_seen = ap (λ (c : Content). c.seen) z_is

    pub last_number : greatest f.replica z.seen ≡ f.last + length bs
    last_number = sym (greatest_is f.replica z.seen (f.last + length bs) (record {
      there = λ h. subst (λ s. contains s (id_at f.replica (f.last + length bs)) ≡ true) (sym z_seen) (contains-union id_total y.seen (ids all) (id_at f.replica (f.last + length bs)) ∙ top h);
      bound = λ count h. elim (or_cases (contains y.seen (id_at f.replica count)) (contains (ids all) (id_at f.replica count)) (sym (contains-union id_total y.seen (ids all) (id_at f.replica count)) ∙ subst (λ s. contains s (id_at f.replica count) ≡ true) z_seen h)) [
        | inl a ↦ let top = count-greatest f.replica y.seen (id_at f.replica count) a refl in let is = next_number in omega (arith, top, is)
        | inr b ↦ (in_ids (id_at f.replica count) b).high
      ];
    }))
      where
        top : 0 < f.last + length bs → (contains y.seen (id_at f.replica (f.last + length bs)) || contains (ids all) (id_at f.replica (f.last + length bs))) ≡ true
        top h = elim (eq-zero-or-pos (length bs)) [
          | inl a ↦
              let last : f.last + length bs ≡ f.last = omega (arith, a) in
              or_left _ _ (subst (λ n. contains y.seen (id_at f.replica n) ≡ true) (sym last) (seen_last (omega (arith, h, a))))
          | inr b ↦ or_right (contains y.seen (id_at f.replica (f.last + length bs))) _ (ids_in (id_at f.replica (f.last + length bs)) (record { own = refl; low = omega (arith, b); high = omega arith }))
        ]
          where
            seen_last : 0 < f.last → contains y.seen (id_at f.replica f.last) ≡ true
            seen_last h = subst (λ s. contains s (id_at f.replica f.last) ≡ true) (sym y_seen) (contains-union id_total x.seen f.made.seen (id_at f.replica f.last)
                ∙ or_right (contains x.seen (id_at f.replica f.last)) _ (subst (λ s. contains s (id_at f.replica f.last) ≡ true) (sym office.seen) (in_numbers f.replica f.last (id_at f.replica f.last) (record { own = refl; low = h; high = omega arith }))))

    new_seen_are : (new_in f z).seen ≡ (state all).seen
    new_seen_are = ap (new_numbers f) last_number ∙ sym ids_numbered

    -- what is new in the register is what the command made
    pub new_is_made : new_in f z ≡ state all
    new_is_made = same_content _ _ new_ops_are new_seen_are

    pub added_is_made : (added f z).made ≡ merged f.made (state all)
    added_is_made = ap (merged f.made) new_is_made

    pub added_last : (added f z).last ≡ f.last + length bs
    added_last = (λ i. max f.last (last_number i)) ∙ greater
      where
        greater : max f.last (f.last + length bs) ≡ f.last + length bs
        greater = omega arith
