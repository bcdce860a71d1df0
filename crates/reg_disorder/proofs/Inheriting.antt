-- Heirs are unique and not retired, and links pass on to those of their ends.
use Rattle.std.specs.Prelude.{◌↔◌, Contains, Some, None, Option, IfNone}
use Rattle.std.proofs.Common.{◌≡◌, ◌≢◌, ◌⊎◌, true, false, not, List, [], ◌∷◌, ◌++◌, length, sym, ap, ◌∙◌, subst, inl, inr, arith, append-nil}
use Rattle.std.proofs.lemmas.Bool.{true≢false, and_from}
use Rattle.std.proofs.lemmas.List.Elements.{Contains-append_cases, Contains-append_left, Contains-append_right}
use Rattle.reg_op.specs.Ids.{Id}
use Rattle.reg_op.specs.Operations.{Ops}
use Rattle.reg_op.specs.Rows.{Row, rows}
use Rattle.reg_op.specs.Status.{enters, retires}
use Rattle.reg_op.specs.declared.status.Status.TheVariants.{Retired}
use Rattle.reg_report.specs.Conflicts.{KeyBytes, HasKey}
use Rattle.reg_report.proofs.ConflictLemmas.{none_in, in_cons, in_head, in_tail}
use Rattle.reg_report.proofs.ContenderLemmas.{one_key}
use Rattle.reg_report.specs.Rows.{HasRow}
use Rattle.reg_report.proofs.FoundLemmas.{OneRow}
use Rattle.reg_report.proofs.RowLemmas.{row_status, row_enters}
use Rattle.reg_disorder.specs.declared.linking.link.Link.{Link}
use Rattle.reg_disorder.specs.Links.{stands}
use Rattle.reg_disorder.specs.LinkHeirs.{IsFirst, HasText, IsOfKey, IsNextTo, Follows, IsHeir}
use Rattle.reg_disorder.specs.Passing.{is_cut, is_new, Inherits, PassesTo}
use Rattle.reg_disorder.proofs.Firsts.{one_first}
use Rattle.reg_disorder.proofs.Rows.{none_retires}

-- ---- heirs are unique

module _ (rs : List Row) where
  pub one_next : (r : Row) (a b : Id) → IsNextTo rs r a → IsNextTo rs r b → a ≡ b
  one_next r a b (inl h) (inl k) = let e : ◌≡◌ {A = Option Id} (Some a) (Some b) = one_first (HasText r.definition) rs (Some a) (Some b) h k in cc
  one_next r a b (inl h) (inr k) = let e : ◌≡◌ {A = Option Id} (Some a) None = one_first (HasText r.definition) rs (Some a) None h k.0 in absurd cc
  one_next r a b (inr h) (inl k) = let e : ◌≡◌ {A = Option Id} (Some b) None = one_first (HasText r.definition) rs (Some b) None k h.0 in absurd cc
  one_next r a b (inr h) (inr k) =
      let same : h.1.0 ≡ k.1.0 = one_key r.definition h.1.0 k.1.0 h.1.1 k.1.1 in
      let e : ◌≡◌ {A = Option Id} (Some a) (Some b) = one_first (IsOfKey k.1.0) rs (Some a) (Some b) (subst (λ q. IsFirst (IsOfKey q) rs (Some a)) same h.1.2) k.1.2 in
      cc

  pub one_follows : OneRow rs → (e a b : Id) → Follows rs e a → Follows rs e b → a ≡ b
  one_follows one e a b h k =
      let same : h.row ≡ k.row = one h.row k.row h.there k.there (h.is ∙ sym k.is) in
      one_next k.row a b (subst (λ (r : Row). IsNextTo rs r a) same h.next) k.next

pub one_heir : (s : Ops) → OneRow (rows s) → (e a b : Id) → IsHeir s e a → IsHeir s e b → a ≡ b
one_heir s one e a b (inl h) (inl k) = h.1 ∙ sym k.1
one_heir s one e a b (inl h) (inr k) = absurd (true≢false (sym h.0 ∙ k.0))
one_heir s one e a b (inr h) (inl k) = absurd (true≢false (sym k.0 ∙ h.0))
one_heir s one e a b (inr h) (inr k) = one_follows (rows s) one e a b h.1 k.1

pub one_heir_link : (s : Ops) → OneRow (rows s) → (l a b : Link) → Inherits s l a → Inherits s l b → a ≡ b
one_heir_link s one l a b h k =
    let old : a.old ≡ b.old = one_heir s one l.old a.old b.old h.old k.old in
    let newer : a.newer ≡ b.newer = one_heir s one l.newer a.newer b.newer h.newer k.newer in
    λ j. record { old = old j; newer = newer j }

-- ---- there is no heir

pub none_next : (rs : List Row) (r : Row) (o : Option Id) → IsFirst (HasText r.definition) rs None → ((k : KeyBytes) × HasKey r.definition k × IsFirst (IsOfKey k) rs o) → IfNone o ((heir : Id) → ¬ (IsNextTo rs r heir))
none_next rs r (Some i) t k = tt
none_next rs r None t k = λ heir next. elim next [
  | inl h ↦ let e : ◌≡◌ {A = Option Id} (Some heir) None = one_first (HasText r.definition) rs (Some heir) None h t in absurd cc
  | inr h ↦
      let same : h.1.0 ≡ k.0 = one_key r.definition h.1.0 k.0 h.1.1 k.1 in
      let e : ◌≡◌ {A = Option Id} (Some heir) None = one_first (IsOfKey k.0) rs (Some heir) None (subst (λ q. IsFirst (IsOfKey q) rs (Some heir)) same h.1.2) k.2 in
      absurd cc
]

pub no_follow : (s : Ops) (e : Id) (rs : List Row) → rs ≡ rows s → stands s e ≡ false → ((r : Row) → ¬ (HasRow rs e r)) → (heir : Id) → ¬ (IsHeir s e heir)
no_follow s e rs same off none heir (inl h) = true≢false (sym h.0 ∙ off)
no_follow s e rs same off none heir (inr h) = none (h.1).row (record { there = subst (λ l. Contains l (h.1).row) (sym same) (h.1).there; is = (h.1).is })

pub none_follow : (s : Ops) (e : Id) (rs : List Row) (r : Row) (o : Option Id) → rs ≡ rows s → OneRow rs → stands s e ≡ false → HasRow rs e r → IfNone o ((heir : Id) → ¬ (IsNextTo rs r heir)) → IfNone o ((heir : Id) → ¬ (IsHeir s e heir))
none_follow s e rs r (Some i) same one off has none = tt
none_follow s e rs r None same one off has none = λ heir h. elim h [
  | inl own ↦ true≢false (sym own.0 ∙ off)
  | inr other ↦
      let f = other.1 in
      let its : f.row ≡ r = one f.row r (subst (λ l. Contains l f.row) (sym same) f.there) has.there (f.is ∙ sym has.is) in
      none heir (subst (λ (q : Row). IsNextTo rs q heir) its (subst (λ l. IsNextTo l f.row heir) (sym same) f.next))
]

-- ---- heirs are not retired

first_is : (P : Row → Type 0) (rs : List Row) (i : Id) → IsFirst P rs (Some i) → (r : Row) × Contains rs r × P r × (r.entry ≡ i)
first_is P [] i h = let no : ◌≡◌ {A = Option Id} (Some i) None = h in absurd cc
first_is P (r ∷ rs) i (inl h) = let e : ◌≡◌ {A = Option Id} (Some i) (Some r.entry) = h.1 in (r, in_head r rs, h.0, cc)
first_is P (r ∷ rs) i (inr h) = let q = first_is P rs i h.1 in (q.0, in_tail q.0 r rs q.1, q.2, q.3)

row_stands : (s : Ops) (r : Row) → Contains (rows s) r → r.status ≢ Some Retired → stands s r.entry ≡ true
row_stands s r h is =
    let there = row_enters s r h in
    and_from (enters s r.entry) (not (retires s r.entry)) there (ap not (none_retires s r.entry there (λ gone. is (row_status s r h ∙ gone))))

next_stands : (s : Ops) (r : Row) (i : Id) → IsNextTo (rows s) r i → stands s i ≡ true
next_stands s r i (inl h) = let q = first_is (HasText r.definition) (rows s) i h in subst (λ k. stands s k ≡ true) q.3 (row_stands s q.0 q.1 (q.2).stands)
next_stands s r i (inr h) = let q = first_is (IsOfKey h.1.0) (rows s) i h.1.2 in subst (λ k. stands s k ≡ true) q.3 (row_stands s q.0 q.1 (q.2).stands)

pub heir_stands : (s : Ops) (e i : Id) → IsHeir s e i → stands s i ≡ true
heir_stands s e i (inl h) = subst (λ k. stands s k ≡ true) (sym h.1) h.0
heir_stands s e i (inr h) = next_stands s (h.1).row i (h.1).next

pub its_own : (s : Ops) (e i : Id) → IsHeir s e i → stands s e ≡ true → i ≡ e
its_own s e i (inl h) k = h.1
its_own s e i (inr h) k = absurd (true≢false (sym k ∙ h.0))

-- ---- one link more

in_one : (l m : Link) → Contains (l ∷ []) m → m ≡ l
in_one l m h = elim (in_cons m l [] h) [ inl e ↦ e | inr d ↦ absurd (none_in m d) ]

pub passes_more : (done : List Link) (x : Link) (s : Ops) (l : Link) → PassesTo (done ++ x ∷ []) s l → PassesTo done s l ⊎ PassesTo (x ∷ []) s l
passes_more done x s l p = elim (Contains-append_cases done (x ∷ []) p.link p.there) [
  | inl a ↦ inl (record { link = p.link; there = a; cut = p.cut; inherits = p.inherits; new = p.new })
  | inr b ↦ inr (record { link = p.link; there = b; cut = p.cut; inherits = p.inherits; new = p.new })
]

pub passes_old : (done : List Link) (x : Link) (s : Ops) (l : Link) → PassesTo done s l ⊎ PassesTo (x ∷ []) s l → PassesTo (done ++ x ∷ []) s l
passes_old done x s l (inl p) = record { link = p.link; there = Contains-append_left done (x ∷ []) p.link p.there; cut = p.cut; inherits = p.inherits; new = p.new }
passes_old done x s l (inr p) = record { link = p.link; there = Contains-append_right done (x ∷ []) p.link p.there; cut = p.cut; inherits = p.inherits; new = p.new }

pub no_links : (s : Ops) (l : Link) → PassesTo [] s l → ⊥
no_links s l p = none_in p.link p.there

module _ (s : Ops) (x : Link) where
  pub no_heir : ((h : Link) → Inherits s x h → ⊥) → (l : Link) → PassesTo (x ∷ []) s l → ⊥
  no_heir none l p = none l (subst (λ m. Inherits s m l) (in_one x p.link p.there) p.inherits)

  module _ (one : OneRow (rows s)) (h : Link) (is : Inherits s x h) where
    pub passes_to_it : (l : Link) → PassesTo (x ∷ []) s l → l ≡ h
    passes_to_it l p = one_heir_link s one x l h (subst (λ m. Inherits s m l) (in_one x p.link p.there) p.inherits) is

    pub not_new : is_new s h ≡ false → (l : Link) → PassesTo (x ∷ []) s l → ⊥
    not_new e l p = true≢false (sym (subst (λ m. is_new s m ≡ true) (passes_to_it l p) p.new) ∙ e)

    pub pushed : is_cut s x ≡ true → is_new s h ≡ true → (old : List Link) (l : Link) → Contains (old ++ h ∷ []) l ↔ (Contains old l ⊎ PassesTo (x ∷ []) s l)
    pushed cut new old l = (
      λ c. elim (Contains-append_cases old (h ∷ []) l c) [
        | inl a ↦ inl a
        | inr b ↦ inr (record { link = x; there = in_head x []; cut = cut; inherits = subst (λ m. Inherits s x m) (sym (in_one h l b)) is; new = subst (λ m. is_new s m ≡ true) (sym (in_one h l b)) new })
      ],
      λ c. elim c [
        | inl a ↦ Contains-append_left old (h ∷ []) l a
        | inr p ↦ Contains-append_right old (h ∷ []) l (subst (λ m. Contains (h ∷ []) m) (sym (passes_to_it l p)) (in_head h []))
      ],
    )

pub nothing_pushed : (s : Ops) (x : Link) (old : List Link) → ((l : Link) → PassesTo (x ∷ []) s l → ⊥) → (l : Link) → Contains old l ↔ (Contains old l ⊎ PassesTo (x ∷ []) s l)
nothing_pushed s x old none l = (λ c. inl c, λ c. elim c [ inl a ↦ a | inr p ↦ absurd (none l p) ])

-- ---- all links

pub passes_none : (s : Ops) (made : List Link) → made ≡ [] → (l : Link) → Contains made l ↔ PassesTo [] s l
passes_none s made e l = (λ c. absurd (none_in l (subst (λ ls. Contains ls l) e c)), λ p. absurd (no_links s l p))

pub passes_step : (done : List Link) (x : Link) (s : Ops) (old new : List Link) → ((l : Link) → Contains old l ↔ PassesTo done s l) → ((l : Link) → Contains new l ↔ (Contains old l ⊎ PassesTo (x ∷ []) s l))
    → (l : Link) → Contains new l ↔ PassesTo (done ++ x ∷ []) s l
passes_step done x s old new was now l = (
  λ c. elim ((now l).0 c) [ inl a ↦ passes_old done x s l (inl ((was l).0 a)) | inr b ↦ passes_old done x s l (inr b) ],
  λ p. (now l).1 (elim (passes_more done x s l p) [ inl a ↦ inl ((was l).1 a) | inr b ↦ inr b ]),
)

pub passes_all : (before rest done : List Link) (s : Ops) (made : List Link) → length rest ≡ 0 → before ≡ done ++ rest → ((l : Link) → Contains made l ↔ PassesTo done s l) → (l : Link) → Contains made l ↔ PassesTo before s l
passes_all before [] done s made e whole was l = subst (λ ls. Contains made l ↔ PassesTo ls s l) (sym (whole ∙ append-nil done)) (was l)
passes_all before (x ∷ rest) done s made e whole was l = absurd (omega (arith, e))
