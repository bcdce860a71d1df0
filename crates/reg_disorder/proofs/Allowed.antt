-- An office may make distinct links that are new, between entries that are not retired.
use Rattle.std.specs.Prelude.{◌↔◌, option_map, Contains, nat_eq}
use Rattle.std.specs.Cmp.Lexicographic.{pointwise}
use Rattle.std.proofs.Common.{◌≡◌, ℕ, ◌+◌, Bool, true, false, not, ◌&&◌, ◌||◌, List, [], ◌∷◌, None, refl, sym, ap, ◌∙◌, subst, inl, inr}
use Rattle.std.proofs.lemmas.Bool.{true≢false, and_parts, and_from, false_from_ne_true, not-true}
use Rattle.std.proofs.Math.Bool.{and-false}
use Rattle.std.specs.Cmp.{tied_itself, IsTotalOrder, then_total, on_total}
use Rattle.std.specs.Ordering.{is_eq, is_lt, ordering_then, eq_by_cmp}
use Rattle.reg_op.specs.Set as set
use Rattle.reg_op.specs.Set.{contains, contains-from_list, contains-items, IsAntisymmetric}
use Rattle.reg_op.specs.Ids.{Id, id_cmp, is_same, is_before}
use Rattle.reg_op.specs.Finite.{any}
use Rattle.reg_op.specs.Lists.{has}
use Rattle.reg_op.specs.Operations.{Op, Ops, op_cmp, one, replaces, replaces_body}
use Rattle.reg_op.specs.Contents.{Content}
use Rattle.reg_op.specs.Kept.{first_dropped}
use Rattle.reg_op.specs.Status.{enters, retires, is_replaced_by, is_enter, is_retirement, is_supersession}
use Rattle.reg_op.proofs.OpLemmas.{id_total, id_exact, op_total, op_exact, is_same_exact, replaces_irreflexive, both_equal}
use Rattle.reg_op.proofs.SetLemmas.{AllAbove, Climbs, items_climb}
use Rattle.reg_op.proofs.FiniteLemmas.{any-union, member_from_any}
use Rattle.reg_op.proofs.ContentLemmas.{kept-union_right}
use Rattle.reg_op.proofs.OneLemmas.{any-from_list}
use Rattle.reg_op.proofs.ClashLemmas.{find_none}
use Rattle.reg_op.proofs.StatusLemmas.{enters-kept, retires-kept, replaced_by-kept}
use Rattle.reg_state.specs.Runs.{id_at}
use Rattle.reg_report.proofs.SortLemmas.{ids_exact}
use Rattle.reg_report.proofs.ConflictLemmas.{none_in, in_cons, in_head, in_tail, any_of_member}
use Rattle.reg_office.specs.Making.{greatest, numbered, objection, objections, with_op, AreAllowed, else_next}
use Rattle.reg_office.proofs.EffectLemmas.{chain}
use Rattle.reg_office.proofs.NumberLemmas.{op_cases}
use Rattle.reg_disorder.specs.declared.linking.link.Link.{Link}
use Rattle.reg_disorder.specs.Links.{stands, supersedes_by, link_cmp}
use Rattle.reg_disorder.specs.Passing.{is_new, AreHeirLinks, body_of, bodies_of}
use Rattle.reg_disorder.proofs.Inheriting.{heir_stands}

-- ---- the order of links

pub link_total : IsTotalOrder link_cmp
link_total = then_total (on_total (λ (l : Link). l.old) id_total) (on_total (λ (l : Link). l.newer) id_total)

pub link_exact : IsAntisymmetric link_cmp
link_exact a b e =
    let p = both_equal (id_cmp a.old b.old) _ e in
    let old : a.old ≡ b.old = id_exact _ _ p.0 in
    let newer : a.newer ≡ b.newer = id_exact _ _ p.1 in
    λ j. record { old = old j; newer = newer j }

abbrev same_ids : Id → Id → Bool
same_ids i j = pointwise nat_eq i.replica j.replica && nat_eq i.count j.count

-- comparing the ids of two links decides whether they are equal
pub links_exact : (x y : Link) → ((same_ids x.old y.old && same_ids x.newer y.newer) ≡ true) ↔ (x ≡ y)
links_exact x y = (
  λ h.
      let p = and_parts (same_ids x.old y.old) (same_ids x.newer y.newer) h in
      let old = (ids_exact x.old y.old).0 p.0 in
      let newer = (ids_exact x.newer y.newer).0 p.1 in
      λ j. record { old = old j; newer = newer j },
  λ e. and_from (same_ids x.old y.old) (same_ids x.newer y.newer) ((ids_exact x.old y.old).1 (ap (λ (l : Link). l.old) e)) ((ids_exact x.newer y.newer).1 (ap (λ (l : Link). l.newer) e)),
)

-- ---- one link more

any-with : (t : Op → Bool) (s : Ops) (o : Op) → any t (set.union s (one o)) ≡ (any t s || (t o || false))
any-with t s o = any-union op_total op_exact t s (one o) ∙ ap (λ b. any t s || b) (any-from_list t (o ∷ []))

none_more : (a : Bool) → (a || (false || false)) ≡ a
none_more true = refl
none_more false = refl

module _ (y : Content) (o : Op) (l : Link) (is : o.body ≡ body_of l) where
  abbrev two : Ops
  two = set.union y.ops (one o)

  still_entered : (e : Id) → enters (with_op y o).ops e ≡ enters y.ops e
  still_entered e =
      ap (λ s. enters s e) (kept-union_right y.ops (one o)) ∙ enters-kept two e ∙ any-with (λ p. is_same e p.id && is_enter p.body) y.ops o
      ∙ ap (λ b. enters y.ops e || ((is_same e o.id && is_enter b) || false)) is ∙ ap (λ b. enters y.ops e || (b || false)) (and-false (is_same e o.id)) ∙ none_more (enters y.ops e)

  off_two : (e : Id) → retires two e ≡ retires y.ops e
  off_two e = any-with (λ p. is_retirement e p.body) y.ops o ∙ ap (λ b. retires y.ops e || (is_retirement e b || false)) is ∙ none_more (retires y.ops e)

  still_retired : (e : Id) → retires (with_op y o).ops e ≡ retires y.ops e
  still_retired e = ap (λ s. retires s e) (kept-union_right y.ops (one o)) ∙ retires-kept two e ∙ off_two e

  -- another link is as before
  still_replaced : (e n : Id) → is_supersession e (is_same n) (body_of l) ≡ false → is_replaced_by (with_op y o).ops e n ≡ is_replaced_by y.ops e n
  still_replaced e n other =
      ap (λ s. is_replaced_by s e n) (kept-union_right y.ops (one o)) ∙ replaced_by-kept two e n
      ∙ (λ k. not (off_two e k) && (any-with (λ p. is_supersession e (is_same n) p.body) y.ops o ∙ ap (λ b. supersedes_by y.ops e n || (is_supersession e (is_same n) b || false)) is
      ∙ ap (λ b. supersedes_by y.ops e n || (b || false)) other ∙ none_more (supersedes_by y.ops e n)) k)

  pub still_allowed : (m : Link) → (m ≡ l → ⊥) → objection (with_op y o).ops (body_of m) ≡ objection y.ops (body_of m)
  still_allowed m other =
      let apart : is_supersession m.old (is_same m.newer) (body_of l) ≡ false = false_from_ne_true _ (λ t.
      let p = and_parts (is_same m.old l.old) (is_same m.newer l.newer) t in
      let old = is_same_exact m.old l.old p.0 in
      let newer = is_same_exact m.newer l.newer p.1 in
      other (λ j. record { old = old j; newer = newer j })) in
      λ k. chain m.old m.newer (still_entered m.old k) (still_entered m.newer k) (is_same m.old m.newer) (still_retired m.old k) (still_retired m.newer k) (still_replaced m.old m.newer apart k)

-- ---- distinct links

abbrev pub Distinct : List Link → Type 0
Distinct [] = Unit {0}
Distinct (l ∷ ls) = (¬ (Contains ls l)) × Distinct ls

never_above : (k : Link) (ls : List Link) → AllAbove link_cmp k ls → ¬ (Contains ls k)
never_above k [] h c = none_in k c
never_above k (l ∷ ls) h c = elim (in_cons k l ls c) [
  | inl e ↦ true≢false (sym (subst (λ m. is_lt (link_cmp k m) ≡ true) (sym e) h.0) ∙ ap is_lt (tied_itself link_total k))
  | inr d ↦ never_above k ls h.1 d
]

climbing_distinct : (ls : List Link) → Climbs link_cmp ls → Distinct ls
climbing_distinct [] h = tt
climbing_distinct (l ∷ ls) h = (never_above l ls h.0, climbing_distinct ls h.1)

module _ (r : List ℕ) (note : List ℕ) where
  abbrev first : ℕ → Link → Op
  first n l = record { id = id_at r n; body = body_of l; note = note }

  none_refused : (n : ℕ) (ls : List Link) (y : Content) → Distinct ls → ((l : Link) → Contains ls l → objection y.ops (body_of l) ≡ None) → objections y (numbered r n note (bodies_of ls)) ≡ None
  none_refused n [] y d each = refl
  none_refused n (l ∷ ls) y d each =
      (λ k. else_next (each l (in_head l ls) k) (objections (with_op y (first n l)) (numbered r (n + 1) note (bodies_of ls))))
      ∙ none_refused (n + 1) ls (with_op y (first n l)) d.1 (λ m c. still_allowed y (first n l) l refl m (λ e. d.0 (subst (λ q. Contains ls q) e c)) ∙ each m (in_tail m l ls c))

  one_of : (n : ℕ) (ls : List Link) (o : Op) → has (numbered r n note (bodies_of ls)) o ≡ true → (l : Link) × Contains ls l × (o.body ≡ body_of l)
  one_of n [] o h = absurd (true≢false (sym h))
  one_of n (l ∷ ls) o h = elim (op_cases o (first n l) (numbered r (n + 1) note (bodies_of ls)) h) [
    | inl e ↦ (l, in_head l ls, ap (λ (p : Op). p.body) e)
    | inr e ↦ let m = one_of (n + 1) ls o e in (m.0, in_tail m.0 l ls m.1, m.2)
  ]

  same_link : (before : Bool) (l m : Link) → replaces_body before (body_of l) (body_of m) ≡ true → l ≡ m
  same_link before l m h =
      let p = and_parts (is_same l.old m.old) (is_same l.newer m.newer && before) h in
      let old = is_same_exact l.old m.old p.0 in
      let newer = is_same_exact l.newer m.newer (and_parts (is_same l.newer m.newer) before p.1).0 in
      λ j. record { old = old j; newer = newer j }

  same_of : (p o : Op) (l m : Link) → p.body ≡ body_of l → o.body ≡ body_of m → replaces p o ≡ true → l ≡ m
  same_of p o l m a b over =
      same_link (is_before p.id o.id) l m (subst (λ x. replaces_body (is_before p.id o.id) (body_of l) x ≡ true) b (subst (λ x. replaces_body (is_before p.id o.id) x o.body ≡ true) a over))

  unreplaced : (n : ℕ) (ls : List Link) → Distinct ls → (p o : Op) → has (numbered r n note (bodies_of ls)) p ≡ true → has (numbered r n note (bodies_of ls)) o ≡ true → replaces p o ≡ true → ⊥
  unreplaced n [] d p o h k over = true≢false (sym h)
  unreplaced n (l ∷ ls) d p o h k over =
      let rest : List Op = numbered r (n + 1) note (bodies_of ls) in
      elim (op_cases p (first n l) rest h) [
        | inl a ↦ elim (op_cases o (first n l) rest k) [
          | inl b ↦ replaces_irreflexive o (subst (λ q. replaces q o ≡ true) (a ∙ sym b) over)
          | inr b ↦ let m = one_of (n + 1) ls o b in d.0 (subst (λ q. Contains ls q) (sym (same_of p o l m.0 (ap (λ (q : Op). q.body) a) m.2 over)) m.1)
        ]
        | inr a ↦ elim (op_cases o (first n l) rest k) [
          | inl b ↦ let m = one_of (n + 1) ls p a in d.0 (subst (λ q. Contains ls q) (same_of p o m.0 l m.2 (ap (λ (q : Op). q.body) b) over) m.1)
          | inr b ↦ unreplaced (n + 1) ls d.1 p o a b over
        ]
      ]

abbrev of_list : List Op → Ops
of_list os = set.from_list {R = op_cmp} os

drops_none : (os : List Op) → ((p o : Op) → has os p ≡ true → has os o ≡ true → replaces p o ≡ true → ⊥) → first_dropped (of_list os) ≡ None
drops_none os free =
    let in_list : (o : Op) → contains (of_list os) o ≡ true → has os o ≡ true = λ o h. sym (contains-from_list op_total os o) ∙ h in
    ap (option_map (λ (o : Op). o.id)) (find_none (λ o. any (λ p. replaces p o) (of_list os)) (set.items (of_list os)) (false_from_ne_true _ (λ h.
    let o = member_from_any op_total op_exact (λ o. any (λ p. replaces p o) (of_list os)) (of_list os) h in
    let p = member_from_any op_total op_exact (λ p. replaces p o.0) (of_list os) o.2 in
    free p.0 o.0 (in_list p.0 p.1) (in_list o.0 o.1) p.2)))

-- ---- the links of heirs

pub stands_parts : (s : Ops) (i : Id) → stands s i ≡ true → (enters s i ≡ true) × (retires s i ≡ false)
stands_parts s i h = let p = and_parts (enters s i) (not (retires s i)) h in (p.0, not-true (retires s i) p.1)

open_chain : (old newer : Id) (a b same r q t : Bool) → a ≡ true → b ≡ true → r ≡ false → q ≡ false → (not same && not t) ≡ true → chain old newer a b same r q (not r && t) ≡ None
open_chain old newer true true false false false false ea eb er eq n = refl
open_chain old newer true true false false false true ea eb er eq n = absurd (true≢false (sym n))
open_chain old newer true true true false false t ea eb er eq n = absurd (true≢false (sym n))
open_chain old newer true true same false true t ea eb er eq n = absurd (true≢false eq)
open_chain old newer true true same true q t ea eb er eq n = absurd (true≢false er)
open_chain old newer true false same r q t ea eb er eq n = absurd (true≢false (sym eb))
open_chain old newer false b same r q t ea eb er eq n = absurd (true≢false (sym ea))

pub new_is_allowed : (s : Ops) (l : Link) → stands s l.old ≡ true → stands s l.newer ≡ true → is_new s l ≡ true → objection s (body_of l) ≡ None
new_is_allowed s l a b n =
    let old = stands_parts s l.old a in
    let newer = stands_parts s l.newer b in
    open_chain l.old l.newer (enters s l.old) (enters s l.newer) (is_same l.old l.newer) (retires s l.old) (retires s l.newer) (supersedes_by s l.old l.newer) old.0 newer.0 old.1 newer.1 n

pub in_set : (all : set.Set link_cmp) (links : List Link) → links ≡ set.items all → (l : Link) → Contains links l → contains all l ≡ true
in_set all links e l c = contains-items all l ∙ any_of_member (eq_by_cmp link_cmp l) (set.items all) l (subst (λ ls. Contains ls l) e c) (ap is_eq (tied_itself link_total l))

pub are_allowed : (before : List Link) (x : Content) (replica note : List ℕ) (links : List Link) → AreHeirLinks before x.ops links → AreAllowed x replica note (bodies_of links)
are_allowed before x replica note links h =
    let distinct : Distinct links = subst Distinct (sym h.items) (climbing_distinct (set.items h.all) (items_climb link_cmp h.all)) in
    let n : ℕ = greatest replica x.seen + 1 in
    record {
      none_refused = none_refused replica note n links x distinct (λ l c.
          let p = (h.each l).0 (in_set h.all links h.items l c) in
          new_is_allowed x.ops l (heir_stands x.ops p.link.old l.old p.inherits.old) (heir_stands x.ops p.link.newer l.newer p.inherits.newer) p.new);
      none_dropped = drops_none (numbered replica n note (bodies_of links)) (unreplaced replica note n links distinct);
    }
