-- Each side of a conflict is an entry of the page.
use Rattle.std.proofs.Common.{◌≡◌, ◌⊎◌, ℕ, Bool, true, false, not, cond, filter, List, [], ◌∷◌, map, Option, Some, None, find, refl, sym, ap, subst, inl, inr}
use Rattle.std.specs.List.{Contains}
use Rattle.std.proofs.lemmas.List.Elements.{Contains-append_cases}
use Rattle.html_page.specs.Shown as shown
use Rattle.html_page.proofs.WordLemmas.{compared_is}
use Rattle.reg_op.specs.Ids.{Id, is_same}
use Rattle.reg_op.specs.Set as set
use Rattle.reg_op.specs.Operations.{Op}
use Rattle.reg_op.specs.Status.{status}
use Rattle.reg_op.specs.Rows.{awaited}
use Rattle.reg_report.specs.declared.gap.Gap.{Gap}
use Rattle.reg_op.specs.Contents.{Content}
use Rattle.reg_report.specs.Conflicts.{Contested}
use Rattle.reg_report.proofs.ConflictLemmas.{none_in, in_cons, in_head, in_tail, in_map, from_map}
use Rattle.crs_sense.specs.declared.rule.Rule.{Rule}
use Rattle.reg_page.specs.declared.described.Described.{Described}
use Rattle.reg_page.specs.Page.{described_at, standing_of, is_retired, is_among, row_of, side_of, pairs_of, pairs_from, pairs_among, conflict_of, acts_in, shown_of, IsShown, IsSide}

pub found_in : {X : Type 0} (t : X → Bool) (xs : List X) (x : X) → find t xs ≡ Some x → Contains xs x
found_in t [] x e = absurd cc
found_in t (y ∷ ys) x e =
    elim (t y) as (λ b. cond b (Some y) (find t ys) ≡ Some x → Contains (y ∷ ys) x) [
      | true ↦ λ h. let is : y ≡ x = cc in subst (λ z. Contains (y ∷ ys) z) is (in_head y ys)
      | false ↦ λ h. in_tail x y ys (found_in t ys x h)
    ] e

pub filter_in : {X : Type 0} (p : X → Bool) (xs : List X) (x : X) → Contains xs x → p x ≡ true → Contains (filter p xs) x
filter_in p [] x c e = absurd (none_in x c)
filter_in p (y ∷ ys) x c e = elim (in_cons x y ys c) [
  | inl is ↦ let passes : p y ≡ true = subst (λ z. p z ≡ true) is e in
      subst (λ b. Contains (cond b (y ∷ filter p ys) (filter p ys)) x) (sym passes) (subst (λ z. Contains (z ∷ filter p ys) x) is (in_head x (filter p ys)))
  | inr d ↦ elim (p y) as (λ b. Contains (cond b (y ∷ filter p ys) (filter p ys)) x) [
    | true ↦ in_tail x y (filter p ys) (filter_in p ys x d e)
    | false ↦ filter_in p ys x d e
  ]
]

module _ (title : List ℕ) (y : Content) (described : List Described) (acts : List Op) (cs' : List Contested) (ids : List Id) (gaps : List Gap) where
  abbrev shows : shown.Shown
  shows = shown_of y title described acts cs' ids gaps

  abbrev live : List Described
  live = filter (is_among false y.ops) described

  side : (t other : Described) → Contains described t → IsSide shows (side_of t other)
  side t other c =
      elim (is_retired (standing_of (status y.ops t.id))) as (λ b. is_retired (standing_of (status y.ops t.id)) ≡ b → IsSide shows (side_of t other)) [
        | true ↦ λ e. record {
          entry = row_of y.ops described acts [] live t;
          there = inr (in_map (row_of y.ops described acts [] live) (filter (is_among true y.ops) described) t (filter_in (is_among true y.ops) described t c e));
          id = refl;
          words = compared_is t.system.text.items other.system.text.items;
        }
        | false ↦ λ e. record {
          entry = row_of y.ops described acts cs' [] t;
          there = inl (in_map (row_of y.ops described acts cs' []) live t (filter_in (is_among false y.ops) described t c (ap not e)));
          id = refl;
          words = compared_is t.system.text.items other.system.text.items;
        }
      ] refl

  sides : (one other : Option Described) → ((t : Described) → one ≡ Some t → Contains described t) → ((t : Described) → other ≡ Some t → Contains described t)
      → (p : shown.Pair) → Contains (pairs_of one other) p → IsSide shows p.first × IsSide shows p.second
  sides None other f g p c = absurd (none_in p c)
  sides (Some t) None f g p c = absurd (none_in p c)
  sides (Some t) (Some u) f g p c = elim (in_cons p (record { first = side_of t u; second = side_of u t }) [] c) [
    | inl e ↦ subst (λ q. IsSide shows q.first × IsSide shows q.second) (sym e) (side t u (f t refl), side u t (g u refl))
    | inr d ↦ absurd (none_in p d)
  ]

  at : (i : Id) (t : Described) → described_at described i ≡ Some t → Contains described t
  at i t e = found_in (λ (u : Described). is_same u.id i) described t e

  from : (i : Id) (is : List Id) (p : shown.Pair) → Contains (pairs_from described i is) p → IsSide shows p.first × IsSide shows p.second
  from i [] p c = absurd (none_in p c)
  from i (j ∷ js) p c = elim (Contains-append_cases (pairs_of (described_at described i) (described_at described j)) (pairs_from described j js) p c) [
    | inl d ↦ sides (described_at described i) (described_at described j) (at i) (at j) p d
    | inr d ↦ from j js p d
  ]

  among : (is : List Id) (p : shown.Pair) → Contains (pairs_among described is) p → IsSide shows p.first × IsSide shows p.second
  among [] p c = absurd (none_in p c)
  among (i ∷ is) p c = from i is p c

  pub all_sides : (cs : List Contested) (c : shown.Conflict) → Contains (map (conflict_of described) cs) c → (p : shown.Pair) → Contains c.pairs p → IsSide shows p.first × IsSide shows p.second
  all_sides cs c h p k =
      let r = from_map (conflict_of described) cs c h in
      among (r.0).entries p (subst (λ (d : shown.Conflict). Contains d.pairs p) r.2 k)

pub are_sides : (rules : List Rule) (title : List ℕ) (x : Content) (s : shown.Shown) → IsShown rules title x s → (c : shown.Conflict) → Contains s.conflicts c → (p : shown.Pair) → Contains c.pairs p → IsSide s p.first × IsSide s p.second
are_sides rules title x s h c k p l =
    subst (λ (z : shown.Shown). Contains z.conflicts c → IsSide z p.first × IsSide z p.second) (sym h.is)
    (λ m. all_sides title x h.described (acts_in x.ops) h.conflicts (set.items (awaited x.ops)) h.gaps h.conflicts c m p l) k
