-- Rows of retired entries link to rows with their texts, and rows of keys in conflict say so.
use Rattle.std.proofs.Common.{◌≡◌, ◌↔◌, ℕ, Bool, true, false, ◌||◌, cond, All, filter, List, [], ◌∷◌, map, get_or, Option, None, refl, sym, ap, ◌∙◌, subst, inl, inr}
use Rattle.std.proofs.lemmas.List.Elements.{All-map}
use Rattle.std.specs.List.{Contains, list_any}
use Rattle.std.specs.Cmp.{Equal-is, tied_itself}
use Rattle.std.specs.Cmp.Lexicographic.{slice_cmp}
use Rattle.std.specs.Ordering.{nat_cmp, is_eq, ordering_then}
use Rattle.html_page.specs.Shown as shown
use Rattle.reg_op.specs.Contents.{Content}
use Rattle.reg_op.specs.Operations.{Op, Ops}
use Rattle.reg_op.specs.Rows.{Row, IsInConflict, rows}
use Rattle.reg_op.proofs.OpLemmas.{bytes_exact, both_equal}
use Rattle.reg_report.specs.Conflicts.{KeyBytes, bytes_of, key_cmp, HasKey, Contested, AreConflicts}
use Rattle.reg_report.proofs.ConflictLemmas.{none_in, in_cons, in_head, in_tail, in_map, from_map, any_of_member, key_total, key_exact}
use Rattle.crs_sense.specs.declared.rule.Rule.{Rule}
use Rattle.reg_page.specs.declared.described.Described.{Described}
use Rattle.reg_page.specs.Page.{printed_if, is_among, is_in_conflict, row_of, acts_in, IsShown}
use Rattle.reg_page.specs.Rows.{HasSameText, IsToldIn}
use Rattle.reg_page.specs.SameTexts.{text_cmp, has_same_text, first_id, same_text_in}
use Rattle.reg_page.proofs.SameTextLemmas.{text_total}
use Rattle.reg_page.proofs.SideLemmas.{filter_in}

-- ---- texts

from_filter : {X : Type 0} (p : X → Bool) (xs : List X) (x : X) → Contains (filter p xs) x → Contains xs x × (p x ≡ true)
from_filter p [] x c = absurd (none_in x c)
from_filter p (y ∷ ys) x c =
    elim (p y) as (λ b. p y ≡ b → Contains (cond b (y ∷ filter p ys) (filter p ys)) x → Contains (y ∷ ys) x × (p x ≡ true)) [
      | true ↦ λ e d. elim (in_cons x y (filter p ys) d) [
        | inl is ↦ (subst (λ z. Contains (z ∷ ys) x) is (in_head x ys), subst (λ z. p z ≡ true) (sym is) e)
        | inr rest ↦ let r = from_filter p ys x rest in (in_tail x y ys r.0, r.1)
      ]
      | false ↦ λ e d. let r = from_filter p ys x d in (in_tail x y ys r.0, r.1)
    ] refl c

same_text : (t u : Described) → has_same_text t u ≡ true → (t.system.text.items ≡ u.system.text.items) × (bytes_of t.key ≡ bytes_of u.key)
same_text t u h =
    let both = both_equal (slice_cmp nat_cmp t.system.text.items u.system.text.items) _ ((Equal-is (text_cmp t u)).0 h) in
    (bytes_exact _ _ both.0, key_exact (bytes_of t.key) (bytes_of u.key) both.1)

as_text : (t u : Described) → t.system.text.items ≡ u.system.text.items → bytes_of t.key ≡ bytes_of u.key → has_same_text t u ≡ true
as_text t u text key =
    sym (λ j. is_eq (ordering_then (slice_cmp nat_cmp t.system.text.items (text j)) (key_cmp (bytes_of t.key) (key j)))) ∙ ap is_eq (tied_itself text_total t)

module _ (s : Ops) (described : List Described) (os : List Op) (cs : List Contested) (live : List Described) (t : Described) where
  abbrev there : Described → shown.Entry
  there u = row_of s described os cs [] u

  abbrev here : shown.Entry
  here = row_of s described os [] live t

  told_by : (l : List Described) → filter (has_same_text t) live ≡ l → IsToldIn (map there live) here (printed_if (first_id l))
  told_by [] e = λ other c same.
      let m = from_map there live other c in
      let text : t.system.text.items ≡ (m.0).system.text.items = same.text ∙ ap (λ (o : shown.Entry). o.text) m.2 in
      let key : bytes_of t.key ≡ bytes_of (m.0).key =
      (λ j. record { authority = (same.authority ∙ ap (λ (o : shown.Entry). o.authority) m.2) j; code = (same.code ∙ ap (λ (o : shown.Entry). o.code) m.2) j }) in
      none_in m.0 (subst (λ l. Contains l m.0) e (filter_in (has_same_text t) live m.0 m.1 (as_text t m.0 text key)))
  told_by (u ∷ us) e =
      let found = from_filter (has_same_text t) live u (subst (λ l. Contains l u) (sym e) (in_head u us)) in
      let same = same_text t u found.1 in
      (there u, in_map there live u found.0, refl, record { authority = ap (λ (k : KeyBytes). k.authority) same.1; code = ap (λ (k : KeyBytes). k.code) same.1; text = same.0 })

  told : IsToldIn (map there live) here here.same_text_as
  told = told_by (filter (has_same_text t) live) refl

pub own_texts : (rules : List Rule) (title : List ℕ) (x : Content) (s : shown.Shown) → IsShown rules title x s → All (λ (e : shown.Entry). e.same_text_as ≡ None) s.entries
own_texts rules title x s h =
    subst (λ (z : shown.Shown). All (λ (e : shown.Entry). e.same_text_as ≡ None) z.entries) (sym h.is)
    (All-map (λ (e : shown.Entry). e.same_text_as ≡ None) (row_of x.ops h.described (acts_in x.ops) h.conflicts []) (filter (is_among false x.ops) h.described) (λ k d low. refl))

pub all_told : (rules : List Rule) (title : List ℕ) (x : Content) (s : shown.Shown) → IsShown rules title x s → All (λ (e : shown.Entry). IsToldIn s.entries e e.same_text_as) s.retired
all_told rules title x s h =
    let live = filter (is_among false x.ops) h.described in
    let gone = filter (is_among true x.ops) h.described in
    subst (λ (z : shown.Shown). All (λ (e : shown.Entry). IsToldIn z.entries e e.same_text_as) z.retired) (sym h.is)
    (All-map (λ (e : shown.Entry). IsToldIn (map (row_of x.ops h.described (acts_in x.ops) h.conflicts []) live) e e.same_text_as) (row_of x.ops h.described (acts_in x.ops) [] live) gone
    (λ k d low. told x.ops h.described (acts_in x.ops) h.conflicts live (get_or gone k d)))

-- ---- keys in conflict

from_any : (k : KeyBytes) (cs : List Contested) → list_any (λ (c : Contested). is_eq (key_cmp c.key k)) cs ≡ true → Contains (map (λ (c : Contested). c.key) cs) k
from_any k [] h = absurd cc
from_any k (c ∷ cs) h =
    elim (is_eq (key_cmp c.key k)) as (λ b. is_eq (key_cmp c.key k) ≡ b → (b || list_any (λ (e : Contested). is_eq (key_cmp e.key k)) cs) ≡ true → Contains (map (λ (e : Contested). e.key) (c ∷ cs)) k) [
      | true ↦ λ same _. subst (λ z. Contains (c.key ∷ map (λ (e : Contested). e.key) cs) z) (key_exact c.key k ((Equal-is (key_cmp c.key k)).0 same)) (in_head c.key (map (λ (e : Contested). e.key) cs))
      | false ↦ λ _ rest. in_tail k c.key (map (λ (e : Contested). e.key) cs) (from_any k cs rest)
    ] refl h

said_of : (rs : List Row) (cs : List Contested) → AreConflicts rs cs → (t : Described) → (is_in_conflict cs t ≡ true) ↔ IsInConflict HasKey rs (bytes_of t.key)
said_of rs cs are t =
    let k = bytes_of t.key in
    let each = are.each k in (
      (λ h. each.0 (from_any k cs h)),
      (λ h.
          let m = from_map (λ (c : Contested). c.key) cs k (each.1 h) in
          any_of_member (λ (c : Contested). is_eq (key_cmp c.key k)) cs m.0 m.1 (ap is_eq (subst (λ l. key_cmp (m.0).key l ≡ key_cmp (m.0).key (m.0).key) (sym m.2) refl) ∙ ap is_eq (tied_itself key_total (m.0).key))),
    )

pub conflicts_said : (rules : List Rule) (title : List ℕ) (x : Content) (s : shown.Shown) → IsShown rules title x s
    → All (λ (e : shown.Entry). (e.in_conflict ≡ true) ↔ IsInConflict HasKey (rows x.ops) (record { authority = e.authority; code = e.code })) s.entries
conflicts_said rules title x s h =
    let live = filter (is_among false x.ops) h.described in
    subst (λ (z : shown.Shown). All (λ (e : shown.Entry). (e.in_conflict ≡ true) ↔ IsInConflict HasKey (rows x.ops) (record { authority = e.authority; code = e.code })) z.entries) (sym h.is)
    (All-map (λ (e : shown.Entry). (e.in_conflict ≡ true) ↔ IsInConflict HasKey (rows x.ops) (record { authority = e.authority; code = e.code })) (row_of x.ops h.described (acts_in x.ops) h.conflicts []) live
    (λ k d low. said_of (rows x.ops) h.conflicts h.are_conflicts (get_or live k d)))
