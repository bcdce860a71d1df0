-- Runs that do not meet a basis have no id of it.
use Rattle.std.proofs.Common.{◌≡◌, ℕ, true, false, List, [], ◌∷◌, ◌++◌, ◌+◌, Option, Some, None, map, sym, ap, subst, ◌∙◌, inl, inr}
use Rattle.std.proofs.lemmas.Bool.{true≢false, or_cases, or_left, or_right, false_from_ne_true}
use Rattle.std.specs.List.{list_any}
use Rattle.std.specs.Ordering.{is_eq, eq_by_cmp}
use Rattle.std.specs.Cmp.{Equal-is, tied_itself}
use Rattle.reg_op.specs.Set as set
use Rattle.reg_op.specs.Set.{contains-from_list}
use Rattle.reg_op.specs.Ids.{Id, Ids, id_cmp}
use Rattle.reg_op.proofs.OpLemmas.{id_total, id_exact}
use Rattle.reg_state.specs.declared.run.Run.{Run}
use Rattle.reg_state.specs.Runs.{ids_of_run, is_in_run, is_in_runs}
use Rattle.reg_state.proofs.RunLemmas.{contains-seen_of}
use Rattle.reg_file.specs.declared.span.Span.{Span}
use Rattle.reg_file.specs.Layout.{Group, run_at, runs_of}
use Rattle.reg_file.specs.Steps.{ReadsSeen}
use Rattle.reg_file.proofs.FieldLemmas.{IsBytes}
use Rattle.reg_file.proofs.RangeLemmas.{contains_run}
use Rattle.reg_file.proofs.GroupLemmas.{AreSpans, AreGroups, AllApart, ranges_take}

one_of : (s : Ids) (l : List Id) (i : Id) → set.contains s i ≡ true → list_any (eq_by_cmp id_cmp i) l ≡ true → list_any (set.contains s) l ≡ true
one_of s [] i h k = absurd (true≢false (sym k))
one_of s (x ∷ l) i h k = elim (or_cases (eq_by_cmp id_cmp i x) (list_any (eq_by_cmp id_cmp i) l) k) [
  | inl e ↦ or_left _ _ (subst (λ j. set.contains s j ≡ true) (id_exact i x ((Equal-is (id_cmp i x)).0 e)) h)
  | inr e ↦ or_right (set.contains s x) _ (one_of s l i h e)
]

some_of : (s : Ids) (l : List Id) → list_any (set.contains s) l ≡ true → (i : Id) × (list_any (eq_by_cmp id_cmp i) l ≡ true) × (set.contains s i ≡ true)
some_of s [] h = absurd (true≢false (sym h))
some_of s (x ∷ l) h = elim (or_cases (set.contains s x) (list_any (set.contains s) l) h) [
  | inl e ↦ (x, or_left _ _ (ap is_eq (tied_itself id_total x)), e)
  | inr e ↦ let r = some_of s l e in (r.0, or_right (eq_by_cmp id_cmp r.0 x) _ r.1, r.2)
]

listed : (r : Run) (i : Id) → is_in_run i r ≡ list_any (eq_by_cmp id_cmp i) (ids_of_run r)
listed r i = sym (contains_run r i) ∙ contains-from_list id_total (ids_of_run r) i

-- no id of runs that do not meet the basis is in it
pub apart_outside : (basis : Ids) (rs : List Run) → AllApart basis rs → (i : Id) → is_in_runs i rs ≡ true → set.contains basis i ≡ false
apart_outside basis [] out i h = absurd (true≢false (sym h))
apart_outside basis (r ∷ rs) out i h = elim (or_cases (is_in_run i r) (is_in_runs i rs) h) [
  | inl e ↦ false_from_ne_true _ (λ k. true≢false (sym (one_of basis (ids_of_run r) i k (sym (listed r i) ∙ e)) ∙ out.0))
  | inr e ↦ apart_outside basis rs out.1 i e
]

pub outside_apart : (basis : Ids) (rs : List Run) → ((i : Id) → is_in_runs i rs ≡ true → set.contains basis i ≡ false) → AllApart basis rs
outside_apart basis [] each = tt
outside_apart basis (r ∷ rs) each = (
  false_from_ne_true _ (λ h.
      let m = some_of basis (ids_of_run r) h in
      true≢false (sym m.2 ∙ each m.0 (or_left _ (is_in_runs m.0 rs) (listed r m.0 ∙ m.1)))),
  outside_apart basis rs (λ i h. each i (or_right (is_in_run i r) _ h)),
)

pub apart_from_none : (rs : List Run) → AllApart set.empty rs
apart_from_none rs = outside_apart set.empty rs (λ i h. set.contains-empty _ i)

spans_apart : (basis : Ids) (replica : List ℕ) (floor : ℕ) (ss : List Span) (rs : List Run) → AreSpans basis replica floor ss → AllApart basis rs → AllApart basis (map (run_at replica) ss ++ rs)
spans_apart basis replica floor [] rs are out = out
spans_apart basis replica floor (s ∷ ss) rs are out = (are.0.apart, spans_apart basis replica (s.high + 2) ss rs are.1 out)

pub groups_apart : (basis : Ids) (last : Option (List ℕ)) (gs : List Group) → AreGroups basis last gs → AllApart basis (runs_of gs)
groups_apart basis last [] are = tt
groups_apart basis last (g ∷ gs) are = spans_apart basis g.replica 1 g.spans (runs_of gs) are.1 (groups_apart basis (Some g.replica) gs are.2)

-- no seen id that is read after a basis is in the basis
pub seen_apart : (basis : Ids) (bytes : List ℕ) (seen : Ids) (rest : List ℕ) → IsBytes bytes → ReadsSeen basis bytes seen rest → (i : Id) → set.contains seen i ≡ true → set.contains basis i ≡ false
seen_apart basis bytes seen rest fits a i h =
    apart_outside basis (runs_of a.all) (groups_apart basis None a.all (ranges_take basis bytes a.count a.all rest fits a.reads).1) i
    (sym (contains-seen_of (runs_of a.all) i) ∙ sym (ap (λ s. set.contains s i) a.ids) ∙ h)
