-- The least missing id of a basis, and when a piece is refused or joined.
use Rattle.std.proofs.Common.{◌≡◌, Bool, true, false, not, ◌||◌, cond, List, [], ◌∷◌, Option, Some, None, Result, Ok, Err, refl, sym, ap, ◌∙◌, subst, inl, inr, ◌↔◌}
use Rattle.std.proofs.lemmas.Bool.{true≢false, or_cases, or_left, or_right, not-true, not_from_false, false_from_ne_true, true_from_ne_false}
use Rattle.std.specs.List.{list_any, find}
use Rattle.std.specs.Cmp.{Equal-is, tied_itself}
use Rattle.std.specs.Ordering.{is_eq, eq_by_cmp}
use Rattle.std.proofs.lemmas.List.Sorted.{ranks_by}
use Rattle.std.proofs.lemmas.Option.{same_Some, none-some}
use Rattle.reg_op.specs.Set.{contains, items, contains-items, union}
use Rattle.reg_op.specs.Ids.{Id, Ids, id_cmp, is_before}
use Rattle.reg_op.specs.Operations.{Ops, ids, OneBody}
use Rattle.reg_op.specs.Contents.{Content, state, joined, IsContent}
use Rattle.reg_op.specs.Pieces.{Piece, part_of, piece_for, IsPiece, IsHeld, first_missing, IsLeastMissing, Basis, Clash, joined_where, joined_piece}
use Rattle.reg_op.proofs.FiniteLemmas.{among}
use Rattle.reg_op.proofs.OpLemmas.{id_total, id_exact}
use Rattle.reg_op.proofs.ClashLemmas.{same_id, lt_id_itself}
use Rattle.reg_op.proofs.SetLemmas.{AllAbove, Climbs, items_climb}
use Rattle.reg_op.proofs.JoinLemmas.{joined_is_content}
use Rattle.reg_op.proofs.PieceLemmas.{joined-outside}
use Rattle.reg_op.proofs.ContentLemmas.{find_none}

-- ---- the first id of an ascending list that passes is the least

abbrev has : List Id → Id → Bool
has xs i = list_any (eq_by_cmp id_cmp i) xs

record IsFirst (t : Id → Bool) (xs : List Id) (i : Id) : Type 0 where
  passes : t i ≡ true
  there : has xs i ≡ true
  least : (j : Id) → has xs j ≡ true → t j ≡ true → is_before j i ≡ false

none_under : (i : Id) (xs : List Id) (j : Id) → AllAbove id_cmp i xs → has xs j ≡ true → is_before j i ≡ false
none_under i [] j h k = absurd (true≢false (sym k))
none_under i (x ∷ xs) j h k = elim (or_cases (eq_by_cmp id_cmp j x) (has xs j) k) [
  | inl e ↦ subst (λ y. is_before y i ≡ false) (sym (id_exact j x ((Equal-is (id_cmp j x)).0 e))) ((ranks_by id_total (λ y. y)).one_way i x h.0)
  | inr e ↦ none_under i xs j h.1 e
]

first_of : (t : Id → Bool) (xs : List Id) → Climbs id_cmp xs → list_any t xs ≡ true → (i : Id) × (find t xs ≡ Some i) × IsFirst t xs i
first_of t [] up h = absurd (true≢false (sym h))
first_of t (x ∷ xs) up h =
    elim (t x) as (λ b. t x ≡ b → (b || list_any t xs) ≡ true → (i : Id) × (cond b (Some x) (find t xs) ≡ Some i) × IsFirst t (x ∷ xs) i) [
      | true ↦ λ e h. (
        x,
        refl,
        record {
          passes = e;
          there = or_left _ _ (ap is_eq (tied_itself id_total x));
          least = λ j k s. elim (or_cases (eq_by_cmp id_cmp j x) (has xs j) k) [
            | inl same ↦ subst (λ y. is_before y x ≡ false) (sym (id_exact j x ((Equal-is (id_cmp j x)).0 same))) (lt_id_itself x)
            | inr later ↦ none_under x xs j up.0 later
          ];
        },
      )
      | false ↦ λ e h. let r = first_of t xs up.1 h in (
        r.0,
        r.1,
        record {
          passes = r.2.passes;
          there = or_right (eq_by_cmp id_cmp r.0 x) _ r.2.there;
          least = λ j k s. elim (or_cases (eq_by_cmp id_cmp j x) (has xs j) k) [
            | inl same ↦ absurd (true≢false (sym (subst (λ y. t y ≡ true) (id_exact j x ((Equal-is (id_cmp j x)).0 same)) s) ∙ e))
            | inr later ↦ r.2.least j later s
          ];
        },
      )
    ] refl h

-- ---- the least missing id

abbrev unseen : Ids → Id → Bool
unseen v i = not (contains v i)

abbrev misses : Ids → Ids → Bool
misses b v = list_any (unseen v) (items b)

missing_found : (b v : Ids) → misses b v ≡ true → (i : Id) × (first_missing b v ≡ Some i) × IsLeastMissing b v i
missing_found b v h =
    let r = first_of (unseen v) (items b) (items_climb id_cmp b) h in (
      r.0,
      r.1,
      record {
        there = contains-items b r.0 ∙ r.2.there;
        unseen = not-true _ r.2.passes;
        least = λ j k n. r.2.least j (sym (contains-items b j) ∙ k) (not_from_false _ n);
      },
    )

missing_some : (b v : Ids) (i : Id) → contains b i ≡ true → contains v i ≡ false → misses b v ≡ true
missing_some b v i h n = among id_total id_exact (unseen v) (items b) i (sym (contains-items b i) ∙ h) (not_from_false _ n)

pub missing_least : (b v : Ids) (i : Id) → (first_missing b v ≡ Some i) ↔ IsLeastMissing b v i
missing_least b v i = (
  λ h. elim (misses b v) as (λ t. misses b v ≡ t → IsLeastMissing b v i) [
    | true ↦ λ e. let r = missing_found b v e in subst (IsLeastMissing b v) (same_Some r.0 i (sym r.1 ∙ h)) r.2
    | false ↦ λ e. absurd (none-some i (sym (find_none (unseen v) (items b) e) ∙ h))
  ] refl,
  λ l.
      let r = missing_found b v (missing_some b v i l.there l.unseen) in
      r.1 ∙ ap Some (same_id r.0 i (l.least r.0 r.2.there r.2.unseen) (r.2.least i l.there l.unseen)),
)

pub missing_none : (b v : Ids) → (first_missing b v ≡ None) ↔ IsHeld b v
missing_none b v = (
  λ h i k. true_from_ne_false _ (λ n. let r = missing_found b v (missing_some b v i k n) in none-some r.0 (sym h ∙ r.1)),
  λ held. find_none (unseen v) (items b) (false_from_ne_true _ (λ e.
      let r = missing_found b v e in true≢false (sym (held r.0 r.2.there) ∙ r.2.unseen))),
)

-- ---- when a piece is refused, and when it is joined

missing_from : (m : Option Id) (r : Result Content Id) (i : Id) → joined_where m r ≡ Err (Basis i) → m ≡ Some i
missing_from (Some j) r i h = cc
missing_from None (Ok x) i h = cc
missing_from None (Err j) i h = cc

clash_from : (m : Option Id) (r : Result Content Id) (i : Id) → joined_where m r ≡ Err (Clash i) → (m ≡ None) × (r ≡ Err i)
clash_from (Some j) r i h = cc
clash_from None (Ok x) i h = cc
clash_from None (Err j) i h = (refl, cc)

joined_from : (m : Option Id) (r : Result Content Id) (z : Content) → joined_where m r ≡ Ok z → (m ≡ None) × (r ≡ Ok z)
joined_from (Some j) r z h = cc
joined_from None (Ok x) z h = (refl, cc)
joined_from None (Err j) z h = cc

pub piece_basis : (x : Content) (p : Piece) (i : Id) → (joined_piece x p ≡ Err (Basis i)) ↔ IsLeastMissing p.basis x.seen i
piece_basis x p i = (
  λ h. (missing_least p.basis x.seen i).0 (missing_from (first_missing p.basis x.seen) (joined x (part_of p)) i h),
  λ l. ap (λ m. joined_where m (joined x (part_of p))) ((missing_least p.basis x.seen i).1 l),
)

pub piece_clash : (x : Content) (p : Piece) (i : Id) → (joined_piece x p ≡ Err (Clash i)) ↔ (IsHeld p.basis x.seen × (joined x (part_of p) ≡ Err i))
piece_clash x p i = (
  λ h. let r = clash_from (first_missing p.basis x.seen) (joined x (part_of p)) i h in ((missing_none p.basis x.seen).0 r.0, r.1),
  λ l. (λ k. joined_where ((missing_none p.basis x.seen).1 l.0 k) (l.1 k)),
)

pub piece_joined : (x : Content) (p : Piece) (z : Content) → (joined_piece x p ≡ Ok z) ↔ (IsHeld p.basis x.seen × (joined x (part_of p) ≡ Ok z))
piece_joined x p z = (
  λ h. let r = joined_from (first_missing p.basis x.seen) (joined x (part_of p)) z h in ((missing_none p.basis x.seen).0 r.0, r.1),
  λ l. (λ k. joined_where ((missing_none p.basis x.seen).1 l.0 k) (l.1 k)),
)

pub piece_gives_content : (x : Content) (p : Piece) (z : Content) → IsContent x → IsPiece p → joined_piece x p ≡ Ok z → IsContent z
piece_gives_content x p z is piece h = joined_is_content x (part_of p) z is piece.content ((piece_joined x p z).0 h).1

pub pieces_joined : (s t : Ops) (b : Ids) → OneBody (union s t) → IsHeld b (ids t) → joined_piece (state t) (piece_for (state s) b) ≡ Ok (state (union s t))
pieces_joined s t b one held = (piece_joined (state t) (piece_for (state s) b) (state (union s t))).1 (held, joined-outside s t b one held)
