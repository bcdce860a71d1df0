-- The merge of two sorted lists of marks.
use Rattle.std.proofs.Common.{◌≡◌, true, false, ◌||◌, List, [], ◌∷◌, ◌++◌, length, refl, sym, ap, ◌∙◌, subst, inl, inr, ◌⊎◌, arith}
use Rattle.std.proofs.lemmas.List.Sorted.{ranks_by}
use Rattle.std.proofs.lemmas.List.Folds.{list_any-append}
use Rattle.std.specs.List.Sorted.{IsSorted}
use Rattle.std.specs.Cmp.{IsStrictWeakOrder}
use Rattle.std.proofs.lemmas.Bool.{true≢false}
use Rattle.std.proofs.Math.Bool.{or-false, or_assoc, or_comm}
use Rattle.std.specs.declared.cmp.Ordering.{Ordering}
use Rattle.std.specs.declared.cmp.Ordering.TheVariants.{Less, Equal, Greater}
use Rattle.std.specs.Ordering.{is_lt, eq_by_cmp, ordering_reverse}
use Rattle.reg_state.specs.declared.mark.Mark.{Mark}
use Rattle.reg_state.specs.MarkSets.{mark_cmp, has}
use Rattle.reg_state.specs.MarkLaws.{mark_total}
use Rattle.reg_state.proofs.OrderLemmas.{IsBy}
use Rattle.reg_state.proofs.FirstLemmas.{AllBy, Up, sorted_up, up_sorted}
use Rattle.reg_state.proofs.RunLemmas.{or_moved}

lt_mark : IsStrictWeakOrder (λ a b. is_lt (mark_cmp a b))
lt_mark = ranks_by mark_total (λ m. m)

pub by_chain : (a b c : Mark) → IsBy a b → IsBy b c → IsBy a c
by_chain a b c h k = lt_mark.chain c b a k h

all_chain : (a b : Mark) (xs : List Mark) → IsBy a b → AllBy b xs → AllBy a xs
all_chain a b [] h k = tt
all_chain a b (x ∷ xs) h k = (by_chain a b x h k.0, all_chain a b xs h k.1)

-- each mark of the first list is no later than each of the second
abbrev pub Before : List Mark → List Mark → Type 0
Before [] ys = Unit {0}
Before (x ∷ xs) ys = AllBy x ys × Before xs ys

all-append : (x : Mark) (ys zs : List Mark) → AllBy x ys → AllBy x zs → AllBy x (ys ++ zs)
all-append x [] zs h k = k
all-append x (y ∷ ys) zs h k = (h.0, all-append x ys zs h.1 k)

up-append : (xs ys : List Mark) → Up xs → Up ys → Before xs ys → Up (xs ++ ys)
up-append [] ys h k b = k
up-append (x ∷ xs) ys h k b = (all-append x xs ys h.0 b.0, up-append xs ys h.1 k b.1)

before_rest : (xs : List Mark) (y : Mark) (ys : List Mark) → Before xs (y ∷ ys) → Before xs ys
before_rest [] y ys h = tt
before_rest (x ∷ xs) y ys h = (h.0.1, before_rest xs y ys h.1)

before_first : (xs : List Mark) (y : Mark) (ys : List Mark) → Before xs (y ∷ ys) → Before xs (y ∷ [])
before_first [] y ys h = tt
before_first (x ∷ xs) y ys h = ((h.0.0, tt), before_first xs y ys h.1)

before-push : (xs : List Mark) (x : Mark) (ys : List Mark) → Before xs ys → AllBy x ys → Before (xs ++ x ∷ []) ys
before-push [] x ys h k = (k, tt)
before-push (z ∷ xs) x ys h k = (h.0, before-push xs x ys h.1 k)

pub before_none : (xs : List Mark) → Before xs []
before_none [] = tt
before_none (x ∷ xs) = (tt, before_none xs)

-- during the merge: the output and the rest of each list are sorted, and together have the marks of both lists
pub record IsMerging (made lefts rights left right : List Mark) : Type 0 where
  pub made_up : Up made
  pub left_up : Up lefts
  pub right_up : Up rights
  pub left_next : Before made lefts
  pub right_next : Before made rights
  pub covered : (m : Mark) → (has made m || (has lefts m || has rights m)) ≡ (has left m || has right m)

pub merging : (left right : List Mark) → IsSorted mark_cmp left → IsSorted mark_cmp right → IsMerging [] left right left right
merging left right h k = record { made_up = tt; left_up = sorted_up left h; right_up = sorted_up right k; left_next = tt; right_next = tt; covered = λ m. refl }

has-push : (xs : List Mark) (x m : Mark) → has (xs ++ x ∷ []) m ≡ (has xs m || eq_by_cmp mark_cmp m x)
has-push xs x m = list_any-append (eq_by_cmp mark_cmp m) xs (x ∷ []) ∙ ap (λ b. has xs m || b) (or-false (eq_by_cmp mark_cmp m x))

took : (made lefts rights left right : List Mark) (a b : Mark) (more bs : List Mark) → IsMerging made lefts rights left right → lefts ≡ a ∷ more → rights ≡ b ∷ bs → IsBy a b
    → IsMerging (made ++ a ∷ []) more rights left right
took made lefts rights left right a b more bs is l r first =
    let a_up : Up (a ∷ more) = subst Up l is.left_up in
    let b_up : Up (b ∷ bs) = subst Up r is.right_up in
    let next : Before made (a ∷ more) = subst (Before made) l is.left_next in
    record {
      made_up = up-append made (a ∷ []) is.made_up (tt, tt) (before_first made a more next);
      left_up = a_up.1;
      right_up = is.right_up;
      left_next = before-push made a more (before_rest made a more next) a_up.0;
      right_next = before-push made a rights is.right_next (subst (AllBy a) (sym r) (first, all_chain a b bs first b_up.0));
      covered = λ m.
          (λ k. has-push made a m k || (has more m || has rights m))
          ∙ or_moved (has made m) (eq_by_cmp mark_cmp m a) (has more m) (has rights m)
          ∙ (λ k. has made m || (has (sym l k) m || has rights m))
          ∙ is.covered m;
    }

turned : (made lefts rights left right : List Mark) → IsMerging made lefts rights left right → IsMerging made rights lefts right left
turned made lefts rights left right is = record {
  made_up = is.made_up;
  left_up = is.right_up;
  right_up = is.left_up;
  left_next = is.right_next;
  right_next = is.left_next;
  covered = λ m. (λ k. has made m || or_comm (has rights m) (has lefts m) k) ∙ is.covered m ∙ or_comm (has left m) (has right m);
}

pub merged_left : (made new lefts rights left right : List Mark) (a b : Mark) (more bs : List Mark) → IsMerging made lefts rights left right → lefts ≡ a ∷ more → rights ≡ b ∷ bs → IsBy a b → new ≡ made ++ a ∷ []
    → IsMerging new more rights left right
merged_left made new lefts rights left right a b more bs is l r first e = subst (λ xs. IsMerging xs more rights left right) (sym e) (took made lefts rights left right a b more bs is l r first)

pub merged_right : (made new lefts rights left right : List Mark) (a b : Mark) (more bs : List Mark) → IsMerging made lefts rights left right → lefts ≡ a ∷ more → rights ≡ b ∷ bs → IsBy b a → new ≡ made ++ b ∷ []
    → IsMerging new lefts bs left right
merged_right made new lefts rights left right a b more bs is l r first e =
    subst (λ xs. IsMerging xs lefts bs left right) (sym e) (turned _ _ _ _ _ (took made rights lefts right left b a bs more (turned _ _ _ _ _ is) r l first))

-- after the merge: the output is sorted, and has the marks of both lists
pub record IsMerged (new left right : List Mark) : Type 0 where
  pub sorted : IsSorted mark_cmp new
  pub covered : (m : Mark) → has new m ≡ has (left ++ right) m

pub merged_end : (made new lefts rights left right : List Mark) → IsMerging made lefts rights left right → (length lefts ≡ 0) ⊎ (length rights ≡ 0) → new ≡ (made ++ lefts) ++ rights → IsMerged new left right
merged_end made new lefts rights left right is spent e =
    let up : Up ((made ++ lefts) ++ rights) = up-append (made ++ lefts) rights (up-append made lefts is.made_up is.left_up is.left_next) is.right_up (both made lefts rights is.right_next spent) in
    subst (λ xs. IsMerged xs left right) (sym e) (record {
      sorted = up_sorted _ up;
      covered = λ m.
          list_any-append (eq_by_cmp mark_cmp m) (made ++ lefts) rights
          ∙ (λ k. list_any-append (eq_by_cmp mark_cmp m) made lefts k || has rights m)
          ∙ or_assoc (has made m) (has lefts m) (has rights m)
          ∙ is.covered m
          ∙ sym (list_any-append (eq_by_cmp mark_cmp m) left right);
    })
  where
    before-append : (xs ys zs : List Mark) → Before xs zs → Before ys zs → Before (xs ++ ys) zs
    before-append [] ys zs h k = k
    before-append (x ∷ xs) ys zs h k = (h.0, before-append xs ys zs h.1 k)

    spent_before : (ls rs : List Mark) → (length ls ≡ 0) ⊎ (length rs ≡ 0) → Before ls rs
    spent_before [] rs h = tt
    spent_before (x ∷ xs) [] h = before_none (x ∷ xs)
    spent_before (x ∷ xs) (y ∷ ys) (inl h) = absurd (omega arith)
    spent_before (x ∷ xs) (y ∷ ys) (inr h) = absurd (omega arith)

    both : (ms ls rs : List Mark) → Before ms rs → (length ls ≡ 0) ⊎ (length rs ≡ 0) → Before (ms ++ ls) rs
    both ms ls rs b h = before-append ms ls rs b (spent_before ls rs h)

pub first_by : (a b : Mark) → is_lt (mark_cmp b a) ≡ true → IsBy b a
first_by a b h = from (mark_cmp b a) (mark_cmp a b) (mark_total.antisymm a b) h
  where
    from : (o p : Ordering) → p ≡ ordering_reverse o → is_lt o ≡ true → is_lt p ≡ false
    from Less p e h = ap is_lt e
    from Equal p e h = absurd (true≢false (sym h))
    from Greater p e h = absurd (true≢false (sym h))
