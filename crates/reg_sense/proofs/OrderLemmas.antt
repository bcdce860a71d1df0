-- Whether one breaks a rule beside others does not depend on their order.
use Rattle.std.proofs.Common.{◌≡◌, ◌&&◌, ◌||◌, not, ℕ, Bool, true, false, cond, is_some, is_lt, is_gt, is_eq, Option, Some, None, List, [], ◌∷◌, filter, refl, sym, ap, ◌∙◌, IsPermutation, Ordering, Less, Equal, Greater}
use Rattle.std.proofs.lemmas.Bool.{true≢false}
use Rattle.std.proofs.lemmas.List.Sorted.{list_any-IsPermutation, sum_by-IsPermutation}
use Rattle.std.proofs.lemmas.List.Sums.{length-filter}
use Rattle.std.proofs.lemmas.Slice.Eq.{bytes_eq-Decides}
use Rattle.std.proofs.lemmas.Iterator.Adapters.{option_map_id}
use Rattle.std.specs.Cmp.{IsTotalOrder}
use Rattle.std.specs.Cmp.Lexicographic.{slice_cmp, texts_ties}
use Rattle.std.specs.List.{list_any}
use Rattle.std.specs.Option.{option_map, option_or}
use Rattle.std.specs.Ordering.{nat_cmp, ordering_then, ordering_reverse}
use Rattle.std.specs.Str.{bytes_eq}
use Rattle.crs_said.specs.Claims.{Said}
use Rattle.reg_sense.specs.declared.rule.WideRule.{WideRule}
use Rattle.reg_sense.specs.declared.rule.WideRule.TheVariants as the
use Rattle.reg_sense.specs.Claimants.{Voice, is_about, is_claim, first_told}
use Rattle.reg_sense.specs.Keys.{class_of, digits_of, rank_of, authority_cmp, code_cmp, key_cmp, is_before, has_same_key}
use Rattle.reg_sense.specs.Laws.{HaveSameNames}
use Rattle.reg_sense.specs.Least.{least}
use Rattle.reg_sense.specs.Most.{count, contents, most_cmp, is_more, all_claims, most, otherwise, against_maybe, odd_told}
use Rattle.reg_sense.specs.Names.{name_told}
use Rattle.reg_sense.specs.Others.{is_other, first_other, other_maybe, other_told}
use Rattle.reg_sense.specs.Rules.{wide_told}
use Rattle.reg_sense.specs.Twins.{saying, first_of, twin_text, twin_maybe, twin_told}
use Rattle.reg_sense.proofs.AlikeLemmas.{AreAlike, any_map, any_flat_map, any_filter, found_some, same_least}
use Rattle.reg_sense.proofs.MostLemmas.{most_total, most_ranks}
use Rattle.reg_sense.proofs.TwinLemmas.{key_total, key_ranks}

-- ---- what no order tells apart

neither : (o p : Ordering) → o ≡ ordering_reverse p → is_lt o ≡ false → is_lt p ≡ false → o ≡ Equal
neither Less p e n m = absurd (true≢false n)
neither Equal p e n m = refl
neither Greater Less e n m = absurd (true≢false m)
neither Greater Equal e n m = absurd (true≢false (ap is_gt e))
neither Greater Greater e n m = absurd (true≢false (ap is_gt e))

tied : {K : Type 0} (cmp : K → K → Ordering) → IsTotalOrder cmp → (x y : K) → is_lt (cmp x y) ≡ false → is_lt (cmp y x) ≡ false → cmp x y ≡ Equal
tied cmp total x y = neither (cmp x y) (cmp y x) (total.antisymm x y)

both_equal : (o p : Ordering) → ordering_then o p ≡ Equal → (o ≡ Equal) × (p ≡ Equal)
both_equal Less p e = absurd (true≢false (ap is_lt e))
both_equal Equal p e = (refl, e)
both_equal Greater p e = absurd (true≢false (ap is_gt e))

pub one_text : (a b : List ℕ) → slice_cmp nat_cmp a b ≡ Equal → a ≡ b
one_text a b e = (bytes_eq-Decides a b).0 (texts_ties a b ∙ ap is_eq e)

-- ---- sentences

or_some : {X : Type 0} (o p : Option X) → is_some (option_or o p) ≡ (is_some o || is_some p)
or_some None p = refl
or_some (Some x) p = refl

-- of two ways to tell, one tells something of a claim exactly if the other does
first_some : (told also : Said → Option (List ℕ)) → ((x : Said) → is_some (told x) ≡ is_some (also x)) → (xs : List Said) → is_some (first_told told xs) ≡ is_some (first_told also xs)
first_some told also same [] = refl
first_some told also same (x ∷ xs) =
    or_some (told x) (first_told told xs)
    ∙ (λ j. same x j || first_some told also same xs j)
    ∙ sym (or_some (also x) (first_told also xs))

name_some : (ms ns : List (List ℕ)) → HaveSameNames ms ns → (x : Said) → is_some (name_told ms x) ≡ is_some (name_told ns x)
name_some ms ns same x = (λ j. is_some (cond (same x.word j) (Some x.said) None))

against_some : (us : List Voice) (x : Said) (o : Option (List ℕ)) → is_some (against_maybe us x o) ≡ is_some o
against_some us x None = refl
against_some us x (Some m) = refl

maybe_some : (o : Option Voice) → is_some (other_maybe o) ≡ is_some o
maybe_some None = refl
maybe_some (Some t) = refl

-- ---- keys

abbrev key_of : Voice → List ℕ × List ℕ
key_of v = (v.authority, v.code)

one_key : (t u : Voice) → is_before t u ≡ false → is_before u t ≡ false → key_of t ≡ key_of u
one_key t u p q =
    let e = both_equal (authority_cmp t.authority u.authority) (code_cmp t.code u.code) (tied key_cmp key_total t u p q) in
    let a = both_equal (nat_cmp (rank_of t.authority) (rank_of u.authority)) (slice_cmp nat_cmp t.authority u.authority) e.0 in
    let f = both_equal (nat_cmp (class_of t.code) (class_of u.code)) (ordering_then (nat_cmp (digits_of t.code) (digits_of u.code)) (slice_cmp nat_cmp t.code u.code)) e.1 in
    let g = both_equal (nat_cmp (digits_of t.code) (digits_of u.code)) (slice_cmp nat_cmp t.code u.code) f.1 in
    (λ j. (one_text t.authority u.authority a.1 j, one_text t.code u.code g.1 j))

-- whether it is another key
abbrev is_another : Voice → Option (List ℕ × List ℕ) → Bool
is_another v None = false
is_another v (Some k) = not (bytes_eq k.0 v.authority && bytes_eq k.1 v.code)

by_key : (v : Voice) (o : Option Voice) → is_some (twin_maybe v o) ≡ is_another v (option_map key_of o)
by_key v None = refl
by_key v (Some t) = elim (has_same_key t v) as (λ b. is_some (cond b None (Some (twin_text t))) ≡ not b) [ true ↦ refl | false ↦ refl ]

-- ---- two orders of the same systems

module _ (vs ws : List Voice) (same : IsPermutation vs ws) where
  alike : AreAlike vs ws
  alike p = list_any-IsPermutation p vs ws same

  -- ---- what most claim

  same_count : (w c : List ℕ) → count w c vs ≡ count w c ws
  same_count w c =
      length-filter (λ (v : Voice). list_any (is_claim w c) v.claims) vs
      ∙ sym (sum_by-IsPermutation (λ (v : Voice). cond (list_any (is_claim w c) v.claims) 1 0) vs ws same)
      ∙ sym (length-filter (λ (v : Voice). list_any (is_claim w c) v.claims) ws)

  same_more : (w c d : List ℕ) → is_more vs w c d ≡ is_more ws w c d
  same_more w c d = (λ j. is_lt (ordering_then (nat_cmp (same_count w d j) (same_count w c j)) (slice_cmp nat_cmp c d)))

  seen : (w : List ℕ) (p : List ℕ → Bool) (us : List Voice) → list_any p (contents w (all_claims us)) ≡ list_any (λ (v : Voice). list_any (λ (x : Said). is_about w x && p x.content) v.claims) us
  seen w p us =
      any_map (λ (x : Said). x.content) p (filter (is_about w) (all_claims us))
      ∙ any_filter (is_about w) (λ (x : Said). p x.content) (all_claims us)
      ∙ any_flat_map (λ (v : Voice). v.claims) (λ (x : Said). is_about w x && p x.content) us

  same_contents : (w : List ℕ) → AreAlike (contents w (all_claims vs)) (contents w (all_claims ws))
  same_contents w p = seen w p vs ∙ alike (λ (v : Voice). list_any (λ (x : Said). is_about w x && p x.content) v.claims) ∙ sym (seen w p ws)

  one_content : (w c d : List ℕ) → is_more ws w c d ≡ false → is_more ws w d c ≡ false → c ≡ d
  one_content w c d p q = one_text c d (both_equal (nat_cmp (count w d ws) (count w c ws)) (slice_cmp nat_cmp c d) (tied (most_cmp ws w) (most_total ws w) c d p q)).1

  same_most : (w : List ℕ) → most vs w ≡ most ws w
  same_most w =
      (λ j. least (λ c d. same_more w c d j) (contents w (all_claims vs)))
      ∙ sym (option_map_id (least (is_more ws w) (contents w (all_claims vs))))
      ∙ same_least (is_more ws w) (most_ranks ws w) (λ (c : List ℕ). c) (one_content w) (contents w (all_claims vs)) (contents w (all_claims ws)) (same_contents w)
      ∙ option_map_id (most ws w)

  odd_some : (x : Said) → is_some (odd_told vs x) ≡ is_some (odd_told ws x)
  odd_some x =
      against_some vs x (otherwise (most vs x.word) x.content)
      ∙ (λ j. is_some (otherwise (same_most x.word j) x.content))
      ∙ sym (against_some ws x (otherwise (most ws x.word) x.content))

  -- ---- those who say another thing

  others : (us : List Voice) (x : Said) → is_some (other_told us x) ≡ list_any (λ (v : Voice). list_any (is_other x.word x.content) v.claims) us
  others us x = maybe_some (first_other us x.word x.content) ∙ found_some (λ (v : Voice). list_any (is_other x.word x.content) v.claims) us

  other_some : (x : Said) → is_some (other_told vs x) ≡ is_some (other_told ws x)
  other_some x = others vs x ∙ alike (λ (v : Voice). list_any (is_other x.word x.content) v.claims) ∙ sym (others ws x)

  -- ---- those who say the same

  same_saying : (w : List ℕ) → AreAlike (saying w vs) (saying w ws)
  same_saying w p =
      any_filter (λ (v : Voice). list_any (is_about w) v.claims) p vs
      ∙ alike (λ (v : Voice). list_any (is_about w) v.claims && p v)
      ∙ sym (any_filter (λ (v : Voice). list_any (is_about w) v.claims) p ws)

  twin_some : (v : Voice) (x : Said) → is_some (twin_told vs v x) ≡ is_some (twin_told ws v x)
  twin_some v x =
      by_key v (first_of vs x.word)
      ∙ ap (is_another v) (same_least is_before key_ranks key_of one_key (saying x.word vs) (saying x.word ws) (same_saying x.word))
      ∙ sym (by_key v (first_of ws x.word))

  -- ---- rules

  pub same_breaks_of : (rule : WideRule) (ms ns : List (List ℕ)) (v : Voice) → HaveSameNames ms ns → is_some (wide_told rule ms vs v) ≡ is_some (wide_told rule ns ws v)
  same_breaks_of the.Case ms ns v named = first_some (odd_told vs) (odd_told ws) odd_some v.claims
  same_breaks_of the.Datum ms ns v named = first_some (odd_told vs) (odd_told ws) odd_some v.claims
  same_breaks_of the.Parts ms ns v named = first_some (odd_told vs) (odd_told ws) odd_some v.claims
  same_breaks_of the.RefName ms ns v named = first_some (name_told ms) (name_told ns) (name_some ms ns named) v.claims
  same_breaks_of the.SameName ms ns v named = first_some (other_told vs) (other_told ws) other_some v.claims
  same_breaks_of the.Twin ms ns v named = first_some (twin_told vs v) (twin_told ws v) (twin_some v) v.claims

pub same_breaks : (rule : WideRule) (ms ns : List (List ℕ)) (vs ws : List Voice) (v : Voice) → HaveSameNames ms ns → IsPermutation vs ws → is_some (wide_told rule ms vs v) ≡ is_some (wide_told rule ns ws v)
same_breaks rule ms ns vs ws v named same = same_breaks_of vs ws same rule ms ns v named
