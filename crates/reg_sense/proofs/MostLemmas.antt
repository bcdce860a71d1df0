-- What most claim, one claim at a time.
use Rattle.std.proofs.Common.{◌≡◌, ℕ, true, false, cond, Option, Some, None, List, [], ◌∷◌, ◌++◌, ◌-◌, length, map, filter, refl, sym, ap, ◌∙◌, arith}
use Rattle.std.proofs.lemmas.Bool.{true≢false}
use Rattle.std.proofs.lemmas.Cmp.{nat_cmp_total, nat_list_cmp_total, then_total, on_total}
use Rattle.std.proofs.lemmas.List.MinMax.{ranks_by}
use Rattle.std.proofs.lemmas.Slice.Eq.{bytes_eq-Decides}
use Rattle.std.specs.Borrow.{Bor}
use Rattle.std.specs.Cmp.{IsStrictWeakOrder, IsTotalOrder, back_total}
use Rattle.std.specs.Cmp.Lexicographic.{texts_ties}
use Rattle.std.specs.Ordering.{is_eq}
use Rattle.std.specs.Str.{bytes_eq}
use Rattle.crs_said.specs.Claims.{Said}
use Rattle.reg_sense.specs.Claimants.{Voice, key_text, is_about}
use Rattle.reg_sense.specs.Least.{least, lesser}
use Rattle.reg_sense.specs.Most.{claiming, count, contents, most_cmp, is_more, is_content, more_told, those_told}
use Rattle.reg_sense.specs.Tallies.{Counted, tally, bytes_cmp, seen_in}
use Rattle.reg_sense.proofs.LeastLemmas.{least_cons, lesser_twice}
use Rattle.reg_sense.proofs.TallyLemmas.{says, nobody_claims}

pub most_total : (vs : List Voice) (w : List ℕ) → IsTotalOrder (most_cmp vs w)
most_total vs w = then_total (back_total (on_total (λ c. count w c vs) nat_cmp_total)) nat_list_cmp_total

pub most_ranks : (vs : List Voice) (w : List ℕ) → IsStrictWeakOrder (is_more vs w)
most_ranks vs w = ranks_by (most_total vs w) (λ c. c)

-- one more content in front
pub most_step : (vs : List Voice) (x : Said) (xs : List Said) (own made q : Bor (List ℕ)) (was old new : Option (Bor (List ℕ))) → own.now ≡ x.word
    → made.now ≡ lesser (is_more vs x.word) x.content (seen_in was) → seen_in was ≡ least (is_more vs x.word) (contents x.word xs)
    → new ≡ cond (is_eq (bytes_cmp own q)) (Some made) old → seen_in old ≡ least (is_more vs q.now) (contents q.now xs)
    → seen_in new ≡ least (is_more vs q.now) (contents q.now (x ∷ xs))
most_step vs x xs own made q was old new w is before put had = elim (is_about q.now x) as (λ b. is_about q.now x ≡ b → seen_in new ≡ least (is_more vs q.now) (contents q.now (x ∷ xs))) [
  | true ↦ λ y.
      let here : x.word ≡ q.now = (bytes_eq-Decides x.word q.now).0 y in
      ap seen_in (put ∙ (λ j. cond ((sym (texts_ties own.now q.now) ∙ (λ i. bytes_eq (w i) q.now) ∙ y) j) (Some made) old))
      ∙ ap Some (is ∙ ap (lesser (is_more vs x.word) x.content) before)
      ∙ sym (least_cons (is_more vs x.word) (most_ranks vs x.word) x.content (contents x.word xs))
      ∙ (λ j. least (is_more vs (here j)) (x.content ∷ contents (here j) xs))
      ∙ (λ j. least (is_more vs q.now) (map (λ (z : Said). z.content) (cond (sym y j) (x ∷ filter (is_about q.now) xs) (filter (is_about q.now) xs))))
  | false ↦ λ n.
      ap seen_in (put ∙ (λ j. cond ((sym (texts_ties own.now q.now) ∙ (λ i. bytes_eq (w i) q.now) ∙ n) j) (Some made) old))
      ∙ had
      ∙ (λ j. least (is_more vs q.now) (map (λ (z : Said). z.content) (cond (sym n j) (x ∷ filter (is_about q.now) xs) (filter (is_about q.now) xs))))
] refl

pub content_is : (o : Option (List ℕ)) (c : List ℕ) → is_content o c ≡ true → o ≡ Some c
content_is None c e = absurd (true≢false (sym e))
content_is (Some m) c e = ap Some ((bytes_eq-Decides m c).0 e)

-- one more content in front, which is the least already
pub most_kept : (vs : List Voice) (x : Said) (xs : List Said) (q : List ℕ) (old : Option (List ℕ)) → least (is_more vs x.word) (contents x.word xs) ≡ Some x.content
    → old ≡ least (is_more vs q) (contents q xs) → old ≡ least (is_more vs q) (contents q (x ∷ xs))
most_kept vs x xs q old is had = elim (is_about q x) as (λ b. is_about q x ≡ b → old ≡ least (is_more vs q) (contents q (x ∷ xs))) [
  | true ↦ λ y.
      let here : x.word ≡ q = (bytes_eq-Decides x.word q).0 y in
      had
      ∙ (λ j. least (is_more vs (sym here j)) (contents (sym here j) xs))
      ∙ is
      ∙ ap Some (sym (lesser_twice (is_more vs x.word) x.content None))
      ∙ ap (λ o. Some (lesser (is_more vs x.word) x.content o)) (sym is)
      ∙ sym (least_cons (is_more vs x.word) (most_ranks vs x.word) x.content (contents x.word xs))
      ∙ (λ j. least (is_more vs (here j)) (x.content ∷ contents (here j) xs))
      ∙ (λ j. least (is_more vs q) (map (λ (z : Said). z.content) (cond (sym y j) (x ∷ filter (is_about q) xs) (filter (is_about q) xs))))
  | false ↦ λ n.
      had
      ∙ (λ j. least (is_more vs q) (map (λ (z : Said). z.content) (cond (sym n j) (x ∷ filter (is_about q) xs) (filter (is_about q) xs))))
] refl

-- ---- those who claim what most claim

pub those_some : (w c : List ℕ) (vs : List Voice) (t : Counted) → tally w c 0 vs ≡ Some t → key_text t.first ++ more_told (t.count - 1) ≡ those_told (claiming w c vs)
those_some w c vs t e =
    let s = says w c 0 vs t e in
    let n : t.count - 1 ≡ length s.others = let k = s.count in omega (arith, k) in
    (λ j. key_text t.first ++ more_told (n j))
    ∙ (λ j. those_told (sym s.are j))

pub those_none : (w c : List ℕ) (vs : List Voice) → tally w c 0 vs ≡ None → [] ≡ those_told (claiming w c vs)
those_none w c vs e = (λ j. those_told (sym (nobody_claims w c 0 vs e) j))
