-- The one of the least key, one claim at a time.
use Rattle.std.proofs.Common.{◌≡◌, ◌||◌, ℕ, Bool, true, false, cond, Option, Some, List, [], ◌∷◌, refl, sym, ap, ◌∙◌}
use Rattle.std.proofs.lemmas.Cmp.{nat_cmp_total, nat_list_cmp_total, then_total, on_total}
use Rattle.std.proofs.lemmas.List.MinMax.{ranks_by}
use Rattle.std.proofs.lemmas.Slice.Eq.{bytes_eq-Decides}
use Rattle.std.specs.Borrow.{Bor}
use Rattle.std.specs.Cmp.{IsStrictWeakOrder, IsTotalOrder}
use Rattle.std.specs.Cmp.Lexicographic.{texts_ties}
use Rattle.std.specs.List.{list_any}
use Rattle.std.specs.Ordering.{is_eq}
use Rattle.std.specs.Str.{bytes_eq}
use Rattle.crs_said.specs.Claims.{Said}
use Rattle.reg_sense.specs.declared.claimant.Claimant.{Claimant}
use Rattle.reg_sense.specs.Claimants.{Voice, voice, is_about}
use Rattle.reg_sense.specs.Keys.{class_of, digits_of, rank_of, authority_cmp, code_cmp, key_cmp, is_before}
use Rattle.reg_sense.specs.Least.{least, lesser}
use Rattle.reg_sense.specs.Tallies.{bytes_cmp}
use Rattle.reg_sense.specs.Twins.{saying, voice_in}
use Rattle.reg_sense.proofs.LeastLemmas.{least_cons, lesser_twice}

code_total : IsTotalOrder code_cmp
code_total = then_total (on_total class_of nat_cmp_total) (then_total (on_total digits_of nat_cmp_total) nat_list_cmp_total)

authority_total : IsTotalOrder authority_cmp
authority_total = then_total (on_total rank_of nat_cmp_total) nat_list_cmp_total

pub key_total : IsTotalOrder key_cmp
key_total = then_total (on_total (λ (v : Voice). v.authority) authority_total) (on_total (λ (v : Voice). v.code) code_total)

pub key_ranks : IsStrictWeakOrder is_before
key_ranks = ranks_by key_total (λ v. v)

-- one who is in front, perhaps for the second time
front : (v : Voice) (others : List Voice) (b : Bool) → Some (lesser is_before v (least is_before (cond b (v ∷ others) others))) ≡ least is_before (v ∷ others)
front v others true = ap Some (ap (lesser is_before v) (least_cons is_before key_ranks v others) ∙ lesser_twice is_before v (least is_before others)) ∙ sym (least_cons is_before key_ranks v others)
front v others false = sym (least_cons is_before key_ranks v others)

pub word_step : (v : Voice) (x : Said) (done : List Said) (vs : List Voice) (own : Bor (List ℕ)) (made : Bor Claimant) (q : Bor (List ℕ)) (was old new : Option (Bor Claimant)) → own.now ≡ x.word
    → voice made.now ≡ lesser is_before v (voice_in was) → voice_in was ≡ least is_before (cond (list_any (is_about x.word) done) (v ∷ saying x.word vs) (saying x.word vs))
    → new ≡ cond (is_eq (bytes_cmp own q)) (Some made) old
    → voice_in old ≡ least is_before (cond (list_any (is_about q.now) done) (v ∷ saying q.now vs) (saying q.now vs))
    → voice_in new ≡ least is_before (cond (is_about q.now x || list_any (is_about q.now) done) (v ∷ saying q.now vs) (saying q.now vs))
word_step v x done vs own made q was old new w is before put had =
    elim (is_about q.now x) as (λ b. is_about q.now x ≡ b → voice_in new ≡ least is_before (cond (is_about q.now x || list_any (is_about q.now) done) (v ∷ saying q.now vs) (saying q.now vs))) [
      | true ↦ λ y.
          let here : x.word ≡ q.now = (bytes_eq-Decides x.word q.now).0 y in
          ap voice_in (put ∙ (λ j. cond ((sym (texts_ties own.now q.now) ∙ (λ i. bytes_eq (w i) q.now) ∙ y) j) (Some made) old))
          ∙ ap Some (is ∙ ap (lesser is_before v) before)
          ∙ front v (saying x.word vs) (list_any (is_about x.word) done)
          ∙ (λ j. least is_before (v ∷ saying (here j) vs))
          ∙ (λ j. least is_before (cond (sym y j || list_any (is_about q.now) done) (v ∷ saying q.now vs) (saying q.now vs)))
      | false ↦ λ n.
          ap voice_in (put ∙ (λ j. cond ((sym (texts_ties own.now q.now) ∙ (λ i. bytes_eq (w i) q.now) ∙ n) j) (Some made) old))
          ∙ had
          ∙ (λ j. least is_before (cond (sym n j || list_any (is_about q.now) done) (v ∷ saying q.now vs) (saying q.now vs)))
    ] refl
