-- Those who say another thing, one claim at a time.
use Rattle.std.proofs.Common.{◌≡◌, ◌&&◌, ◌||◌, not, ℕ, Bool, true, false, cond, Option, Some, List, [], refl, sym, ap, ◌∙◌}
use Rattle.std.proofs.lemmas.Slice.Eq.{bytes_eq-Decides}
use Rattle.std.specs.Borrow.{Bor}
use Rattle.std.specs.Cmp.Lexicographic.{texts_ties}
use Rattle.std.specs.List.{list_any}
use Rattle.std.specs.Ordering.{is_eq}
use Rattle.std.specs.Str.{bytes_eq}
use Rattle.crs_said.specs.Claims.{Said}
use Rattle.reg_sense.specs.declared.others.Sides.{Sides}
use Rattle.reg_sense.specs.Claimants.{Voice, voice, is_about}
use Rattle.reg_sense.specs.Others.{is_other, first_other, apart}
use Rattle.reg_sense.specs.Tallies.{bytes_cmp}
use Rattle.reg_sense.specs.Twins.{voice_in}

module _ (v : Voice) (x : Said) (done : List Said) (vs : List Voice) (own : Bor (List ℕ)) (made : Sides) (q : Bor (List ℕ)) (c : List ℕ) (old new : Option Sides) where
  abbrev part : List ℕ → List ℕ → Option Voice
  part w d = cond (list_any (is_other w d) done) (Some v) (first_other vs w d)

  abbrev then_part : Bool → Option Voice
  then_part b = cond (b || list_any (is_other q.now c) done) (Some v) (first_other vs q.now c)

  -- what is looked up once the claim is put
  of_made : voice made.first.now ≡ v → made.content.now ≡ x.content → voice_in made.other ≡ part x.word x.content → x.word ≡ q.now → apart c (Some made) ≡ then_part (not (bytes_eq x.content c))
  of_made first content other here = elim (bytes_eq x.content c) as (λ b. bytes_eq x.content c ≡ b → apart c (Some made) ≡ then_part (not (bytes_eq x.content c))) [
    | true ↦ λ s.
        let same : x.content ≡ c = (bytes_eq-Decides x.content c).0 s in
        (λ j. cond (((λ i. bytes_eq (content i) c) ∙ s) j) (voice_in made.other) (Some (voice made.first.now)))
        ∙ other
        ∙ (λ j. part (here j) (same j))
        ∙ (λ j. then_part (not (sym s j)))
    | false ↦ λ d.
        (λ j. cond (((λ i. bytes_eq (content i) c) ∙ d) j) (voice_in made.other) (Some (voice made.first.now)))
        ∙ ap Some first
        ∙ (λ j. then_part (not (sym d j)))
  ] refl

  pub side_step : own.now ≡ x.word → voice made.first.now ≡ v → made.content.now ≡ x.content → voice_in made.other ≡ part x.word x.content
      → new ≡ cond (is_eq (bytes_cmp own q)) (Some made) old → apart c old ≡ part q.now c → apart c new ≡ then_part (is_other q.now c x)
  side_step w first content other put had = elim (is_about q.now x) as (λ b. is_about q.now x ≡ b → apart c new ≡ then_part (is_other q.now c x)) [
    | true ↦ λ y.
        ap (apart c) (put ∙ (λ j. cond ((sym (texts_ties own.now q.now) ∙ (λ i. bytes_eq (w i) q.now) ∙ y) j) (Some made) old))
        ∙ of_made first content other ((bytes_eq-Decides x.word q.now).0 y)
        ∙ (λ j. then_part (sym y j && not (bytes_eq x.content c)))
    | false ↦ λ n.
        ap (apart c) (put ∙ (λ j. cond ((sym (texts_ties own.now q.now) ∙ (λ i. bytes_eq (w i) q.now) ∙ n) j) (Some made) old))
        ∙ had
        ∙ (λ j. then_part (sym n j && not (bytes_eq x.content c)))
  ] refl
