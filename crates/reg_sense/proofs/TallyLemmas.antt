-- Tallies, one claim at a time.
use Rattle.std.proofs.Common.{◌≡◌, ◌≤◌, ◌<◌, ◌+◌, ◌^◌, ℕ, suc, Bool, true, false, ◌&&◌, ◌||◌, cond, Option, Some, None, List, [], ◌∷◌, ◌++◌, map, length, refl, sym, ap, ◌∙◌, subst, arith, append_assoc}
use Rattle.std.proofs.lemmas.Bool.{true≢false, and_parts, eq-eqb, ne_eqb}
use Rattle.std.proofs.lemmas.List.{map-append, length-map, length-append}
use Rattle.std.proofs.lemmas.Slice.Eq.{bytes_eq-Decides}
use Rattle.std.specs.Str.{bytes_eq}
use Rattle.std.specs.List.{list_any}
use Rattle.std.specs.Ordering.{nat_cmp, is_eq}
use Rattle.std.specs.Cmp.Lexicographic.{slice_cmp, texts_ties}
use Rattle.std.proofs.lemmas.Option.{same_Some, none-some}
use Rattle.std.specs.Cmp.{tied_then}
use Rattle.crs_said.specs.Claims.{Said}
use Rattle.reg_sense.specs.declared.tally.WordAndContent.{WordAndContent}
use Rattle.reg_sense.specs.declared.tally.ClaimTally.{ClaimTally}
use Rattle.reg_sense.specs.Claimants.{Voice, is_claim}
use Rattle.reg_sense.specs.Most.{claiming, count}
use Rattle.reg_sense.specs.Tallies.{Counted, counted, with_first, tally, with_one, IsRoomy, pair_cmp}

-- keys of the map are equal if the claims are
pub same_pair : (own q : WordAndContent) (x : Said) → own.word.now ≡ x.word → own.content.now ≡ x.content → is_eq (pair_cmp own q) ≡ is_claim q.word.now q.content.now x
same_pair own q x w c =
    sym (tied_then (slice_cmp nat_cmp own.word.now q.word.now) (slice_cmp nat_cmp own.content.now q.content.now))
    ∙ (λ j. sym (texts_ties own.word.now q.word.now) j && sym (texts_ties own.content.now q.content.now) j)
    ∙ (λ j. bytes_eq (w j) q.word.now && bytes_eq (c j) q.content.now)

pub claimed_word : (w c : List ℕ) (x : Said) → is_claim w c x ≡ true → x.word ≡ w
claimed_word w c x e = (bytes_eq-Decides x.word w).0 (and_parts (bytes_eq x.word w) (bytes_eq x.content c) e).0

pub claimed_content : (w c : List ℕ) (x : Said) → is_claim w c x ≡ true → x.content ≡ c
claimed_content w c x e = (bytes_eq-Decides x.content c).0 (and_parts (bytes_eq x.word w) (bytes_eq x.content c) e).1

-- ---- numbers

module _ (w c : List ℕ) where
  abbrev has : List Said → Bool
  has xs = list_any (is_claim w c) xs

  pub count_most : (vs : List Voice) → count w c vs ≤ length vs
  count_most [] = omega arith
  count_most (v ∷ vs) = elim (has v.claims) as (λ b. length (cond b (v ∷ claiming w c vs) (claiming w c vs)) ≤ suc (length vs)) [
    | true ↦ let f = count_most vs in omega (arith, f)
    | false ↦ let f = count_most vs in omega (arith, f)
  ]

  -- what a tally says: its place is not before the first, and its voice is the first of those that it counts
  pub record Says (i : ℕ) (vs : List Voice) (t : Counted) : Type 0 where
    pub place : i ≤ t.place
    pub others : List Voice
    pub are : claiming w c vs ≡ t.first ∷ others
    pub count : t.count ≡ suc (length others)

  pub says : (i : ℕ) (vs : List Voice) (t : Counted) → tally w c i vs ≡ Some t → Says i vs t
  says i [] t e = cc
  says i (v ∷ vs) t e = elim (has v.claims) as (λ b. has v.claims ≡ b → Says i (v ∷ vs) t) [
    | true ↦ λ y.
        let is : with_first w c i v vs ≡ t = same_Some (with_first w c i v vs) t ((λ j. cond (sym y j) (Some (with_first w c i v vs)) (tally w c (suc i) vs)) ∙ e) in
        let p : i ≡ t.place = ap (λ (u : Counted). u.place) is in
        record {
          place = omega (arith, p);
          others = claiming w c vs;
          are = (λ j. cond (y j) (v ∷ claiming w c vs) (claiming w c vs)) ∙ (λ j. (is j).first ∷ claiming w c vs);
          count = sym (ap (λ (u : Counted). u.count) is);
        }
    | false ↦ λ n.
        let f = says (suc i) vs t ((λ j. cond (sym n j) (Some (with_first w c i v vs)) (tally w c (suc i) vs)) ∙ e) in
        let p = f.place in
        record { place = omega (arith, p); others = f.others; are = (λ j. cond (n j) (v ∷ claiming w c vs) (claiming w c vs)) ∙ f.are; count = f.count }
  ] refl

  counts : (i : ℕ) (vs : List Voice) (t : Counted) → tally w c i vs ≡ Some t → t.count ≡ count w c vs
  counts i vs t e = let f = says i vs t e in f.count ∙ sym (ap length f.are)

  pub nobody_claims : (i : ℕ) (vs : List Voice) → tally w c i vs ≡ None → claiming w c vs ≡ []
  nobody_claims i [] e = refl
  nobody_claims i (v ∷ vs) e = elim (has v.claims) as (λ b. has v.claims ≡ b → claiming w c (v ∷ vs) ≡ []) [
    | true ↦ λ y. absurd (none-some (with_first w c i v vs) (sym e ∙ (λ j. cond (y j) (Some (with_first w c i v vs)) (tally w c (suc i) vs))))
    | false ↦ λ n. (λ j. cond (n j) (v ∷ claiming w c vs) (claiming w c vs)) ∙ nobody_claims (suc i) vs ((λ j. cond (sym n j) (Some (with_first w c i v vs)) (tally w c (suc i) vs)) ∙ e)
  ] refl

  nobody : (i : ℕ) (vs : List Voice) → tally w c i vs ≡ None → count w c vs ≡ 0
  nobody i vs e = ap length (nobody_claims i vs e)

  -- the count of what is looked up
  abbrev pub count_in : Option Counted → ℕ
  count_in None = 0
  count_in (Some t) = t.count

  pub count_found : (vs : List Voice) (o : Option Counted) → o ≡ tally w c 0 vs → count_in o ≡ count w c vs
  count_found vs None e = sym (nobody 0 vs (sym e))
  count_found vs (Some t) e = counts 0 vs t (sym e)

  -- ---- one more claim of one at a place

  module _ (i : ℕ) (v : Voice) (vs : List Voice) where
    abbrev part : Bool → Option Counted
    part b = cond b (Some (with_first w c i v vs)) (tally w c (suc i) vs)

    fresh : (o : Option Counted) → tally w c (suc i) vs ≡ o → with_one i v o ≡ with_first w c i v vs
    fresh None e = (λ j. record { first = v; place = i; count = suc (sym (nobody (suc i) vs e) j) })
    fresh (Some t) e =
        let f = says (suc i) vs t e in
        let p = f.place in
        (λ j. cond (ne_eqb t.place i (λ q. absurd (omega (arith, p, q))) j) t (record { first = v; place = i; count = suc t.count }))
        ∙ (λ j. record { first = v; place = i; count = suc (counts (suc i) vs t e j) })

    pub one_made : (b : Bool) (o : Option Counted) → o ≡ part b → with_one i v o ≡ with_first w c i v vs
    one_made true o e = ap (with_one i v) e ∙ (λ j. cond (eq-eqb i i refl j) (with_first w c i v vs) (record { first = v; place = i; count = suc (suc (count w c vs)) }))
    one_made false o e = ap (with_one i v) e ∙ fresh (tally w c (suc i) vs) refl

    room : (o : Option Counted) → length vs + 1 < 2 ^ 64 → tally w c (suc i) vs ≡ o → IsRoomy i o
    room None few e = tt
    room (Some t) few e = λ other. let f = counts (suc i) vs t e in let g = count_most vs in omega (arith, few, f, g)

    pub one_roomy : (b : Bool) (o : Option Counted) → length vs + 1 < 2 ^ 64 → o ≡ part b → IsRoomy i o
    one_roomy true o few e = subst (IsRoomy i) (sym e) (λ other. absurd (true≢false (sym (eq-eqb i i refl) ∙ other)))
    one_roomy false o few e = subst (IsRoomy i) (sym e) (room (tally w c (suc i) vs) few refl)

-- ---- maps

module _ (i : ℕ) (v : Voice) (x : Said) (done : List Said) (vs : List Voice) (own q : WordAndContent) (made : ClaimTally) (old new : Option ClaimTally) where
  abbrev now : Bool → Option Counted
  now b = cond b (Some (with_first q.word.now q.content.now i v vs)) (tally q.word.now q.content.now (suc i) vs)

  pub put_step : own.word.now ≡ x.word → own.content.now ≡ x.content → counted (Some made) ≡ Some (with_first x.word x.content i v vs) → new ≡ cond (is_eq (pair_cmp own q)) (Some made) old
      → counted old ≡ now (list_any (is_claim q.word.now q.content.now) done) → counted new ≡ now (is_claim q.word.now q.content.now x || list_any (is_claim q.word.now q.content.now) done)
  put_step w c is put had = elim (is_claim q.word.now q.content.now x) as (λ b. is_claim q.word.now q.content.now x ≡ b → counted new ≡ now (is_claim q.word.now q.content.now x || list_any (is_claim q.word.now q.content.now) done)) [
    | true ↦ λ y.
        ap counted (put ∙ (λ j. cond ((same_pair own q x w c ∙ y) j) (Some made) old))
        ∙ is
        ∙ (λ j. Some (with_first (claimed_word q.word.now q.content.now x y j) (claimed_content q.word.now q.content.now x y j) i v vs))
        ∙ (λ j. now (sym y j || list_any (is_claim q.word.now q.content.now) done))
    | false ↦ λ n.
        ap counted (put ∙ (λ j. cond ((same_pair own q x w c ∙ n) j) (Some made) old))
        ∙ had
        ∙ (λ j. now (sym n j || list_any (is_claim q.word.now q.content.now) done))
  ] refl

-- ---- walks from the end

pub one_less : {X : Type 0} (all rest others later : List X) (x : X) → all ≡ rest ++ later → rest ≡ others ++ x ∷ [] → all ≡ others ++ (x ∷ later)
one_less all rest others later x e f = e ∙ ap (λ l. l ++ later) f ∙ append_assoc others (x ∷ []) later

pub seen_end : {X Y : Type 0} (f : X → Y) (rest others : List X) (x : X) → rest ≡ others ++ x ∷ [] → map f rest ≡ map f others ++ f x ∷ []
seen_end f rest others x e = ap (map f) e ∙ map-append f others (x ∷ [])

pub one_longer : {X : Type 0} (rest others : List X) (x : X) → rest ≡ others ++ x ∷ [] → length rest ≡ suc (length others)
one_longer rest others x e = let a = ap length e ∙ length-append others (x ∷ []) in omega (arith, a)

pub few_later : {X Y : Type 0} (f : X → Y) (all rest others : List X) (x : X) (later : List Y) → rest ≡ others ++ x ∷ [] → map f all ≡ map f rest ++ later → length all < 2 ^ 64 → length later + 1 < 2 ^ 64
few_later f all rest others x later e h few =
    let a = one_longer rest others x e in
    let b = sym (length-map all f) ∙ ap length h ∙ length-append (map f rest) later in
    let d = length-map rest f in
    omega (arith, a, b, d, few)
