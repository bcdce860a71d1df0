-- Words for which more than one content is claimed, one claim at a time.
use Rattle.std.proofs.Common.{◌≡◌, ◌||◌, ◌&&◌, not, ℕ, Bool, true, false, cond, Option, Some, None, List, [], ◌∷◌, ◌++◌, length, map, refl, sym, ap, ◌∙◌, subst, arith}
use Rattle.std.proofs.lemmas.Bool.{true≢false, or_parts, or_from}
use Rattle.std.proofs.lemmas.Bool.Decides.{same_from_decides}
use Rattle.std.proofs.lemmas.List.{append_assoc, append-nil}
use Rattle.std.proofs.lemmas.List.Folds.{list_any-append}
use Rattle.std.proofs.lemmas.Slice.Eq.{bytes_eq-Decides}
use Rattle.std.specs.BTreeMap.{BTreeMap, is_at, Updates}
use Rattle.std.specs.BTreeSet.{contains_by}
use Rattle.std.specs.Cmp.Lexicographic.{slice_cmp, texts_ties}
use Rattle.std.specs.Global.{Vec}
use Rattle.std.specs.List.{list_any}
use Rattle.std.specs.Map.{KeepsOthers}
use Rattle.std.specs.Ordering.{nat_cmp}
use Rattle.std.specs.Str.{bytes_eq}
use Rattle.std.specs.declared.cmp.Ordering.{Ordering}
use Rattle.crs_said.specs.declared.claim.Claim.{Claim}
use Rattle.crs_said.specs.Claims.{Said, claim_seen}
use Rattle.reg_sense.specs.Claimants.{is_about}
use Rattle.reg_sense.specs.Others.{is_other}
use Rattle.reg_lint.specs.declared.words.Words.{Words}
use Rattle.reg_lint.specs.declared.words.Standing.{Standing}
use Rattle.reg_lint.specs.declared.words.Standing.TheVariants as standing
use Rattle.reg_lint.specs.Known.{is_same}
use Rattle.reg_lint.specs.Words.{first_content, is_disputed, beside, first_put, Fits, HaveHeard, PutsFirst, PutsDisputed, Agree}

-- ---- the same word

same_is : (a b : List ℕ) → is_same a b ≡ true → a ≡ b
same_is a b e = (bytes_eq-Decides a b).0 (texts_ties a b ∙ e)

is_same_of : (a b : List ℕ) → a ≡ b → is_same a b ≡ true
is_same_of a b e = sym (texts_ties a b) ∙ (bytes_eq-Decides a b).1 e

about_same : (w word : List ℕ) → bytes_eq word w ≡ is_same w word
about_same w word = same_from_decides (bytes_eq word w) (is_same w word) (bytes_eq-Decides word w) ((λ e. sym (same_is w word e)), (λ e. is_same_of w word (sym e)))

-- ---- the map

abbrev bytes_cmp : Vec ℕ → Vec ℕ → Ordering
bytes_cmp a b = slice_cmp nat_cmp a.items b.items

abbrev at : List ℕ → Vec ℕ → Bool
at w k = is_at (λ (q : Vec ℕ). slice_cmp nat_cmp w q.items) k

at_another : (w word : List ℕ) → is_same w word ≡ false → (k : Vec ℕ) → is_same word k.items ≡ true → at w k ≡ false
at_another w word n k here = elim (at w k) as (λ b. at w k ≡ b → at w k ≡ false) [
  | true ↦ λ t. absurd (true≢false (sym (is_same_of w word (same_is w k.items t ∙ sym (same_is word k.items here))) ∙ n))
  | false ↦ λ f. f
] refl

pub first_after : (old new : BTreeMap (Vec ℕ) (Vec ℕ)) (word content : Vec ℕ) → Updates bytes_cmp old new word (Some content)
    → (w : List ℕ) → first_content new w ≡ first_put w word.items content (first_content old w)
unfolding KeepsOthers
first_after old new word content (each, here, apart, others) w =
    elim (is_same w word.items) as (λ b. is_same w word.items ≡ b → first_content new w ≡ cond b (Some content) (first_content old w)) [
      | true ↦ λ e. ap (first_content new) (same_is w word.items e) ∙ here
      | false ↦ λ n. others (at w) (λ x y t. ap (λ q. is_same q y.items) (same_is w x.items t)) (λ k t. at_another w word.items n k t)
    ] refl

-- ---- one more claim

any_more : (f : Said → Bool) (xs : List Said) (x : Said) → list_any f xs ≡ false → f x ≡ false → list_any f (xs ++ x ∷ []) ≡ false
any_more f xs x e n = list_any-append f xs (x ∷ []) ∙ or_from (list_any f xs) (f x || false) e (or_from (f x) false n refl)

-- about another word
fits_another : (w : List ℕ) (xs : List Said) (x : Said) (o : Option (Vec ℕ)) → is_about w x ≡ false → Fits w xs o → Fits w (xs ++ x ∷ []) o
fits_another w xs x None n fits = any_more (is_about w) xs x fits n
fits_another w xs x (Some c) n fits = any_more (is_other w c.items) xs x fits (λ j. n j && not (bytes_eq x.content c.items))

-- the same content
fits_same : (w : List ℕ) (xs : List Said) (x : Said) (c : Vec ℕ) → x.content ≡ c.items → Fits w xs (Some c) → Fits w (xs ++ x ∷ []) (Some c)
fits_same w xs x c e fits = any_more (is_other w c.items) xs x fits (alike (is_about w x))
  where
    alike : (b : Bool) → (b && not (bytes_eq x.content c.items)) ≡ false
    alike true = ap not ((bytes_eq-Decides x.content c.items).1 e)
    alike false = refl

-- the first content of its word
fits_first : (w : List ℕ) (xs : List Said) (x : Said) (c : Vec ℕ) → x.content ≡ c.items → Fits w xs None → Fits w (xs ++ x ∷ []) (Some c)
fits_first w xs x c e fits = fits_same w xs x c e (none xs fits)
  where
    none : (ys : List Said) → list_any (is_about w) ys ≡ false → list_any (is_other w c.items) ys ≡ false
    none [] f = refl
    none (y ∷ ys) f =
        let p = or_parts (is_about w y) (list_any (is_about w) ys) f in
        or_from (is_other w c.items y) (list_any (is_other w c.items) ys) (λ j. p.0 j && not (bytes_eq y.content c.items)) (none ys p.1)

-- ---- what is reported of a claim beside the first one

abbrev is_first : Standing → Bool
is_first standing.First = true
is_first standing.Same = false
is_first standing.Other = false

abbrev is_alike : Standing → Bool
is_alike standing.First = false
is_alike standing.Same = true
is_alike standing.Other = false

none_first : (o : Option (Vec ℕ)) (c : List ℕ) → is_first (beside o c) ≡ true → o ≡ None
none_first None c e = refl
none_first (Some d) c e = absurd (true≢false (sym e ∙ by (bytes_eq d.items c)))
  where
    by : (b : Bool) → is_first (cond b standing.Same standing.Other) ≡ false
    by true = refl
    by false = refl

alike_content : (o : Option (Vec ℕ)) (c : List ℕ) → is_alike (beside o c) ≡ true → (d : Vec ℕ) × (o ≡ Some d) × (c ≡ d.items)
alike_content None c e = absurd (true≢false (sym e))
alike_content (Some d) c e = elim (bytes_eq d.items c) as (λ b. bytes_eq d.items c ≡ b → (f : Vec ℕ) × (Some d ≡ Some f) × (c ≡ f.items)) [
  | true ↦ λ t. (d, refl, sym ((bytes_eq-Decides d.items c).0 t))
  | false ↦ λ f. absurd (true≢false (sym e ∙ (λ j. is_alike (cond (f j) standing.Same standing.Other))))
] refl

module _ (xs : List Said) (x : Said) (old new : Words) (had : HaveHeard old xs) where
  pub heard_first : beside (first_content old.firsts x.word) x.content ≡ standing.First → PutsFirst x old new → HaveHeard new (xs ++ x ∷ [])
  heard_first is (c, f, same, put) w free =
      let before : Fits w xs (first_content old.firsts w) = had w ((λ j. contains_by (λ (k : Vec ℕ). slice_cmp nat_cmp w k.items) (sym same j)) ∙ free) in
      subst (Fits w (xs ++ x ∷ [])) (sym (put w))
      (elim (is_same w x.word) as (λ b. is_same w x.word ≡ b → Fits w (xs ++ x ∷ []) (cond b (Some c) (first_content old.firsts w))) [
        | true ↦ λ t.
            fits_first w xs x c (sym f)
            (subst (Fits w xs) (ap (first_content old.firsts) (same_is w x.word t) ∙ none_first (first_content old.firsts x.word) x.content (ap is_first is)) before)
        | false ↦ λ n. fits_another w xs x (first_content old.firsts w) (about_same w x.word ∙ n) before
      ] refl)

  pub heard_same : beside (first_content old.firsts x.word) x.content ≡ standing.Same → new ≡ old → HaveHeard new (xs ++ x ∷ [])
  heard_same is e = subst (λ (words : Words). HaveHeard words (xs ++ x ∷ [])) (sym e) (λ w free.
      elim (is_about w x) as (λ b. is_about w x ≡ b → Fits w (xs ++ x ∷ []) (first_content old.firsts w)) [
        | true ↦ λ t.
            let a = alike_content (first_content old.firsts x.word) x.content (ap is_alike is) in
            let here : first_content old.firsts w ≡ Some a.0 = ap (first_content old.firsts) (sym ((bytes_eq-Decides x.word w).0 t)) ∙ a.1 in
            subst (Fits w (xs ++ x ∷ [])) (sym here) (fits_same w xs x a.0 a.2 (subst (Fits w xs) here (had w free)))
        | false ↦ λ n. fits_another w xs x (first_content old.firsts w) n (had w free)
      ] refl)

  pub heard_other : PutsDisputed x.word old new → HaveHeard new (xs ++ x ∷ [])
  heard_other (same, put) w free =
      let p = or_parts (is_same w x.word) (is_disputed old w) (sym (put w) ∙ free) in
      subst (λ o. Fits w (xs ++ x ∷ []) (first_content o w)) (sym same)
      (fits_another w xs x (first_content old.firsts w) (about_same w x.word ∙ p.0) (had w p.1))

-- ---- many claims

-- claims were heard, and the rest follows them
abbrev pub Goes : Words → Words → List Claim → List Claim → Type 0
Goes first now all rest = (xs : List Said) → HaveHeard first xs → (ys : List Said) × HaveHeard now ys × (ys ++ map claim_seen rest ≡ xs ++ map claim_seen all)

pub goes_on : (first old new : Words) (all rest others : List Claim) (claim : Claim) → rest ≡ claim ∷ others
    → ((ys : List Said) → HaveHeard old ys → HaveHeard new (ys ++ claim_seen claim ∷ [])) → Goes first old all rest → Goes first new all others
goes_on first old new all rest others claim r hears goes xs had =
    let g = goes xs had in
    (g.0 ++ claim_seen claim ∷ [], hears g.0 g.1, append_assoc g.0 (claim_seen claim ∷ []) (map claim_seen others) ∙ ap (λ l. g.0 ++ map claim_seen l) (sym r) ∙ g.2)

pub all_heard : (first now : Words) (all rest : List Claim) → length rest ≡ 0 → Goes first now all rest → (xs : List Said) → HaveHeard first xs → HaveHeard now (xs ++ map claim_seen all)
all_heard first now all [] e goes xs had = let g = goes xs had in subst (HaveHeard now) (sym (append-nil g.0) ∙ g.2) g.1
all_heard first now all (c ∷ cs) e goes xs had = absurd (omega (arith, e))

-- ---- in the end

pub agreed : (w : List ℕ) (xs : List Said) (o : Option (Vec ℕ)) → Fits w xs o → Agree xs w
agreed w xs None fits = ([], none xs fits)
  where
    none : (ys : List Said) → list_any (is_about w) ys ≡ false → list_any (is_other w []) ys ≡ false
    none [] f = refl
    none (y ∷ ys) f =
        let p = or_parts (is_about w y) (list_any (is_about w) ys) f in
        or_from (is_other w [] y) (list_any (is_other w []) ys) (λ j. p.0 j && not (bytes_eq y.content [])) (none ys p.1)
agreed w xs (Some c) fits = (c.items, fits)
