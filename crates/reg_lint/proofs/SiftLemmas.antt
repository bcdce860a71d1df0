-- Claims about words for which all claim one content can be left out.
use Rattle.std.proofs.Common.{◌≡◌, ◌||◌, ◌&&◌, not, ℕ, Bool, true, false, cond, Option, Some, None, List, [], ◌∷◌, ◌++◌, length, map, filter, codes, refl, sym, ap, ◌∙◌}
use Rattle.std.proofs.lemmas.Bool.{true≢false, or_parts}
use Rattle.std.proofs.lemmas.List.{length-map}
use Rattle.std.proofs.lemmas.List.Elements.{filter-append}
use Rattle.std.proofs.lemmas.List.Folds.{list_any-append}
use Rattle.std.proofs.lemmas.Slice.Eq.{bytes_eq-Decides}
use Rattle.std.specs.Cmp.Lexicographic.{slice_cmp}
use Rattle.std.specs.List.{find, list_any}
use Rattle.std.specs.Option.{option_or}
use Rattle.std.specs.Ordering.{nat_cmp, is_lt, ordering_then}
use Rattle.std.specs.Str.{bytes_eq}
use Rattle.crs_said.specs.Claims.{Said}
use Rattle.reg_sense.specs.Claimants.{Voice, key_text, is_about, is_claim, first_told}
use Rattle.reg_sense.specs.Least.{least}
use Rattle.reg_sense.specs.Most.{claiming, count, contents, is_more, all_claims, most, otherwise, more_told, those_told, against_maybe, odd_told, told_against}
use Rattle.reg_sense.specs.Others.{is_other, first_other, other_maybe, other_told, told_other}
use Rattle.reg_lint.specs.Words.{Agree}

module _ (keep : List ℕ → Bool) where
  abbrev pub kept : Said → Bool
  kept x = keep x.word

  -- without the claims about words that are not kept
  abbrev pub sift : Voice → Voice
  sift v = record { authority = v.authority; code = v.code; name = v.name; claims = filter kept v.claims }

  -- ---- nothing that is about a word that is kept is left out

  any_kept : (p : Said → Bool) → ((x : Said) → keep x.word ≡ false → p x ≡ false) → (xs : List Said) → list_any p (filter kept xs) ≡ list_any p xs
  any_kept p only [] = refl
  any_kept p only (x ∷ xs) = elim (keep x.word) as (λ b. keep x.word ≡ b → list_any p (filter kept (x ∷ xs)) ≡ list_any p (x ∷ xs)) [
    | true ↦ λ t. (λ j. list_any p (cond (t j) (x ∷ filter kept xs) (filter kept xs))) ∙ ap (λ b. p x || b) (any_kept p only xs)
    | false ↦ λ f. (λ j. list_any p (cond (f j) (x ∷ filter kept xs) (filter kept xs))) ∙ any_kept p only xs ∙ (λ j. sym (only x f) j || list_any p xs)
  ] refl

  all_sifted : (vs : List Voice) → all_claims (map sift vs) ≡ filter kept (all_claims vs)
  all_sifted [] = refl
  all_sifted (v ∷ vs) = ap (λ l. filter kept v.claims ++ l) (all_sifted vs) ∙ sym (filter-append kept v.claims (all_claims vs))

  module _ (w : List ℕ) (k : keep w ≡ true) where
    only_about : (x : Said) → keep x.word ≡ false → is_about w x ≡ false
    only_about x f = elim (is_about w x) as (λ b. is_about w x ≡ b → is_about w x ≡ false) [
      | true ↦ λ t. absurd (true≢false (sym k ∙ ap keep (sym ((bytes_eq-Decides x.word w).0 t)) ∙ f))
      | false ↦ λ n. n
    ] refl

    claiming_sifted : (c : List ℕ) (vs : List Voice) → claiming w c (map sift vs) ≡ map sift (claiming w c vs)
    claiming_sifted c [] = refl
    claiming_sifted c (v ∷ vs) =
        (λ j. cond (any_kept (is_claim w c) (λ x f i. only_about x f i && bytes_eq x.content c) v.claims j) (sift v ∷ claiming w c (map sift vs)) (claiming w c (map sift vs)))
        ∙ elim (list_any (is_claim w c) v.claims) as (λ b. cond b (sift v ∷ claiming w c (map sift vs)) (claiming w c (map sift vs)) ≡ map sift (cond b (v ∷ claiming w c vs) (claiming w c vs))) [
          | true ↦ ap (λ l. sift v ∷ l) (claiming_sifted c vs)
          | false ↦ claiming_sifted c vs
        ]

    count_sifted : (c : List ℕ) (vs : List Voice) → count w c (map sift vs) ≡ count w c vs
    count_sifted c vs = ap length (claiming_sifted c vs) ∙ length-map (claiming w c vs) sift

    those_sifted : (c : List ℕ) (vs : List Voice) → those_told (claiming w c (map sift vs)) ≡ those_told (claiming w c vs)
    those_sifted c vs = ap those_told (claiming_sifted c vs) ∙ alike (claiming w c vs)
      where
        alike : (us : List Voice) → those_told (map sift us) ≡ those_told us
        alike [] = refl
        alike (u ∷ us) = ap (λ n. key_text u ++ more_told n) (length-map us sift)

    about_sifted : (xs : List Said) → filter (is_about w) (filter kept xs) ≡ filter (is_about w) xs
    about_sifted [] = refl
    about_sifted (x ∷ xs) = elim (keep x.word) as (λ b. keep x.word ≡ b → filter (is_about w) (filter kept (x ∷ xs)) ≡ filter (is_about w) (x ∷ xs)) [
      | true ↦ λ t.
          (λ j. filter (is_about w) (cond (t j) (x ∷ filter kept xs) (filter kept xs)))
          ∙ (λ j. cond (is_about w x) (x ∷ about_sifted xs j) (about_sifted xs j))
      | false ↦ λ f.
          (λ j. filter (is_about w) (cond (f j) (x ∷ filter kept xs) (filter kept xs)))
          ∙ about_sifted xs
          ∙ (λ j. cond (sym (only_about x f) j) (x ∷ filter (is_about w) xs) (filter (is_about w) xs))
    ] refl

    contents_sifted : (vs : List Voice) → contents w (all_claims (map sift vs)) ≡ contents w (all_claims vs)
    contents_sifted vs =
        ap (λ (xs : List Said). map (λ (x : Said). x.content) (filter (is_about w) xs)) (all_sifted vs)
        ∙ ap (map (λ (x : Said). x.content)) (about_sifted (all_claims vs))

    most_sifted : (vs : List Voice) → most (map sift vs) w ≡ most vs w
    most_sifted vs = λ j. least (λ c d. is_lt (ordering_then (nat_cmp (count_sifted d vs j) (count_sifted c vs j)) (slice_cmp nat_cmp c d))) (contents_sifted vs j)

    -- who claims another content for it
    maybe_sifted : (c : List ℕ) (vs : List Voice) → other_maybe (first_other (map sift vs) w c) ≡ other_maybe (first_other vs w c)
    maybe_sifted c [] = refl
    maybe_sifted c (v ∷ vs) =
        (λ j. other_maybe (cond (any_kept (is_other w c) (λ x f i. only_about x f i && not (bytes_eq x.content c)) v.claims j) (Some (sift v)) (first_other (map sift vs) w c)))
        ∙ elim (list_any (is_other w c) v.claims) as (λ b. other_maybe (cond b (Some (sift v)) (first_other (map sift vs) w c)) ≡ other_maybe (cond b (Some v) (first_other vs w c))) [
          | true ↦ refl
          | false ↦ maybe_sifted c vs
        ]

  odd_sifted : (vs : List Voice) (x : Said) → keep x.word ≡ true → odd_told (map sift vs) x ≡ odd_told vs x
  odd_sifted vs x k =
      (λ j. against_maybe (map sift vs) x (otherwise (most_sifted x.word k vs j) x.content))
      ∙ alike (otherwise (most vs x.word) x.content)
    where
      alike : (o : Option (List ℕ)) → against_maybe (map sift vs) x o ≡ against_maybe vs x o
      alike None = refl
      alike (Some m) = ap (λ t. Some (x.said ++ (codes " in " ++ t))) (those_sifted x.word k m vs)

-- ---- a word for which all claim one content

true_of : (b : Bool) → not b ≡ false → b ≡ true
true_of true e = refl
true_of false e = absurd (true≢false e)

module _ (w c : List ℕ) where
  found_agreed : (p : List ℕ → Bool) (xs : List Said) → list_any (is_other w c) xs ≡ false → otherwise (find p (contents w xs)) c ≡ None
  found_agreed p [] e = refl
  found_agreed p (x ∷ xs) e =
      let parts = or_parts (is_other w c x) (list_any (is_other w c) xs) e in
      let later = found_agreed p xs parts.1 in
      elim (is_about w x) as (λ b. is_about w x ≡ b → otherwise (find p (contents w (x ∷ xs))) c ≡ None) [
        | true ↦ λ t.
            let same : bytes_eq x.content c ≡ true = true_of (bytes_eq x.content c) ((λ j. sym t j && not (bytes_eq x.content c)) ∙ parts.0) in
            (λ j. otherwise (find p (map (λ (z : Said). z.content) (cond (t j) (x ∷ filter (is_about w) xs) (filter (is_about w) xs)))) c)
            ∙ elim (p x.content) as (λ b. otherwise (cond b (Some x.content) (find p (contents w xs))) c ≡ None) [
              | true ↦ λ j. cond (same j) None (Some x.content)
              | false ↦ later
            ]
        | false ↦ λ n.
            (λ j. otherwise (find p (map (λ (z : Said). z.content) (cond (n j) (x ∷ filter (is_about w) xs) (filter (is_about w) xs)))) c)
            ∙ later
      ] refl

  nobody : (vs : List Voice) → list_any (is_other w c) (all_claims vs) ≡ false → first_other vs w c ≡ None
  nobody [] e = refl
  nobody (v ∷ vs) e =
      let parts = or_parts (list_any (is_other w c) v.claims) (list_any (is_other w c) (all_claims vs)) (sym (list_any-append (is_other w c) v.claims (all_claims vs)) ∙ e) in
      (λ j. cond (parts.0 j) (Some v) (first_other vs w c)) ∙ nobody vs parts.1

-- a claim that is one of them
itself : (x : Said) (c : List ℕ) → is_other x.word c x ≡ false → x.content ≡ c
itself x c n =
    (bytes_eq-Decides x.content c).0
    (true_of (bytes_eq x.content c) ((λ j. sym ((bytes_eq-Decides x.word x.word).1 refl) j && not (bytes_eq x.content c)) ∙ n))

none_odd : (vs : List Voice) (x : Said) (c : List ℕ) → is_other x.word c x ≡ false → list_any (is_other x.word c) (all_claims vs) ≡ false → odd_told vs x ≡ None
none_odd vs x c n e =
    ap (against_maybe vs x) (
    (λ j. otherwise (most vs x.word) (itself x c n j))
    ∙ found_agreed x.word c (λ d. not (list_any (λ y. is_more vs x.word y d) (contents x.word (all_claims vs)))) (all_claims vs) e
    )

none_other : (vs : List Voice) (x : Said) (c : List ℕ) → is_other x.word c x ≡ false → list_any (is_other x.word c) (all_claims vs) ≡ false → other_told vs x ≡ None
none_other vs x c n e = (λ j. other_maybe (first_other vs x.word (itself x c n j))) ∙ ap other_maybe (nobody x.word c vs e)

-- ---- the sentences

module _ (keep : List ℕ → Bool) (vs : List Voice) (agreed : (w : List ℕ) → keep w ≡ false → Agree (all_claims vs) w) where
  -- these are some of the claims
  abbrev Within : List Said → Type 0
  Within xs = (w : List ℕ) (n : keep w ≡ false) → list_any (is_other w (agreed w n).0) xs ≡ false

  module _ (f g : Said → Option (List ℕ)) (same : (x : Said) → keep x.word ≡ true → f x ≡ g x)
      (none : (x : Said) (n : keep x.word ≡ false) → is_other x.word (agreed x.word n).0 x ≡ false → g x ≡ None) where
    first_sifted : (xs : List Said) → Within xs → first_told f (filter (kept keep) xs) ≡ first_told g xs
    first_sifted [] within = refl
    first_sifted (x ∷ xs) within =
        let later = first_sifted xs (λ w n. (or_parts (is_other w (agreed w n).0 x) (list_any (is_other w (agreed w n).0) xs) (within w n)).1) in
        elim (keep x.word) as (λ b. keep x.word ≡ b → first_told f (filter (kept keep) (x ∷ xs)) ≡ first_told g (x ∷ xs)) [
          | true ↦ λ t.
              (λ j. first_told f (cond (t j) (x ∷ filter (kept keep) xs) (filter (kept keep) xs)))
              ∙ (λ j. option_or (same x t j) (later j))
          | false ↦ λ n.
              (λ j. first_told f (cond (n j) (x ∷ filter (kept keep) xs) (filter (kept keep) xs)))
              ∙ later
              ∙ (λ j. option_or (sym (none x n (or_parts (is_other x.word (agreed x.word n).0 x) (list_any (is_other x.word (agreed x.word n).0) xs) (within x.word n)).0) j) (first_told g xs))
        ] refl

    all_told : (us : List Voice) → Within (all_claims us) → map (λ (u : Voice). first_told f u.claims) (map (sift keep) us) ≡ map (λ (u : Voice). first_told g u.claims) us
    all_told [] within = refl
    all_told (u ∷ us) within =
        let split = λ (w : List ℕ) (n : keep w ≡ false).
        or_parts (list_any (is_other w (agreed w n).0) u.claims) (list_any (is_other w (agreed w n).0) (all_claims us))
        (sym (list_any-append (is_other w (agreed w n).0) u.claims (all_claims us)) ∙ within w n) in
        λ j. first_sifted u.claims (λ w n. (split w n).0) j ∷ all_told us (λ w n. (split w n).1) j

  pub against_sifted : map (told_against (map (sift keep) vs)) (map (sift keep) vs) ≡ map (told_against vs) vs
  against_sifted = all_told (odd_told (map (sift keep) vs)) (odd_told vs) (odd_sifted keep vs)
      (λ x n o. none_odd vs x (agreed x.word n).0 o (agreed x.word n).1) vs (λ w n. (agreed w n).1)

  pub others_sifted : map (told_other (map (sift keep) vs)) (map (sift keep) vs) ≡ map (told_other vs) vs
  others_sifted = all_told (other_told (map (sift keep) vs)) (other_told vs) (λ x k. maybe_sifted keep x.word k x.content vs)
      (λ x n o. none_other vs x (agreed x.word n).0 o (agreed x.word n).1) vs (λ w n. (agreed w n).1)

-- ---- claims that are all kept

module _ (keep : List ℕ → Bool) where
  all_kept : (xs : List Said) → ((w : List ℕ) → keep w ≡ false → list_any (is_about w) xs ≡ false) → filter (kept keep) xs ≡ xs
  all_kept [] absent = refl
  all_kept (x ∷ xs) absent =
      let later = all_kept xs (λ w n. (or_parts (is_about w x) (list_any (is_about w) xs) (absent w n)).1) in
      elim (keep x.word) as (λ b. keep x.word ≡ b → filter (kept keep) (x ∷ xs) ≡ x ∷ xs) [
        | true ↦ λ t. (λ j. cond (t j) (x ∷ filter (kept keep) xs) (filter (kept keep) xs)) ∙ ap (λ l. x ∷ l) later
        | false ↦ λ n.
            absurd (true≢false (sym ((bytes_eq-Decides x.word x.word).1 refl) ∙ (or_parts (is_about x.word x) (list_any (is_about x.word) xs) (absent x.word n)).0))
      ] refl

  pub sift_all : (vs : List Voice) → ((w : List ℕ) → keep w ≡ false → list_any (is_about w) (all_claims vs) ≡ false) → map (sift keep) vs ≡ vs
  sift_all [] absent = refl
  sift_all (v ∷ vs) absent =
      let split = λ (w : List ℕ) (n : keep w ≡ false).
      or_parts (list_any (is_about w) v.claims) (list_any (is_about w) (all_claims vs)) (sym (list_any-append (is_about w) v.claims (all_claims vs)) ∙ absent w n) in
      λ j. (record { authority = v.authority; code = v.code; name = v.name; claims = all_kept v.claims (λ w n. (split w n).0) j }) ∷ sift_all vs (λ w n. (split w n).1) j
