-- The text of a node, run by run.
use Rattle.std.proofs.Common.{◌≡◌, ℕ, List, [], ◌∷◌, ◌++◌, refl, sym, ap, ◌∙◌, append_assoc, append-nil, map, true, Bool}
use Rattle.std.proofs.lemmas.Bool.{and_parts}
use Rattle.std.proofs.lemmas.List.{map-append}
use Rattle.std.specs.Prelude.{None, Some}
use Rattle.std.specs.List.{list_all}
use Rattle.wkt_grammar.specs.Bare.{Bare, bares}
use Rattle.wkt_grammar.specs.declared.table.Keyword.{Keyword}
use Rattle.wkt_grammar.specs.Words.{spelling}
use Rattle.wkt_grammar.specs.Render.{render, render_behind}
use Rattle.wkt_grammar.specs.Trees.{one, joined, branch}
use Rattle.wkt_canonical.specs.Reads.{beginning, opening, behind, ReadsFirst, ReadsOne, ReadsMaybe, ReadsEach, ReadsSome, ReadsInside, ReadsWithin}

behind_append : (xs ys : List Bare) → render_behind (bares (xs ++ ys)) ≡ render_behind (bares xs) ++ render_behind (bares ys)
behind_append [] ys = refl
behind_append (x ∷ xs) ys =
    ap (λ (l : List ℕ). 44 ∷ l) (ap (λ l. render x ++ l) (behind_append xs ys) ∙ sym (append_assoc (render x) (render_behind (bares xs)) (render_behind (bares ys))))

-- the text continues with these runs of arguments and the closing delimiter
pub record Goes (runs : List (List Bare)) (text rest : List ℕ) : Type 0 where
  pub is : text ≡ behind (joined runs) ++ 93 ∷ rest

pub closed : {text rest : List ℕ} → text ≡ 93 ∷ rest → Goes [] text rest
unfolding behind
closed e = record { is = e }

pub also : {text mid rest : List ℕ} (run : List Bare) (runs : List (List Bare)) → text ≡ behind run ++ mid → Goes runs mid rest → Goes (run ∷ runs) text rest
unfolding behind
also {text} {mid} {rest} run runs e g = record {
  is = e ∙ (ap (λ l. behind run ++ l) g.is
      ∙ (sym (append_assoc (behind run) (behind (joined runs)) (93 ∷ rest))
      ∙ ap (λ l. l ++ 93 ∷ rest) (sym (behind_append run (joined runs)))));
}

-- the opening of a node, its first argument, its other runs and its closing delimiter are a further argument
pub whole : {text mid rest : List ℕ} (keyword : Keyword) (x : Bare) (runs : List (List Bare)) → text ≡ render x ++ mid → Goes runs mid rest → opening keyword ++ text ≡ behind (one (branch keyword (one x ∷ runs))) ++ rest
unfolding behind
whole {text} {mid} {rest} keyword x runs e g =
    let k = spelling keyword in
    let b = render_behind (bares (joined runs)) in
    let regroup : (44 ∷ (k ++ 91 ∷ [])) ++ (render x ++ (b ++ 93 ∷ rest)) ≡ (44 ∷ ((k ++ (91 ∷ ((render x ++ b) ++ 93 ∷ []))) ++ [])) ++ rest = simp (append_assoc, append-nil) in
    ap (λ l. (44 ∷ (k ++ 91 ∷ [])) ++ l) (e ∙ ap (λ l. render x ++ l) g.is) ∙ regroup

-- the same for the root, which has no comma before it
pub root : {text mid rest : List ℕ} (keyword : Keyword) (x : Bare) (runs : List (List Bare)) → text ≡ render x ++ mid → Goes runs mid rest → beginning keyword ++ text ≡ render (branch keyword (one x ∷ runs)) ++ rest
unfolding behind
root {text} {mid} {rest} keyword x runs e g =
    let k = spelling keyword in
    let b = render_behind (bares (joined runs)) in
    let regroup : (k ++ 91 ∷ []) ++ (render x ++ (b ++ 93 ∷ rest)) ≡ (k ++ (91 ∷ ((render x ++ b) ++ 93 ∷ []))) ++ rest = simp append_assoc in
    ap (λ l. (k ++ 91 ∷ []) ++ l) (e ∙ ap (λ l. render x ++ l) g.is) ∙ regroup

-- ---- arguments after their commas

pub behind_comma_is : {text inside : List ℕ} (x : Bare) (rest : List ℕ) → text ≡ 44 ∷ inside → inside ≡ render x ++ rest → text ≡ behind (one x) ++ rest
unfolding behind
behind_comma_is {text} {inside} x rest e r =
    let regroup : 44 ∷ (render x ++ rest) ≡ (44 ∷ (render x ++ [])) ++ rest = simp append-nil in
    e ∙ (ap (λ (l : List ℕ). 44 ∷ l) r ∙ regroup)

pub no_run : (text : List ℕ) → text ≡ behind [] ++ text
unfolding behind
no_run text = refl

pub two_runs : {text mid : List ℕ} (xs ys : List Bare) (rest : List ℕ) → text ≡ behind xs ++ mid → mid ≡ behind ys ++ rest → text ≡ behind (xs ++ ys) ++ rest
unfolding behind
two_runs {text} {mid} xs ys rest e f =
    e ∙ (ap (λ l. render_behind (bares xs) ++ l) f
    ∙ (sym (append_assoc (render_behind (bares xs)) (render_behind (bares ys)) rest) ∙ ap (λ l. l ++ rest) (sym (behind_append xs ys))))

pub behind_comma : {A : Type 0} (test : A → Bool) (tree : A → Bare) {text inside rest : List ℕ} → text ≡ 44 ∷ inside → ReadsFirst test tree inside rest → ReadsOne test tree text rest
behind_comma test tree e r = record { value = r.value; passes = r.passes; is = behind_comma_is (tree r.value) _ e r.is }

-- ---- nodes that are required, and nodes that are optional

pub came : {A : Type 0} (test : A → Bool) (tree : A → Bare) {keyword own : Keyword} {text inside rest : List ℕ} → text ≡ opening keyword ++ inside → keyword ≡ own → ReadsInside test tree own inside rest → ReadsOne test tree text rest
came test tree {inside = inside} e o r = record { value = r.value; passes = r.passes; is = e ∙ (ap (λ k. opening k ++ inside) o ∙ r.is) }

-- a node that is there is also an optional node
pub maybe_came : {A : Type 0} (test : A → Bool) (tree : A → Bare) {text rest : List ℕ} → ReadsOne test tree text rest → ReadsMaybe test tree text rest
maybe_came test tree r = record { value = Some r.value; passes = r.passes; is = r.is }

pub came_within : {A : Type 0} (test : A → Bool) (tree : Keyword → A → Bare) (keyword : Keyword) {text inside rest : List ℕ} → text ≡ opening keyword ++ inside → ReadsWithin test tree inside rest → ReadsOne test (tree keyword) text rest
came_within test tree keyword e r = record { value = r.value; passes = r.passes; is = e ∙ r.is keyword }

pub none_came : {A : Type 0} (test : A → Bool) (tree : A → Bare) (text : List ℕ) → ReadsMaybe test tree text text
unfolding behind
none_came test tree text = record { value = None; passes = refl; is = refl }

pub none_yet : {A : Type 0} (test : A → Bool) (tree : A → Bare) (text : List ℕ) → ReadsEach test tree text text
unfolding behind
none_yet test tree text = record { values = []; passes = refl; is = refl }

passed_more : {A : Type 0} (test : A → Bool) (vs : List A) (v : A) → list_all test vs ≡ true → test v ≡ true → list_all test (vs ++ v ∷ []) ≡ true
passed_more test [] v h p = rw p refl
passed_more test (w ∷ vs) v h p = let b = and_parts (test w) (list_all test vs) h in rw b.0 (passed_more test vs v b.1 p)

pub one_more : {A : Type 0} (test : A → Bool) (tree : A → Bare) {text mid rest : List ℕ} → ReadsEach test tree text mid → ReadsOne test tree mid rest → ReadsEach test tree text rest
unfolding behind
one_more test tree {text} {mid} {rest} m r =
    let xs = map tree m.values in
    let ys = one (tree r.value) in
    record {
      values = m.values ++ r.value ∷ [];
      passes = passed_more test m.values r.value m.passes r.passes;
      is = m.is ∙ (ap (λ l. render_behind (bares xs) ++ l) r.is
          ∙ (sym (append_assoc (render_behind (bares xs)) (render_behind (bares ys)) rest)
          ∙ (ap (λ l. l ++ rest) (sym (behind_append xs ys)) ∙ ap (λ l. render_behind (bares l) ++ rest) (sym (map-append tree m.values (r.value ∷ []))))));
    }

pub first_and_others : {A : Type 0} (test : A → Bool) (tree : A → Bare) {text mid rest : List ℕ} → ReadsOne test tree text mid → ReadsEach test tree mid rest → ReadsSome test tree text rest
unfolding behind
first_and_others test tree {text} {mid} {rest} first others =
    let x = one (tree first.value) in
    let xs = map tree others.values in
    record {
      value = record { first = first.value; others = others.values };
      passes = rw first.passes others.passes;
      is = first.is ∙ (ap (λ l. render_behind (bares x) ++ l) others.is
          ∙ (sym (append_assoc (render_behind (bares x)) (render_behind (bares xs)) rest) ∙ ap (λ l. l ++ rest) (sym (behind_append x xs))));
    }

tail_of : (a : ℕ) (xs ys : List ℕ) → a ∷ xs ≡ a ∷ ys → xs ≡ ys
tail_of a xs ys e = cc

-- a node with this keyword, without a comma before it, is a first argument
pub first_within : {A : Type 0} (test : A → Bool) (tree : Keyword → A → Bare) (keyword : Keyword) {text inside rest : List ℕ} → text ≡ beginning keyword ++ inside → ReadsWithin test tree inside rest → ReadsFirst test (tree keyword) text rest
unfolding behind
first_within test tree keyword {text} {inside} {rest} e r =
    let x = tree keyword r.value in
    let regroup : (44 ∷ (render x ++ [])) ++ rest ≡ 44 ∷ (render x ++ rest) = simp append-nil in
    record { value = r.value; passes = r.passes; is = e ∙ tail_of 44 _ _ (r.is keyword ∙ regroup) }
