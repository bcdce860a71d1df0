-- The text of a node, written run by run.
use Rattle.std.proofs.Common.{◌≡◌, ℕ, ◌+◌, ◌<◌, List, [], ◌∷◌, ◌++◌, length, take, get_or, map, Option, Some, None, refl, sym, ap, ◌∙◌, append_assoc, append-nil}
use Rattle.std.proofs.lemmas.List.{take_more, map-append}
use Rattle.wkt_grammar.specs.Bare.{Bare, Bares, node, none, and, bares}
use Rattle.wkt_grammar.specs.Trees.{one, maybe}
use Rattle.wkt_write.specs.declared.layout.Layout as layouts
use Rattle.wkt_write.specs.Layout.{before, inner, laid, laid_all, laid_behind, behind}

-- the bytes after mid, up to the end of new, are the text of these arguments, each after a comma, and the closing bracket
pub record Rest (layout : layouts.Layout) (xs : Bares) (mid new : List ℕ) : Type 0 where
  pub is : new ≡ mid ++ (laid_behind layout xs ++ 93 ∷ [])

behind_append : (layout : layouts.Layout) (xs ys : List Bare) → laid_behind layout (bares (xs ++ ys)) ≡ laid_behind layout (bares xs) ++ laid_behind layout (bares ys)
unfolding laid_behind
behind_append layout [] ys = refl
behind_append layout (x ∷ xs) ys =
    ap (λ (l : List ℕ). 44 ∷ l) (ap (λ l. laid layout x ++ l) (behind_append layout xs ys) ∙ sym (append_assoc (laid layout x) (laid_behind layout (bares xs)) (laid_behind layout (bares ys))))

-- without further arguments, the closing bracket is the rest
pub done : {layout : layouts.Layout} {mid new : List ℕ} → new ≡ mid ++ 93 ∷ [] → Rest layout none mid new
unfolding laid_behind
done e = record { is = e }

-- the text of a run, followed by the rest, is the rest from that run on
pub also : {layout : layouts.Layout} {old mid new : List ℕ} (run others : List Bare) → mid ≡ old ++ behind layout run → Rest layout (bares others) mid new → Rest layout (bares (run ++ others)) old new
unfolding behind
also {layout} {old} {mid} {new} run others e r =
    let b = laid_behind layout (bares run) in
    let o = laid_behind layout (bares others) in
    let regroup : (old ++ b) ++ (o ++ 93 ∷ []) ≡ old ++ ((b ++ o) ++ 93 ∷ []) = simp append_assoc in
    record { is = r.is ∙ (ap (λ l. l ++ (o ++ 93 ∷ [])) e ∙ (regroup ∙ ap (λ l. old ++ (l ++ 93 ∷ [])) (sym (behind_append layout run others)))) }

-- the text of one argument, followed by the rest, is the rest from that argument on
pub also_one : {layout : layouts.Layout} {old mid new : List ℕ} {x : Bare} {xs : Bares} → mid ≡ old ++ behind layout (one x) → Rest layout xs mid new → Rest layout (and x xs) old new
unfolding behind laid_behind
also_one {layout} {old} {mid} {new} {x} {xs} e r =
    let o = laid_behind layout xs in
    let regroup : (old ++ (44 ∷ (laid layout x ++ []))) ++ (o ++ 93 ∷ []) ≡ old ++ ((44 ∷ (laid layout x ++ o)) ++ 93 ∷ []) = simp (append_assoc, append-nil) in
    record { is = r.is ∙ (ap (λ l. l ++ (o ++ 93 ∷ [])) e ∙ regroup) }

-- the same for a run that has a first argument
pub also_some : {layout : layouts.Layout} {old mid new : List ℕ} {x : Bare} (run others : List Bare) → mid ≡ old ++ behind layout (x ∷ run) → Rest layout (bares others) mid new → Rest layout (and x (bares (run ++ others))) old new
also_some {x = x} run others e r = also (x ∷ run) others e r

-- the text of the last run, followed by the closing bracket, is the rest from that run on
pub also_last : {layout : layouts.Layout} {old mid new : List ℕ} (run : List Bare) → mid ≡ old ++ behind layout run → new ≡ mid ++ 93 ∷ [] → Rest layout (bares (run ++ [])) old new
also_last run e f = also run [] e (done f)

-- the keyword may be replaced by an equal one
pub named : {opened : List ℕ} (layout : layouts.Layout) (old k name : List ℕ) → opened ≡ old ++ (before layout ++ (k ++ 91 ∷ [])) → k ≡ name → opened ≡ old ++ (before layout ++ (name ++ 91 ∷ []))
named layout old k name e is = e ∙ ap (λ k. old ++ (before layout ++ (k ++ 91 ∷ []))) is

-- the text of a node is its opening, its first argument and the rest
pub whole : {opened mid new : List ℕ} {inside : layouts.Layout} (layout : layouts.Layout) (old k : List ℕ) (x : Bare) (xs : Bares) → opened ≡ old ++ (before layout ++ (k ++ 91 ∷ [])) → inside ≡ inner layout → mid ≡ opened ++ laid inside x → Rest inside xs mid new → new ≡ old ++ laid layout (node k (and x xs))
unfolding laid laid_all
whole {opened} {mid} {new} {inside} layout old k x xs e i f r =
    let t = laid inside x in
    let b = laid_behind inside xs in
    let regroup : ((old ++ (before layout ++ (k ++ 91 ∷ []))) ++ t) ++ (b ++ 93 ∷ []) ≡ old ++ (before layout ++ (k ++ (91 ∷ ((t ++ b) ++ 93 ∷ [])))) = simp append_assoc in
    r.is ∙ (ap (λ l. l ++ (b ++ 93 ∷ [])) (f ∙ ap (λ l. l ++ t) e) ∙ (regroup ∙ ap (λ n. old ++ (before layout ++ (k ++ (91 ∷ ((laid n x ++ laid_behind n xs) ++ 93 ∷ []))))) i))

-- a comma and the text of an argument are the text of one further argument
pub argument : {mid new : List ℕ} (layout : layouts.Layout) (old : List ℕ) (x : Bare) → mid ≡ old ++ 44 ∷ [] → new ≡ mid ++ laid layout x → new ≡ old ++ behind layout (one x)
unfolding behind laid_behind
argument {mid} {new} layout old x e f =
    let regroup : (old ++ 44 ∷ []) ++ laid layout x ≡ old ++ (44 ∷ (laid layout x ++ [])) = simp (append_assoc, append-nil) in
    f ∙ (ap (λ l. l ++ laid layout x) e ∙ regroup)

-- without arguments, nothing is written
pub nothing_more : (layout : layouts.Layout) (old : List ℕ) → old ≡ old ++ behind layout []
unfolding behind laid_behind
nothing_more layout old = sym (append-nil old)

pub none_given : {A : Type 0} (f : A → Bare) (layout : layouts.Layout) (old : List ℕ) (o : Option A) → o ≡ None → old ≡ old ++ behind layout (maybe f o)
none_given f layout old o e = nothing_more layout old ∙ ap (λ o. old ++ behind layout (maybe f o)) (sym e)

pub one_given : {A : Type 0} (f : A → Bare) (layout : layouts.Layout) (old new : List ℕ) (o : Option A) (v : A) → o ≡ Some v → new ≡ old ++ behind layout (one (f v)) → new ≡ old ++ behind layout (maybe f o)
one_given f layout old new o v e h = h ∙ ap (λ o. old ++ behind layout (maybe f o)) (sym e)

-- the texts of two runs of arguments, one after the other, are the text of their concatenation
pub runs : {mid new : List ℕ} (layout : layouts.Layout) (old : List ℕ) (xs ys : List Bare) → mid ≡ old ++ behind layout xs → new ≡ mid ++ behind layout ys → new ≡ old ++ behind layout (xs ++ ys)
unfolding behind
runs {mid} {new} layout old xs ys e f =
    f ∙ (ap (λ l. l ++ behind layout ys) e ∙ (append_assoc old (behind layout xs) (behind layout ys) ∙ ap (λ l. old ++ l) (sym (behind_append layout xs ys))))

-- after the text of the first i elements of a list, the text of the next element gives that of the first i + 1
pub one_more : {A : Type 0} (f : A → Bare) (layout : layouts.Layout) (old mid new : List ℕ) (xs : List A) (i : ℕ) (x : A) → i < length xs → x ≡ get_or xs i x → mid ≡ old ++ behind layout (map f (take i xs)) → new ≡ mid ++ behind layout (one (f x)) → new ≡ old ++ behind layout (map f (take (i + 1) xs))
one_more f layout old mid new xs i x below is e g =
    let here : take (i + 1) xs ≡ take i xs ++ x ∷ [] = take_more xs i x below ∙ ap (λ y. take i xs ++ y ∷ []) (sym is) in
    runs layout old (map f (take i xs)) (one (f x)) e g ∙ ap (λ l. old ++ behind layout l) (sym (map-append f (take i xs) (x ∷ [])) ∙ ap (map f) (sym here))
