-- The texts in these layouts are the canonical text and the indented one.
use Rattle.std.proofs.Common.{◌≡◌, ℕ, suc, [], ◌∷◌, ◌++◌, refl, ap, ◌∙◌}
use Rattle.std.proofs.Math.Numerals.{add-one}
use Rattle.wkt_grammar.specs.Bare.{Bare, Bares, text, number, word, node, none, and}
use Rattle.wkt_grammar.specs.Render.{render, render_all, render_behind, new_line, indent, indent_all, indent_behind, indented}
use Rattle.wkt_write.specs.declared.layout.Layout.TheVariants.{OneLine, Root, Inside}
use Rattle.wkt_write.specs.Layout.{laid, laid_all, laid_behind}

mutual
  unfolding laid laid_all laid_behind

  pub on_one_line : (t : Bare) → laid OneLine t ≡ render t
  on_one_line (text b) = refl
  on_one_line (number b) = refl
  on_one_line (word b) = refl
  on_one_line (node k xs) = ap (λ l. k ++ (91 ∷ (l ++ 93 ∷ []))) (all_on_one_line xs)

  all_on_one_line : (xs : Bares) → laid_all OneLine xs ≡ render_all xs
  all_on_one_line none = refl
  all_on_one_line (and i r) = ap (λ l. l ++ laid_behind OneLine r) (on_one_line i) ∙ ap (λ l. render i ++ l) (behind_on_one_line r)

  behind_on_one_line : (xs : Bares) → laid_behind OneLine xs ≡ render_behind xs
  behind_on_one_line none = refl
  behind_on_one_line (and i r) = ap (λ l. 44 ∷ (l ++ laid_behind OneLine r)) (on_one_line i) ∙ ap (λ l. 44 ∷ (render i ++ l)) (behind_on_one_line r)

mutual
  unfolding laid laid_all laid_behind

  laid_inside : (t : Bare) (depth : ℕ) → laid (Inside depth) t ≡ indent depth t
  laid_inside (text b) depth = refl
  laid_inside (number b) depth = refl
  laid_inside (word b) depth = refl
  laid_inside (node k xs) depth = ap (λ l. new_line depth ++ (k ++ (91 ∷ (l ++ 93 ∷ [])))) (ap (λ d. laid_all (Inside d) xs) (add-one depth) ∙ all_laid_inside xs (suc depth))

  all_laid_inside : (xs : Bares) (depth : ℕ) → laid_all (Inside depth) xs ≡ indent_all depth xs
  all_laid_inside none depth = refl
  all_laid_inside (and i r) depth = ap (λ l. l ++ laid_behind (Inside depth) r) (laid_inside i depth) ∙ ap (λ l. indent depth i ++ l) (behind_laid_inside r depth)

  behind_laid_inside : (xs : Bares) (depth : ℕ) → laid_behind (Inside depth) xs ≡ indent_behind depth xs
  behind_laid_inside none depth = refl
  behind_laid_inside (and i r) depth = ap (λ l. 44 ∷ (l ++ laid_behind (Inside depth) r)) (laid_inside i depth) ∙ ap (λ l. 44 ∷ (indent depth i ++ l)) (behind_laid_inside r depth)

pub at_the_root : (t : Bare) → laid Root t ≡ indented t
unfolding laid
at_the_root (text b) = refl
at_the_root (number b) = refl
at_the_root (word b) = refl
at_the_root (node k xs) = ap (λ l. k ++ (91 ∷ (l ++ 93 ∷ []))) (all_laid_inside xs 1)
