-- The concatenation of what each element of a list gives, one element at a time.
use Rattle.std.proofs.Common.{◌≡◌, ◌↔◌, List, [], ◌∷◌, ◌++◌, refl, sym, append_assoc, append-nil, subst, inl, inr}
use Rattle.std.specs.List.{Contains}
use Rattle.std.proofs.lemmas.List.Elements.{Contains-append_left, Contains-append_right, Contains-append_cases}
use Rattle.reg_report.proofs.ConflictLemmas.{none_in, in_cons, in_head, in_tail}
use Rattle.reg_texts.specs.Gathered.{Each}

module _ {X Y : Type 0} (Gives : X → List Y → Type 0) where
  -- `made` followed by anything that `rest` gives is something that `all` gives
  abbrev pub Gathers : List X → List X → List Y → Type 0
  Gathers all rest made = (more : List Y) → Each Gives rest more → Each Gives all (made ++ more)

  pub gathers_none : (all : List X) → Gathers all all []
  gathers_none all more m = m

  pub gathers_more : (all rest others : List X) (x : X) (made mine : List Y) → rest ≡ x ∷ others → Gives x mine → Gathers all rest made → Gathers all others (made ++ mine)
  gathers_more all rest others x made mine e gives g more m =
      subst (λ l. Each Gives all l) (sym (append_assoc made mine more)) (g (mine ++ more) (subst (λ l. Each Gives l (mine ++ more)) (sym e) (mine, more, gives, m, refl)))

  pub gathers_all : (all rest : List X) (made : List Y) → rest ≡ [] → Gathers all rest made → Each Gives all made
  gathers_all all rest made e g = subst (λ l. Each Gives all l) (append-nil made) (g [] (subst (λ l. Each Gives l []) (sym e) refl))

  -- if `Has` states what the list that each element gives contains, it states what their concatenation contains
  module _ (Has : X → Y → Type 0) (known : (x : X) (mine : List Y) → Gives x mine → (y : Y) → Contains mine y ↔ Has x y) where
    pub given : (xs : List X) (ys : List Y) → Each Gives xs ys → (y : Y) → Contains ys y → (x : X) × Contains xs x × Has x y
    given [] ys e y h = absurd (none_in y (subst (λ l. Contains l y) e h))
    given (x ∷ xs) ys (mine, later, gives, rest, is) y h = elim (Contains-append_cases mine later y (subst (λ l. Contains l y) is h)) [
      | inl now ↦ (x, in_head x xs, (known x mine gives y).0 now)
      | inr after ↦ let r = given xs later rest y after in (r.0, in_tail r.0 x xs r.1, r.2)
    ]

    pub gives_all : (xs : List X) (ys : List Y) → Each Gives xs ys → (y : Y) → (x : X) → Contains xs x → Has x y → Contains ys y
    gives_all [] ys e y x there has = absurd (none_in x there)
    gives_all (z ∷ xs) ys (mine, later, gives, rest, is) y x there has = subst (λ l. Contains l y) (sym is) (elim (in_cons x z xs there) [
      | inl same ↦ Contains-append_left mine later y ((known z mine gives y).1 (subst (λ w. Has w y) same has))
      | inr after ↦ Contains-append_right mine later y (gives_all xs later rest y x after has)
    ])

pub alike : {X : Type 0} (R : X → X → X → Type 0) (a b c d e : X) → a ≡ c → b ≡ d → R a b e → R c d e
alike R a b c d e p q r = subst (λ y. R c y e) q (subst (λ x. R x b e) p r)
