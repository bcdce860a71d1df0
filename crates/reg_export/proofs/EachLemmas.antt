-- The concatenation of what each row gives, one row at a time.
use Rattle.std.proofs.Common.{◌≡◌, ℕ, ◌+◌, ◌<◌, ◌≤◌, List, [], ◌∷◌, ◌++◌, map, drop, get_or, length, length-drop, refl, sym, ap, ◌∙◌, append_assoc, append-nil, subst, arith}
use Rattle.std.proofs.lemmas.List.{drop_more, length-map, nil_from_length}
use Rattle.reg_op.specs.Rows.{Row}
use Rattle.reg_export.specs.Titles.{Each}

-- ---- the suffix of a list from index i

pub here : {V W : Type 0} (f : W → V) (ws : List W) (i : ℕ) (d : W) → i < length ws → map f (drop i ws) ≡ f (get_or ws i d) ∷ map f (drop (i + 1) ws)
here f ws i d h = ap (map f) (drop_more ws i d h)

pub ended : {V W : Type 0} (f : W → V) (ws : List W) (i : ℕ) → length ws ≤ i → map f (drop i ws) ≡ []
ended f ws i h = nil_from_length (map f (drop i ws)) (let long = length-drop i ws in length-map (drop i ws) f ∙ omega (arith, long, h))

-- ---- what the rows give

module _ {Y : Type 0} (Gives : Row → List Y → Type 0) where
  -- `made` followed by anything that `rest` gives is something that `all` gives
  abbrev pub Gathers : List Row → List Row → List Y → Type 0
  Gathers all rest made = (more : List Y) → Each Gives rest more → Each Gives all (made ++ more)

  pub gathers_none : (all : List Row) (made : List Y) → made ≡ [] → Gathers all all made
  gathers_none all made e more m = subst (λ l. Each Gives all (l ++ more)) (sym e) m

  pub gathers_more : (all rest others : List Row) (r : Row) (made mine new : List Y) → rest ≡ r ∷ others → Gives r mine → new ≡ made ++ mine → Gathers all rest made → Gathers all others new
  gathers_more all rest others r made mine new e gives pushed g more m =
      subst (λ l. Each Gives all (l ++ more)) (sym pushed)
      (subst (λ l. Each Gives all l) (sym (append_assoc made mine more)) (g (mine ++ more) (subst (λ l. Each Gives l (mine ++ more)) (sym e) (mine, more, gives, m, refl))))

  pub gathers_all : (all rest : List Row) (made : List Y) → rest ≡ [] → Gathers all rest made → Each Gives all made
  gathers_all all rest made e g = subst (λ l. Each Gives all l) (append-nil made) (g [] (subst (λ l. Each Gives l []) (sym e) refl))

  -- what one more row gives
  pub each_more : (rs : List Row) (r : Row) (ys mine : List Y) → Each Gives rs ys → Gives r mine → Each Gives (rs ++ r ∷ []) (ys ++ mine)
  each_more [] r ys mine none gives = (mine, [], gives, refl, ap (λ l. l ++ mine) none ∙ sym (append-nil mine))
  each_more (q ∷ rs) r ys mine (one, later, g, rest, is) gives = (one, later ++ mine, g, each_more rs r later mine rest gives, ap (λ l. l ++ mine) is ∙ append_assoc one later mine)
