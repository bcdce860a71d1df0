-- The entries that a list of words selects, one word at a time.
use Rattle.std.proofs.Common.{◌≡◌, ℕ, List, [], ◌∷◌, ◌++◌, append-nil, append_assoc, length, arith, refl, sym, ap, ◌∙◌, subst, inl, inr}
use Rattle.reg_op.specs.Ids.{Id}
use Rattle.reg_op.specs.Rows.{Row}
use Rattle.reg_keys.specs.declared.fault.KeyFault.{KeyFault}
use Rattle.reg_keys.specs.declared.fault.KeyFault.TheVariants.{Memory}
use Rattle.reg_keys.specs.Told.{TellsOf, IsUntold, TellOf, AreUntold}

module _ (rs : List Row) where
  -- whenever `rest` selects the entries `later`, `all` selects es ++ later
  abbrev pub Completes : List (List ℕ) → List (List ℕ) → List Id → Type 0
  Completes all rest es = (later : List Id) → TellOf rs rest later → TellOf rs all (es ++ later)

  -- each fault of `rest` is a fault of `all`
  abbrev pub Passes : List (List ℕ) → List (List ℕ) → Type 0
  Passes all rest = (f : KeyFault) → AreUntold rs rest f → AreUntold rs all f

  pub completes_more : (all rest others : List (List ℕ)) (word : List ℕ) (few old new : List Id) → rest ≡ word ∷ others → TellsOf rs word few → new ≡ old ++ few
      → Completes all rest old → Completes all others new
  completes_more all rest others word few old new first tells is c later l =
      subst (TellOf rs all) (sym (append_assoc old few later) ∙ ap (λ (t : List Id). t ++ later) (sym is))
      (c (few ++ later) (subst (λ (ws : List (List ℕ)). TellOf rs ws (few ++ later)) (sym first) (few, later, tells, l, refl)))

  pub passes_more : (all rest others : List (List ℕ)) (word : List ℕ) (few : List Id) → rest ≡ word ∷ others → TellsOf rs word few → Passes all rest → Passes all others
  passes_more all rest others word few first tells p f o = p f (subst (λ (ws : List (List ℕ)). AreUntold rs ws f) (sym first) (inr (few, tells, o)))

  pub passes_here : (all rest others : List (List ℕ)) (word : List ℕ) (f : KeyFault) → rest ≡ word ∷ others → IsUntold rs word f → Passes all rest → AreUntold rs all f
  passes_here all rest others word f first is p = p f (subst (λ (ws : List (List ℕ)). AreUntold rs ws f) (sym first) (inl is))

  pub all_told : (all rest : List (List ℕ)) (es : List Id) → length rest ≡ 0 → Completes all rest es → TellOf rs all es
  all_told all [] es e c = subst (TellOf rs all) (append-nil es) (c [] refl)
  all_told all (w ∷ rest) es e c = absurd (omega arith)

  pub no_memory : (all : List (List ℕ)) → AreUntold rs all Memory
  no_memory [] = refl
  no_memory (w ∷ ws) = inl tt

  pub none_told : (all : List (List ℕ)) (es : List Id) → es ≡ [] → Completes all all es
  none_told all es e later l = subst (λ (t : List Id). TellOf rs all (t ++ later)) (sym e) l

-- ---- an empty list of entries

pub none_are : (ids : List Id) → length ids ≡ 0 → ids ≡ []
none_are [] h = refl
none_are (i ∷ ids) h = absurd (omega arith)
