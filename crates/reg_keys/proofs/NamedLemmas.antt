-- The entries that a list of words names, one word at a time.
use Rattle.std.proofs.Common.{◌≡◌, ℕ, List, [], ◌∷◌, ◌++◌, ◌+◌, ◌<◌, ◌≤◌, map, drop, get_or, append-nil, append_assoc, length, length-drop, arith, Some, None, refl, sym, ap, ◌∙◌, subst, inl, inr}
use Rattle.std.proofs.lemmas.List.{drop_more, length-map}
use Rattle.reg_op.specs.Ids.{Id}
use Rattle.reg_op.specs.Rows.{Row}
use Rattle.reg_op.specs.Text.{Spells}
use Rattle.reg_keys.specs.declared.fault.KeyFault.{KeyFault}
use Rattle.reg_keys.specs.declared.fault.KeyFault.TheVariants.{NoEntry, Several, Memory}
use Rattle.reg_keys.specs.Named.{IsNoId, IsNotOne, AreEntries, Answers, NamesOnly, IsNotOnly, StandFor, Object}

-- ---- the suffix of the words from index i

pub here : {W : Type 0} (f : W → List ℕ) (ws : List W) (i : ℕ) (d : W) → i < length ws → map f (drop i ws) ≡ f (get_or ws i d) ∷ map f (drop (i + 1) ws)
here f ws i d h = ap (map f) (drop_more ws i d h)

pub ended : {W : Type 0} (f : W → List ℕ) (ws : List W) (i : ℕ) → length ws ≤ i → length (map f (drop i ws)) ≡ 0
ended f ws i h = let long = length-drop i ws in length-map (drop i ws) f ∙ omega (arith, long, h)

-- ---- the entries that words name

module _ (rs : List Row) where
  -- whenever `rest` names the entries `later`, `all` names es ++ later
  abbrev pub Completes : List (List ℕ) → List (List ℕ) → List Id → Type 0
  Completes all rest es = (later : List Id) → StandFor rs rest later → StandFor rs all (es ++ later)

  -- each fault of `rest` is a fault of `all`
  abbrev pub Passes : List (List ℕ) → List (List ℕ) → Type 0
  Passes all rest = (f : KeyFault) → Object rs rest f → Object rs all f

  pub completes_more : (all rest others : List (List ℕ)) (word : List ℕ) (e : Id) (old new : List Id) → rest ≡ word ∷ others → NamesOnly rs word e → new ≡ old ++ e ∷ []
      → Completes all rest old → Completes all others new
  completes_more all rest others word e old new first stands is c later l =
      subst (StandFor rs all) (sym (append_assoc old (e ∷ []) later) ∙ ap (λ (t : List Id). t ++ later) (sym is))
      (c (e ∷ later) (subst (λ (ws : List (List ℕ)). StandFor rs ws (e ∷ later)) (sym first) (e, later, stands, l, refl)))

  pub passes_more : (all rest others : List (List ℕ)) (word : List ℕ) (e : Id) → rest ≡ word ∷ others → NamesOnly rs word e → Passes all rest → Passes all others
  passes_more all rest others word e first stands p f o = p f (subst (λ (ws : List (List ℕ)). Object rs ws f) (sym first) (inr (e, stands, o)))

  pub passes_here : (all rest others : List (List ℕ)) (word : List ℕ) (f : KeyFault) → rest ≡ word ∷ others → IsNotOnly rs word f → Passes all rest → Object rs all f
  passes_here all rest others word f first is p = p f (subst (λ (ws : List (List ℕ)). Object rs ws f) (sym first) (inl is))

  pub all_named : (all rest : List (List ℕ)) (es : List Id) → length rest ≡ 0 → Completes all rest es → StandFor rs all es
  all_named all [] es e c = subst (StandFor rs all) (append-nil es) (c [] refl)
  all_named all (w ∷ rest) es e c = absurd (omega arith)

  pub no_memory : (all : List (List ℕ)) → Object rs all Memory
  no_memory [] = refl
  no_memory (w ∷ ws) = inl tt

  pub none_named : (all : List (List ℕ)) (es : List Id) → es ≡ [] → Completes all all es
  none_named all es e later l = subst (λ (t : List Id). StandFor rs all (t ++ later)) (sym e) l

-- ---- words that are not ids

pub no_id : (word : List ℕ) → ((i : Id) → Spells word i → None ≡ Some i) → IsNoId word
no_id word only i spells = none_is_some (only i spells)
  where
    none_is_some : {X : Type 0} {x : X} → None ≡ Some x → ⊥
    none_is_some e = cc

-- the fault of a word that is not an id and does not have exactly one entry
pub objects : (rs : List Row) (word : List ℕ) (es : List Id) (f : KeyFault) → IsNoId word → AreEntries (Answers word) rs es → IsNotOne es f → IsNotOnly rs word f
objects rs word es NoEntry free are not = (es, (free, are), not)
objects rs word es (Several second) free are not = (es, (free, are), not)
objects rs word es Memory free are not = tt

-- what is left of nothing is seen as nothing
pub nothing_left : {X Y : Type 0} (f : X → Y) (xs : List X) → length xs ≡ 0 → map f xs ≡ []
nothing_left f [] e = refl
nothing_left f (x ∷ xs) e = absurd (omega (arith, e))
