-- The entries that a list of words stands for, one word at a time; and that words have one meaning.
use Rattle.std.proofs.Common.{◌≡◌, ℕ, ◌+◌, List, [], ◌∷◌, ◌++◌, append-nil, append_assoc, length, arith, refl, sym, ap, ◌∙◌, subst, inl, inr}
use Rattle.reg_op.specs.Ids.{Id}
use Rattle.reg_op.specs.Rows.{Row}
use Rattle.reg_keys.specs.declared.fault.KeyFault.{KeyFault}
use Rattle.reg_keys.specs.declared.fault.KeyFault.TheVariants.{Memory}
use Rattle.reg_keys.specs.Named.{IsNoId, AreEntries, Answers, StandsFor, IsObjection}
use Rattle.reg_keys.specs.Every.{StandsForEvery, StandForEvery, StandForEach, FailsAt}
use Rattle.reg_keys.proofs.LawLemmas.{one_id, one_list, one_entry, no_objection}

module _ (rs : List Row) where
  -- a word that stands for entries stands for the least of them
  pub stands_least : (word : List ℕ) (es : List Id) → StandsForEvery rs word es → (e : Id) × StandsFor rs word e
  stands_least word es (inl (e, h, is)) = (e, inl h)
  stands_least word es (inr ((free, are), (least, is, all))) = (least.entry, inr (free, (least, is, refl, all)))

  -- a key that stands for an entry stands for all that answer it
  pub stands_every : (word : List ℕ) (e : Id) (es : List Id) → IsNoId word → StandsFor rs word e → AreEntries (Answers word) rs es → StandsForEvery rs word es
  stands_every word e es free (inl h) are = absurd (free e h)
  stands_every word e es free (inr (nothing, (least, is, same, all))) are = inr ((free, are), (least, is, all))

  -- ---- one after another: `rest` are the words from index n on

  -- whenever `rest` stands for the entries `later`, `all` stands for es ++ later
  abbrev pub CompletesEvery : List (List ℕ) → List (List ℕ) → List Id → Type 0
  CompletesEvery all rest es = (later : List Id) → StandForEvery rs rest later → StandForEvery rs all (es ++ later)

  abbrev pub CompletesEach : List (List ℕ) → List (List ℕ) → List Id → Type 0
  CompletesEach all rest es = (later : List Id) → StandForEach rs rest later → StandForEach rs all (es ++ later)

  -- each fault of `rest` is a fault of `all`
  abbrev pub Passes : List (List ℕ) → ℕ → List (List ℕ) → Type 0
  Passes all n rest = (k : ℕ) (f : KeyFault) → FailsAt rs n rest k f → FailsAt rs 0 all k f

  pub every_more : (all rest others : List (List ℕ)) (word : List ℕ) (few old new : List Id) → rest ≡ word ∷ others → StandsForEvery rs word few → new ≡ old ++ few
      → CompletesEvery all rest old → CompletesEvery all others new
  every_more all rest others word few old new first stands is c later l =
      subst (StandForEvery rs all) (sym (append_assoc old few later) ∙ ap (λ (t : List Id). t ++ later) (sym is))
      (c (few ++ later) (subst (λ (ws : List (List ℕ)). StandForEvery rs ws (few ++ later)) (sym first) (few, later, stands, l, refl)))

  pub each_more : (all rest others : List (List ℕ)) (word : List ℕ) (e : Id) (old new : List Id) → rest ≡ word ∷ others → StandsFor rs word e → new ≡ old ++ e ∷ []
      → CompletesEach all rest old → CompletesEach all others new
  each_more all rest others word e old new first stands is c later l =
      subst (StandForEach rs all) (sym (append_assoc old (e ∷ []) later) ∙ ap (λ (t : List Id). t ++ later) (sym is))
      (c (e ∷ later) (subst (λ (ws : List (List ℕ)). StandForEach rs ws (e ∷ later)) (sym first) (e, later, stands, l, refl)))

  pub passes_more : (all rest others : List (List ℕ)) (n : ℕ) (word : List ℕ) (e : Id) → rest ≡ word ∷ others → StandsFor rs word e → Passes all n rest → Passes all (n + 1) others
  passes_more all rest others n word e first stands p k f o = p k f (subst (λ (ws : List (List ℕ)). FailsAt rs n ws k f) (sym first) (inr (e, stands, o)))

  pub passes_here : (all rest others : List (List ℕ)) (n : ℕ) (word : List ℕ) (k : ℕ) (f : KeyFault) → rest ≡ word ∷ others → k ≡ n → IsObjection rs word f → Passes all n rest → FailsAt rs 0 all k f
  passes_here all rest others n word k f first at is p = p k f (subst (λ (ws : List (List ℕ)). FailsAt rs n ws k f) (sym first) (inl (at, is)))

  pub all_every : (all rest : List (List ℕ)) (es : List Id) → length rest ≡ 0 → CompletesEvery all rest es → StandForEvery rs all es
  all_every all [] es e c = subst (StandForEvery rs all) (append-nil es) (c [] refl)
  all_every all (w ∷ rest) es e c = absurd (omega arith)

  pub all_each : (all rest : List (List ℕ)) (es : List Id) → length rest ≡ 0 → CompletesEach all rest es → StandForEach rs all es
  all_each all [] es e c = subst (StandForEach rs all) (append-nil es) (c [] refl)
  all_each all (w ∷ rest) es e c = absurd (omega arith)

  pub none_every : (all : List (List ℕ)) (es : List Id) → es ≡ [] → CompletesEvery all all es
  none_every all es e later l = subst (λ (t : List Id). StandForEvery rs all (t ++ later)) (sym e) l

  pub none_each : (all : List (List ℕ)) (es : List Id) → es ≡ [] → CompletesEach all all es
  none_each all es e later l = subst (λ (t : List Id). StandForEach rs all (t ++ later)) (sym e) l

  pub no_memory : (all : List (List ℕ)) (n k : ℕ) → k ≡ n → FailsAt rs n all k Memory
  no_memory [] n k e = refl
  no_memory (w ∷ ws) n k e = inl (e, tt)

  -- ---- one meaning

  pub one_every : (word : List ℕ) (es fs : List Id) → StandsForEvery rs word es → StandsForEvery rs word fs → es ≡ fs
  one_every word es fs (inl (e, h, is)) (inl (f, k, so)) = is ∙ ap (λ i. i ∷ []) (one_id word e f h k) ∙ sym so
  one_every word es fs (inl (e, h, is)) (inr k) = absurd (k.0.0 e h)
  one_every word es fs (inr h) (inl (f, k, so)) = absurd (h.0.0 f k)
  one_every word es fs (inr h) (inr k) = one_list (Answers word) rs es fs h.0.1 k.0.1

  pub one_meaning_every : (words : List (List ℕ)) (es fs : List Id) → StandForEvery rs words es → StandForEvery rs words fs → es ≡ fs
  one_meaning_every [] es fs h k = h ∙ sym k
  one_meaning_every (w ∷ words) es fs (few, later, s, l, is) (some, after, t, m, so) = is ∙ (λ j. one_every w few some s t j ++ one_meaning_every words later after l m j) ∙ sym so

  pub one_meaning_each : (words : List (List ℕ)) (es fs : List Id) → StandForEach rs words es → StandForEach rs words fs → es ≡ fs
  one_meaning_each [] es fs h k = h ∙ sym k
  one_meaning_each (w ∷ words) es fs (e, later, s, l, is) (f, after, t, m, so) = is ∙ (λ j. one_entry rs w e f s t j ∷ one_meaning_each words later after l m j) ∙ sym so

  pub no_fault_each : (words : List (List ℕ)) (n : ℕ) (es : List Id) (k : ℕ) (f : KeyFault) → StandForEach rs words es → FailsAt rs n words k f → f ≡ Memory
  no_fault_each [] n es k f h o = o
  no_fault_each (w ∷ words) n es k f (e, later, s, l, is) (inl (at, o)) = no_objection rs w e f s o
  no_fault_each (w ∷ words) n es k f (e, later, s, l, is) (inr (d, t, o)) = no_fault_each words (n + 1) later k f l o

  pub no_fault_every : (words : List (List ℕ)) (n : ℕ) (es : List Id) (k : ℕ) (f : KeyFault) → StandForEvery rs words es → FailsAt rs n words k f → f ≡ Memory
  no_fault_every [] n es k f h o = o
  no_fault_every (w ∷ words) n es k f (few, later, s, l, is) (inl (at, o)) = let least = stands_least w few s in no_objection rs w least.0 f least.1 o
  no_fault_every (w ∷ words) n es k f (few, later, s, l, is) (inr (d, t, o)) = no_fault_every words (n + 1) later k f l o
