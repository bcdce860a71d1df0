-- The entries that a list of words means, one word at a time; that words have one meaning; and what they mean in one register.
use Rattle.std.proofs.Common.{◌≡◌, ◌↔◌, ◌⊎◌, ℕ, ◌+◌, List, [], ◌∷◌, ◌++◌, append-nil, append_assoc, length, arith, refl, sym, ap, ◌∙◌, subst, inl, inr}
use Rattle.reg_op.specs.Ids.{Id}
use Rattle.reg_op.specs.Rows.{Row}
use Rattle.reg_keys.specs.declared.fault.KeyFault.{KeyFault}
use Rattle.reg_keys.specs.declared.fault.KeyFault.TheVariants as key
use Rattle.reg_keys.specs.Named.{StandsFor, IsObjection}
use Rattle.reg_keys.specs.Every.{StandsForEvery, StandForEvery, StandForEach, FailsAt}
use Rattle.reg_keys.proofs.LawLemmas.{one_entry, no_objection}
use Rattle.reg_keys.proofs.EveryLemmas as every
use Rattle.reg_commands.specs.Meaning.{MeansEvery, MeansOne, IsMeaningless, MeanEvery, MeanEach, FailsIn, MeanBoth, AreMeaningless, StandForBoth, FailForBoth}

not_memory : key.NoEntry ≡ key.Memory → ⊥
not_memory e = cc

not_several : (id : Id) → key.Several id ≡ key.Memory → ⊥
not_several id e = cc

module _ (rs : List Row) (word : List ℕ) where
  -- a word that stands for none in the register as it was read, for whatever reason
  none_there : (f : KeyFault) → IsObjection rs word f → (f ≡ key.Memory → ⊥) → (key.NoEntry ≡ key.Memory) ⊎ ((key.NoEntry ≡ key.NoEntry) × ((e : Id) → ¬ (StandsFor rs word e)))
  none_there f o some = inr (refl, λ e s. some (no_objection rs word e f s o))

  pub no_entry_there : IsObjection rs word key.NoEntry → (key.NoEntry ≡ key.Memory) ⊎ ((key.NoEntry ≡ key.NoEntry) × ((e : Id) → ¬ (StandsFor rs word e)))
  no_entry_there o = none_there key.NoEntry o not_memory

  pub several_there : (id : Id) → IsObjection rs word (key.Several id) → (key.NoEntry ≡ key.Memory) ⊎ ((key.NoEntry ≡ key.NoEntry) × ((e : Id) → ¬ (StandsFor rs word e)))
  several_there id o = none_there (key.Several id) o (not_several id)

module _ (was rs : List Row) where
  -- ---- one word

  -- a word that means entries means the least of them
  pub means_least : (word : List ℕ) (es : List Id) → MeansEvery was rs word es → (e : Id) × MeansOne was rs word e
  means_least word es (inl s) = let least = every.stands_least rs word es s in (least.0, inl least.1)
  means_least word es (inr (none, s)) = let least = every.stands_least was word es s in (least.0, inr (none, least.1))

  -- the join has none of the word, and the register that was read none either
  pub no_meaning : (word : List ℕ) (f : KeyFault) → IsObjection rs word key.NoEntry → (f ≡ key.Memory) ⊎ ((f ≡ key.NoEntry) × ((e : Id) → ¬ (StandsFor was word e)))
      → IsMeaningless was rs word f
  no_meaning word f none (inl m) = subst (IsMeaningless was rs word) (sym m) (tt, λ e. absurd (not_memory (sym e)))
  no_meaning word f none (inr (n, free)) = subst (IsMeaningless was rs word) (sym n) (none, λ e. free)

  pub after_every : (word : List ℕ) (f : KeyFault) (es : List Id) → IsObjection rs word f → (f ≡ key.NoEntry) × StandsForEvery was word es → MeansEvery was rs word es
  after_every word f es o (n, s) = inr (subst (IsObjection rs word) n o, s)

  pub after_entry : (word : List ℕ) (f : KeyFault) (e : Id) → IsObjection rs word f → (f ≡ key.NoEntry) × StandsFor was word e → MeansOne was rs word e
  after_entry word f e o (n, s) = inr (subst (IsObjection rs word) n o, s)

  pub after_none : (word : List ℕ) (f g : KeyFault) → IsObjection rs word f
      → ((f ≡ key.NoEntry → ⊥) × (g ≡ f)) ⊎ ((f ≡ key.NoEntry) × ((g ≡ key.Memory) ⊎ ((g ≡ key.NoEntry) × ((e : Id) → ¬ (StandsFor was word e)))))
      → IsMeaningless was rs word g
  after_none word f g o (inl (other, is)) = subst (IsMeaningless was rs word) (sym is) (o, λ e. absurd (other e))
  after_none word f g o (inr (n, why)) = no_meaning word g (subst (IsObjection rs word) n o) why

  pub out_of_memory : (word : List ℕ) → IsMeaningless was rs word key.Memory
  out_of_memory word = (tt, λ e. absurd (not_memory (sym e)))

  -- ---- one after another

  -- whenever `rest` means the entries `later`, `all` means es ++ later
  abbrev pub CompletesEvery : List (List ℕ) → List (List ℕ) → List Id → Type 0
  CompletesEvery all rest es = (later : List Id) → MeanEvery was rs rest later → MeanEvery was rs all (es ++ later)

  abbrev pub CompletesEach : List (List ℕ) → List (List ℕ) → List Id → Type 0
  CompletesEach all rest es = (later : List Id) → MeanEach was rs rest later → MeanEach was rs all (es ++ later)

  -- each fault of `rest` is a fault of `all`
  abbrev pub Passes : List (List ℕ) → List (List ℕ) → Type 0
  Passes all rest = (f : KeyFault) → FailsIn was rs rest f → FailsIn was rs all f

  pub every_more : (all rest others : List (List ℕ)) (word : List ℕ) (few old new : List Id) → rest ≡ word ∷ others → MeansEvery was rs word few → new ≡ old ++ few
      → CompletesEvery all rest old → CompletesEvery all others new
  every_more all rest others word few old new first means is c later l =
      subst (MeanEvery was rs all) (sym (append_assoc old few later) ∙ ap (λ (t : List Id). t ++ later) (sym is))
      (c (few ++ later) (subst (λ (ws : List (List ℕ)). MeanEvery was rs ws (few ++ later)) (sym first) (few, later, means, l, refl)))

  pub each_more : (all rest others : List (List ℕ)) (word : List ℕ) (e : Id) (old new : List Id) → rest ≡ word ∷ others → MeansOne was rs word e → new ≡ old ++ e ∷ []
      → CompletesEach all rest old → CompletesEach all others new
  each_more all rest others word e old new first means is c later l =
      subst (MeanEach was rs all) (sym (append_assoc old (e ∷ []) later) ∙ ap (λ (t : List Id). t ++ later) (sym is))
      (c (e ∷ later) (subst (λ (ws : List (List ℕ)). MeanEach was rs ws (e ∷ later)) (sym first) (e, later, means, l, refl)))

  pub passes_more : (all rest others : List (List ℕ)) (word : List ℕ) (e : Id) → rest ≡ word ∷ others → MeansOne was rs word e → Passes all rest → Passes all others
  passes_more all rest others word e first means p f o = p f (subst (λ (ws : List (List ℕ)). FailsIn was rs ws f) (sym first) (inr (e, means, o)))

  pub passes_here : (all rest others : List (List ℕ)) (word : List ℕ) (f : KeyFault) → rest ≡ word ∷ others → IsMeaningless was rs word f → Passes all rest → FailsIn was rs all f
  passes_here all rest others word f first is p = p f (subst (λ (ws : List (List ℕ)). FailsIn was rs ws f) (sym first) (inl is))

  pub all_every : (all rest : List (List ℕ)) (es : List Id) → length rest ≡ 0 → CompletesEvery all rest es → MeanEvery was rs all es
  all_every all [] es e c = subst (MeanEvery was rs all) (append-nil es) (c [] refl)
  all_every all (w ∷ rest) es e c = absurd (omega arith)

  pub all_each : (all rest : List (List ℕ)) (es : List Id) → length rest ≡ 0 → CompletesEach all rest es → MeanEach was rs all es
  all_each all [] es e c = subst (MeanEach was rs all) (append-nil es) (c [] refl)
  all_each all (w ∷ rest) es e c = absurd (omega arith)

  pub none_every : (all : List (List ℕ)) (es : List Id) → es ≡ [] → CompletesEvery all all es
  none_every all es e later l = subst (λ (t : List Id). MeanEvery was rs all (t ++ later)) (sym e) l

  pub none_each : (all : List (List ℕ)) (es : List Id) → es ≡ [] → CompletesEach all all es
  none_each all es e later l = subst (λ (t : List Id). MeanEach was rs all (t ++ later)) (sym e) l

  -- ---- one meaning

  stands_and_none : (word : List ℕ) (es : List Id) → StandsForEvery rs word es → IsObjection rs word key.NoEntry → ⊥
  stands_and_none word es s none = let least = every.stands_least rs word es s in not_memory (no_objection rs word least.0 key.NoEntry least.1 none)

  one_every : (word : List ℕ) (es fs : List Id) → MeansEvery was rs word es → MeansEvery was rs word fs → es ≡ fs
  one_every word es fs (inl s) (inl t) = every.one_every rs word es fs s t
  one_every word es fs (inl s) (inr (none, t)) = absurd (stands_and_none word es s none)
  one_every word es fs (inr (none, s)) (inl t) = absurd (stands_and_none word fs t none)
  one_every word es fs (inr (none, s)) (inr (gone, t)) = every.one_every was word es fs s t

  one_means : (word : List ℕ) (e f : Id) → MeansOne was rs word e → MeansOne was rs word f → e ≡ f
  one_means word e f (inl s) (inl t) = one_entry rs word e f s t
  one_means word e f (inl s) (inr (none, t)) = absurd (not_memory (no_objection rs word e key.NoEntry s none))
  one_means word e f (inr (none, s)) (inl t) = absurd (not_memory (no_objection rs word f key.NoEntry t none))
  one_means word e f (inr (none, s)) (inr (gone, t)) = one_entry was word e f s t

  pub one_meaning_every : (words : List (List ℕ)) (es fs : List Id) → MeanEvery was rs words es → MeanEvery was rs words fs → es ≡ fs
  one_meaning_every [] es fs h k = h ∙ sym k
  one_meaning_every (w ∷ words) es fs (few, later, s, l, is) (some, after, t, m, so) = is ∙ (λ j. one_every w few some s t j ++ one_meaning_every words later after l m j) ∙ sym so

  pub one_meaning_each : (words : List (List ℕ)) (es fs : List Id) → MeanEach was rs words es → MeanEach was rs words fs → es ≡ fs
  one_meaning_each [] es fs h k = h ∙ sym k
  one_meaning_each (w ∷ words) es fs (e, later, s, l, is) (f, after, t, m, so) = is ∙ (λ j. one_means w e f s t j ∷ one_meaning_each words later after l m j) ∙ sym so

  -- a word that means an entry has no fault but a lack of memory
  no_fault : (word : List ℕ) (e : Id) (f : KeyFault) → MeansOne was rs word e → IsMeaningless was rs word f → f ≡ key.Memory
  no_fault word e f (inl s) (o, free) = no_objection rs word e f s o
  no_fault word e key.NoEntry (inr (none, s)) (o, free) = absurd (free refl e s)
  no_fault word e (key.Several id) (inr (none, s)) (o, free) = absurd (none.1 o.1.least o.1.is_least.there o.1.is_least.answers)
  no_fault word e key.Memory (inr (none, s)) (o, free) = refl

  pub no_fault_every : (words : List (List ℕ)) (es : List Id) (f : KeyFault) → MeanEvery was rs words es → FailsIn was rs words f → f ≡ key.Memory
  no_fault_every [] es f h o = o
  no_fault_every (w ∷ words) es f (few, later, s, l, is) (inl o) = let least = means_least w few s in no_fault w least.0 f least.1 o
  no_fault_every (w ∷ words) es f (few, later, s, l, is) (inr (d, t, o)) = no_fault_every words later f l o

  pub no_fault_each : (words : List (List ℕ)) (es : List Id) (f : KeyFault) → MeanEach was rs words es → FailsIn was rs words f → f ≡ key.Memory
  no_fault_each [] es f h o = o
  no_fault_each (w ∷ words) es f (e, later, s, l, is) (inl o) = no_fault w e f s o
  no_fault_each (w ∷ words) es f (e, later, s, l, is) (inr (d, t, o)) = no_fault_each words later f l o

  -- ---- words that stand for entries in the join

  stand_every : (words : List (List ℕ)) (es : List Id) → StandForEvery rs words es → MeanEvery was rs words es
  stand_every [] es h = h
  stand_every (w ∷ words) es (few, later, s, l, is) = (few, later, inl s, stand_every words later l, is)

  stand_each : (words : List (List ℕ)) (es : List Id) → StandForEach rs words es → MeanEach was rs words es
  stand_each [] es h = h
  stand_each (w ∷ words) es (e, later, s, l, is) = (e, later, inl s, stand_each words later l, is)

  pub there_both : (words newer : List (List ℕ)) (es fs : List Id) → StandForEvery rs words es → StandForEach rs newer fs → MeanBoth was rs words newer es fs
  there_both words newer es fs every each = (stand_every words es every, stand_each newer fs each)

-- ---- one register

module _ (rs : List Row) where
  every_stands : (words : List (List ℕ)) (es : List Id) → MeanEvery rs rs words es → StandForEvery rs words es
  every_stands [] es h = h
  every_stands (w ∷ words) es (few, later, inl s, l, is) = (few, later, s, every_stands words later l, is)
  every_stands (w ∷ words) es (few, later, inr (none, s), l, is) = (few, later, s, every_stands words later l, is)

  each_stands : (words : List (List ℕ)) (es : List Id) → MeanEach rs rs words es → StandForEach rs words es
  each_stands [] es h = h
  each_stands (w ∷ words) es (e, later, inl s, l, is) = (e, later, s, each_stands words later l, is)
  each_stands (w ∷ words) es (e, later, inr (none, s), l, is) = (e, later, s, each_stands words later l, is)

  stands_one : (word : List ℕ) (e : Id) → MeansOne rs rs word e → StandsFor rs word e
  stands_one word e (inl s) = s
  stands_one word e (inr (none, s)) = s

  -- a word that stands for no entry means none
  means_none : (word : List ℕ) (f : KeyFault) → IsObjection rs word f → IsMeaningless rs rs word f
  means_none word f o = (o, λ n e s. not_memory (sym n ∙ no_objection rs word e f s o))

  fails_at : (words : List (List ℕ)) (n : ℕ) (f : KeyFault) → FailsIn rs rs words f → (k : ℕ) × FailsAt rs n words k f
  fails_at [] n f o = (n, o)
  fails_at (w ∷ words) n f (inl o) = (n, inl (refl, o.0))
  fails_at (w ∷ words) n f (inr (e, s, o)) = let later = fails_at words (n + 1) f o in (later.0, inr (e, stands_one w e s, later.1))

  fails_in : (words : List (List ℕ)) (n k : ℕ) (f : KeyFault) → FailsAt rs n words k f → FailsIn rs rs words f
  fails_in [] n k f o = o
  fails_in (w ∷ words) n k f (inl (at, o)) = inl (means_none w f o)
  fails_in (w ∷ words) n k f (inr (e, s, o)) = inr (e, inl s, fails_in words (n + 1) k f o)

  pub both_stand : (words newer : List (List ℕ)) (es fs : List Id) → MeanBoth rs rs words newer es fs ↔ StandForBoth rs words newer es fs
  both_stand words newer es fs = (λ m. (every_stands words es m.0, each_stands newer fs m.1), λ s. there_both rs rs words newer es fs s.0 s.1)

  pub both_fail : (words newer : List (List ℕ)) (f : KeyFault) → AreMeaningless rs rs words newer f ↔ FailForBoth rs words newer f
  both_fail words newer f = (to, from)
    where
      to : AreMeaningless rs rs words newer f → FailForBoth rs words newer f
      to (inl o) = inl (fails_at words 0 f o)
      to (inr (es, m, o)) = inr (es, every_stands words es m, fails_at newer 0 f o)

      from : FailForBoth rs words newer f → AreMeaningless rs rs words newer f
      from (inl (k, o)) = inl (fails_in words 0 k f o)
      from (inr (es, s, (k, o))) = inr (es, stand_every rs rs words es s, fails_in newer 0 k f o)
