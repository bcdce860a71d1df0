-- A word names at most one entry and selects at most one list of entries; one that does has no fault but Memory.
use Rattle.std.proofs.Common.{◌≡◌, ◌<◌, ◌^◌, ℕ, List, [], ◌∷◌, ◌++◌, take, drop, refl, sym, ap, ◌∙◌, inl, inr, arith}
use Rattle.std.proofs.lemmas.List.{take_at, drop_at}
use Rattle.std.proofs.lemmas.Fmt.{decimal_injective}
use Rattle.reg_op.specs.Ids.{Id}
use Rattle.reg_op.specs.Rows.{Row}
use Rattle.reg_op.specs.Text.{Spells, IsCount}
use Rattle.reg_op.proofs.ClashLemmas.{tied_of}
use Rattle.reg_op.proofs.OpLemmas.{id_total, is_same_exact}
use Rattle.reg_keys.specs.declared.fault.KeyFault.{KeyFault}
use Rattle.reg_keys.specs.declared.fault.KeyFault.TheVariants.{NoEntry, Several, Memory}
use Rattle.reg_keys.specs.Named.{HasWord, Answers, AreEntries, IsLeast, IsNotOne, StandsFor, IsObjection, NamesOnly, IsNotOnly, StandFor, Object}
use Rattle.reg_keys.specs.Told.{TellsOf, IsUntold, TellOf, AreUntold}
use Rattle.reg_report.proofs.OrderLemmas.{same_elements}

-- ---- ids

front_is : (text : List ℕ) (i : Id) (h : Spells text i) → take 36 text ≡ h.front
front_is text i h = ap (take 36) h.whole ∙ take_at h.front h.back 36 h.long

back_is : (text : List ℕ) (i : Id) (h : Spells text i) → drop 36 text ≡ h.back
back_is text i h = ap (drop 36) h.whole ∙ drop_at h.front h.back 36 h.long

one_rest : (a b : List ℕ) → ◌≡◌ {A = List ℕ} (58 ∷ a) (58 ∷ b) → a ≡ b
one_rest a b e = cc

one_count : (s t : List ℕ) (m n : ℕ) → s ≡ t → IsCount s m → IsCount t n → m ≡ n
one_count s t m n e h k =
    decimal_injective m n (lower m h.numeral.fits) (lower n k.numeral.fits)
    (sym h.numeral.digits ∙ one_rest h.rest k.rest (sym h.whole ∙ e ∙ k.whole) ∙ k.numeral.digits)
  where
    lower : (n : ℕ) → n < 2 ^ 32 → n < 2 ^ 64
    lower n h = omega arith

-- a text spells at most one id
pub one_id : (text : List ℕ) (i j : Id) → Spells text i → Spells text j → i ≡ j
one_id text i j h k = λ l. record { replica = replica l; count = count l }
  where
    replica : i.replica ≡ j.replica
    replica =
        let front = sym (front_is text i h) ∙ front_is text j k in
        let a = h.replica_is in
        let b = k.replica_is in
        cc

    count : i.count ≡ j.count
    count = one_count h.back k.back i.count j.count (sym (back_is text i h) ∙ back_is text j k) h.count_is k.count_is

-- ---- rows have one list of entries

pub one_list : (P : Row → Type 0) (rs : List Row) (es fs : List Id) → AreEntries P rs es → AreEntries P rs fs → es ≡ fs
one_list P rs es fs a b = same_elements id_total es fs a.ascend b.ascend (λ e. (λ h. (b.each e).1 ((a.each e).0 h), λ h. (a.each e).1 ((b.each e).0 h)))

one_first : (e f : Id) → ◌≡◌ {A = List Id} (e ∷ []) (f ∷ []) → e ≡ f
one_first e f h = cc

not_none : (e : Id) → ◌≡◌ {A = List Id} (e ∷ []) [] → ⊥
not_none e h = cc

not_two : (e f g : Id) (more : List Id) → ◌≡◌ {A = List Id} (e ∷ []) (f ∷ g ∷ more) → ⊥
not_two e f g more h = cc

-- ---- the entry that a word names

module _ (rs : List Row) where
  one_least : (word : List ℕ) (a b : Row) → IsLeast rs word a → IsLeast rs word b → a.entry ≡ b.entry
  one_least word a b h k = is_same_exact a.entry b.entry (tied_of id_total a.entry b.entry (k.first a h.there h.answers) (h.first b k.there k.answers))

  pub one_entry : (word : List ℕ) (e f : Id) → StandsFor rs word e → StandsFor rs word f → e ≡ f
  one_entry word e f (inl h) (inl k) = one_id word e f h k
  one_entry word e f (inl h) (inr k) = absurd (k.0 e h)
  one_entry word e f (inr h) (inl k) = absurd (h.0 f k)
  one_entry word e f (inr h) (inr k) = sym h.1.2 ∙ one_least word h.1.0 k.1.0 h.1.1 k.1.1 ∙ k.1.2

  pub no_objection : (word : List ℕ) (e : Id) (f : KeyFault) → StandsFor rs word e → IsObjection rs word f → f ≡ Memory
  no_objection word e NoEntry (inl h) (free, none) = absurd (free e h)
  no_objection word e NoEntry (inr h) (free, none) = absurd (none h.1.0 h.1.1.there h.1.1.answers)
  no_objection word e (Several second) (inl h) (free, other) = absurd (free e h)
  no_objection word e (Several second) (inr h) (free, other) = absurd (other.differs (h.1.3 other.other other.there other.answers ∙ sym (h.1.3 other.least other.is_least.there other.is_least.answers)))
  no_objection word e Memory h o = refl

  -- ---- the only entry that a word names

  one_only : (word : List ℕ) (e f : Id) → NamesOnly rs word e → NamesOnly rs word f → e ≡ f
  one_only word e f (inl h) (inl k) = one_id word e f h k
  one_only word e f (inl h) (inr k) = absurd (k.0 e h)
  one_only word e f (inr h) (inl k) = absurd (h.0 f k)
  one_only word e f (inr h) (inr k) = one_first e f (one_list (Answers word) rs (e ∷ []) (f ∷ []) h.1 k.1)

  not_only : (word : List ℕ) (e : Id) (f : KeyFault) → NamesOnly rs word e → IsNotOnly rs word f → f ≡ Memory
  not_only word e NoEntry (inl h) (es, by, none) = absurd (by.0 e h)
  not_only word e NoEntry (inr h) (es, by, none) = absurd (not_none e (one_list (Answers word) rs (e ∷ []) es h.1 by.1 ∙ none))
  not_only word e (Several second) (inl h) (es, by, several) = absurd (by.0 e h)
  not_only word e (Several second) (inr h) (es, by, several) = absurd (not_two e several.0 second several.1 (one_list (Answers word) rs (e ∷ []) es h.1 by.1 ∙ several.2))
  not_only word e Memory h o = refl

  pub one_meaning : (words : List (List ℕ)) (es fs : List Id) → StandFor rs words es → StandFor rs words fs → es ≡ fs
  one_meaning [] es fs h k = h ∙ sym k
  one_meaning (w ∷ words) es fs (e, later, s, l, is) (f, after, t, m, so) = is ∙ (λ j. one_only w e f s t j ∷ one_meaning words later after l m j) ∙ sym so

  pub no_objections : (words : List (List ℕ)) (es : List Id) (f : KeyFault) → StandFor rs words es → Object rs words f → f ≡ Memory
  no_objections [] es f h o = o
  no_objections (w ∷ words) es f (e, later, s, l, is) (inl o) = not_only w e f s o
  no_objections (w ∷ words) es f (e, later, s, l, is) (inr (d, t, o)) = no_objections words later f l o

  -- ---- the entries that a word selects

  one_few : (word : List ℕ) (es fs : List Id) → TellsOf rs word es → TellsOf rs word fs → es ≡ fs
  one_few word es fs (inl (e, h, is)) (inl (f, k, so)) = is ∙ ap (λ i. i ∷ []) (one_id word e f h k) ∙ sym so
  one_few word es fs (inl (e, h, is)) (inr k) = absurd (k.0 e h)
  one_few word es fs (inr h) (inl (f, k, so)) = absurd (h.0 f k)
  one_few word es fs (inr h) (inr k) = one_list (HasWord word) rs es fs h.1 k.1

  told_of : (word : List ℕ) (es : List Id) (f : KeyFault) → TellsOf rs word es → IsUntold rs word f → f ≡ Memory
  told_of word es NoEntry (inl (e, h, is)) u = absurd (u.0 e h)
  told_of word es NoEntry (inr h) u = absurd (h.2 (one_list (HasWord word) rs es [] h.1 u.1))
  told_of word es (Several second) h u = absurd u
  told_of word es Memory h u = refl

  pub one_telling : (words : List (List ℕ)) (es fs : List Id) → TellOf rs words es → TellOf rs words fs → es ≡ fs
  one_telling [] es fs h k = h ∙ sym k
  one_telling (w ∷ words) es fs (few, later, s, l, is) (some, after, t, m, so) = is ∙ (λ j. one_few w few some s t j ++ one_telling words later after l m j) ∙ sym so

  pub all_told_of : (words : List (List ℕ)) (es : List Id) (f : KeyFault) → TellOf rs words es → AreUntold rs words f → f ≡ Memory
  all_told_of [] es f h u = u
  all_told_of (w ∷ words) es f (few, later, s, l, is) (inl u) = told_of w few f s u
  all_told_of (w ∷ words) es f (few, later, s, l, is) (inr (some, t, u)) = all_told_of words later f l u
