-- Commands on the entries that words name.
use Rattle.std.proofs.Common.{◌≡◌, ◌↔◌, ◌⊎◌, ℕ, List, sym, ap, ◌∙◌, subst, inl, inr}
use Rattle.reg_op.specs.Ids.{Id}
use Rattle.reg_op.specs.Contents.{Content}
use Rattle.reg_op.specs.Rows.{Row, rows}
use Rattle.reg_keys.specs.declared.fault.KeyFault.{KeyFault}
use Rattle.reg_keys.specs.declared.fault.KeyFault.TheVariants as key
use Rattle.reg_keys.specs.Named.{StandsFor}
use Rattle.reg_keys.proofs.LawLemmas as law
use Rattle.reg_engine.specs.declared.fault.CliFault.{CliFault}
use Rattle.reg_engine.specs.declared.fault.CliFault.TheVariants as cli
use Rattle.reg_commands.specs.Meaning.{MeanEvery, FailsIn, MeanBoth, AreMeaningless}
use Rattle.reg_commands.specs.Keyed.{key_fault, IsUnnamed, PrintsFor, RefusesFor, MakesFor, CannotMakeFor}
use Rattle.reg_commands.proofs.MeaningLemmas as meaning

-- ---- a command on one entry

pub print_is : (Prints : Id → Content → List ℕ → Type 0) (word : List ℕ) (x : Content) (e : Id) (text : List ℕ) → StandsFor (rows x.ops) word e
    → PrintsFor Prints word x text ↔ Prints e x text
print_is Prints word x e text s = (λ (d, t, p). subst (λ i. Prints i x text) (law.one_entry (rows x.ops) word d e t s) p, λ p. (e, s, p))

pub refuse_is : (Refuses : Id → Content → CliFault → Type 0) (word : List ℕ) (x : Content) (e : Id) (f : CliFault) → StandsFor (rows x.ops) word e
    → RefusesFor Refuses word x f ↔ (Refuses e x f ⊎ (f ≡ cli.Memory))
refuse_is Refuses word x e f s = (to, from)
  where
    to : RefusesFor Refuses word x f → Refuses e x f ⊎ (f ≡ cli.Memory)
    to (inl (k, o, is)) = inr (sym is ∙ ap key_fault (law.no_objection (rows x.ops) word e k s o))
    to (inr (d, t, r)) = inl (subst (λ i. Refuses i x f) (law.one_entry (rows x.ops) word d e t s) r)

    from : Refuses e x f ⊎ (f ≡ cli.Memory) → RefusesFor Refuses word x f
    from (inl r) = inr (e, s, r)
    from (inr m) = inl (key.Memory, tt, sym m)

-- ---- a command that changes entries

module _ (words newer : List (List ℕ)) (x z : Content) (es fs : List Id) (m : MeanBoth (rows x.ops) (rows z.ops) words newer es fs) where
  no_fault : (k : KeyFault) → AreMeaningless (rows x.ops) (rows z.ops) words newer k → k ≡ key.Memory
  no_fault k (inl o) = meaning.no_fault_every (rows x.ops) (rows z.ops) words es k m.0 o
  no_fault k (inr (ds, t, o)) = meaning.no_fault_each (rows x.ops) (rows z.ops) newer fs k m.1 o

  same : (P : List Id → List Id → Type 0) (ds gs : List Id) → MeanBoth (rows x.ops) (rows z.ops) words newer ds gs → P ds gs → P es fs
  same P ds gs t p =
      subst (λ (l : List Id). P l fs) (meaning.one_meaning_every (rows x.ops) (rows z.ops) words ds es t.0 m.0)
      (subst (λ (l : List Id). P ds l) (meaning.one_meaning_each (rows x.ops) (rows z.ops) newer gs fs t.1 m.1) p)

  pub make_is : (Makes : List Id → List Id → Content → Content → Content → List ℕ → Type 0) (y : Content) (lines : List ℕ)
      → MakesFor Makes words newer x z y lines ↔ Makes es fs x z y lines
  make_is Makes y lines = (λ (ds, gs, t, h). same (λ a b. Makes a b x z y lines) ds gs t h, λ h. (es, fs, m, h))

  pub cannot_is : (Refuses : List Id → List Id → Content → Content → CliFault → Type 0) (f : CliFault)
      → CannotMakeFor Refuses words newer x z f ↔ (Refuses es fs x z f ⊎ (f ≡ cli.Memory))
  cannot_is Refuses f = (to, from)
    where
      to : CannotMakeFor Refuses words newer x z f → Refuses es fs x z f ⊎ (f ≡ cli.Memory)
      to (inl o) = inr o
      to (inr (inl (k, o, is))) = inr (sym is ∙ ap key_fault (no_fault k o))
      to (inr (inr (ds, gs, t, r))) = inl (same (λ a b. Refuses a b x z f) ds gs t r)

      from : Refuses es fs x z f ⊎ (f ≡ cli.Memory) → CannotMakeFor Refuses words newer x z f
      from (inl r) = inr (inr (es, fs, m, r))
      from (inr o) = inl o

-- ---- why nothing is made

pub words_refused : (Refuses : List Id → List Id → Content → Content → CliFault → Type 0) (words newer : List (List ℕ)) (x z : Content) (f : CliFault)
    → (f ≡ cli.Memory) ⊎ IsUnnamed (AreMeaningless (rows x.ops) (rows z.ops) words newer) f → CannotMakeFor Refuses words newer x z f
words_refused Refuses words newer x z f (inl m) = inl m
words_refused Refuses words newer x z f (inr u) = inr (inl u)

module _ (was rs : List Row) (words newer : List (List ℕ)) where
  pub first_fails : (f : KeyFault) (g : CliFault) → FailsIn was rs words f → g ≡ key_fault f → IsUnnamed (AreMeaningless was rs words newer) g
  first_fails f g fails is = (f, inl fails, sym is)

  pub other_fails : (es : List Id) (f : KeyFault) (g : CliFault) → MeanEvery was rs words es → FailsIn was rs newer f → g ≡ key_fault f → IsUnnamed (AreMeaningless was rs words newer) g
  other_fails es f g means fails is = (f, inr (es, means, fails), sym is)
