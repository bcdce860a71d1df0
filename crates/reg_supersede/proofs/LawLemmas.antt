-- A list of one line makes what a command makes of its pairs, and is refused as that is.
use Rattle.std.proofs.Common.{◌≡◌, ◌↔◌, ℕ, List, [], ◌∷◌, ◌++◌, append-nil, map, Err, refl, sym, ap, ◌∙◌, subst, inl, inr}
use Rattle.reg_op.specs.Ids.{Id}
use Rattle.reg_op.specs.Operations.{Ops}
use Rattle.reg_op.specs.declared.operation.OpBody.{OpBody as Body}
use Rattle.reg_op.specs.declared.operation.OpBody.TheVariants.{Supersede}
use Rattle.reg_op.specs.Contents.{Content}
use Rattle.reg_keys.specs.declared.fault.KeyFault.{KeyFault}
use Rattle.reg_keys.specs.declared.fault.KeyFault.TheVariants as key
use Rattle.reg_keys.specs.Every.{StandsForEvery, StandForEach}
use Rattle.reg_keys.proofs.LawLemmas as law
use Rattle.reg_keys.proofs.EveryLemmas as every
use Rattle.reg_office.specs.declared.fault.OfficeFault.{OfficeFault}
use Rattle.reg_office.specs.Making.{made}
use Rattle.reg_office.specs.Commands.{supersessions, Does}
use Rattle.reg_supersede.specs.declared.fault.LineWord.{LineWord}
use Rattle.reg_supersede.specs.declared.fault.LineWord.TheVariants.{Old, By}
use Rattle.reg_supersede.specs.declared.fault.LineFault.{LineFault}
use Rattle.reg_supersede.specs.declared.fault.LineFault.TheVariants as line
use Rattle.reg_supersede.specs.Lines.{words}
use Rattle.reg_supersede.specs.Lists.{Task, pair_of, pairs_of, lacking, bodies_of, effects_of, DoesFor, RefusesFor, FailsLine, DoesAll, StopsAt, word_fault}

module _ (t : Task) (x : Content) (text w v : List ℕ) (ws : List (List ℕ)) (olds newer : List Id) (are : words text ≡ w ∷ v ∷ ws) (s : StandsForEvery t.rows w olds) (u : StandForEach t.rows (v ∷ ws) newer) where
  same : (P : List Id → List Id → Type 0) (ds gs : List Id) → StandsForEvery t.rows w ds → StandForEach t.rows (v ∷ ws) gs → P ds gs → P olds newer
  same P ds gs h k p =
      subst (λ (l : List Id). P l newer) (every.one_every t.rows w ds olds h s)
      (subst (λ (l : List Id). P ds l) (every.one_meaning_each t.rows (v ∷ ws) gs newer k u) p)

  abbrev Whole : Content → List Id → Type 0
  Whole y ids = Does x t.replica t.note (effects_of x.ops olds newer) y ids

  for_words : (y : Content) (ids : List Id) → DoesFor t x (words text) y ids → Whole y ids
  for_words y ids d =
      let here : DoesFor t x (w ∷ v ∷ ws) y ids = subst (λ l. DoesFor t x l y ids) are d in
      same (λ a b. Does x t.replica t.note (effects_of x.ops a b) y ids) here.0 here.1 here.2 here.3 here.4

  pub one_does : (y : Content) (ids : List Id) → DoesAll t 1 x (text ∷ []) y ids [] ↔ Whole y ids
  one_does y ids = (to, λ d. inl (y, ids, [], subst (λ l. DoesFor t x l y ids) (sym are) (olds, newer, s, u, d), (refl, refl, refl), sym (append-nil ids)))
    where
      to : DoesAll t 1 x (text ∷ []) y ids [] → Whole y ids
      to (inl (z, now, later, d, (e, f, g), h)) =
          subst (λ c. Whole c ids) (sym e) (subst (λ l. Whole z l) (sym (h ∙ ap (λ l. now ++ l) f ∙ append-nil now)) (for_words z now d))
      to (inr (f, lefts, keep, refuses, ran, told)) = cc

  no_fault : (at : LineWord) (k : KeyFault) → FailsLine t.rows w (v ∷ ws) at k → k ≡ key.Memory
  no_fault Old k o = let least = every.stands_least t.rows w olds s in law.no_objection t.rows w least.0 k least.1 o
  no_fault (By i) k (ds, h, o) = every.no_fault_each t.rows (v ∷ ws) 0 newer i k u o

  not_word : (f : OfficeFault) (at : LineWord) (k : KeyFault) → word_fault t.keys at k ≡ line.Office f → FailsLine t.rows w (v ∷ ws) at k → ⊥
  not_word f at k e o = memory (ap (word_fault t.keys at) (sym (no_fault at k o)) ∙ e)
    where
      memory : ◌≡◌ {A = LineFault} line.Memory (line.Office f) → ⊥
      memory e = cc

  pub one_refuses : (f : OfficeFault) → StopsAt t 1 x (text ∷ []) (record { line = 1; fault = line.Office f }) ↔ (made x t.replica t.note (effects_of x.ops olds newer) ≡ Err f)
  one_refuses f = (to, λ e. inl ((tt, subst (λ l. RefusesFor t x l (line.Office f)) (sym are) (inr (olds, newer, s, u, (f, e, refl)))), refl))
    where
      office_is : (g : OfficeFault) → ◌≡◌ {A = LineFault} (line.Office f) (line.Office g) → g ≡ f
      office_is g e = cc

      of_words : RefusesFor t x (w ∷ v ∷ ws) (line.Office f) → made x t.replica t.note (effects_of x.ops olds newer) ≡ Err f
      of_words (inl (at, k, o, e)) = absurd (not_word f at k e o)
      of_words (inr (ds, gs, h, k, (g, e, is))) = same (λ a b. made x t.replica t.note (effects_of x.ops a b) ≡ Err f) ds gs h k (e ∙ ap Err (office_is g is))

      to : StopsAt t 1 x (text ∷ []) (record { line = 1; fault = line.Office f }) → made x t.replica t.note (effects_of x.ops olds newer) ≡ Err f
      to (inl ((is, r), n)) = of_words (subst (λ l. RefusesFor t x l (line.Office f)) are r)
      to (inr (z, now, d, stops)) = absurd stops

bodies_are : (old : Id) (newer : List Id) → bodies_of (map (pair_of old) newer) ≡ supersessions old newer
bodies_are old [] = refl
bodies_are old (n ∷ newer) = ap (λ (l : List Body). Supersede old n ∷ l) (bodies_are old newer)

pub is_command : (ops : Ops) (old : Id) (newer : List Id) → lacking ops [] (pairs_of (old ∷ []) newer) ≡ pairs_of (old ∷ []) newer → effects_of ops (old ∷ []) newer ≡ supersessions old newer
is_command ops old newer e = ap bodies_of (e ∙ append-nil (map (pair_of old) newer)) ∙ bodies_are old newer
