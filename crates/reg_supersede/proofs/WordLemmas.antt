-- The words of a line: the pairs that it adds, or why it is refused.
use Rattle.std.specs.Prelude.{nat_eq}
use Rattle.std.proofs.lemmas.Bool.Decides.{nat_tests}
use Rattle.std.proofs.lemmas.List.{length-map}
use Rattle.std.proofs.Common.{◌≡◌, ℕ, ◌<◌, false, List, [], ◌∷◌, map, length, sym, subst, inl, inr, arith}
use Rattle.reg_op.specs.Ids.{Id}
use Rattle.reg_op.specs.declared.operation.OpBody.{OpBody as Body}
use Rattle.reg_op.specs.Contents.{Content}
use Rattle.reg_keys.specs.declared.fault.KeyFault.{KeyFault}
use Rattle.reg_keys.specs.Every.{StandsForEvery, StandForEach}
use Rattle.reg_supersede.specs.declared.pair.Pair.{Pair}
use Rattle.reg_supersede.specs.declared.fault.LineWord.{LineWord}
use Rattle.reg_supersede.specs.declared.fault.LineFault.{LineFault}
use Rattle.reg_supersede.specs.Lists.{Task, FailsLine, word_fault, pairs_of, lacking, bodies_of, RefusesFor, IsRefusal}
use Rattle.reg_supersede.specs.Effects.{after, AddsFor, CanAdd, IsAddFault}

pub refuses_word : (t : Task) (x : Content) (w : List ℕ) (ws : List (List ℕ)) (f : LineFault) (at : LineWord) (k : KeyFault) → FailsLine t.rows w ws at k → word_fault t.keys at k ≡ f → RefusesFor t x (w ∷ ws) f
refuses_word t x w [] f at k o e = inl (at, k, o, e)
refuses_word t x w (v ∷ ws) f at k o e = inl (at, k, o, e)

pub adds_some : (t : Task) (x : Content) (bs : List Body) (w : List ℕ) (ws : List (List ℕ)) (olds newer : List Id) (ps : List Pair) → 0 < length ws → StandsForEvery t.rows w olds → StandForEach t.rows ws newer
    → ps ≡ lacking (after t x bs).ops [] (pairs_of olds newer) → CanAdd t x bs (bodies_of ps) → AddsFor t x bs (w ∷ ws) ps
adds_some t x bs w [] olds newer ps some s u e can = absurd (omega arith)
adds_some t x bs w (v ∷ ws) olds newer ps some s u e can = (olds, newer, s, u, e, can)

pub refuses_pairs : (t : Task) (x : Content) (w : List ℕ) (ws : List (List ℕ)) (olds newer : List Id) (f : LineFault) → 0 < length ws → StandsForEvery t.rows w olds → StandForEach t.rows ws newer
    → IsAddFault t x (lacking x.ops [] (pairs_of olds newer)) f → IsRefusal f → RefusesFor t x (w ∷ ws) f
refuses_pairs t x w [] olds newer f some s u why refusal = absurd (omega arith)
refuses_pairs t x w (v ∷ ws) olds newer f some s u why refusal = let g = why refusal in inr (olds, newer, s, u, (g.0, g.1, g.2))

some_of : (n : ℕ) → nat_eq n 0 ≡ false → 0 < n
some_of n h = grind (arith, nat_tests)

pub some_words : {W : Type 0} (f : W → List ℕ) (ws : List W) → false ≡ nat_eq (length ws) 0 → 0 < length (map f ws)
some_words f ws h = subst (λ n. 0 < n) (sym (length-map ws f)) (some_of (length ws) (sym h))
