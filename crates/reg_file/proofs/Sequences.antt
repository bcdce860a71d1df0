-- Parts of a file that are read in sequence.
use Rattle.std.proofs.Common.{◌≡◌, ℕ, ◌<◌, List, [], ◌∷◌, ◌++◌, length, Result, refl, sym, subst, inl, inr}
use Rattle.reg_file.specs.declared.fault.Refused.{Refused}
use Rattle.reg_file.specs.declared.fault.Stop.{Stop}
use Rattle.reg_file.specs.declared.fault.Stop.TheVariants as stop
use Rattle.reg_file.specs.Fields.{Fails}
use Rattle.reg_file.specs.Readers.{Portion, field, ◌behind◌, ReadsEach, state_after, StopsIn, repeated}

pub stops_field : {A : Type 0} (read : List ℕ → Result (A × List ℕ) Refused) (bytes : List ℕ) (s : Stop) → Fails s (read bytes) → StopsIn (field read) bytes s
stops_field read bytes stop.Memory h = tt
stops_field read bytes (stop.Refused r) h = h

-- reading two parts stops if the first stops, or if the second stops after the first
module _ {A B : Type 0} (p : Portion A) (q : A → Portion B) (bytes : List ℕ) where
  pub stops_front : (s : Stop) → StopsIn p bytes s → StopsIn (p behind q) bytes s
  stops_front stop.Memory h = tt
  stops_front (stop.Refused r) h = inl h

  pub stops_back : (x : A) (mid : List ℕ) (s : Stop) → p.Reads bytes x mid → StopsIn (q x) mid s → StopsIn (p behind q) bytes s
  stops_back x mid stop.Memory k h = tt
  stops_back x mid (stop.Refused r) k h = inr (x, mid, k, h)

module _ {A S : Type 0} (item : S → Portion A) (next : S → A → S) where
  pub state-push : (s : S) (xs : List A) (x : A) → state_after next s (xs ++ x ∷ []) ≡ next (state_after next s xs) x
  state-push s [] x = refl
  state-push s (y ∷ xs) x = state-push (next s y) xs x

  pub each-push : (s : S) (bytes : List ℕ) (xs : List A) (mid : List ℕ) (x : A) (rest : List ℕ) → ReadsEach item next s bytes xs mid → (item (state_after next s xs)).Reads mid x rest → ReadsEach item next s bytes (xs ++ x ∷ []) rest
  each-push s bytes [] mid x rest h k = (rest, subst (λ b. (item s).Reads b x rest) (sym h) k, refl)
  each-push s bytes (y ∷ xs) mid x rest h k = (h.0, h.1, each-push (next s y) h.0 xs mid x rest h.2 k)

module _ {A S : Type 0} (item : S → Portion A) (next : S → A → S) where
  pub stops_at_one : (s : S) (count : ℕ) (bytes : List ℕ) (xs : List A) (rest : List ℕ) (e : Stop) → ReadsEach item next s bytes xs rest → length xs < count → StopsIn (item (state_after next s xs)) rest e
      → StopsIn (repeated item next s count) bytes e
  stops_at_one s count bytes xs rest stop.Memory h k f = tt
  stops_at_one s count bytes xs rest (stop.Refused r) h k f = record { before = xs; rest = rest; reads = h; fewer = k; fails = f }
