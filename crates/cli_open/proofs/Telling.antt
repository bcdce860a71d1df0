-- What is reported of a list, as a walk along it goes on.
use Rattle.std.proofs.Common.{◌≡◌, ℕ, ◌+◌, ◌<◌, ◌≤◌, List, ◌∷◌, length, drop, get_or, refl, sym, subst}
use Rattle.std.proofs.lemmas.List.{at_drop_more, drop_all}
use Rattle.cli_open.specs.Outcome.{TellsEach}

-- whatever is reported of the remaining things from now on, all of them are reported from the first moment on
abbrev pub Leads : {S : Type 0} → {L : Type 0} → (S → L → S → Type 0) → List L → List L → S → S → Type 0
Leads {S} Tells rest all now old = (new : S) → TellsEach Tells rest now new → TellsEach Tells all old new

module _ {S : Type 0} {L : Type 0} (Tells : S → L → S → Type 0) (all : List L) where
  pub begins : (old : S) → Leads Tells (drop 0 all) all old old
  begins old = λ new h. h

  -- the item at i was reported
  pub goes_on : (i : ℕ) (one : L) (old now next : S) → i < length all → one ≡ get_or all i one → Leads Tells (drop i all) all now old → Tells now one next
      → Leads Tells (drop (i + 1) all) all next old
  goes_on i one old now next below is leads told = λ new h.
      let here : TellsEach Tells (get_or all i one ∷ drop (i + 1) all) now new = (next, subst (λ (l : L). Tells now l next) is told, h) in
      leads new (subst (λ (ls : List L). TellsEach Tells ls now new) (sym (at_drop_more (λ (ls : List L). ls) all i one below)) here)

  pub ends : (i : ℕ) (old now : S) → length all ≤ i → Leads Tells (drop i all) all now old → TellsEach Tells all old now
  ends i old now over leads = leads now (subst (λ (ls : List L). TellsEach Tells ls now now) (sym (drop_all i all over)) refl)
