-- What holds of the result of a step holds of an equal value that is kept during further steps.
use Rattle.std.proofs.Common.{◌≡◌, Result, Ok, sym, ap, ◌∙◌, subst}

pub held : {A E : Type 0} (P : Result A E → Type 0) (r : Result A E) (v w : A) → r ≡ Ok v → w ≡ v → P r → P (Ok w)
held P r v w e s h = subst P (e ∙ ap Ok (sym s)) h

pub kept : {A : Type 0} (P : A → Type 0) (v w : A) → w ≡ v → P v → P w
kept P v w s h = subst P (sym s) h
