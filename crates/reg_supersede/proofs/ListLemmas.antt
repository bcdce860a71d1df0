-- The lines of a list, one line at a time.
use Rattle.std.proofs.Common.{◌≡◌, ℕ, ◌+◌, false, List, [], ◌∷◌, ◌++◌, append_assoc, append-nil, length, refl, sym, ap, ◌∙◌, subst, inl, inr, arith}
use Rattle.std.proofs.lemmas.Bool.{true≢false}
use Rattle.reg_op.specs.Ids.{Id}
use Rattle.reg_op.specs.declared.operation.OpBody.{OpBody as Body}
use Rattle.reg_op.specs.Contents.{Content, IsContent}
use Rattle.reg_supersede.specs.declared.fault.RefusedLine.{RefusedLine}
use Rattle.reg_supersede.specs.Lists.{Task, DoesAll, StopsAt}
use Rattle.reg_supersede.specs.Effects.{after, ids_of, StepsOn, IsStepFault, IsListFault}
use Rattle.reg_supersede.proofs.AfterLemmas.{merged_none}

module _ (t : Task) (x : Content) where
  -- what `rest` does after the effects so far completes what all lines do
  abbrev pub Completes : List (List ℕ) → ℕ → List (List ℕ) → List Body → List RefusedLine → Type 0
  Completes all n rest bs left = (y : Content) (later : List Id) (lefts : List RefusedLine) → DoesAll t n (after t x bs) rest y later lefts → DoesAll t 1 x all y (ids_of t x bs ++ later) (left ++ lefts)

  -- if refused lines are not left out, the line at which `rest` stops is the line at which all stop
  abbrev pub Passes : List (List ℕ) → ℕ → List (List ℕ) → List Body → Type 0
  Passes all n rest bs = t.keep_going ≡ false → (f : RefusedLine) → StopsAt t n (after t x bs) rest f → StopsAt t 1 x all f

  pub completes_first : IsContent x → (all : List (List ℕ)) (bs : List Body) (left : List RefusedLine) → bs ≡ [] → left ≡ [] → Completes all 1 all bs left
  completes_first is all bs left e f y later lefts ran =
      let start : after t x bs ≡ x = ap (after t x) e ∙ merged_none x is.is_kept in
      subst (λ (l : List RefusedLine). DoesAll t 1 x all y (ids_of t x bs ++ later) (l ++ lefts)) (sym f)
      (subst (λ (l : List Body). DoesAll t 1 x all y (ids_of t x l ++ later) lefts) (sym e) (subst (λ z. DoesAll t 1 z all y later lefts) start ran))

  pub passes_first : IsContent x → (all : List (List ℕ)) (bs : List Body) → bs ≡ [] → Passes all 1 all bs
  passes_first is all bs e off f s = subst (λ z. StopsAt t 1 z all f) (ap (after t x) e ∙ merged_none x is.is_kept) s

  pub completes_more : (all : List (List ℕ)) (n : ℕ) (rest others : List (List ℕ)) (text : List ℕ) (bs new : List Body) (left more : List RefusedLine) → rest ≡ text ∷ others → StepsOn t x n text bs left new more
      → Completes all n rest bs left → Completes all (n + 1) others new more
  completes_more all n rest others text bs new left more first (inl (now, does, ids, same)) c y later lefts ran =
      let whole = c y (now ++ later) lefts (subst (λ ls. DoesAll t n (after t x bs) ls y (now ++ later) lefts) (sym first) (inl (after t x new, now, later, does, ran, refl))) in
      subst (λ (l : List RefusedLine). DoesAll t 1 x all y (ids_of t x new ++ later) (l ++ lefts)) (sym same)
      (subst (λ (l : List Id). DoesAll t 1 x all y l (left ++ lefts)) (sym (append_assoc (ids_of t x bs) now later) ∙ ap (λ (l : List Id). l ++ later) (sym ids)) whole)
  completes_more all n rest others text bs new left more first (inr (f, keep, refuses, same, told)) c y later lefts ran =
      let ran_here = subst (λ (l : List Body). DoesAll t (n + 1) (after t x l) others y later lefts) same ran in
      let whole = c y later (record { line = n; fault = f } ∷ lefts) (subst (λ ls. DoesAll t n (after t x bs) ls y later (record { line = n; fault = f } ∷ lefts)) (sym first) (inr (f, lefts, keep, refuses, ran_here, refl))) in
      subst (λ (l : List Body). DoesAll t 1 x all y (ids_of t x l ++ later) (more ++ lefts)) (sym same)
      (subst (λ (l : List RefusedLine). DoesAll t 1 x all y (ids_of t x bs ++ later) l) (sym (append_assoc left (record { line = n; fault = f } ∷ []) lefts) ∙ ap (λ (l : List RefusedLine). l ++ lefts) (sym told)) whole)

  pub passes_more : (all : List (List ℕ)) (n : ℕ) (rest others : List (List ℕ)) (text : List ℕ) (bs new : List Body) (left more : List RefusedLine) → rest ≡ text ∷ others → StepsOn t x n text bs left new more
      → Passes all n rest bs → Passes all (n + 1) others new
  passes_more all n rest others text bs new left more first (inl (now, does, ids, same)) p off f s =
      p off f (subst (λ ls. StopsAt t n (after t x bs) ls f) (sym first) (inr (after t x new, now, does, s)))
  passes_more all n rest others text bs new left more first (inr (f, keep, refuses, same, told)) p off g s = absurd (true≢false (sym keep ∙ off))

  pub passes_here : (all : List (List ℕ)) (n : ℕ) (rest others : List (List ℕ)) (text : List ℕ) (bs : List Body) (f : RefusedLine) → rest ≡ text ∷ others → IsStepFault t (after t x bs) n text f
      → Passes all n rest bs → IsListFault t x all f
  passes_here all n rest others text bs f first is p refusal =
      let at = is refusal in
      (at.0, p at.0 f (subst (λ ls. StopsAt t n (after t x bs) ls f) (sym first) (inl (at.1, at.2))))

  pub all_done : (all rest : List (List ℕ)) (n : ℕ) (bs : List Body) (left : List RefusedLine) → length rest ≡ 0 → Completes all n rest bs left → DoesAll t 1 x all (after t x bs) (ids_of t x bs) left
  all_done all [] n bs left e c =
      subst (λ (l : List RefusedLine). DoesAll t 1 x all (after t x bs) (ids_of t x bs) l) (append-nil left)
      (subst (λ (l : List Id). DoesAll t 1 x all (after t x bs) l (left ++ [])) (append-nil (ids_of t x bs)) (c (after t x bs) [] [] (refl, refl, refl)))
  all_done all (l ∷ rest) n bs left e c = absurd (omega arith)
