-- `supersede` for one old entry after the other.
use Rattle.std.proofs.Common.{◌≡◌, ◌↔◌, ℕ, ◌≤◌, List, [], ◌∷◌, ◌++◌, append-nil, append_assoc, length, length-drop, drop, arith, refl, sym, ap, ◌∙◌, subst, inl, inr}
use Rattle.reg_op.specs.Ids.{Id}
use Rattle.reg_op.specs.Contents.{Content}
use Rattle.reg_office.specs.Commands.{supersessions}
use Rattle.reg_engine.specs.declared.fault.CliFault.{CliFault}
use Rattle.reg_commands.specs.Change.{Makes, CannotMake}
use Rattle.reg_commands.specs.Keyed.{SupersedesEach, CannotSupersedeEach}

pub ended : (es : List Id) (i : ℕ) → length es ≤ i → length (drop i es) ≡ 0
ended es i h = let long = length-drop i es in omega (arith, long, h)

module _ (replica note : List ℕ) (newer : List Id) (x : Content) where
  abbrev Step : Id → Content → Content → List ℕ → Type 0
  Step old y z now = Makes replica note (supersessions old newer) y z now

  -- what `rest` does after the lines so far completes what all do
  abbrev pub Completes : List Id → List Id → Content → List ℕ → Type 0
  Completes all rest y lines = (z : Content) (later : List ℕ) → SupersedesEach replica note rest newer y z later → SupersedesEach replica note all newer x z (lines ++ later)

  -- each fault of `rest` is a fault of all
  abbrev pub Passes : List Id → List Id → Content → Type 0
  Passes all rest y = (f : CliFault) → CannotSupersedeEach replica note rest newer y f → CannotSupersedeEach replica note all newer x f

  pub completes_none : (all : List Id) (lines : List ℕ) → lines ≡ [] → Completes all all x lines
  completes_none all lines e z later s = subst (λ (l : List ℕ). SupersedesEach replica note all newer x z (l ++ later)) (sym e) s

  pub completes_more : (all rest others : List Id) (old : Id) (y z : Content) (lines now next : List ℕ) → rest ≡ old ∷ others → Step old y z now → next ≡ lines ++ now
      → Completes all rest y lines → Completes all others z next
  completes_more all rest others old y z lines now next first step is c w later s =
      subst (λ (l : List ℕ). SupersedesEach replica note all newer x w l) (sym (append_assoc lines now later) ∙ ap (λ (l : List ℕ). l ++ later) (sym is))
      (c w (now ++ later) (subst (λ (es : List Id). SupersedesEach replica note es newer y w (now ++ later)) (sym first) (z, now, later, step, s, refl)))

  pub passes_more : (all rest others : List Id) (old : Id) (y z : Content) (now : List ℕ) → rest ≡ old ∷ others → Step old y z now → Passes all rest y → Passes all others z
  passes_more all rest others old y z now first step p f o = p f (subst (λ (es : List Id). CannotSupersedeEach replica note es newer y f) (sym first) (inr (z, now, step, o)))

  pub passes_here : (all rest others : List Id) (old : Id) (y : Content) (f : CliFault) → rest ≡ old ∷ others → CannotMake replica note (supersessions old newer) y f → Passes all rest y
      → CannotSupersedeEach replica note all newer x f
  passes_here all rest others old y f first not p = p f (subst (λ (es : List Id). CannotSupersedeEach replica note es newer y f) (sym first) (inl not))

  pub all_done : (all rest : List Id) (y : Content) (lines : List ℕ) → length rest ≡ 0 → Completes all rest y lines → SupersedesEach replica note all newer x y lines
  all_done all [] y lines e c = subst (λ (l : List ℕ). SupersedesEach replica note all newer x y l) (append-nil lines) (c y [] (refl, refl))
  all_done all (o ∷ rest) y lines e c = absurd (omega arith)

  -- ---- one old entry

  pub one_makes : (old : Id) (y : Content) (lines : List ℕ) → SupersedesEach replica note (old ∷ []) newer x y lines ↔ Step old x y lines
  one_makes old y lines = (to, λ s. (y, lines, [], s, (refl, refl), sym (append-nil lines)))
    where
      to : SupersedesEach replica note (old ∷ []) newer x y lines → Step old x y lines
      to (z, now, later, s, (same, none), is) =
          subst (λ (w : Content). Step old x w lines) (sym same)
          (subst (λ (l : List ℕ). Step old x z l) (sym (is ∙ ap (λ (l : List ℕ). now ++ l) none ∙ append-nil now)) s)

  pub one_refused : (old : Id) (f : CliFault) → CannotSupersedeEach replica note (old ∷ []) newer x f ↔ CannotMake replica note (supersessions old newer) x f
  one_refused old f = (to, inl)
    where
      to : CannotSupersedeEach replica note (old ∷ []) newer x f → CannotMake replica note (supersessions old newer) x f
      to (inl r) = r
      to (inr (z, now, s, r)) = absurd r
