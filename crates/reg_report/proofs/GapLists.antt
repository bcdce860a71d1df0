-- Ascending lists of the same gaps are equal.
use Rattle.std.proofs.Common.{◌≡◌, ◌≤◌, zero, suc, List, [], ◌∷◌, refl, sym, ◌∙◌, subst, inl, inr, ◌⊎◌, arith}
use Rattle.std.specs.List.{Contains}
use Rattle.reg_op.specs.Ids.{Ids}
use Rattle.reg_state.specs.Runs.{IsBelow}
use Rattle.reg_state.proofs.RunLemmas.{below_chain, not_below_itself}
use Rattle.reg_report.specs.declared.gap.Gap.{Gap}
use Rattle.reg_report.specs.Gaps.{ComesFirst, AllLater, Ascend, AreGaps}

none_in : (g : Gap) → Contains [] g → ⊥
none_in g h = absurd (omega (arith, h.1))

first_in : (g : Gap) (hs : List Gap) → Contains (g ∷ hs) g
first_in g hs = (0, omega arith, refl)

behind : (g h : Gap) (hs : List Gap) → Contains hs g → Contains (h ∷ hs) g
behind g h hs m = (suc m.0, omega (arith, m.1), m.2)

where_is : (g h : Gap) (hs : List Gap) → Contains (h ∷ hs) g → (g ≡ h) ⊎ Contains hs g
where_is g h hs (zero, lt, e) = inl (sym e)
where_is g h hs (suc k, lt, e) = inr (k, omega arith, e)

later_is : (g : Gap) (hs : List Gap) (h : Gap) → AllLater g hs → Contains hs h → ComesFirst g h
later_is g [] h up m = absurd (none_in h m)
later_is g (x ∷ hs) h up m = elim (where_is h x hs m) [
  | inl e ↦ subst (ComesFirst g) (sym e) up.0
  | inr n ↦ later_is g hs h up.1 n
]

-- two gaps that have counts do not both come before each other
one_way : (g h : Gap) → g.low ≤ g.high → h.low ≤ h.high → ComesFirst g h → ComesFirst h g → ⊥
one_way g h a b (inl c) (inl d) = not_below_itself g.replica (below_chain g.replica h.replica g.replica c d)
one_way g h a b (inl c) (inr d) = not_below_itself g.replica (subst (λ r. IsBelow g.replica r) d.0 c)
one_way g h a b (inr c) (inl d) = not_below_itself g.replica (subst (λ r. IsBelow r g.replica) (sym c.0) d)
one_way g h a b (inr c) (inr d) = absurd (omega (arith, a, b, c.1, d.1))

abbrev AreSome : List Gap → Type 0
AreSome gs = (g : Gap) → Contains gs g → g.low ≤ g.high

abbrev AreIn : List Gap → List Gap → Type 0
AreIn gs hs = (g : Gap) → Contains gs g → Contains hs g

same_first : (g h : Gap) (gs hs : List Gap) → Ascend (g ∷ gs) → Ascend (h ∷ hs) → AreSome (g ∷ gs) → AreSome (h ∷ hs) → Contains (h ∷ hs) g → Contains (g ∷ gs) h → g ≡ h
same_first g h gs hs up vp some others m n = elim (where_is g h hs m) [
  | inl e ↦ e
  | inr later ↦ elim (where_is h g gs n) [
    | inl e ↦ sym e
    | inr sooner ↦ absurd (one_way g h (some g (first_in g gs)) (others h (first_in h hs)) (later_is g gs h up.0 sooner) (later_is h hs g vp.0 later))
  ]
]

-- if two lists begin alike, and the ascending one is within the other, its tail is within the other's tail
rest_in : (g h : Gap) (gs hs : List Gap) → Ascend (g ∷ gs) → AreSome (g ∷ gs) → g ≡ h → AreIn (g ∷ gs) (h ∷ hs) → AreIn gs hs
rest_in g h gs hs up some same there x m = elim (where_is x h hs (there x (behind x g gs m))) [
  | inl e ↦
      let is : x ≡ g = e ∙ sym same in
      let after : ComesFirst g g = subst (ComesFirst g) is (later_is g gs x up.0 m) in
      let fits = some g (first_in g gs) in
      absurd (one_way g g fits fits after after)
  | inr n ↦ n
]

same_list : (gs hs : List Gap) → Ascend gs → Ascend hs → AreSome gs → AreSome hs → AreIn gs hs → AreIn hs gs → gs ≡ hs
same_list [] [] up vp some others there back = refl
same_list [] (h ∷ hs) up vp some others there back = absurd (none_in h (back h (first_in h hs)))
same_list (g ∷ gs) [] up vp some others there back = absurd (none_in g (there g (first_in g gs)))
same_list (g ∷ gs) (h ∷ hs) up vp some others there back =
    let same : g ≡ h = same_first g h gs hs up vp some others (there g (first_in g gs)) (back h (first_in h hs)) in
    let rest : gs ≡ hs = same_list gs hs up.1 vp.1 (λ x m. some x (behind x g gs m)) (λ x m. others x (behind x h hs m))
    (rest_in g h gs hs up some same there) (rest_in h g hs gs vp others (sym same) back) in
    (λ k. same k ∷ rest k)

pub one_list : (seen : Ids) (gs hs : List Gap) → AreGaps seen gs → AreGaps seen hs → gs ≡ hs
one_list seen gs hs a b =
    same_list gs hs a.ascend b.ascend (λ g m. ((a.each g).0 m).some) (λ g m. ((b.each g).0 m).some) (λ g m. (b.each g).1 ((a.each g).0 m)) (λ g m. (a.each g).1 ((b.each g).0 m))
