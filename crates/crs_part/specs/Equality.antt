-- Whether two values are equal, as a test, for every type whose values have a code.
use Rattle.std.specs.Prelude.{◌≡◌, Bool, true, false, ◌==◌, ◌&&◌, Decides, refl}
use Rattle.std.specs.Coded.{Coded}
use Rattle.std.specs.Cmp.{IsEquivalence, IsPartialEquivalence, decided, partial_equiv_from_equiv, unsigned_Decides}
use Rattle.std.proofs.Common.{ap}
use Rattle.std.proofs.lemmas.Bool.Decides.{Decides-like, Decides-and, same_from_decides}
use base.Stored.{Gv, gnil, gnum, gcons, num}

abbrev codes_equal : Gv → Gv → Bool
codes_equal gnil gnil = true
codes_equal gnil (gnum n) = false
codes_equal gnil (gcons c d) = false
codes_equal (gnum m) gnil = false
codes_equal (gnum m) (gnum n) = m == n
codes_equal (gnum m) (gcons c d) = false
codes_equal (gcons a b) gnil = false
codes_equal (gcons a b) (gnum n) = false
codes_equal (gcons a b) (gcons c d) = codes_equal a c && codes_equal b d

abbrev front : Gv → Gv
front gnil = gnil
front (gnum n) = gnil
front (gcons a b) = a

abbrev back : Gv → Gv
back gnil = gnil
back (gnum n) = gnil
back (gcons a b) = b

never : {x y : Gv} → (x ≡ y → ⊥) → Decides false (x ≡ y)
never h = (λ e. cc, λ e. absurd (h e))

codes_Decide : (x y : Gv) → Decides (codes_equal x y) (x ≡ y)
codes_Decide gnil gnil = (λ e. refl, λ e. refl)
codes_Decide gnil (gnum n) = never (λ e. cc)
codes_Decide gnil (gcons c d) = never (λ e. cc)
codes_Decide (gnum m) gnil = never (λ e. cc)
codes_Decide (gnum m) (gnum n) = Decides-like (m == n) (λ e. ap gnum e) (λ e. ap num e) (unsigned_Decides m n)
codes_Decide (gnum m) (gcons c d) = never (λ e. cc)
codes_Decide (gcons a b) gnil = never (λ e. cc)
codes_Decide (gcons a b) (gnum n) = never (λ e. cc)
codes_Decide (gcons a b) (gcons c d) = Decides-like (codes_equal a c && codes_equal b d) (λ e. λ i. gcons (e.0 i) (e.1 i)) (λ e. (ap front e, ap back e)) (Decides-and (codes_equal a c) (codes_equal b d) (codes_Decide a c) (codes_Decide b d))

-- whether two values are equal
unfoldable pub equal : {A : Type 0} → Coded A → A → A → Bool
equal coded x y = codes_equal (coded.code x) (coded.code y)

pub equal_Decides : {A : Type 0} (coded : Coded A) (x y : A) → Decides (equal coded x y) (x ≡ y)
unfolding equal
equal_Decides coded x y = Decides-like (codes_equal (coded.code x) (coded.code y)) (coded.inj x y) (ap coded.code) (codes_Decide (coded.code x) (coded.code y))

pub equal_is_equivalence : {A : Type 0} (coded : Coded A) → IsEquivalence (equal coded)
equal_is_equivalence coded = decided (equal coded) (equal_Decides coded)

pub equal_is_partial_equivalence : {A : Type 0} (coded : Coded A) → IsPartialEquivalence (equal coded)
equal_is_partial_equivalence coded = partial_equiv_from_equiv (equal_is_equivalence coded)

-- the result of a comparison is that of the test
pub equal_is : {A : Type 0} (coded : Coded A) (x y : A) (answer : Bool) → (answer ≡ true → x ≡ y) → (x ≡ y → answer ≡ true) → answer ≡ equal coded x y
equal_is coded x y answer sound complete = same_from_decides answer (equal coded x y) (sound, complete) (equal_Decides coded x y)
