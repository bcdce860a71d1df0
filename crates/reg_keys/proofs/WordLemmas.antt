-- Words that name keys.
use Rattle.std.proofs.Common.{◌≡◌, ◌↔◌, ℕ, ◌<◌, ◌++◌, Bool, false, List, [], ◌∷◌, length, take, drop, IsTrue, length-append, sym, ap, ◌∙◌, subst, arith}
use Rattle.std.proofs.lemmas.Bool.{true≢false}
use Rattle.std.proofs.lemmas.List.{take-append-drop, take_at, drop_at, append_cancel_left, length-map}
use Rattle.std.specs.Char.{to_ascii_lowercase}
use Rattle.crs_value.specs.Parts.{IsAlike}

-- texts that are equal but for the case of letters A to Z have equal lengths
alike_long : (a b : List ℕ) → IsAlike a b → length a ≡ length b
alike_long a b e = sym (length-map a to_ascii_lowercase) ∙ ap length e ∙ length-map b to_ascii_lowercase

-- the word is the authority, in either case, then a colon, then the code
abbrev pub Is : List ℕ → List ℕ → List ℕ → Type 0
Is word authority code = (front : List ℕ) × IsAlike front authority × (word ≡ front ++ 58 ∷ code)

-- such a word splits at the length of the authority, before the colon
front_is : (word authority code front : List ℕ) → IsAlike front authority → word ≡ front ++ 58 ∷ code → take (length authority) word ≡ front
front_is word authority code front a e = ap (take (length authority)) e ∙ take_at front (58 ∷ code) (length authority) (alike_long front authority a)

back_is : (word authority code front : List ℕ) → IsAlike front authority → word ≡ front ++ 58 ∷ code → drop (length authority) word ≡ 58 ∷ code
back_is word authority code front a e = ap (drop (length authority)) e ∙ drop_at front (58 ∷ code) (length authority) (alike_long front authority a)

pub colon : (word authority code front back rest : List ℕ) (r : Bool) → front ≡ take (length authority) word → back ≡ drop (length authority) word → back ≡ 58 ∷ rest
    → IsTrue r ↔ (IsAlike front authority × (rest ≡ code)) → IsTrue r ↔ Is word authority code
colon word authority code front back rest r f b e is = (
  λ h. let k = is.0 h in (front, k.0, sym (take-append-drop (length authority) word) ∙ (λ j. sym f j ++ (sym b ∙ e ∙ ap (λ t. 58 ∷ t) k.1) j)),
  λ (other, a, w). is.1 (
    subst (λ t. IsAlike t authority) (sym (f ∙ front_is word authority code other a w)) a,
    append_cancel_left (58 ∷ []) rest code (sym e ∙ b ∙ back_is word authority code other a w),
  ),
)
