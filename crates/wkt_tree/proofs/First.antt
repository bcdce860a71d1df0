-- A text has at most one first fault.
use Rattle.std.proofs.Common.{◌≡◌, ℕ, ◌<◌, ◌≤◌, List, length, refl, sym, ap, ◌∙◌, arith, IsUtf8}
use Rattle.std.specs.Str.{IsValidUpTo}
use Rattle.std.proofs.lemmas.Str.{utf8_valid_len-IsValidUpTo}
use Rattle.wkt_tree.specs.declared.fault.TextFault.{TextFault}
use Rattle.wkt_tree.specs.declared.fault.TextFault.TheVariants.{TooLong, NotUtf8, BadByte, TextOpen, BadNumber, NumberRange, Unexpected, Depth, EndEarly, After}
use Rattle.wkt_tree.specs.Faults.{TokenFault, FirstFault}
use Rattle.wkt_tree.proofs.Unique.{one_token_fault}

-- a first fault is one of length, of UTF-8, or of a token
data Tier (text : List ℕ) (fault : TextFault) : Type 0 where
  long : 1048576 < length text → fault ≡ TooLong → Tier text fault
  bad : length text ≤ 1048576 → ¬ (IsUtf8 text) → (at : ℕ) → IsValidUpTo text at → fault ≡ NotUtf8 at → Tier text fault
  token : length text ≤ 1048576 → IsUtf8 text → TokenFault text fault → Tier text fault

tier_of : (text : List ℕ) (fault : TextFault) → FirstFault text fault → Tier text fault
tier_of text TooLong f = long f refl
tier_of text (NotUtf8 at) f = bad f.0 f.1 at f.2 refl
tier_of text (BadByte at) f = token f.0 f.1 f.2
tier_of text (TextOpen at) f = token f.0 f.1 f.2
tier_of text (BadNumber at) f = token f.0 f.1 f.2
tier_of text (NumberRange at) f = token f.0 f.1 f.2
tier_of text (Unexpected at) f = token f.0 f.1 f.2
tier_of text (Depth at) f = token f.0 f.1 f.2
tier_of text (EndEarly at) f = token f.0 f.1 f.2
tier_of text (After at) f = token f.0 f.1 f.2

same_tier : (text : List ℕ) (e f : TextFault) → Tier text e → Tier text f → e ≡ f
same_tier text e f (long a x) (long b y) = x ∙ sym y
same_tier text e f (long a x) (bad b n at v y) = absurd (omega (arith, a, b))
same_tier text e f (long a x) (token b u t) = absurd (omega (arith, a, b))
same_tier text e f (bad b n at v y) (long a x) = absurd (omega (arith, a, b))
same_tier text e f (bad a n at v x) (bad b m by w y) =
    x ∙ (ap (λ k. NotUtf8 k) (sym (utf8_valid_len-IsValidUpTo text at v) ∙ utf8_valid_len-IsValidUpTo text by w) ∙ sym y)
same_tier text e f (bad a n at v x) (token b u t) = absurd (n u)
same_tier text e f (token b u t) (long a x) = absurd (omega (arith, a, b))
same_tier text e f (token b u t) (bad a n at v x) = absurd (n u)
same_tier text e f (token a u s) (token b v t) = one_token_fault text e f s t

pub one_first_fault : (text : List ℕ) (e f : TextFault) → FirstFault text e → FirstFault text f → e ≡ f
one_first_fault text e f x y = same_tier text e f (tier_of text e x) (tier_of text f y)
