-- The characters of a text with marks.
use Rattle.std.proofs.Common.{◌≡◌, ℕ, ◌/◌, ◌%◌, ◌<◌, Bool, true, false, not, ◌||◌, List, [], ◌∷◌, ◌++◌, IsUtf8, if◌then◌else◌, refl, sym, ap, ◌∙◌, append-nil, arith}
use Rattle.std.specs.List.{flat_map, list_all}
use Rattle.std.specs.Str.{chars}
use Rattle.std.proofs.lemmas.Bool.Decides.{nat_tests}
use Rattle.std.proofs.lemmas.List.Folds.{list_all-append}
use Rattle.std.proofs.lemmas.Str.{encode_ascii, encodes-append, chars-encodes}
use Rattle.std.proofs.lemmas.Bool.{and_parts, and_from}
use mathlib.Core.Bool.{or-true}
use lib.Utf8.{scalar, scalars, encode, encodes, low_scalar}
use Rattle.text_hidden.specs.Set.{is_hidden}
use Rattle.text_hidden.specs.Marks.{digit, mark, shown, shown_all, Marks, hides_only}

-- ---- the characters of a mark

abbrev mark_chars : ℕ → List ℕ
mark_chars c = 0x27E8 ∷ 85 ∷ 43 ∷ digit (c / 4096 % 16) ∷ digit (c / 256 % 16) ∷ digit (c / 16 % 16) ∷ digit (c % 16) ∷ 0x27E9 ∷ []

opened : encode 0x27E8 ≡ 226 ∷ 159 ∷ 168 ∷ []
unfolding encode
opened = refl

closed : encode 0x27E9 ≡ 226 ∷ 159 ∷ 169 ∷ []
unfolding encode
closed = refl

spelled : (a b c d : ℕ) → a < 128 → b < 128 → c < 128 → d < 128 → encodes (0x27E8 ∷ 85 ∷ 43 ∷ a ∷ b ∷ c ∷ d ∷ 0x27E9 ∷ []) ≡ 226 ∷ 159 ∷ 168 ∷ 85 ∷ 43 ∷ a ∷ b ∷ c ∷ d ∷ 226 ∷ 159 ∷ 169 ∷ []
spelled a b c d p q r s =
    rw (opened, closed, encode_ascii 85 (omega arith), encode_ascii 43 (omega arith), encode_ascii a p, encode_ascii b q, encode_ascii c r, encode_ascii d s) refl

digit_small : (x : ℕ) → x < 16 → digit x < 128
digit_small x h = grind (arith, nat_tests)

pub digit_shown : (x : ℕ) → x < 16 → is_hidden (digit x) ≡ false
digit_shown x h = grind (arith, nat_tests)

mark_spelled : (c : ℕ) → encodes (mark_chars c) ≡ mark c
mark_spelled c =
    spelled (digit (c / 4096 % 16)) (digit (c / 256 % 16)) (digit (c / 16 % 16)) (digit (c % 16))
    (digit_small (c / 4096 % 16) (omega arith)) (digit_small (c / 256 % 16) (omega arith)) (digit_small (c / 16 % 16) (omega arith)) (digit_small (c % 16) (omega arith))

low : (x : ℕ) → x < 128 → scalar x ≡ true
low x h = low_scalar x (omega arith)

four_scalars : (a b c d : ℕ) → a < 128 → b < 128 → c < 128 → d < 128 → scalars (0x27E8 ∷ 85 ∷ 43 ∷ a ∷ b ∷ c ∷ d ∷ 0x27E9 ∷ []) ≡ true
four_scalars a b c d p q r s = rw (low a p, low b q, low c r, low d s) refl

mark_scalars : (c : ℕ) → scalars (mark_chars c) ≡ true
mark_scalars c =
    four_scalars (digit (c / 4096 % 16)) (digit (c / 256 % 16)) (digit (c / 16 % 16)) (digit (c % 16))
    (digit_small (c / 4096 % 16) (omega arith)) (digit_small (c / 256 % 16) (omega arith)) (digit_small (c / 16 % 16) (omega arith)) (digit_small (c % 16) (omega arith))

plain : (kept : ℕ → Bool) (x : ℕ) → is_hidden x ≡ false → (kept x || not (is_hidden x)) ≡ true
plain kept x e = ap (λ h. kept x || not h) e ∙ or-true (kept x)

-- a character may be in what is shown
abbrev is_seen : (ℕ → Bool) → ℕ → Bool
is_seen kept c = kept c || not (is_hidden c)

mark_seen : (kept : ℕ → Bool) (c : ℕ) → list_all (is_seen kept) (mark_chars c) ≡ true
mark_seen kept c =
    and_from _ _ (plain kept 0x27E8 refl) (and_from _ _ (plain kept 85 refl) (and_from _ _ (plain kept 43 refl)
    (and_from _ _ (plain kept (digit (c / 4096 % 16)) (digit_shown (c / 4096 % 16) (omega arith)))
    (and_from _ _ (plain kept (digit (c / 256 % 16)) (digit_shown (c / 256 % 16) (omega arith)))
    (and_from _ _ (plain kept (digit (c / 16 % 16)) (digit_shown (c / 16 % 16) (omega arith)))
    (and_from _ _ (plain kept (digit (c % 16)) (digit_shown (c % 16) (omega arith)))
    (and_from _ _ (plain kept 0x27E9 refl) refl)))))))

-- ---- the characters of what is shown

abbrev shown_chars : (ℕ → Bool) → ℕ → List ℕ
shown_chars marks c = if marks c then mark_chars c else c ∷ []

encode_one : (c : ℕ) → encodes (c ∷ []) ≡ encode c
encode_one c = append-nil (encode c)

one_spelled : (c : ℕ) (m : Bool) → encodes (if m then mark_chars c else c ∷ []) ≡ (if m then mark c else encode c)
one_spelled c true = mark_spelled c
one_spelled c false = encode_one c

all_spelled : (marks : ℕ → Bool) (cs : List ℕ) → encodes (flat_map (shown_chars marks) cs) ≡ shown_all marks cs
all_spelled marks [] = refl
all_spelled marks (c ∷ cs) =
    encodes-append (shown_chars marks c) (flat_map (shown_chars marks) cs)
    ∙ ap (λ l. l ++ encodes (flat_map (shown_chars marks) cs)) (one_spelled c (marks c))
    ∙ ap (λ l. shown marks c ++ l) (all_spelled marks cs)

scalars_append : (xs ys : List ℕ) → scalars xs ≡ true → scalars ys ≡ true → scalars (xs ++ ys) ≡ true
scalars_append [] ys p q = q
scalars_append (x ∷ xs) ys p q = let each = and_parts (scalar x) (scalars xs) p in and_from (scalar x) (scalars (xs ++ ys)) each.0 (scalars_append xs ys each.1 q)

one_scalars : (c : ℕ) (m : Bool) → scalar c ≡ true → scalars (if m then mark_chars c else c ∷ []) ≡ true
one_scalars c true e = mark_scalars c
one_scalars c false e = and_from (scalar c) true e refl

all_are_scalars : (marks : ℕ → Bool) (cs : List ℕ) → scalars cs ≡ true → scalars (flat_map (shown_chars marks) cs) ≡ true
all_are_scalars marks [] e = refl
all_are_scalars marks (c ∷ cs) e =
    let each = and_parts (scalar c) (scalars cs) e in
    scalars_append (shown_chars marks c) (flat_map (shown_chars marks) cs) (one_scalars c (marks c) each.0) (all_are_scalars marks cs each.1)

one_seen : (kept : ℕ → Bool) (c : ℕ) (m : Bool) → (m || is_seen kept c) ≡ true → list_all (is_seen kept) (if m then mark_chars c else c ∷ []) ≡ true
one_seen kept c true e = mark_seen kept c
one_seen kept c false e = and_from (is_seen kept c) true e refl

all_seen : (marks kept : ℕ → Bool) (cs : List ℕ) → Marks marks kept → list_all (is_seen kept) (flat_map (shown_chars marks) cs) ≡ true
all_seen marks kept [] each = refl
all_seen marks kept (c ∷ cs) each =
    list_all-append (is_seen kept) (shown_chars marks c) (flat_map (shown_chars marks) cs)
    ∙ and_from (list_all (is_seen kept) (shown_chars marks c)) (list_all (is_seen kept) (flat_map (shown_chars marks) cs)) (one_seen kept c (marks c) (each c)) (all_seen marks kept cs each)

-- the characters of what is shown
pub chars_shown : (marks : ℕ → Bool) (cs : List ℕ) → scalars cs ≡ true → chars (shown_all marks cs) ≡ flat_map (shown_chars marks) cs
chars_shown marks cs e = ap chars (sym (all_spelled marks cs)) ∙ chars-encodes (flat_map (shown_chars marks) cs) (all_are_scalars marks cs e)

-- what is shown is UTF-8
pub shown_utf8 : (marks : ℕ → Bool) (cs : List ℕ) → scalars cs ≡ true → IsUtf8 (shown_all marks cs)
shown_utf8 marks cs e = (flat_map (shown_chars marks) cs, (all_are_scalars marks cs e, all_spelled marks cs))

pub none_hidden : (marks kept : ℕ → Bool) (cs : List ℕ) → Marks marks kept → scalars cs ≡ true → hides_only kept (shown_all marks cs) ≡ true
none_hidden marks kept cs each e = ap (list_all (is_seen kept)) (chars_shown marks cs e) ∙ all_seen marks kept cs each
