-- Lines with numbers, and the head of an office file.
use Rattle.std.proofs.Common.{◌≡◌, ℕ, ◌+◌, ◌<◌, ◌≤◌, ◌^◌, true, cond, List, [], ◌∷◌, ◌++◌, length, take, drop, Some, refl, sym, ap, ◌∙◌, inl, arith, length-append}
use Rattle.std.proofs.lemmas.Bool.Decides.{nat_tests}
use Rattle.std.specs.Fmt.{decimal}
use Rattle.std.specs.List.{prefix_len}
use Rattle.std.specs.Char.{is_ascii_digit, digit_value}
use Rattle.std.specs.Str.Parse.{AllDigits}
use Rattle.std.proofs.lemmas.Str.Parse.{digit_from_value}
use Rattle.std.proofs.lemmas.List.{take_at, drop_at, append_assoc}
use Rattle.std.proofs.lemmas.Fmt.{decimal_injective, decimal_is_IsNumeral, length-decimal-le}
use Rattle.std.proofs.lemmas.Option.{same_Some}
use Rattle.uuid.specs.Text.{hyphenated_text, lower, parsed}
use Rattle.uuid.proofs.RoundTrips.{parses_hyphenated}
use Rattle.uuid.proofs.TextLemmas.{by_index_length}
use Rattle.reg_journal.specs.declared.head.Head.{Head}
use Rattle.reg_journal.specs.Text.{line_text, head_text, IsHead}

digit_passes : (c : ℕ) → digit_value c < 10 → is_ascii_digit c ≡ true
digit_passes c h = let range = digit_from_value c h in grind (arith, nat_tests)

digits_long : (ds rest : List ℕ) → AllDigits 10 ds → prefix_len is_ascii_digit (ds ++ (10 ∷ rest)) ≡ length ds
digits_long [] rest h = refl
digits_long (d ∷ ds) rest h = ap (λ b. cond b (1 + prefix_len is_ascii_digit (ds ++ (10 ∷ rest))) 0) (digit_passes d h.0) ∙ omega (arith, digits_long ds rest h.1)

wide : (n : ℕ) → n < 2 ^ 32 → n < 2 ^ 64
wide n h = omega arith

pub line_is : (n : ℕ) (rest : List ℕ) → line_text n ++ rest ≡ decimal n ++ (10 ∷ rest)
line_is n rest = append_assoc (decimal n) (10 ∷ []) rest

line_long : (n : ℕ) (rest : List ℕ) → n < 2 ^ 32 → prefix_len is_ascii_digit (line_text n ++ rest) ≡ length (decimal n)
line_long n rest fits = ap (prefix_len is_ascii_digit) (line_is n rest) ∙ digits_long (decimal n) rest (decimal_is_IsNumeral n (wide n fits)).0.1

-- the digits at the front of a text, and what follows them, if it begins with a line
pub line_front : (text : List ℕ) (n : ℕ) (rest : List ℕ) → n < 2 ^ 32 → text ≡ line_text n ++ rest → take (prefix_len is_ascii_digit text) text ≡ decimal n
line_front text n rest fits e =
    (λ k. take (prefix_len is_ascii_digit (e k)) (e k))
    ∙ ap (λ m. take m (line_text n ++ rest)) (line_long n rest fits)
    ∙ ap (take (length (decimal n))) (line_is n rest)
    ∙ take_at (decimal n) (10 ∷ rest) (length (decimal n)) refl

pub line_back : (text : List ℕ) (n : ℕ) (rest : List ℕ) → n < 2 ^ 32 → text ≡ line_text n ++ rest → drop (prefix_len is_ascii_digit text) text ≡ 10 ∷ rest
line_back text n rest fits e =
    (λ k. drop (prefix_len is_ascii_digit (e k)) (e k))
    ∙ ap (λ m. drop m (line_text n ++ rest)) (line_long n rest fits)
    ∙ ap (drop (length (decimal n))) (line_is n rest)
    ∙ drop_at (decimal n) (10 ∷ rest) (length (decimal n)) refl

pub no_line : (back : List ℕ) (x : ℕ) (rest : List ℕ) → back ≡ x ∷ rest → length back ≡ 0 → ⊥
no_line [] x rest e h = cc
no_line (b ∷ bs) x rest e h = omega arith

pub one_head : (x y : ℕ) (a b : List ℕ) → ◌≡◌ {A = List ℕ} (x ∷ a) (y ∷ b) → x ≡ y
one_head x y a b h = cc

pub one_rest : (x y : ℕ) (a b : List ℕ) → ◌≡◌ {A = List ℕ} (x ∷ a) (y ∷ b) → a ≡ b
one_rest x y a b h = cc

pub same_line : (m n : ℕ) (a b : List ℕ) → m < 2 ^ 32 → n < 2 ^ 32 → line_text m ++ a ≡ line_text n ++ b → (m ≡ n) × (a ≡ b)
same_line m n a b fm fn e = (
  decimal_injective m n (wide m fm) (wide n fn) (sym (line_front (line_text m ++ a) m a fm refl) ∙ line_front (line_text m ++ a) n b fn e),
  one_rest 10 10 a b (sym (line_back (line_text m ++ a) m a fm refl) ∙ line_back (line_text m ++ a) n b fn e),
)

-- ---- the head

uuid_length : (replica : List ℕ) → length (hyphenated_text lower replica) ≡ 36
uuid_length replica = by_index_length 36 _

abbrev pub lines_of : Head → List ℕ → List ℕ
lines_of h rest = line_text h.last ++ (line_text h.stood ++ rest)

head_is : (h : Head) (rest : List ℕ) → head_text h ++ rest ≡ hyphenated_text lower h.replica ++ (58 ∷ lines_of h rest)
head_is h rest =
    append_assoc (hyphenated_text lower h.replica) (58 ∷ (line_text h.last ++ line_text h.stood)) rest
    ∙ ap (λ (t : List ℕ). hyphenated_text lower h.replica ++ (58 ∷ t)) (append_assoc (line_text h.last) (line_text h.stood) rest)

pub head_front : (text : List ℕ) (h : Head) (rest : List ℕ) → text ≡ head_text h ++ rest → take 36 text ≡ hyphenated_text lower h.replica
head_front text h rest e = ap (λ (t : List ℕ). take 36 t) (e ∙ head_is h rest) ∙ take_at (hyphenated_text lower h.replica) (58 ∷ lines_of h rest) 36 (uuid_length h.replica)

pub head_back : (text : List ℕ) (h : Head) (rest : List ℕ) → text ≡ head_text h ++ rest → drop 36 text ≡ 58 ∷ lines_of h rest
head_back text h rest e = ap (λ (t : List ℕ). drop 36 t) (e ∙ head_is h rest) ∙ drop_at (hyphenated_text lower h.replica) (58 ∷ lines_of h rest) 36 (uuid_length h.replica)

pub head_long : (text : List ℕ) (h : Head) (rest : List ℕ) → text ≡ head_text h ++ rest → 36 ≤ length text
head_long text h rest e =
    let whole : length text ≡ length (hyphenated_text lower h.replica ++ (58 ∷ lines_of h rest)) = ap length (e ∙ head_is h rest) in
    let long = uuid_length h.replica in
    omega (arith, whole, length-append (hyphenated_text lower h.replica) (58 ∷ lines_of h rest), long)

pub replica_is : (h : Head) → IsHead h → parsed (hyphenated_text lower h.replica) ≡ Some h.replica
replica_is h is = sym (parses_hyphenated lower h.replica (inl refl) is.long is.bytes)

pub same_uuid : (g h : Head) → IsHead g → IsHead h → hyphenated_text lower g.replica ≡ hyphenated_text lower h.replica → g.replica ≡ h.replica
same_uuid g h ig ih e = same_Some g.replica h.replica (sym (replica_is g ig) ∙ ap parsed e ∙ replica_is h ih)

-- a text has one head
pub same_head : (g h : Head) (a b : List ℕ) → IsHead g → IsHead h → head_text g ++ a ≡ head_text h ++ b → (g ≡ h) × (a ≡ b)
same_head g h a b ig ih e =
    let text : List ℕ = head_text g ++ a in
    let uuid = same_uuid g h ig ih (sym (head_front text g a refl) ∙ head_front text h b e) in
    let lines = one_rest 58 58 (lines_of g a) (lines_of h b) (sym (head_back text g a refl) ∙ head_back text h b e) in
    let first = same_line g.last h.last (line_text g.stood ++ a) (line_text h.stood ++ b) ig.last_fits ih.last_fits lines in
    let second = same_line g.stood h.stood a b ig.stood_fits ih.stood_fits first.1 in
    ((λ k. record { replica = uuid k; last = first.0 k; stood = second.0 k }), second.1)

-- a number below 2 ^ 32 has at most ten digits
ten_digits : (n : ℕ) → n < 2 ^ 32 → length (decimal n) ≤ 10
ten_digits n h = length-decimal-le 10 n (omega arith) (omega (arith, h)) (wide n h)

-- the two lines have at most 59 bytes
pub head_short : (h : Head) → IsHead h → length (head_text h) ≤ 59
head_short h is =
    let uuid = uuid_length h.replica in
    let last = ten_digits h.last is.last_fits in
    let stood = ten_digits h.stood is.stood_fits in
    let one = length-append (decimal h.last) (10 ∷ []) in
    let two = length-append (decimal h.stood) (10 ∷ []) in
    let lines = length-append (line_text h.last) (line_text h.stood) in
    let whole = length-append (hyphenated_text lower h.replica) (58 ∷ (line_text h.last ++ line_text h.stood)) in
    omega (arith, uuid, last, stood, one, two, lines, whole)
