-- A marked text, character by character.
use Rattle.std.proofs.Common.{◌≡◌, ℕ, ◌-◌, ◌==◌, nat_lt, Bool, true, false, not, ◌&&◌, ◌||◌, List, [], ◌∷◌, ◌++◌, length, drop, Some, None, IsUtf8, if◌then◌else◌, refl, sym, ap, ◌∙◌, arith}
use Rattle.std.specs.List.{list_all}
use Rattle.std.specs.Char.{encode_utf8, len_utf8}
use Rattle.std.specs.Str.{chars}
use Rattle.std.proofs.lemmas.Bool.{and_parts}
use Rattle.std.proofs.lemmas.Bool.Decides.{nat_tests}
use Rattle.std.proofs.lemmas.List.{drop_at}
use Rattle.std.proofs.lemmas.Str.{encodes-chars, scalars-chars}
use lib.Utf8.{encodes}
use Rattle.text_hidden.specs.Set.{is_hidden}
use Rattle.text_hidden.specs.Bytes.{continues, hidden_if, hidden_at, first_hidden}
use Rattle.text_hidden.specs.Marks as marks
use Rattle.text_hidden.specs.Marks.{mark, shown_all}
use Rattle.text_hidden.proofs.ByteLemmas.{Spelled, spelled, read}
use Rattle.text_hidden.proofs.MarkLemmas.{none_hidden}
use Rattle.html_page.specs.declared.marks.Feeds.{Feeds}
use Rattle.html_page.specs.Marks.{keeps_feeds, is_kept, marked_at, shown, more_of, marked_after, marked}
use Rattle.html_page.proofs.MarkLemmas.{skip}

-- a character that is marked
abbrev is_marked : Feeds → ℕ → Bool
is_marked feeds c = is_hidden c && not (is_kept feeds c)

-- ---- bytes that continue a character

continued_at : (feeds : Feeds) (b : ℕ) (rest : List ℕ) → continues b ≡ true → marked_at feeds b rest ≡ None
continued_at feeds b rest e =
    let feed : (b == 10) ≡ false = grind (arith, nat_tests) in
    let high : nat_lt b 128 ≡ false = grind (arith, nat_tests) in
    let low : nat_lt b 192 ≡ true = grind (arith, nat_tests) in
    rw (feed, high, low) refl

continued : (feeds : Feeds) (bs rest : List ℕ) → list_all continues bs ≡ true → marked feeds (bs ++ rest) ≡ bs ++ marked feeds rest
continued feeds [] rest e = refl
continued feeds (b ∷ bs) rest e =
    let each = and_parts (continues b) (list_all continues bs) e in
    ap (λ h. shown b h ++ marked_after feeds (more_of h) (bs ++ rest)) (continued_at feeds b (bs ++ rest) each.0) ∙ ap (λ l. b ∷ l) (continued feeds bs rest each.1)

-- ---- one character

by_cases : (feeds : Feeds) (c lead n : ℕ) (others rest : List ℕ) (kept hidden : Bool) → length others ≡ n → list_all continues others ≡ true
    → shown lead (if kept then None else (if hidden then Some (record { number = c; more = n }) else None))
    ++ marked_after feeds (more_of (if kept then None else (if hidden then Some (record { number = c; more = n }) else None))) (others ++ rest)
    ≡ (if hidden && not kept then mark c else lead ∷ others) ++ marked feeds rest
by_cases feeds c lead n others rest true true l e = ap (λ t. lead ∷ t) (continued feeds others rest e)
by_cases feeds c lead n others rest true false l e = ap (λ t. lead ∷ t) (continued feeds others rest e)
by_cases feeds c lead n others rest false false l e = ap (λ t. lead ∷ t) (continued feeds others rest e)
by_cases feeds c lead n others rest false true l e =
    ap (λ t. mark c ++ t) (skip feeds n (others ++ rest) ∙ ap (λ m. marked feeds (drop m (others ++ rest))) (sym l) ∙ ap (marked feeds) (drop_at others rest (length others) refl))

at_lead : (feeds : Feeds) (c lead : ℕ) (tail : List ℕ) (n : ℕ) → (lead == 10) ≡ (c == 10) → hidden_at lead tail ≡ hidden_if c n
    → marked_at feeds lead tail ≡ (if is_kept feeds c then None else (if is_hidden c then Some (record { number = c; more = n }) else None))
at_lead feeds c lead tail n feed is = ap (λ t. if t && keeps_feeds feeds then None else hidden_at lead tail) feed ∙ ap (λ h. if is_kept feeds c then None else h) is

one : (feeds : Feeds) (c : ℕ) (rest : List ℕ) → marked feeds (encode_utf8 c ++ rest) ≡ marks.shown (is_marked feeds) c ++ marked feeds rest
one feeds c rest =
    let s : Spelled c = spelled c in
    let n = len_utf8 c - 1 in
    let is : hidden_at s.lead (s.others ++ rest) ≡ hidden_if c n = ap (λ bs. first_hidden (bs ++ rest)) (sym s.is) ∙ read c rest in
    ap (λ bs. marked feeds (bs ++ rest)) s.is
    ∙ ap (λ h. shown s.lead h ++ marked_after feeds (more_of h) (s.others ++ rest)) (at_lead feeds c s.lead (s.others ++ rest) n s.feed is)
    ∙ by_cases feeds c s.lead n s.others rest (is_kept feeds c) (is_hidden c) s.many s.continued
    ∙ ap (λ bs. (if is_hidden c && not (is_kept feeds c) then mark c else bs) ++ marked feeds rest) (sym s.is)

all_marked : (feeds : Feeds) (cs : List ℕ) → marked feeds (encodes cs) ≡ shown_all (is_marked feeds) cs
all_marked feeds [] = refl
all_marked feeds (c ∷ cs) = one feeds c (encodes cs) ∙ ap (λ l. marks.shown (is_marked feeds) c ++ l) (all_marked feeds cs)

-- ---- whole texts

either : (h k : Bool) → ((h && not k) || (k || not h)) ≡ true
either true true = refl
either true false = refl
either false true = refl
either false false = refl

pub no_character : (feeds : Feeds) (text : List ℕ) → IsUtf8 text → marks.hides_only (λ c. is_kept feeds c) (marked feeds text) ≡ true
no_character feeds text u =
    ap (λ t. marks.hides_only (λ c. is_kept feeds c) t) (ap (marked feeds) (sym (encodes-chars text u)) ∙ all_marked feeds (chars text))
    ∙ none_hidden (is_marked feeds) (λ c. is_kept feeds c) (chars text) (λ c. either (is_hidden c) (is_kept feeds c)) (scalars-chars text u)
