-- No character of a marked text is hidden.
use Rattle.std.proofs.Common.{◌≡◌, ℕ, zero, suc, ◌<◌, ◌/◌, ◌%◌, ◌==◌, nat_lt, Bool, true, false, ◌&&◌, List, [], ◌∷◌, ◌++◌, Option, Some, None, is_none, if◌then◌else◌, refl, ap, ◌∙◌, arith}
use Rattle.std.proofs.lemmas.Bool.Decides.{nat_tests}
use Rattle.text_hidden.specs.Set.{is_hidden}
use Rattle.text_hidden.specs.Bytes.{continues, hidden_if, hidden_of_two, hidden_of_three}
use Rattle.text_hidden.specs.Marks.{digit, mark}
use Rattle.text_hidden.specs.declared.bytes.HiddenCharacter.{HiddenCharacter}
use Rattle.text_hidden.proofs.ByteLemmas.{none_if}
use Rattle.text_hidden.proofs.MarkLemmas.{digit_shown}
use Rattle.html_page.specs.declared.marks.Feeds.{Feeds}
use Rattle.html_page.specs.Marks.{is_kept, marked_at, shown, more_of, marked_after, marked, has_none}

-- ---- a byte that stays, before marked bytes

two_at : (feeds : Feeds) (b c : ℕ) (r : List ℕ) (h : Option HiddenCharacter) → hidden_of_two b (c ∷ r) ≡ None → hidden_of_two b (shown c h ++ marked_after feeds (more_of h) r) ≡ None
two_at feeds b c r None e = e
two_at feeds b c r (Some h) e = refl

two_keeps : (feeds : Feeds) (b : ℕ) (rest : List ℕ) → hidden_of_two b rest ≡ None → hidden_of_two b (marked feeds rest) ≡ None
two_keeps feeds b [] e = refl
two_keeps feeds b (c ∷ r) e = two_at feeds b c r (marked_at feeds c r) e

no_third : (x : Bool) (a : Option HiddenCharacter) → (if x && false then a else None) ≡ None
no_third true a = refl
no_third false a = refl

three_second : (feeds : Feeds) (b c d : ℕ) (q : List ℕ) (h : Option HiddenCharacter) → hidden_of_three b (c ∷ d ∷ q) ≡ None → hidden_of_three b (c ∷ (shown d h ++ marked_after feeds (more_of h) q)) ≡ None
three_second feeds b c d q None e = e
three_second feeds b c d q (Some h) e = no_third (continues c) _

three_at : (feeds : Feeds) (b c : ℕ) (h : Option HiddenCharacter) (r : List ℕ) → hidden_of_three b (c ∷ r) ≡ None → hidden_of_three b (shown c h ++ marked_after feeds (more_of h) r) ≡ None
three_at feeds b c (Some h) r e = refl
three_at feeds b c None [] e = refl
three_at feeds b c None (d ∷ q) e = three_second feeds b c d q (marked_at feeds d q) e

three_keeps : (feeds : Feeds) (b : ℕ) (rest : List ℕ) → hidden_of_three b rest ≡ None → hidden_of_three b (marked feeds rest) ≡ None
three_keeps feeds b [] e = refl
three_keeps feeds b (c ∷ r) e = three_at feeds b c (marked_at feeds c r) r e

by_tests : (feeds : Feeds) (rest : List ℕ) (b : ℕ) (k u v w x : Bool)
    → (if k then None else (if u then hidden_if b 0 else (if v then None else (if w then hidden_of_two b rest else (if x then hidden_of_three b rest else None))))) ≡ None
    → (if k then None else (if u then hidden_if b 0 else (if v then None else (if w then hidden_of_two b (marked feeds rest) else (if x then hidden_of_three b (marked feeds rest) else None))))) ≡ None
by_tests feeds rest b true u v w x e = refl
by_tests feeds rest b false true v w x e = e
by_tests feeds rest b false false true w x e = refl
by_tests feeds rest b false false false true x e = two_keeps feeds b rest e
by_tests feeds rest b false false false false true e = three_keeps feeds b rest e
by_tests feeds rest b false false false false false e = refl

keeps : (feeds : Feeds) (b : ℕ) (rest : List ℕ) → marked_at feeds b rest ≡ None → marked_at feeds b (marked feeds rest) ≡ None
keeps feeds b rest e = by_tests feeds rest b (is_kept feeds b) (nat_lt b 128) (nat_lt b 192) (nat_lt b 224) (nat_lt b 240) e

-- ---- marks

seen : (feeds : Feeds) (b : ℕ) (rest : List ℕ) → marked_at feeds b rest ≡ None → has_none feeds (b ∷ rest) ≡ has_none feeds rest
seen feeds b rest e = ap (λ h. is_none h && has_none feeds rest) e

plain_at : (feeds : Feeds) (b : ℕ) (rest : List ℕ) → (b == 10) ≡ false → nat_lt b 128 ≡ true → is_hidden b ≡ false → marked_at feeds b rest ≡ None
plain_at feeds b rest feed low is = rw (feed, low) (none_if b 0 is)

digit_seen : (feeds : Feeds) (x : ℕ) (rest : List ℕ) → x < 16 → marked_at feeds (digit x) rest ≡ None
digit_seen feeds x rest h =
    let feed : (digit x == 10) ≡ false = grind (arith, nat_tests) in
    let low : nat_lt (digit x) 128 ≡ true = grind (arith, nat_tests) in
    plain_at feeds (digit x) rest feed low (digit_shown x h)

mark_seen : (feeds : Feeds) (n : ℕ) (rest : List ℕ) → has_none feeds (mark n ++ rest) ≡ has_none feeds rest
mark_seen feeds n rest =
    let a = n / 4096 % 16 in
    let b = n / 256 % 16 in
    let c = n / 16 % 16 in
    let d = n % 16 in
    let end = 226 ∷ 159 ∷ 169 ∷ rest in
    seen feeds (digit a) (digit b ∷ digit c ∷ digit d ∷ end) (digit_seen feeds a (digit b ∷ digit c ∷ digit d ∷ end) (omega arith))
    ∙ seen feeds (digit b) (digit c ∷ digit d ∷ end) (digit_seen feeds b (digit c ∷ digit d ∷ end) (omega arith))
    ∙ seen feeds (digit c) (digit d ∷ end) (digit_seen feeds c (digit d ∷ end) (omega arith))
    ∙ seen feeds (digit d) end (digit_seen feeds d end (omega arith))

-- ---- whole texts

first_seen : (feeds : Feeds) (b : ℕ) (rest : List ℕ) (h : Option HiddenCharacter) → marked_at feeds b rest ≡ h → ((more : ℕ) → has_none feeds (marked_after feeds more rest) ≡ true)
    → has_none feeds (shown b h ++ marked_after feeds (more_of h) rest) ≡ true
first_seen feeds b rest None e others = seen feeds b (marked feeds rest) (keeps feeds b rest e) ∙ others 0
first_seen feeds b rest (Some h) e others = mark_seen feeds h.number (marked_after feeds h.more rest) ∙ others h.more

all_seen : (feeds : Feeds) (more : ℕ) (text : List ℕ) → has_none feeds (marked_after feeds more text) ≡ true
all_seen feeds more [] = refl
all_seen feeds zero (b ∷ rest) = first_seen feeds b rest (marked_at feeds b rest) refl (λ more. all_seen feeds more rest)
all_seen feeds (suc more) (b ∷ rest) = all_seen feeds more rest

pub nothing_hidden : (feeds : Feeds) (text : List ℕ) → has_none feeds (marked feeds text) ≡ true
nothing_hidden feeds text = all_seen feeds 0 text
