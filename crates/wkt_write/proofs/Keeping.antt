-- Pieces that are kept or left out as a whole.
use Rattle.std.proofs.Common.{◌≡◌, ℕ, zero, suc, ◌+◌, ◌-◌, ◌<◌, ◌≤◌, Bool, true, false, cond, List, [], ◌∷◌, ◌++◌, length, take, drop, get_or, Some, refl, sym, ap, ◌∙◌, subst, append_assoc, append-nil, take-add, arith, inr}
use Rattle.std.specs.Prelude.{position, if◌then◌else◌}
use Rattle.std.specs.List.{AllPass, prefix_len}
use Rattle.std.proofs.lemmas.List.{take-append-drop, length-drop, drop-drop, drop_all}
use Rattle.std.proofs.lemmas.List.Elements.{All-nil, All-cons, All-append, All-head, All-tail}
use Rattle.std.proofs.lemmas.List.Quantifiers.{position-Some}
use Rattle.std.proofs.lemmas.Bool.Decides.{nat_tests}
use Rattle.wkt_tree.specs.Bytes.{is_blank}
use Rattle.wkt_tree.specs.Tokens.{is_mark}
use Rattle.wkt_tree.proofs.Lexemes.{front_passes}
use Rattle.wkt_write.specs.Condensed.{Before, delimiter, quotation, other, is_delimiter, next, Shuts, Condenses, IsCondensed, done, keep, leave, respell}
use Rattle.wkt_write.specs.declared.condensing.pieces.FrontRun.{FrontRun}
use Rattle.wkt_write.specs.Pieces.{is_plain, is_inner, before, Leads, IsPiece, IsNumeralFront, IsSpelledAnew, between, IsCopied}

-- the context of the place after some bytes
abbrev pub after : Before → List ℕ → Before
after p [] = p
after p (x ∷ xs) = after (next p x) xs

-- bytes may always be kept
pub may_keep : (p : Before) (xs ys c : List ℕ) → Condenses (after p xs) ys c → Condenses p (xs ++ ys) (xs ++ c)
may_keep p [] ys c h = h
may_keep p (x ∷ xs) ys c h = keep x (may_keep (next p x) xs ys c h)

keep_front : (p q : Before) (bytes : List ℕ) (n : ℕ) → after p (take n bytes) ≡ q → Leads p bytes (take n bytes) q (drop n bytes)
keep_front p q bytes n e c h =
    subst (λ (l : List ℕ). Condenses p l (take n bytes ++ c)) (take-append-drop n bytes)
    (may_keep p (take n bytes) (drop n bytes) c (subst (λ r. Condenses r (drop n bytes) c) (sym e) h))

-- ---- plain bytes

plain_mark : (x : ℕ) → is_plain x ≡ true → is_mark x ≡ false
plain_mark x h = grind (arith, nat_tests)

plain_blank : (x : ℕ) → is_plain x ≡ true → is_blank x ≡ false
plain_blank x h = grind (arith, nat_tests)

next_plain : (s : Bool) (x : ℕ) → is_plain x ≡ true → next (before s) x ≡ before (is_delimiter x)
next_plain true x h = let m = plain_mark x h in let b = plain_blank x h in rw (m, b) refl
next_plain false x h = let m = plain_mark x h in rw (m) refl

after_plain : (s : Bool) (bytes : List ℕ) (n : ℕ) → n < length bytes → AllPass is_plain (take (suc n) bytes) → after (before s) (take (suc n) bytes) ≡ before (is_delimiter (get_or bytes n 0))
after_plain s [] n h a = absurd (omega arith)
after_plain s (x ∷ bytes) zero h a = next_plain s x (All-head (λ z. is_plain z ≡ true) x [] a)
after_plain s (x ∷ bytes) (suc n) h a =
    ap (λ p. after p (take (suc n) bytes)) (next_plain s x (All-head (λ z. is_plain z ≡ true) x (take (suc n) bytes) a))
    ∙ after_plain (is_delimiter x) bytes n (omega arith) (All-tail (λ z. is_plain z ≡ true) x (take (suc n) bytes) a)

plain_lead : (s : Bool) (bytes : List ℕ) (n k : ℕ) → suc k ≡ n → n ≤ length bytes → AllPass is_plain (take n bytes) → Leads (before s) bytes (take n bytes) (before (is_delimiter (get_or bytes k 0))) (drop n bytes)
plain_lead s bytes n k e room all =
    keep_front (before s) (before (is_delimiter (get_or bytes k 0))) bytes n
    (subst (λ m. after (before s) (take m bytes) ≡ before (is_delimiter (get_or bytes k 0))) e
    (after_plain s bytes k (omega arith) (subst (λ m. AllPass is_plain (take m bytes)) (sym e) all)))

pub plain_leads : (s : Bool) (bytes : List ℕ) (n : ℕ) → 0 < n → n ≤ length bytes → AllPass is_plain (take n bytes) → Leads (before s) bytes (take n bytes) (before (is_delimiter (get_or bytes (n - 1) 0))) (drop n bytes)
plain_leads s bytes n h room all = plain_lead s bytes n (n - 1) (omega arith) room all

inner_plain : (x : ℕ) → is_inner x ≡ true → is_plain x ≡ true
inner_plain x h = grind (arith, nat_tests)

delimiter_plain : (x : ℕ) → is_delimiter x ≡ true → is_plain x ≡ true
delimiter_plain x h = grind (arith, nat_tests)

all_plain : (p : ℕ → Bool) → ((x : ℕ) → p x ≡ true → is_plain x ≡ true) → (xs : List ℕ) → AllPass p xs → AllPass is_plain xs
all_plain p f [] a = All-nil (λ z. is_plain z ≡ true)
all_plain p f (x ∷ xs) a =
    All-cons (λ z. is_plain z ≡ true) x xs (f x (All-head (λ z. p z ≡ true) x xs a)) (all_plain p f xs (All-tail (λ z. p z ≡ true) x xs a))

-- inner bytes and the delimiters after them are neither blanks nor marks
pub word_plain : (bytes others : List ℕ) (n m : ℕ) → n ≡ prefix_len is_inner bytes → others ≡ drop n bytes → m ≡ prefix_len is_delimiter others → AllPass is_plain (take (n + m) bytes)
word_plain bytes others n m is back more =
    let front : AllPass is_inner (take n bytes) = subst (λ k. AllPass is_inner (take k bytes)) (sym is) (front_passes is_inner bytes) in
    let ends : AllPass is_delimiter (take m others) = subst (λ k. AllPass is_delimiter (take k others)) (sym more) (front_passes is_delimiter others) in
    subst (λ (l : List ℕ). AllPass is_plain l) (sym (take-add n m bytes ∙ ap (λ (l : List ℕ). take n bytes ++ take m l) (sym back)))
    (All-append (λ z. is_plain z ≡ true) (take n bytes) (take m others) (all_plain is_inner inner_plain (take n bytes) front) (all_plain is_delimiter delimiter_plain (take m others) ends))

-- ---- quoted bytes

mark_opens : (s : Bool) → next (before s) 34 ≡ quotation
mark_opens true = refl
mark_opens false = refl

after_marked : (s : Bool) (bytes : List ℕ) (k : ℕ) → k < length bytes → ((i : ℕ) → i < k → is_mark (get_or bytes i 0) ≡ false) → is_mark (get_or bytes k 0) ≡ true → after quotation (take (suc k) bytes) ≡ other
after_marked s [] k h plain mark = absurd (omega arith)
after_marked s (x ∷ bytes) zero h plain mark = ap (λ t. cond t other quotation) mark
after_marked s (x ∷ bytes) (suc k) h plain mark =
    let m : is_mark x ≡ false = plain 0 (omega arith) in
    ap (λ t. after (cond t other quotation) (take (suc k) bytes)) m
    ∙ after_marked s bytes k (omega arith) (λ i below. plain (suc i) (omega arith)) mark

pub quoted_leads : (s : Bool) (rest : List ℕ) (k : ℕ) → k < length rest → ((i : ℕ) → i < k → is_mark (get_or rest i 0) ≡ false) → is_mark (get_or rest k 0) ≡ true → Leads (before s) (34 ∷ rest) (take (suc (suc k)) (34 ∷ rest)) other (drop (suc (suc k)) (34 ∷ rest))
quoted_leads s rest k h plain mark =
    keep_front (before s) other (34 ∷ rest) (suc (suc k)) (ap (λ p. after p (take (suc k) rest)) (mark_opens s) ∙ after_marked s rest k h plain mark)

pub quoted_lead : (s : Bool) (bytes : List ℕ) (k : ℕ) → 0 < length bytes → get_or bytes 0 0 ≡ 34 → position is_mark (drop 1 bytes) ≡ Some k → Leads (before s) bytes (take (k + 2) bytes) other (drop (k + 2) bytes)
quoted_lead s [] k some mark found = absurd (omega arith)
quoted_lead s (x ∷ rest) k some mark found =
    let at = position-Some is_mark rest k 0 found in
    let n : suc (suc k) ≡ k + 2 = omega arith in
    subst (λ m. Leads (before s) (x ∷ rest) (take m (x ∷ rest)) other (drop m (x ∷ rest))) n
    (subst (λ y. Leads (before s) (y ∷ rest) (take (suc (suc k)) (y ∷ rest)) other (drop (suc (suc k)) (y ∷ rest))) (sym mark)
    (quoted_leads s rest k at.0 at.2 at.1))

-- ---- blanks

go_behind : (xs ys c : List ℕ) → AllPass is_blank xs → Condenses delimiter ys c → Condenses delimiter (xs ++ ys) c
go_behind [] ys c a h = h
go_behind (x ∷ xs) ys c a h = leave x (All-head (λ z. is_blank z ≡ true) x xs a) tt (go_behind xs ys c (All-tail (λ z. is_blank z ≡ true) x xs a) h)

shuts_after : (xs ys : List ℕ) → AllPass is_blank xs → Shuts ys → Shuts (xs ++ ys)
shuts_after [] ys a s = s
shuts_after (x ∷ xs) ys a s = inr (All-head (λ z. is_blank z ≡ true) x xs a, shuts_after xs ys (All-tail (λ z. is_blank z ≡ true) x xs a) s)

pub shuts_past : (bytes others : List ℕ) (n : ℕ) → n ≡ prefix_len is_blank bytes → others ≡ drop n bytes → Shuts others → Shuts bytes
shuts_past bytes others n is back s =
    subst (λ (l : List ℕ). Shuts l) (take-append-drop n bytes)
    (shuts_after (take n bytes) (drop n bytes) (subst (λ m. AllPass is_blank (take m bytes)) (sym is) (front_passes is_blank bytes)) (subst (λ (l : List ℕ). Shuts l) back s))

go_before : (xs ys c : List ℕ) → AllPass is_blank xs → Shuts ys → Condenses other ys c → Condenses other (xs ++ ys) c
go_before [] ys c a s h = h
go_before (x ∷ xs) ys c a s h =
    let others = All-tail (λ z. is_blank z ≡ true) x xs a in
    leave x (All-head (λ z. is_blank z ≡ true) x xs a) (shuts_after xs ys others s) (go_before xs ys c others s h)

blanks_go : (s : Bool) (xs ys c : List ℕ) → AllPass is_blank xs → (s ≡ false → Shuts ys) → Condenses (before s) ys c → Condenses (before s) (xs ++ ys) c
blanks_go true xs ys c a s h = go_behind xs ys c a h
blanks_go false xs ys c a s h = go_before xs ys c a (s refl) h

pub blank_leads : (s : Bool) (bytes : List ℕ) (n : ℕ) → n ≡ prefix_len is_blank bytes → (s ≡ false → Shuts (drop n bytes)) → Leads (before s) bytes [] (before s) (drop n bytes)
blank_leads s bytes n is shuts c h =
    subst (λ (l : List ℕ). Condenses (before s) l c) (take-append-drop n bytes)
    (blanks_go s (take n bytes) (drop n bytes) c (subst (λ m. AllPass is_blank (take m bytes)) (sym is) (front_passes is_blank bytes)) shuts h)

-- ---- one piece after another

pub leads_on : (p : Before) (bytes a : List ℕ) (q : Before) (rest b : List ℕ) (r : Before) (rest' : List ℕ) → Leads p bytes a q rest → Leads q rest b r rest' → Leads p bytes (a ++ b) r rest'
leads_on p bytes a q rest b r rest' f g c h = subst (λ (l : List ℕ). Condenses p bytes l) (sym (append_assoc a b c)) (f (b ++ c) (g c h))

-- ---- bytes that are copied later

between_more : (text : List ℕ) (from at n : ℕ) → from ≤ at → between text from (at + n) ≡ between text from at ++ take n (drop at text)
between_more text from at n h =
    let far : (at + n) - from ≡ (at - from) + n = omega (arith, h) in
    let there : from + (at - from) ≡ at = omega (arith, h) in
    ap (λ k. take k (drop from text)) far
    ∙ (take-add (at - from) n (drop from text)
    ∙ ap (λ (l : List ℕ). between text from at ++ take n l) (drop-drop (at - from) from text ∙ ap (λ k. drop k text) there))

pub between_none : (text : List ℕ) (at : ℕ) → between text at at ≡ []
between_none text at = let n : at - at ≡ 0 = omega arith in ap (λ k. take k (drop at text)) n

nothing_more : (out text : List ℕ) (at : ℕ) → out ≡ out ++ between text at at
nothing_more out text at = sym (ap (λ (l : List ℕ). out ++ l) (between_none text at) ∙ append-nil out)

-- the text up to `at` condenses to the bytes that are written and those from `from` to `at`, which are copied later
pub record Stands (text out : List ℕ) (from at : ℕ) (shut : Bool) : Type 0 where
  pub order : from ≤ at
  pub within : at ≤ length text
  pub leads : Leads delimiter text (out ++ between text from at) (before shut) (drop at text)

-- the text up to the end of the piece condenses to `out` and `first`
record OnPiece (text out : List ℕ) (at : ℕ) (shut : Bool) (piece : FrontRun) (first : List ℕ) : Type 0 where
  pub within : at + piece.len ≤ length text
  pub leads : Leads delimiter text (out ++ first) (before piece.shut) (drop (at + piece.len) text)

on_piece : (text out : List ℕ) (at : ℕ) (s : Bool) (rest : List ℕ) (piece : FrontRun) (first : List ℕ) → at ≤ length text → rest ≡ drop at text → Leads delimiter text out (before s) (drop at text) → IsPiece s rest piece → (if piece.kept then take piece.len rest else []) ≡ first → OnPiece text out at s piece first
on_piece text out at s rest piece first room back f p is =
    let left = ap length back in
    let whole = length-drop at text in
    let within = p.within in
    let behind : drop piece.len rest ≡ drop (at + piece.len) text = ap (drop piece.len) back ∙ drop-drop piece.len at text in
    let g : Leads (before s) rest first (before piece.shut) (drop piece.len rest) =
    subst (λ (l : List ℕ). Leads (before s) rest l (before piece.shut) (drop piece.len rest)) is p.leads in
    let h : Leads (before s) (drop at text) first (before piece.shut) (drop (at + piece.len) text) =
    subst (λ (l : List ℕ). Leads (before s) l first (before piece.shut) (drop (at + piece.len) text)) back
    (subst (λ (l : List ℕ). Leads (before s) rest first (before piece.shut) l) behind g) in
    record {
      within = omega (arith, left, whole, within);
      leads = leads_on delimiter text out (before s) (drop at text) first (before piece.shut) (drop (at + piece.len) text) f h;
    }

-- a piece that is kept is copied later
pub kept_on : (text out : List ℕ) (from at : ℕ) (s : Bool) (rest : List ℕ) (piece : FrontRun) → Stands text out from at s → rest ≡ drop at text → IsPiece s rest piece → piece.kept ≡ true → Stands text out from (at + piece.len) piece.shut
kept_on text out from at s rest piece st back p k =
    let front : (if piece.kept then take piece.len rest else []) ≡ take piece.len (drop at text) = rw (k) (ap (take piece.len) back) in
    let o = on_piece text (out ++ between text from at) at s rest piece (take piece.len (drop at text)) st.within back st.leads p front in
    let is : (out ++ between text from at) ++ take piece.len (drop at text) ≡ out ++ between text from (at + piece.len) =
    append_assoc out (between text from at) (take piece.len (drop at text)) ∙ ap (λ (l : List ℕ). out ++ l) (sym (between_more text from at piece.len st.order)) in
    record {
      order = let h = st.order in omega (arith, h);
      within = o.within;
      leads = subst (λ (l : List ℕ). Leads delimiter text l (before piece.shut) (drop (at + piece.len) text)) is o.leads;
    }

-- before a piece that is left out, the bytes that are not yet copied are copied
pub left_on : (text out : List ℕ) (from at : ℕ) (s : Bool) (rest : List ℕ) (piece : FrontRun) (out' : List ℕ) → Stands text out from at s → rest ≡ drop at text → IsPiece s rest piece → piece.kept ≡ false → IsCopied out text from at out' → Stands text out' (at + piece.len) (at + piece.len) piece.shut
left_on text out from at s rest piece out' st back p k copied =
    let front : (if piece.kept then take piece.len rest else []) ≡ [] = rw (k) refl in
    let o = on_piece text (out ++ between text from at) at s rest piece [] st.within back st.leads p front in
    let is : (out ++ between text from at) ++ [] ≡ out' ++ between text (at + piece.len) (at + piece.len) =
    append-nil (out ++ between text from at) ∙ (sym copied ∙ nothing_more out' text (at + piece.len)) in
    record {
      order = omega arith;
      within = o.within;
      leads = subst (λ (l : List ℕ). Leads delimiter text l (before piece.shut) (drop (at + piece.len) text)) is o.leads;
    }

-- a numeral is spelled anew, after the bytes before it are copied
pub respelled_on : (text out : List ℕ) (from at : ℕ) (s : Bool) (rest numeral : List ℕ) (n : ℕ) (mid out' : List ℕ) → Stands text out from at s → rest ≡ drop at text → IsNumeralFront s rest n → numeral ≡ take n rest → IsCopied out text from at mid → IsSpelledAnew mid numeral out' → Stands text out' (at + n) (at + n) false
respelled_on text out from at s rest numeral n mid out' st back f front copied a =
    let left = ap length back in
    let whole = length-drop at text in
    let within = f.within in
    let room = st.within in
    let parts : numeral ++ drop n rest ≡ drop at text = ap (λ (l : List ℕ). l ++ drop n rest) front ∙ (take-append-drop n rest ∙ back) in
    let behind : drop n rest ≡ drop (at + n) text = ap (drop n) back ∙ drop-drop n at text in
    let g : Leads (before s) (drop at text) a.again other (drop (at + n) text) = λ c h.
    subst (λ b. Condenses (before b) (drop at text) (a.again ++ c)) (sym f.behind)
    (subst (λ (l : List ℕ). Condenses delimiter l (a.again ++ c)) parts
    (respell numeral a.again a.same f.shuts (subst (λ (l : List ℕ). Condenses other l c) (sym behind) h))) in
    let on = leads_on delimiter text (out ++ between text from at) (before s) (drop at text) a.again other (drop (at + n) text) st.leads g in
    let is : (out ++ between text from at) ++ a.again ≡ out' ++ between text (at + n) (at + n) =
    ap (λ (l : List ℕ). l ++ a.again) (sym copied) ∙ (sym a.is ∙ nothing_more out' text (at + n)) in
    record {
      order = omega arith;
      within = omega (arith, left, whole, within, room);
      leads = subst (λ (l : List ℕ). Leads delimiter text l other (drop (at + n) text)) is on;
    }

-- at the end of the text, when the remaining bytes are copied, the text is condensed
pub ended : (text out : List ℕ) (from at : ℕ) (s : Bool) (out' : List ℕ) → Stands text out from at s → length text ≤ at → IsCopied out text from at out' → IsCondensed text out'
ended text out from at s out' st end copied =
    let gone : drop at text ≡ [] = drop_all at text (omega (arith, end)) in
    subst (λ (l : List ℕ). Condenses delimiter text l) (append-nil (out ++ between text from at) ∙ sym copied)
    (st.leads [] (subst (λ (l : List ℕ). Condenses (before s) l []) (sym gone) done))
