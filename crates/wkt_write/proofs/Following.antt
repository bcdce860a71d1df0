-- The next token of a text and that of the condensed text.
use Rattle.std.proofs.Common.{◌≡◌, ℕ, Bool, true, false, cond, List, [], ◌∷◌, ◌++◌, Some, refl, sym, ap, ◌∙◌, subst, append_assoc, arith, inl, inr}
use Rattle.std.specs.List.{AllPass}
use Rattle.std.proofs.lemmas.List.Elements.{All-nil, All-cons, All-head, All-tail}
use Rattle.std.proofs.lemmas.Bool.Decides.{nat_tests}
use Rattle.wkt_tree.specs.declared.token.Delimiter.TheVariants.{Square, Round}
use Rattle.wkt_tree.specs.declared.token.TokenKind.{TokenKind}
use Rattle.wkt_tree.specs.declared.token.TokenKind.TheVariants.{Word, Quoted, Number, Comma, Open, Close}
use Rattle.wkt_tree.specs.Bytes.{is_blank, is_word_byte, is_number_byte, begun_by}
use Rattle.wkt_tree.specs.Tokens.{is_mark, Follow, Ends, Stops}
use Rattle.wkt_tree.proofs.Lexemes.{body, by_mark, body-mark, body-plain}
use Rattle.std.specs.Prelude.{◌⊎◌}
use Rattle.crs_number.specs.Bytes.{begins_numeral, HasNumeralBytes}
use Rattle.crs_number.proofs.Forms.{form_bytes}
use Rattle.wkt_write.specs.Alike.{SameNumber}
use Rattle.wkt_tree.proofs.Sound.{quoted_begins, comma_begins, open_begins, close_begins, word_begins, number_begins}
use Rattle.wkt_write.specs.Condensed.{Before, delimiter, quotation, other, is_delimiter, next, Shuts, Condenses, done, keep, leave, respell}
use Rattle.wkt_write.proofs.Marks.{plain_is}

-- the context is outside quoted texts
abbrev pub Free : Before → Type 0
Free delimiter = Unit {0}
Free quotation = ⊥
Free other = Unit {0}

-- ---- the classes of bytes

blank_mark : (x : ℕ) → is_blank x ≡ true → is_mark x ≡ false
blank_mark x h = grind (arith, nat_tests)

blank_delimiter : (x : ℕ) → is_blank x ≡ true → is_delimiter x ≡ false
blank_delimiter x h = grind (arith, nat_tests)

blank_word : (x : ℕ) → is_blank x ≡ true → is_word_byte x ≡ false
blank_word x h = grind (arith, nat_tests)

blank_number : (x : ℕ) → is_blank x ≡ true → is_number_byte x ≡ false
blank_number x h = grind (arith, nat_tests)

-- the byte is neither a blank nor a delimiter nor a mark
pub record IsSolid (x : ℕ) : Type 0 where
  pub blank : is_blank x ≡ false
  pub delimiter : is_delimiter x ≡ false
  pub mark : is_mark x ≡ false

word_solid : (x : ℕ) → is_word_byte x ≡ true → IsSolid x
word_solid x h = record { blank = grind (arith, nat_tests); delimiter = grind (arith, nat_tests); mark = grind (arith, nat_tests) }

number_solid : (x : ℕ) → is_number_byte x ≡ true → IsSolid x
number_solid x h = record { blank = grind (arith, nat_tests); delimiter = grind (arith, nat_tests); mark = grind (arith, nat_tests) }

begins_word_solid : (x : ℕ) → begun_by x ≡ Some Word → IsSolid x
begins_word_solid x h = let w = word_begins x h in word_solid x (grind (arith, nat_tests))

begins_number_solid : (x : ℕ) → begun_by x ≡ Some Number → IsSolid x
begins_number_solid x h = let w = number_begins x h in number_solid x (grind (arith, nat_tests))

-- ---- the context of the next place

next_blank : (p : Before) (x : ℕ) → Free p → is_blank x ≡ true → next p x ≡ p
next_blank delimiter x f h = let m = blank_mark x h in let d = blank_delimiter x h in rw (m, d, h) refl
next_blank quotation x f h = absurd f
next_blank other x f h = let m = blank_mark x h in let d = blank_delimiter x h in rw (m, d) refl

next_unblank : (p : Before) (x : ℕ) → Free p → is_blank x ≡ false → next p x ≡ next other x
next_unblank delimiter x f h = rw (h) refl
next_unblank quotation x f h = absurd f
next_unblank other x f h = refl

next_solid : (x : ℕ) → IsSolid x → next other x ≡ other
next_solid x s = let m = s.mark in let d = s.delimiter in rw (m, d) refl

-- ---- the first byte of a token

pub record Skipped (text : List ℕ) (b : ℕ) (cs : List ℕ) : Type 0 where
  pub blanks : List ℕ
  pub all : AllPass is_blank blanks
  pub rest : List ℕ
  pub whole : text ≡ blanks ++ b ∷ rest
  pub condenses : Condenses (next other b) rest cs

one_more : (text : List ℕ) (x b : ℕ) (cs : List ℕ) → is_blank x ≡ true → Skipped text b cs → Skipped (x ∷ text) b cs
one_more text x b cs h s =
    record { blanks = x ∷ s.blanks; all = All-cons (λ z. is_blank z ≡ true) x s.blanks h s.all; rest = s.rest; whole = ap (λ (l : List ℕ). x ∷ l) s.whole; condenses = s.condenses }

-- after blanks, the text has a numeral, and the other bytes begin with another spelling of its number
pub record Renewed (text front : List ℕ) : Type 0 where
  pub blanks : List ℕ
  pub all : AllPass is_blank blanks
  pub numeral : List ℕ
  pub again : List ℕ
  pub rest : List ℕ
  pub others : List ℕ
  pub whole : text ≡ blanks ++ (numeral ++ rest)
  pub is : front ≡ again ++ others
  pub same : SameNumber again numeral
  pub shuts : Shuts rest
  pub condenses : Condenses other rest others

renewed_more : (text front : List ℕ) (x : ℕ) → is_blank x ≡ true → Renewed text front → Renewed (x ∷ text) front
renewed_more text front x h s =
    record { blanks = x ∷ s.blanks; all = All-cons (λ z. is_blank z ≡ true) x s.blanks h s.all; numeral = s.numeral; again = s.again; rest = s.rest; others = s.others; whole = ap (λ (l : List ℕ). x ∷ l) s.whole; is = s.is; same = s.same; shuts = s.shuts; condenses = s.condenses }

either_more : (text : List ℕ) (x b : ℕ) (cs : List ℕ) → is_blank x ≡ true → Skipped text b cs ⊎ Renewed text (b ∷ cs) → Skipped (x ∷ text) b cs ⊎ Renewed (x ∷ text) (b ∷ cs)
either_more text x b cs h (inl s) = inl (one_more text x b cs h s)
either_more text x b cs h (inr s) = inr (renewed_more text (b ∷ cs) x h s)

pub numeral_unblank : (x : ℕ) → begins_numeral x ≡ true → is_blank x ≡ false
numeral_unblank x h = grind (arith, nat_tests)

no_blank_first : (m ds bl : List ℕ) (y : ℕ) → HasNumeralBytes m → m ++ ds ≡ y ∷ bl → is_blank y ≡ true → ⊥
no_blank_first [] ds bl y h e b = h
no_blank_first (x ∷ m) ds bl y h e b = let same : x ≡ y = cc in let n = numeral_unblank x h.0 in let t = ap is_blank same in cc

pub skip : (p : Before) (text c bl : List ℕ) (b : ℕ) (cs : List ℕ) → Free p → AllPass is_blank bl → is_blank b ≡ false → c ≡ bl ++ b ∷ cs → Condenses p text c → Skipped text b cs ⊎ Renewed text (b ∷ cs)
skip p text c [] b cs f a n e done = absurd (cc)
skip p text c (y ∷ bl) b cs f a n e done = absurd (cc)
skip p text c [] b cs f a n e (keep {bs = ts} {cs = ds} x h) =
    let same : x ≡ b = cc in
    let others : ds ≡ cs = cc in
    let at : next p x ≡ next other b = ap (next p) same ∙ next_unblank p b f n in
    inl (record {
      blanks = [];
      all = All-nil (λ z. is_blank z ≡ true);
      rest = ts;
      whole = ap (λ y. y ∷ ts) same;
      condenses = subst (λ (l : List ℕ). Condenses (next other b) ts l) others (subst (λ q. Condenses q ts ds) at h);
    })
skip p text c (y ∷ bl) b cs f a n e (keep {bs = ts} {cs = ds} x h) =
    let same : y ≡ x = cc in
    let others : ds ≡ bl ++ b ∷ cs = cc in
    let blank : is_blank x ≡ true = ap is_blank (sym same) ∙ All-head (λ z. is_blank z ≡ true) y bl a in
    let q = next_blank p x f blank in
    either_more ts x b cs blank (skip (next p x) ts ds bl b cs (subst Free (sym q) f) (All-tail (λ z. is_blank z ≡ true) y bl a) n others h)
skip p text c bl b cs f a n e (leave {bs = ts} {cs = ds} x blank may h) = either_more ts x b cs blank (skip p ts c bl b cs f a n e h)
skip p text c [] b cs f a n e (respell {bs = ts} {cs = ds} numeral again same shuts h) =
    inr (record { blanks = []; all = All-nil (λ z. is_blank z ≡ true); numeral = numeral; again = again; rest = ts; others = ds; whole = refl; is = sym e; same = same; shuts = shuts; condenses = h })
skip p text c (y ∷ bl) b cs f a n e (respell {bs = ts} {cs = ds} numeral again same shuts h) =
    absurd (no_blank_first again ds (bl ++ b ∷ cs) y (form_bytes again (same.one.parts, same.one.form)) e (All-head (λ z. is_blank z ≡ true) y bl a))

-- ---- the bytes after the first one of a token

pub record Kept (q : Before) (text : List ℕ) (b : ℕ) (cs : List ℕ) : Type 0 where
  pub rest : List ℕ
  pub whole : text ≡ b ∷ rest
  pub condenses : Condenses q rest cs

kept_first : (p : Before) (x : ℕ) (text : List ℕ) (b : ℕ) (cs ds : List ℕ) → b ∷ cs ≡ x ∷ ds → Condenses (next p x) text ds → Kept (next p b) (x ∷ text) b cs
kept_first p x text b cs ds e h =
    let same : x ≡ b = cc in
    let others : ds ≡ cs = cc in
    record {
      rest = text;
      whole = ap (λ y. y ∷ text) same;
      condenses = subst (λ (l : List ℕ). Condenses (next p b) text l) others (subst (λ y. Condenses (next p y) text ds) same h);
    }

unshut : (text c : List ℕ) (b : ℕ) (cs : List ℕ) → is_blank b ≡ false → is_delimiter b ≡ false → Shuts text → c ≡ b ∷ cs → Condenses other text c → ⊥
unshut text c b cs n d s e done = cc
unshut text c b cs n d (inl s) e (keep x h) = let same : b ≡ x = cc in let t = ap is_delimiter same in cc
unshut text c b cs n d (inr s) e (keep x h) = let same : b ≡ x = cc in let t = ap is_blank same in let u = s.0 in cc
unshut text c b cs n d (inl s) e (leave x blank may h) = let t = blank_delimiter x blank in cc
unshut text c b cs n d (inr s) e (leave {bs = ts} x blank may h) = unshut ts c b cs n d s.1 e h

kept_at : (text c : List ℕ) (b : ℕ) (cs : List ℕ) → is_blank b ≡ false → is_delimiter b ≡ false → c ≡ b ∷ cs → Condenses other text c → Kept (next other b) text b cs
kept_at text c b cs n d e done = absurd (cc)
kept_at text c b cs n d e (keep {bs = ts} {cs = ds} x h) = kept_first other x ts b cs ds (sym e) h
kept_at text c b cs n d e (leave {bs = ts} x blank may h) = absurd (unshut ts c b cs n d may e h)

kept : (text : List ℕ) (b : ℕ) (cs : List ℕ) → is_blank b ≡ false → is_delimiter b ≡ false → Condenses other text (b ∷ cs) → Kept (next other b) text b cs
kept text b cs n d h = kept_at text (b ∷ cs) b cs n d refl h

inside_at : (text c : List ℕ) (b : ℕ) (cs : List ℕ) → c ≡ b ∷ cs → Condenses quotation text c → Kept (next quotation b) text b cs
inside_at text c b cs e done = absurd (cc)
inside_at text c b cs e (keep {bs = ts} {cs = ds} x h) = kept_first quotation x ts b cs ds (sym e) h
inside_at text c b cs e (leave x blank may h) = absurd may

kept_inside : (text : List ℕ) (b : ℕ) (cs : List ℕ) → Condenses quotation text (b ∷ cs) → Kept (next quotation b) text b cs
kept_inside text b cs h = inside_at text (b ∷ cs) b cs refl h

-- the text begins with the token, and the text after it condenses to the rest
pub record Run (text token rest : List ℕ) : Type 0 where
  pub behind : List ℕ
  pub whole : text ≡ token ++ behind
  pub condenses : Condenses other behind rest

run_more : (text : List ℕ) (b : ℕ) (cs token rest : List ℕ) (behind : List ℕ) → text ≡ b ∷ behind → Run behind token rest → Run text (b ∷ token) rest
run_more text b cs token rest behind e r = record { behind = r.behind; whole = e ∙ ap (λ (l : List ℕ). b ∷ l) r.whole; condenses = r.condenses }

run : (p : ℕ → Bool) → ((b : ℕ) → p b ≡ true → IsSolid b) → (text xs rest : List ℕ) → AllPass p xs → Condenses other text (xs ++ rest) → Run text xs rest
run p solid text [] rest a h = record { behind = text; whole = refl; condenses = h }
run p solid text (x ∷ xs) rest a h =
    let s = solid x (All-head (λ z. p z ≡ true) x xs a) in
    let k = kept text x (xs ++ rest) s.blank s.delimiter h in
    run_more text x [] xs rest k.rest k.whole
    (run p solid k.rest xs rest (All-tail (λ z. p z ≡ true) x xs a) (subst (λ q. Condenses q k.rest (xs ++ rest)) (next_solid x s) k.condenses))

quoted_run : (text content rest : List ℕ) → Condenses quotation text (body content ++ 34 ∷ rest) → Run text (body content ++ 34 ∷ []) rest
quoted_run text [] rest h =
    let k = kept_inside text 34 rest h in
    record { behind = k.rest; whole = k.whole; condenses = k.condenses }
quoted_run text (b ∷ content) rest h =
    elim (by_mark b) [
      | inl m ↦
          let e = body-mark b content m.1 in
          let k = kept_inside text 34 (34 ∷ (body content ++ 34 ∷ rest)) (subst (λ (l : List ℕ). Condenses quotation text (l ++ 34 ∷ rest)) e h) in
          let j = kept k.rest 34 (body content ++ 34 ∷ rest) refl refl k.condenses in
          subst (λ (l : List ℕ). Run text (l ++ 34 ∷ []) rest) (sym e)
          (run_more text 34 [] (34 ∷ (body content ++ 34 ∷ [])) rest k.rest k.whole
          (run_more k.rest 34 [] (body content ++ 34 ∷ []) rest j.rest j.whole (quoted_run j.rest content rest j.condenses)))
      | inr m ↦
          let e = body-plain b content m.1 in
          let k = kept_inside text b (body content ++ 34 ∷ rest) (subst (λ (l : List ℕ). Condenses quotation text (l ++ 34 ∷ rest)) e h) in
          let at : next quotation b ≡ quotation = ap (λ t. cond t other quotation) (plain_is b m.0) in
          subst (λ (l : List ℕ). Run text (l ++ 34 ∷ []) rest) (sym e)
          (run_more text b [] (body content ++ 34 ∷ []) rest k.rest k.whole
          (quoted_run k.rest content rest (subst (λ q. Condenses q k.rest (body content ++ 34 ∷ rest)) at k.condenses)))
    ]

-- ---- the end of a token

stops : (p : ℕ → Bool) → ((b : ℕ) → is_blank b ≡ true → p b ≡ false) → (text rest : List ℕ) → Condenses other text rest → Stops p rest → Stops p text
stops p z text rest done s = tt
stops p z text rest (keep x h) s = s
stops p z text rest (leave x blank may h) s = z x blank

delimiter_number : (x : ℕ) → is_delimiter x ≡ true → is_number_byte x ≡ false
delimiter_number x h = grind (arith, nat_tests)

pub shut_number : (text : List ℕ) → Shuts text → Stops is_number_byte text
shut_number [] s = tt
shut_number (x ∷ text) (inl s) = delimiter_number x s
shut_number (x ∷ text) (inr s) = blank_number x s.0

-- if a delimiter or the end is next, blanks aside, the condensed text does not continue a number
pub shut_after : (text rest : List ℕ) → Shuts text → Condenses other text rest → Stops is_number_byte rest
shut_after text rest s done = tt
shut_after text rest s (keep {bs = ts} x h) = shut_number (x ∷ ts) s
shut_after text rest (inl s) (leave x blank may h) = let t = blank_delimiter x blank in absurd (cc)
shut_after text rest (inr s) (leave {bs = ts} {cs = ds} x blank may h) = shut_after ts rest s.1 h

-- the text begins with the other bytes of a token, which ends there, and the text after it condenses to the rest
pub record Followed (k : TokenKind) (text others rest : List ℕ) : Type 0 where
  pub behind : List ℕ
  pub whole : text ≡ others ++ behind
  pub ends : Ends k behind
  pub at : Before
  pub free : Free at
  pub condenses : Condenses at behind rest

of_run : (k : TokenKind) (text others rest : List ℕ) (r : Run text others rest) → Ends k r.behind → Followed k text others rest
of_run k text others rest r e = record { behind = r.behind; whole = r.whole; ends = e; at = other; free = tt; condenses = r.condenses }

alone : (k : TokenKind) (first : ℕ) (b : ℕ) (q : Before) (text others rest : List ℕ) → others ≡ [] → first ≡ b → next other b ≡ q → Free q → Ends k text → Condenses (next other first) text (others ++ rest) → Followed k text others rest
alone k first b q text others rest n e at f ends h =
    record {
      behind = text;
      whole = ap (λ (l : List ℕ). l ++ text) (sym n);
      ends = ends;
      at = q;
      free = f;
      condenses = subst (λ r. Condenses r text rest) (ap (next other) e ∙ at) (subst (λ (l : List ℕ). Condenses (next other first) text (l ++ rest)) n h);
    }

pub follow : (k : TokenKind) (first : ℕ) (text others rest : List ℕ) → begun_by first ≡ Some k → Follow k others → Ends k rest → Condenses (next other first) text (others ++ rest) → Followed k text others rest
follow Word first text others rest g f e h =
    let at = next_solid first (begins_word_solid first g) in
    let r = run is_word_byte word_solid text others rest f (subst (λ q. Condenses q text (others ++ rest)) at h) in
    of_run Word text others rest r (stops is_word_byte blank_word r.behind rest r.condenses e)
follow Number first text others rest g f e h =
    let at = next_solid first (begins_number_solid first g) in
    let r = run is_number_byte number_solid text others rest f (subst (λ q. Condenses q text (others ++ rest)) at h) in
    of_run Number text others rest r (stops is_number_byte blank_number r.behind rest r.condenses e)
follow Quoted first text others rest g f e h =
    let at : next other first ≡ quotation = ap (next other) (quoted_begins first g) in
    let is : others ++ rest ≡ body f.0 ++ 34 ∷ rest = ap (λ (l : List ℕ). l ++ rest) f.1 ∙ append_assoc (body f.0) (34 ∷ []) rest in
    let q = quoted_run text f.0 rest (subst (λ (l : List ℕ). Condenses quotation text l) is (subst (λ q. Condenses q text (others ++ rest)) at h)) in
    let r : Run text others rest = subst (λ (l : List ℕ). Run text l rest) (sym f.1) q in
    of_run Quoted text others rest r (stops is_mark blank_mark r.behind rest r.condenses e)
follow Comma first text others rest g f e h = alone Comma first 44 delimiter text others rest f (comma_begins first g) refl tt tt h
follow (Open Square) first text others rest g f e h = alone (Open Square) first 91 delimiter text others rest f (open_begins Square first g) refl tt tt h
follow (Open Round) first text others rest g f e h = alone (Open Round) first 40 other text others rest f (open_begins Round first g) refl tt tt h
follow (Close Square) first text others rest g f e h = alone (Close Square) first 93 delimiter text others rest f (close_begins Square first g) refl tt tt h
follow (Close Round) first text others rest g f e h = alone (Close Round) first 41 other text others rest f (close_begins Round first g) refl tt tt h
