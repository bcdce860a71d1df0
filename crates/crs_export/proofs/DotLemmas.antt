-- What a reader of DOT makes of bytes, part by part. An escaped text is shown as it was, with marks for U+0000.
use Rattle.std.proofs.Common.{◌≡◌, ℕ, ◌==◌, Bool, true, false, not, ◌&&◌, List, [], ◌∷◌, ◌++◌, codes, if◌then◌else◌, refl, sym, ap, ◌∙◌, append_assoc, append-nil, subst}
use Rattle.std.proofs.lemmas.Bool.{and_parts}
use Rattle.std.proofs.lemmas.Bool.Decides.{Decides-eqb}
use Rattle.std.specs.List.{list_all}
use Rattle.crs_export.specs.Scanned.{read_after}
use Rattle.crs_export.specs.DotQuotes.{null_mark, escaped_byte, escaped, quoted, marked, read, unescaped}
use Rattle.crs_export.specs.DotStatements.{Place, Statement, InText, AfterBackslash, Part, to, in_text, step, parts_from, place_after}

-- ---- how a label is shown

-- the bytes that a byte is escaped to, by the results of the tests on it
abbrev picked : ℕ → Bool → Bool → Bool → Bool → Bool → List ℕ
picked b t u v w x =
    if t then 92 ∷ 34 ∷ [] else (if u then 92 ∷ 92 ∷ [] else (if v then 92 ∷ 110 ∷ [] else (if w then codes "&amp;" else (if x then null_mark else b ∷ []))))

is_byte : (b n : ℕ) (rest : List ℕ) → (b == n) ≡ true → n ∷ rest ≡ b ∷ rest
is_byte b n rest e = ap (λ c. c ∷ rest) (sym ((Decides-eqb b n).0 e))

abbrev shown : ℕ → Bool → List ℕ
shown b x = if x then null_mark else b ∷ []

-- a byte that is 34, 92, 10 or 38 is shown as it is
as_it_is : (b n : ℕ) (x : Bool) (rest : List ℕ) → (b == n) ≡ true → (n == 0) ≡ false → (b == 0) ≡ x → n ∷ rest ≡ shown b x ++ rest
as_it_is b n true rest e z x = let is = (Decides-eqb b n).0 e in cc
as_it_is b n false rest e z x = is_byte b n rest e

read_picked : (b : ℕ) (rest : List ℕ) (t u v w x : Bool) → (b == 34) ≡ t → (b == 92) ≡ u → (b == 10) ≡ v → (b == 38) ≡ w → (b == 0) ≡ x
    → read_after read 0 (picked b t u v w x ++ rest) ≡ shown b x ++ read_after read 0 rest
read_picked b rest true u v w x e _ _ _ x' = as_it_is b 34 x _ e refl x'
read_picked b rest false true v w x _ e _ _ x' = as_it_is b 92 x _ e refl x'
read_picked b rest false false true w x _ _ e _ x' = as_it_is b 10 x _ e refl x'
read_picked b rest false false false true x _ _ _ e x' = as_it_is b 38 x _ e refl x'
read_picked b rest false false false false true _ _ _ _ _ = refl
read_picked b rest false false false false false t u v w x = rw (u, w) refl

-- an escaped text before other bytes
pub shown_before : (text rest : List ℕ) → unescaped (escaped text ++ rest) ≡ marked text ++ unescaped rest
shown_before [] rest = refl
shown_before (b ∷ text) rest =
    ap (read_after read 0) (append_assoc (escaped_byte b) (escaped text) rest)
    ∙ read_picked b (escaped text ++ rest) _ _ _ _ _ refl refl refl refl refl
    ∙ ap (λ cs. shown b (b == 0) ++ cs) (shown_before text rest)
    ∙ sym (append_assoc (shown b (b == 0)) (marked text) (unescaped rest))

pub shown_back : (text : List ℕ) → unescaped (escaped text) ≡ marked text
shown_back text = ap unescaped (sym (append-nil (escaped text))) ∙ shown_before text [] ∙ append-nil (marked text)

-- ---- bytes and their parts

-- the bytes lead from one place to another, and add these parts
pub record Takes (p : Place) (bytes : List ℕ) (parts : List Part) (q : Place) : Type 0 where
  pub read : parts_from p bytes ≡ parts
  pub place : place_after p bytes ≡ q

parts_both : (p : Place) (a b : List ℕ) → parts_from p (a ++ b) ≡ parts_from p a ++ parts_from (place_after p a) b
parts_both p [] b = refl
parts_both p (x ∷ a) b = ap (λ ps. (step p x).adds ++ ps) (parts_both (step p x).place a b) ∙ sym (append_assoc (step p x).adds _ _)

place_both : (p : Place) (a b : List ℕ) → place_after p (a ++ b) ≡ place_after (place_after p a) b
place_both p [] b = refl
place_both p (x ∷ a) b = place_both (step p x).place a b

pub takes_both : {p q r : Place} {a b : List ℕ} {xs ys : List Part} → Takes p a xs q → Takes q b ys r → Takes p (a ++ b) (xs ++ ys) r
takes_both {p = p} {q = q} {r = r} {a = a} {b = b} {xs = xs} {ys = ys} first second = record {
  read = parts_both p a b ∙ (λ j. first.read j ++ parts_from (first.place j) b) ∙ ap (λ ps. xs ++ ps) second.read;
  place = place_both p a b ∙ ap (λ here. place_after here b) first.place ∙ second.place;
}

-- the bytes stay in a text, whatever was before them
pub record Within (bytes : List ℕ) : Type 0 where
  pub is : (text : List ℕ) → Takes (InText text) bytes [] (InText (text ++ bytes))

pub within_none : Within []
within_none = record { is = λ text. record { read = refl; place = ap InText (sym (append-nil text)) } }

pub within_both : {a b : List ℕ} → Within a → Within b → Within (a ++ b)
within_both {a = a} {b = b} first second = record {
  is = λ text. subst (λ l. Takes (InText text) (a ++ b) [] (InText l)) (append_assoc text a b) (takes_both (first.is text) (second.is (text ++ a)));
}

-- bytes that mean themselves in a text
abbrev is_plain : ℕ → Bool
is_plain b = not (b == 34) && (not (b == 92) && not (b == 0))

plain_step : (text : List ℕ) (b : ℕ) → (b == 34) ≡ false → (b == 92) ≡ false → (b == 0) ≡ false → in_text text b ≡ to (InText (text ++ b ∷ []))
plain_step text b t u v = rw (t, u, v) refl

within_one : (b : ℕ) (t u v : Bool) → (b == 34) ≡ t → (b == 92) ≡ u → (b == 0) ≡ v → (not t && (not u && not v)) ≡ true → Within (b ∷ [])
within_one b true u v _ _ _ h = absurd cc
within_one b false true v _ _ _ h = absurd cc
within_one b false false true _ _ _ h = absurd cc
within_one b false false false t u v h = record { is = λ text. let here = plain_step text b t u v in record { read = ap (λ s. s.adds ++ []) here; place = ap (λ s. s.place) here } }

pub within_plain : (bytes : List ℕ) → list_all is_plain bytes ≡ true → Within bytes
within_plain [] h = within_none
within_plain (b ∷ bytes) h =
    let both = and_parts (is_plain b) (list_all is_plain bytes) h in
    within_both (within_one b _ _ _ refl refl refl both.0) (within_plain bytes both.1)

escape_step : (text : List ℕ) (b : ℕ) → (b == 0) ≡ false → step (AfterBackslash text) b ≡ to (InText (text ++ b ∷ []))
escape_step text b z = rw z refl

-- a backslash and what follows it
pub within_escape : (b : ℕ) → (b == 0) ≡ false → Within (92 ∷ b ∷ [])
within_escape b z = record {
  is = λ text.
      let here = escape_step (text ++ 92 ∷ []) b z in
      record { read = ap (λ s. s.adds ++ []) here; place = ap (λ s. s.place) here ∙ ap InText (append_assoc text (92 ∷ []) (b ∷ [])) };
}

within_picked : (b : ℕ) (t u v w x : Bool) → (b == 34) ≡ t → (b == 92) ≡ u → (b == 0) ≡ x → Within (picked b t u v w x)
within_picked b true u v w x _ _ _ = within_escape 34 refl
within_picked b false true v w x _ _ _ = within_escape 92 refl
within_picked b false false true w x _ _ _ = within_escape 110 refl
within_picked b false false false true x _ _ _ = within_plain (codes "&amp;") refl
within_picked b false false false false true _ _ _ = within_plain null_mark refl
within_picked b false false false false false t u x = within_one b false false false t u x refl

pub within_escaped : (text : List ℕ) → Within (escaped text)
within_escaped [] = within_none
within_escaped (b ∷ text) = within_both (within_picked b _ _ _ _ _ refl refl refl) (within_escaped text)

opened : Takes Statement (34 ∷ []) [] (InText [])
opened = record { read = refl; place = refl }

closed : (text : List ℕ) → Takes (InText text) (34 ∷ []) (Part.Text (unescaped text) ∷ []) Statement
closed text = record { read = refl; place = refl }

-- bytes of a text between quotation marks
pub takes_within : {bytes : List ℕ} → Within bytes → Takes Statement (34 ∷ (bytes ++ 34 ∷ [])) (Part.Text (unescaped bytes) ∷ []) Statement
takes_within {bytes = bytes} w = takes_both opened (takes_both (w.is []) (closed bytes))

pub read_back : (text : List ℕ) → parts_from Statement (quoted text) ≡ Part.Text (marked text) ∷ []
read_back text = (takes_within (within_escaped text)).read ∙ ap (λ t. Part.Text t ∷ []) (shown_back text)
