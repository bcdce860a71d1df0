-- What a reader of SQL makes of bytes, part by part. A quoted text is read as the text.
use Rattle.std.proofs.Common.{◌≡◌, ℕ, ◌==◌, Bool, true, false, List, [], ◌∷◌, ◌++◌, if◌then◌else◌, refl, sym, ap, ◌∙◌, append_assoc, append-nil, subst}
use Rattle.std.proofs.lemmas.Bool.Decides.{Decides-eqb}
use Rattle.crs_export.specs.SqlQuotes.{escaped, quoted}
use Rattle.crs_export.specs.SqlStatements.{Place, Statement, InText, AfterMark, Part, to, step, parts_from, place_after}

-- the bytes lead from one place to another, and add these parts
pub record Takes (p : Place) (bytes : List ℕ) (parts : List Part) (q : Place) : Type 0 where
  pub read : parts_from p bytes ≡ parts
  pub place : place_after p bytes ≡ q

parts_both : (p : Place) (a b : List ℕ) → parts_from p (a ++ b) ≡ parts_from p a ++ parts_from (place_after p a) b
parts_both p [] b = refl
parts_both p (x ∷ a) b = ap (λ ps. (step p x).adds ++ ps) (parts_both (step p x).place a b) ∙ sym (append_assoc (step p x).adds _ _)

place_both : (p : Place) (a b : List ℕ) → place_after p (a ++ b) ≡ place_after (place_after p a) b
place_both p [] b = refl
place_both p (x ∷ a) b = place_both (step p x).place a b

pub takes_both : {p q r : Place} {a b : List ℕ} {xs ys : List Part} → Takes p a xs q → Takes q b ys r → Takes p (a ++ b) (xs ++ ys) r
takes_both {p = p} {q = q} {r = r} {a = a} {b = b} {xs = xs} {ys = ys} first second = record {
  read = parts_both p a b ∙ (λ j. first.read j ++ parts_from (first.place j) b) ∙ ap (λ ps. xs ++ ps) second.read;
  place = place_both p a b ∙ ap (λ here. place_after here b) first.place ∙ second.place;
}

-- ---- texts

-- the bytes that a byte is escaped to, by the result of the test on it
abbrev picked : ℕ → Bool → List ℕ
picked b t = if t then 39 ∷ 39 ∷ [] else b ∷ []

text_step : (b : ℕ) (text : List ℕ) → (b == 39) ≡ false → step (InText text) b ≡ to (InText (text ++ b ∷ []))
text_step b text e = rw e refl

takes_picked : (b : ℕ) (text : List ℕ) (t : Bool) → (b == 39) ≡ t → Takes (InText text) (picked b t) [] (InText (text ++ b ∷ []))
takes_picked b text true e = let is = sym ((Decides-eqb b 39).0 e) in record { read = refl; place = ap (λ c. InText (text ++ c ∷ [])) is }
takes_picked b text false e = let here = text_step b text e in record { read = ap (λ s. s.adds ++ []) here; place = ap (λ s. s.place) here }

takes_escaped : (more text : List ℕ) → Takes (InText text) (escaped more) [] (InText (text ++ more))
takes_escaped [] text = record { read = refl; place = ap InText (sym (append-nil text)) }
takes_escaped (b ∷ more) text =
    subst (λ l. Takes (InText text) (escaped (b ∷ more)) [] (InText l)) (append_assoc text (b ∷ []) more) (takes_both (takes_picked b text _ refl) (takes_escaped more (text ++ b ∷ [])))

opened : Takes Statement (39 ∷ []) [] (InText [])
opened = record { read = refl; place = refl }

closed : (text : List ℕ) → Takes (InText text) (39 ∷ []) [] (AfterMark text)
closed text = record { read = refl; place = refl }

-- a quoted text in a statement
pub takes_quoted : (text : List ℕ) → Takes Statement (quoted text) [] (AfterMark text)
takes_quoted text = takes_both opened (takes_both (takes_escaped text []) (closed text))

pub read_back : (text : List ℕ) → parts_from Statement (quoted text ++ 44 ∷ []) ≡ Part.Text text ∷ Part.Byte 44 ∷ []
read_back text = (takes_both (takes_quoted text) (record { read = refl; place = refl })).read
