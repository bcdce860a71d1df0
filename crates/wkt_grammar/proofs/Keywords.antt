-- Keywords: their places, their spellings, and the meanings of words.
use Rattle.std.proofs.Common.{◌≡◌, ℕ, Bool, true, false, cond, List, [], ◌∷◌, ◌++◌, map, get_or, Option, Some, None, refl, sym, ap, ◌∙◌}
use Rattle.std.specs.Prelude.{◌&&◌, ◌||◌, ◌↔◌, if◌then◌else◌}
use Rattle.std.specs.Char.{to_ascii_lowercase}
use Rattle.std.specs.List.{list_any}
use Rattle.std.specs.Str.{bytes_eq}
use Rattle.std.proofs.lemmas.Bool.{eqb-true, eq-eqb}
use Rattle.std.proofs.lemmas.Option.{same_Some}
use Rattle.std.proofs.lemmas.Slice.Eq.{bytes_eq-Decides}
use Rattle.std.specs.Map.{lookup}
use Rattle.std.specs.Option.{option_or}
use Rattle.crs_part.specs.Words.{first_word, same_word}
use Rattle.wkt_grammar.specs.declared.table.Keyword.{Keyword}
use Rattle.wkt_grammar.specs.declared.table.Keyword.TheVariants as keywords
use Rattle.wkt_grammar.specs.declared.table.Node.{Node}
use Rattle.wkt_grammar.specs.declared.table.Takes.TheVariants as kinds
use Rattle.wkt_grammar.specs.Rows.{enters}
use Rattle.wkt_grammar.specs.Words.{IsKeyword, all_keywords, alternates, keyword_of, meanings, place_of, same_keyword, spelling}

-- ---- places

placed : (k : Keyword) → get_or all_keywords (place_of k) keywords.Unit ≡ k
placed keywords.GeodeticCrs = refl
placed keywords.GeographicCrs = refl
placed keywords.ProjectedCrs = refl
placed keywords.VerticalCrs = refl
placed keywords.CompoundCrs = refl
placed keywords.BaseGeodeticCrs = refl
placed keywords.BaseGeographicCrs = refl
placed keywords.Datum = refl
placed keywords.VerticalDatum = refl
placed keywords.Ensemble = refl
placed keywords.Member = refl
placed keywords.Method = refl
placed keywords.GeoidModel = refl
placed keywords.EnsembleAccuracy = refl
placed keywords.Ellipsoid = refl
placed keywords.PrimeMeridian = refl
placed keywords.Conversion = refl
placed keywords.Parameter = refl
placed keywords.LengthUnit = refl
placed keywords.AngleUnit = refl
placed keywords.ScaleUnit = refl
placed keywords.Unit = refl
placed keywords.CoordinateSystem = refl
placed keywords.Axis = refl
placed keywords.Meridian = refl
placed keywords.Order = refl
placed keywords.Usage = refl
placed keywords.BoundingBox = refl
placed keywords.VerticalExtent = refl
placed keywords.Scope = refl
placed keywords.Area = refl
placed keywords.Anchor = refl
placed keywords.Citation = refl
placed keywords.Uri = refl
placed keywords.Remark = refl
placed keywords.Identifier = refl

pub same_is : (a b : Keyword) → same_keyword a b ≡ true → a ≡ b
same_is a b e = sym (placed a) ∙ (ap (λ i. get_or all_keywords i keywords.Unit) (eqb-true (place_of a) (place_of b) e) ∙ placed b)

pub is_same : (k : Keyword) → same_keyword k k ≡ true
is_same k = eq-eqb (place_of k) (place_of k) refl

-- a slot for nodes with one keyword takes no other keyword
pub node_only : (own : Keyword) (n : Node) (k : Keyword) (m : Node) → enters (kinds.Node own n) k ≡ Some m → (k ≡ own) × (m ≡ n)
node_only own n k m e = by (same_keyword own k) refl e
  where
    by : (t : Bool) → same_keyword own k ≡ t → (if t then Some n else None) ≡ Some m → (k ≡ own) × (m ≡ n)
    by true s f = (sym (same_is own k s), cc)
    by false s f = absurd cc

-- ---- spellings

pub keyword_spelled : (k : Keyword) → keyword_of (spelling k) ≡ Some k
unfolding keyword_of
keyword_spelled keywords.GeodeticCrs = refl
keyword_spelled keywords.GeographicCrs = refl
keyword_spelled keywords.ProjectedCrs = refl
keyword_spelled keywords.VerticalCrs = refl
keyword_spelled keywords.CompoundCrs = refl
keyword_spelled keywords.BaseGeodeticCrs = refl
keyword_spelled keywords.BaseGeographicCrs = refl
keyword_spelled keywords.Datum = refl
keyword_spelled keywords.VerticalDatum = refl
keyword_spelled keywords.Ensemble = refl
keyword_spelled keywords.Member = refl
keyword_spelled keywords.Method = refl
keyword_spelled keywords.GeoidModel = refl
keyword_spelled keywords.EnsembleAccuracy = refl
keyword_spelled keywords.Ellipsoid = refl
keyword_spelled keywords.PrimeMeridian = refl
keyword_spelled keywords.Conversion = refl
keyword_spelled keywords.Parameter = refl
keyword_spelled keywords.LengthUnit = refl
keyword_spelled keywords.AngleUnit = refl
keyword_spelled keywords.ScaleUnit = refl
keyword_spelled keywords.Unit = refl
keyword_spelled keywords.CoordinateSystem = refl
keyword_spelled keywords.Axis = refl
keyword_spelled keywords.Meridian = refl
keyword_spelled keywords.Order = refl
keyword_spelled keywords.Usage = refl
keyword_spelled keywords.BoundingBox = refl
keyword_spelled keywords.VerticalExtent = refl
keyword_spelled keywords.Scope = refl
keyword_spelled keywords.Area = refl
keyword_spelled keywords.Anchor = refl
keyword_spelled keywords.Citation = refl
keyword_spelled keywords.Uri = refl
keyword_spelled keywords.Remark = refl
keyword_spelled keywords.Identifier = refl

-- a lookup among the spellings of keywords and then among others is two searches, one after the other
after : (ks : List Keyword) (others : List (List ℕ × Keyword)) (bytes : List ℕ)
    → lookup (λ w. same_word w bytes) (map (λ k. (spelling k, k)) ks ++ others) ≡ option_or (first_word spelling ks (map to_ascii_lowercase bytes)) (lookup (λ w. same_word w bytes) others)
after [] others bytes = refl
after (k ∷ ks) others bytes = by (same_word (spelling k) bytes) _ _ _ (after ks others bytes)
  where
    by : (t : Bool) (x y z : Option Keyword) → x ≡ option_or y z → cond t (Some k) x ≡ option_or (cond t (Some k) y) z
    by true x y z h = refl
    by false x y z h = h

pub by_spelling : (bytes : List ℕ) → keyword_of bytes ≡ option_or (first_word spelling all_keywords (map to_ascii_lowercase bytes)) (lookup (λ w. same_word w bytes) alternates)
unfolding keyword_of
by_spelling bytes = after all_keywords alternates bytes

-- ---- a word that is a spelling of a keyword means that keyword

abbrev Meanings : Type 0
Meanings = List (List ℕ × Keyword)

abbrev is_keyword : Keyword → List ℕ → Meanings → Bool
is_keyword k bytes ms = list_any (λ m. same_word m.0 bytes && same_keyword m.1 k) ms

looked_up : (k : Keyword) (bytes : List ℕ) (ms : Meanings) → lookup (λ w. same_word w bytes) ms ≡ Some k → is_keyword k bytes ms ≡ true
looked_up k bytes [] e = absurd cc
looked_up k bytes (m ∷ ms) e = by (same_word m.0 bytes) e (looked_up k bytes ms)
  where
    by : (t : Bool) → cond t (Some m.1) (lookup (λ w. same_word w bytes) ms) ≡ Some k → (lookup (λ w. same_word w bytes) ms ≡ Some k → is_keyword k bytes ms ≡ true) → ((t && same_keyword m.1 k) || is_keyword k bytes ms) ≡ true
    by true f g = ap (λ t. t || is_keyword k bytes ms) (ap (λ j. same_keyword j k) (same_Some m.1 k f) ∙ is_same k)
    by false f g = g f

abbrev meaning_by : List ℕ → Option Keyword
meaning_by l = lookup (λ w. bytes_eq (map to_ascii_lowercase w) l) meanings

same_meaning : (a b : List ℕ) → same_word a b ≡ true → keyword_of a ≡ keyword_of b
unfolding keyword_of
same_meaning a b e = ap meaning_by ((bytes_eq-Decides (map to_ascii_lowercase a) (map to_ascii_lowercase b)).0 e)

abbrev AllMean : Meanings → Type 0
AllMean [] = Unit {0}
AllMean (m ∷ ms) = (keyword_of m.0 ≡ Some m.1) × AllMean ms

each_means : (ms : Meanings) → map (λ m. keyword_of m.0) ms ≡ map (λ m. Some m.1) ms → AllMean ms
each_means [] e = tt
each_means (m ∷ ms) e = (cc, each_means ms cc)

table_means : map (λ m. keyword_of m.0) meanings ≡ map (λ m. Some m.1) meanings
unfolding keyword_of
table_means = refl

listed : (k : Keyword) (bytes : List ℕ) (ms : Meanings) → AllMean ms → is_keyword k bytes ms ≡ true → keyword_of bytes ≡ Some k
listed k bytes [] a h = absurd cc
listed k bytes (m ∷ ms) a h = by (same_word m.0 bytes) (same_keyword m.1 k) refl refl h (λ g. listed k bytes ms a.1 g)
  where
    by : (s t : Bool) → same_word m.0 bytes ≡ s → same_keyword m.1 k ≡ t → ((s && t) || is_keyword k bytes ms) ≡ true → (is_keyword k bytes ms ≡ true → keyword_of bytes ≡ Some k) → keyword_of bytes ≡ Some k
    by true true p q g r = sym (same_meaning m.0 bytes p) ∙ (a.0 ∙ ap Some (same_is m.1 k q))
    by true false p q g r = r g
    by false t p q g r = r g

found : (bytes : List ℕ) (k : Keyword) → keyword_of bytes ≡ Some k → IsKeyword k bytes
unfolding keyword_of
found bytes k e = looked_up k bytes meanings e

pub keywords_are : (bytes : List ℕ) (k : Keyword) → (keyword_of bytes ≡ Some k) ↔ IsKeyword k bytes
keywords_are bytes k = (found bytes k, λ h. listed k bytes meanings (each_means meanings table_means) h)

-- ---- the steps of the search for the meaning of a word

pub likely_means : (k : Keyword) (bytes : List ℕ) → spelling k ≡ bytes → Some k ≡ keyword_of bytes
likely_means k bytes e = sym (keyword_spelled k) ∙ ap keyword_of e

pub spelling_means : (k : Keyword) (bytes : List ℕ) → Some k ≡ first_word spelling all_keywords (map to_ascii_lowercase bytes) → Some k ≡ keyword_of bytes
spelling_means k bytes e = sym (by_spelling bytes ∙ ap (λ o. option_or o (lookup (λ w. same_word w bytes) alternates)) (sym e))

pub alternate_means : (o : Option Keyword) (bytes : List ℕ) → None ≡ first_word spelling all_keywords (map to_ascii_lowercase bytes) → o ≡ lookup (λ w. same_word w bytes) alternates → o ≡ keyword_of bytes
alternate_means o bytes e f = f ∙ sym (by_spelling bytes ∙ ap (λ p. option_or p (lookup (λ w. same_word w bytes) alternates)) (sym e))
