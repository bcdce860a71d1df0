-- A file can be cut into texts in at most one way.
use Rattle.std.proofs.Common.{◌≡◌, ℕ, ◌+◌, ◌<◌, inl, inr, List, [], ◌∷◌, length, take, drop, refl, arith, sym, ◌∙◌, ap, subst, length-append}
use Rattle.std.specs.List.{AllPass, prefix_len}
use Rattle.std.proofs.lemmas.Bool.{cases_order}
use Rattle.std.proofs.Math.Seq.{take-append_seam, drop-append_seam}
use Rattle.wkt_tree.specs.Bytes.{is_blank}
use Rattle.wkt_tree.specs.Tree.{Piece}
use Rattle.wkt_tree.proofs.Cuts.{prefix_is, prefix_all}
use Rattle.wkt_compare.specs.Texts.{begin, IsFirstText, IsNext, AreTexts, IsCutInto}

shorter : (bytes : List ℕ) (n m : ℕ) → n < m → IsFirstText bytes n → IsFirstText bytes m → ⊥
shorter bytes n m l f g = elim f.ends [ inl h ↦ g.fewest n l h | inr e ↦ omega (arith, e, l, g.within) ]

one_len : (bytes : List ℕ) (n m : ℕ) → IsFirstText bytes n → IsFirstText bytes m → n ≡ m
one_len bytes n m f g = elim (cases_order n m) [
  | inl e ↦ e
  | inr h ↦ elim h [ inl l ↦ absurd (shorter bytes n m l f g) | inr l ↦ absurd (shorter bytes m n l g f) ]
]

-- the blanks before the next text are all that the bytes begin with
blanks_are : (place : ℕ) (bytes : List ℕ) (a : Piece) (rest : List ℕ) (h : IsNext place bytes a rest) → prefix_len is_blank bytes ≡ length h.blank.blanks
blanks_are place bytes a rest h = ap (prefix_len is_blank) h.blank.whole ∙ prefix_is is_blank h.blank.blanks h.from h.blank.all h.begins

from_are : (place : ℕ) (bytes : List ℕ) (a : Piece) (rest : List ℕ) (h : IsNext place bytes a rest) → drop (prefix_len is_blank bytes) bytes ≡ h.from
from_are place bytes a rest h =
    ap (λ n. drop n bytes) (blanks_are place bytes a rest h) ∙ (ap (drop (length h.blank.blanks)) h.blank.whole ∙ drop-append_seam h.blank.blanks h.from)

text_are : (place : ℕ) (bytes : List ℕ) (a : Piece) (rest : List ℕ) (h : IsNext place bytes a rest) → take (length a.bytes) h.from ≡ a.bytes
text_are place bytes a rest h = ap (take (length a.bytes)) h.whole ∙ take-append_seam a.bytes rest

rest_are : (place : ℕ) (bytes : List ℕ) (a : Piece) (rest : List ℕ) (h : IsNext place bytes a rest) → drop (length a.bytes) h.from ≡ rest
rest_are place bytes a rest h = ap (drop (length a.bytes)) h.whole ∙ drop-append_seam a.bytes rest

one_next : (place : ℕ) (bytes : List ℕ) (a b : Piece) (r s : List ℕ) → IsNext place bytes a r → IsNext place bytes b s → (a ≡ b) × (r ≡ s)
one_next place bytes a b r s h k =
    let froms : h.from ≡ k.from = sym (from_are place bytes a r h) ∙ from_are place bytes b s k in
    let places : a.place ≡ b.place = omega (arith, h.blank.moved, k.blank.moved, blanks_are place bytes a r h, blanks_are place bytes b s k) in
    let lens : length a.bytes ≡ length b.bytes = one_len k.from (length a.bytes) (length b.bytes) (subst (λ f. IsFirstText f (length a.bytes)) froms h.text) k.text in
    let texts : a.bytes ≡ b.bytes = sym (text_are place bytes a r h) ∙ (ap (λ n. take n h.from) lens ∙ (ap (take (length b.bytes)) froms ∙ text_are place bytes b s k)) in
    let rests : r ≡ s = sym (rest_are place bytes a r h) ∙ (ap (λ n. drop n h.from) lens ∙ (ap (drop (length b.bytes)) froms ∙ rest_are place bytes b s k)) in
    let piece : ℕ → List ℕ → Piece = λ p t. record { place = p; bytes = t } in
    (ap (λ p. piece p a.bytes) places ∙ ap (piece b.place) texts, rests)

not_blank : (place : ℕ) (bytes : List ℕ) (a : Piece) (rest : List ℕ) → AllPass is_blank bytes → IsNext place bytes a rest → ⊥
not_blank place bytes a rest all h =
    omega (arith, h.some, prefix_all is_blank bytes all, blanks_are place bytes a rest h, ap length h.blank.whole ∙ length-append h.blank.blanks h.from)

one_texts : (xs bs : List Piece) (place : ℕ) (bytes : List ℕ) → AreTexts place bytes xs → AreTexts place bytes bs → xs ≡ bs
one_texts [] [] place bytes h k = refl
one_texts [] (b ∷ bs) place bytes h k = absurd (not_blank place bytes b k.0 h k.1)
one_texts (a ∷ xs) [] place bytes h k = absurd (not_blank place bytes a h.0 k h.1)
one_texts (a ∷ xs) (b ∷ bs) place bytes h k =
    let e = one_next place bytes a b h.0 k.0 h.1 k.1 in
    let same : AreTexts (b.place + length b.bytes) k.0 xs = subst (λ r. AreTexts (b.place + length b.bytes) r xs) e.1 (subst (λ p. AreTexts (p.place + length p.bytes) h.0 xs) e.0 h.2) in
    ap (λ x. x ∷ xs) e.0 ∙ ap (λ zs. b ∷ zs) (one_texts xs bs (b.place + length b.bytes) k.0 same k.2)

pub one_cut : (file : List ℕ) (xs bs : List Piece) → IsCutInto file xs → IsCutInto file bs → xs ≡ bs
one_cut file xs bs h k = one_texts xs bs (begin file) (drop (begin file) file) h k
