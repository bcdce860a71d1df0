-- Canonical texts that are printed one after another are found again.
use Rattle.std.proofs.Common.{◌≡◌, ℕ, zero, suc, ◌+◌, ◌<◌, true, false, List, [], ◌∷◌, ◌++◌, length, drop, map, refl, arith, sym, ◌∙◌, ap, subst, append_assoc, append-nil}
use Rattle.std.specs.Prelude.{All}
use Rattle.std.specs.List.{AllPass}
use Rattle.std.proofs.lemmas.Bool.Decides.{nat_tests}
use Rattle.std.proofs.lemmas.List.Elements.{All-nil, All-cons, All-head, All-tail}
use Rattle.crs_part.specs.declared.crs.CrsParts.{CrsParts}
use Rattle.crs_part.specs.declared.crs.CrsParts.TheVariants as parts
use Rattle.crs_part.specs.declared.crs.Single.TheVariants as single
use Rattle.wkt_tree.specs.declared.token.TokenKind.TheVariants.{Word}
use Rattle.wkt_tree.specs.Bytes.{is_blank}
use Rattle.wkt_tree.specs.Tree.{Piece}
use Rattle.wkt_tree.specs.Tokens.{Stops}
use Rattle.wkt_tree.proofs.Cuts.{begins_unblank}
use Rattle.wkt_tree.proofs.Utf8.{begun_small}
use Rattle.wkt_grammar.specs.Bare.{Bare, Bares, node}
use Rattle.wkt_write.specs.WellFormed.{WellFormed}
use Rattle.wkt_grammar.specs.Render.{render, render_all}
use Rattle.wkt_grammar.specs.Trees.{parts_tree}
use Rattle.wkt_crs.proofs.GoodTrees.{canonical_good}
use Rattle.wkt_compare.specs.Texts.{begin, IsFirstText, IsNext, AreTexts}
use Rattle.wkt_compare.specs.Counting.{text_len}
use Rattle.wkt_compare.specs.Printed.{IsCanonical, printed, AreFound}
use Rattle.wkt_compare.proofs.Firsts.{first_text}
use Rattle.wkt_compare.proofs.Skips.{one_text}

-- the text begins with an ASCII byte other than a blank, and is the first text of these bytes and any others
record IsWhole (text : List ℕ) : Type 0 where
  first : ℕ
  others : List ℕ
  is : text ≡ first ∷ others
  unblank : is_blank first ≡ false
  small : first < 128
  len : (rest : List ℕ) → text_len 0 false (text ++ rest) ≡ length text

node_whole : (k : List ℕ) (xs : Bares) (n : ℕ) → WellFormed n (node k xs) → IsWhole (render (node k xs))
node_whole k xs zero g = absurd g
node_whole k xs (suc n) g = record {
  first = g.0.first;
  others = g.0.others ++ (91 ∷ (render_all xs ++ (93 ∷ [])));
  is = ap (λ l. l ++ (91 ∷ (render_all xs ++ (93 ∷ [])))) g.0.parts;
  unblank = begins_unblank g.0.first Word g.0.begun;
  small = begun_small g.0.first Word g.0.begun;
  len = one_text k xs (suc n) g;
}

-- the canonical tree of a value is a node
record IsRoot (x : Bare) : Type 0 where
  keyword : List ℕ
  items : Bares
  is : x ≡ node keyword items

root_of : (v : CrsParts) → IsRoot (parts_tree v)
root_of (parts.Single (single.Geodetic v)) = record { keyword = _; items = _; is = refl }
root_of (parts.Single (single.Projected v)) = record { keyword = _; items = _; is = refl }
root_of (parts.Single (single.Vertical v)) = record { keyword = _; items = _; is = refl }
root_of (parts.Compound v) = record { keyword = _; items = _; is = refl }

parts_whole : (v : CrsParts) → WellFormed 16 (parts_tree v) → IsWhole (render (parts_tree v))
parts_whole v g =
    let root = root_of v in
    subst (λ x. IsWhole (render x)) (sym root.is) (node_whole root.keyword root.items 16 (subst (λ x. WellFormed 16 x) root.is g))

canonical_whole : (text : List ℕ) → IsCanonical text → IsWhole text
canonical_whole text c = subst (λ t. IsWhole t) (sym c.1) (parts_whole c.0.parts (canonical_good c.0.parts))

all_whole : (texts : List (List ℕ)) → All IsCanonical texts → All IsWhole texts
all_whole [] a = All-nil IsWhole
all_whole (t ∷ ts) a = All-cons IsWhole t ts (canonical_whole t (All-head IsCanonical t ts a)) (all_whole ts (All-tail IsCanonical t ts a))

-- the texts with their places, where one byte separates two of them
pieces : ℕ → List (List ℕ) → List Piece
pieces place [] = []
pieces place (t ∷ ts) = record { place = place; bytes = t } ∷ pieces (place + length t + 1) ts

pieces-bytes : (texts : List (List ℕ)) (place : ℕ) → map (λ c. c.bytes) (pieces place texts) ≡ texts
unfolding pieces
pieces-bytes [] place = refl
pieces-bytes (t ∷ ts) place = ap (λ l. t ∷ l) (pieces-bytes ts (place + length t + 1))

next_whole : (place : ℕ) (blanks text behind : List ℕ) → AllPass is_blank blanks → IsWhole text
    → IsNext place (blanks ++ (text ++ behind)) (record { place = place + length blanks; bytes = text }) behind
next_whole place blanks text behind all w =
    let starts : text ++ behind ≡ w.first ∷ (w.others ++ behind) = ap (λ l. l ++ behind) w.is in
    record {
      from = text ++ behind;
      blank = record { blanks = blanks; all = all; whole = refl; moved = refl };
      some = omega (arith, ap length starts);
      begins = subst (λ l. Stops is_blank l) (sym starts) w.unblank;
      whole = refl;
      text = subst (λ n. IsFirstText (text ++ behind) n) (w.len behind) (first_text (text ++ behind));
    }

are_texts : (texts : List (List ℕ)) (place : ℕ) (blanks : List ℕ) → AllPass is_blank blanks → All IsWhole texts → AreTexts place (blanks ++ printed texts) (pieces (place + length blanks) texts)
unfolding pieces
are_texts [] place blanks all a = subst (λ l. AllPass is_blank l) (sym (append-nil blanks)) all
are_texts (t ∷ ts) place blanks all a = (
  10 ∷ printed ts,
  subst (λ l. IsNext place (blanks ++ l) (record { place = place + length blanks; bytes = t }) (10 ∷ printed ts)) (sym (append_assoc t (10 ∷ []) (printed ts)))
      (next_whole place blanks t (10 ∷ printed ts) all (All-head IsWhole t ts a)),
  are_texts ts (place + length blanks + length t) (10 ∷ []) (All-cons (λ z. is_blank z ≡ true) 10 [] refl (All-nil _)) (All-tail IsWhole t ts a),
)

begin_small : (b : ℕ) (bs : List ℕ) → b < 128 → begin (b ∷ bs) ≡ 0
begin_small b bs l = grind (arith, nat_tests)

begin_printed : (texts : List (List ℕ)) → All IsWhole texts → begin (printed texts) ≡ 0
begin_printed [] a = refl
begin_printed (t ∷ ts) a =
    let w = All-head IsWhole t ts a in
    ap (λ l. begin ((l ++ 10 ∷ []) ++ printed ts)) w.is ∙ begin_small w.first ((w.others ++ 10 ∷ []) ++ printed ts) w.small

pub printed_found : (texts : List (List ℕ)) → All IsCanonical texts → AreFound (printed texts) texts
printed_found texts a =
    let w = all_whole texts a in (
      pieces 0 texts,
      subst (λ n. AreTexts n (drop n (printed texts)) (pieces 0 texts)) (sym (begin_printed texts w)) (are_texts texts 0 [] (All-nil _) w),
      pieces-bytes texts 0,
    )
