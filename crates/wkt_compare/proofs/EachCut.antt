-- Each file is cut into some texts.
use Rattle.std.proofs.Common.{◌≡◌, ℕ, zero, suc, ◌+◌, ◌<◌, ◌≤◌, false, List, [], ◌∷◌, ◌++◌, length, take, drop, refl, arith, sym, ◌∙◌, ap, subst, append-nil}
use Rattle.std.specs.List.{AllPass, prefix_len}
use Rattle.std.proofs.lemmas.List.{take-append-drop}
use Rattle.std.proofs.lemmas.List.Sums.{prefix_len-le-length}
use Rattle.wkt_tree.specs.Bytes.{is_blank}
use Rattle.wkt_tree.specs.Tree.{Piece}
use Rattle.wkt_tree.proofs.Lexemes.{front_passes, front_stops}
use Rattle.wkt_compare.specs.Texts.{begin, IsNext, AreTexts, IsCutInto}
use Rattle.wkt_compare.specs.Counting.{text_len}
use Rattle.wkt_compare.proofs.Firsts.{first_text}
use Rattle.wkt_compare.proofs.Nexts.{next_is, next_less}

-- from place on, the bytes are some texts
abbrev pub SomeTexts : ℕ → List ℕ → Type 0
SomeTexts place bytes = (cuts : List Piece) × AreTexts place bytes cuts

all_blank : (bytes : List ℕ) → drop (prefix_len is_blank bytes) bytes ≡ [] → AllPass is_blank bytes
all_blank bytes e =
    let n = prefix_len is_blank bytes in
    let front : take n bytes ≡ bytes = sym (append-nil (take n bytes)) ∙ ap (λ rest. take n bytes ++ rest) (sym e) ∙ take-append-drop n bytes in
    subst (AllPass is_blank) front (front_passes is_blank bytes)

next_of : (place : ℕ) (bytes from : List ℕ) → drop (prefix_len is_blank bytes) bytes ≡ from → 0 < length from
    → IsNext place bytes (record { place = place + prefix_len is_blank bytes; bytes = take (text_len 0 false from) from }) (drop (text_len 0 false from) from)
next_of place bytes from e some =
    next_is place (prefix_len is_blank bytes) (text_len 0 false from) bytes from (take (text_len 0 false from) from) (drop (text_len 0 false from) from)
    (prefix_len-le-length is_blank bytes) (front_passes is_blank bytes) (front_stops is_blank bytes) (sym e) some (first_text from) refl refl

-- the next text and those behind it, if all shorter bytes are some texts
with_next : (place : ℕ) (bytes from : List ℕ) → drop (prefix_len is_blank bytes) bytes ≡ from → ((at : ℕ) (rest : List ℕ) → length rest < length bytes → SomeTexts at rest) → SomeTexts place bytes
with_next place bytes [] e shorter = ([], all_blank bytes e)
with_next place bytes (b ∷ bs) e shorter =
    let n = text_len 0 false (b ∷ bs) in
    let cut : Piece = record { place = place + prefix_len is_blank bytes; bytes = take n (b ∷ bs) } in
    let next : IsNext place bytes cut (drop n (b ∷ bs)) = next_of place bytes (b ∷ bs) e (omega arith) in
    let behind = shorter (cut.place + length cut.bytes) (drop n (b ∷ bs)) (next_less place bytes cut (drop n (b ∷ bs)) next) in
    (cut ∷ behind.0, (drop n (b ∷ bs), next, behind.1))

at_most : (n place : ℕ) (bytes : List ℕ) → length bytes ≤ n → SomeTexts place bytes
at_most zero place bytes short = with_next place bytes (drop (prefix_len is_blank bytes) bytes) refl (λ at rest less. absurd (omega (arith, less, short)))
at_most (suc n) place bytes short = with_next place bytes (drop (prefix_len is_blank bytes) bytes) refl (λ at rest less. at_most n at rest (omega (arith, less, short)))

pub some_texts : (place : ℕ) (bytes : List ℕ) → SomeTexts place bytes
some_texts place bytes = at_most (length bytes) place bytes (omega arith)

pub each_cut : (file : List ℕ) → (cuts : List Piece) × IsCutInto file cuts
each_cut file = some_texts (begin file) (drop (begin file) file)
