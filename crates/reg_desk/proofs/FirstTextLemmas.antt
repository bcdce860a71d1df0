-- The first text of a file, and of some files.
use Rattle.std.proofs.Common.{◌≡◌, ◌∷◌, ◌++◌, [], List, ℕ, ◌+◌, length, map, drop, refl, sym, subst}
use Rattle.wkt_tree.specs.Tree.{Piece}
use Rattle.wkt_compare.specs.Texts.{begin, IsNext, AreTexts, IsCutInto}
use Rattle.wkt_compare.proofs.EachCut.{some_texts}
use Rattle.reg_desk.specs.ImportTexts.{TextAt, in_file, AreCuts}
use Rattle.reg_desk.proofs.ImportTextLemmas.{CutsComplete, some_cuts}

-- the texts from the place where the first may begin are those of the file
pub cut_from : (bytes rest : List ℕ) (place : ℕ) (cuts : List Piece) → place ≡ begin bytes → rest ≡ drop place bytes → AreTexts place rest cuts → IsCutInto bytes cuts
cut_from bytes rest place cuts at is h = subst (λ (n : ℕ). AreTexts n (drop n bytes) cuts) at (subst (λ (l : List ℕ). AreTexts place l cuts) is h)

-- the next text from there is the first of the file
pub begins_with : (bytes rest later : List ℕ) (place : ℕ) (p : Piece) → place ≡ begin bytes → rest ≡ drop place bytes → IsNext place rest p later → (others : List Piece) × IsCutInto bytes (p ∷ others)
begins_with bytes rest later place p at is next =
    let behind = some_texts (p.place + length p.bytes) later in
    (behind.0, cut_from bytes rest place (p ∷ behind.0) at is (later, next, behind.1))

-- the first text of a file is that of all files, if those before it have none
pub first_here : (files : List (List ℕ)) (file : ℕ) (rest others : List (List ℕ)) (bytes : List ℕ) (p : Piece) → rest ≡ bytes ∷ others → CutsComplete files file rest []
    → ((later : List Piece) × IsCutInto bytes (p ∷ later)) → (later : List TextAt) × AreCuts 0 files (in_file file p ∷ later)
first_here files file rest others bytes p is done begins =
    let more = some_cuts (file + 1) others in
    let behind : List TextAt = map (in_file file) begins.0 ++ more.0 in
    let here : AreCuts file rest (in_file file p ∷ behind) =
    subst (λ l. AreCuts file l (in_file file p ∷ behind)) (sym is) (p ∷ begins.0, more.0, begins.1, more.1, refl) in
    (behind, done (in_file file p ∷ behind) here)
