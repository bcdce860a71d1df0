-- The lines of statements, one run at a time.
use Rattle.std.proofs.Common.{◌≡◌, ℕ, ◌+◌, List, [], ◌∷◌, ◌++◌, map, take, drop, refl, ap, sym, ◌∙◌, append_assoc, append-nil, subst, drop-drop}
use Rattle.std.specs.List.{prefix_len}
use Rattle.std.proofs.lemmas.List.{take-map, drop-map}
use Rattle.reg_texts.specs.declared.saying.Saying.{Saying}
use Rattle.reg_texts.specs.KeySheet.{IsKeyLine, AreKeyLines, AreLinesOf}
use Rattle.reg_texts.specs.Listing.{runs, is_about, both_about}
use Rattle.reg_texts.specs.Said.{said}
use Rattle.reg_texts.proofs.ListingLemmas.{first_run, runs_first, prefix_map}

-- appends the line of the run that begins at index `at` and has n statements after its first one
pub line_more : (all : List Saying) (at n : ℕ) (s : Saying) (same : List Saying) (before new line : List ℕ)
    → drop at all ≡ s ∷ drop (at + 1) all → n ≡ prefix_len (both_about s) (drop (at + 1) all) → same ≡ take n (drop (at + 1) all)
    → IsKeyLine (said s) (map said same) line → new ≡ before ++ line
    → ((more : List ℕ) → AreLinesOf (map said (drop at all)) more → AreLinesOf (map said all) (before ++ more)) → (more : List ℕ) → AreLinesOf (map said (drop (at + 1 + n) all)) more → AreLinesOf (map said all) (new ++ more)
line_more all at n s same before new line r m t is e was more left =
    let ss = drop (at + 1) all in
    let count : n ≡ prefix_len (is_about (said s)) (map said ss) = m ∙ prefix_map s ss in
    let behind : drop (prefix_len (is_about (said s)) (map said ss)) (map said ss) ≡ map said (drop (at + 1 + n) all) =
    ap (λ k. drop k (map said ss)) (sym count) ∙ drop-map said n ss ∙ ap (map said) (drop-drop n (at + 1) all) in
    let others : map said same ≡ take (prefix_len (is_about (said s)) (map said ss)) (map said ss) =
    ap (map said) t ∙ sym (take-map said n ss) ∙ ap (λ k. take k (map said ss)) count in
    let here : runs (map said (drop at all)) ≡ first_run (said s) (map said ss) = ap (λ l. runs (map said l)) r ∙ runs_first (said s) (map said ss) in
    subst (AreLinesOf (map said all)) (sym (ap (λ l. l ++ more) e ∙ append_assoc before line more))
    (was (line ++ more) (subst (λ rs. AreKeyLines rs (line ++ more)) (sym here)
    (line, more, subst (λ l. IsKeyLine (said s) l line) others is, subst (λ l. AreKeyLines (runs l) more) (sym behind) left, refl)))

pub lines_end : (all : List Saying) (at : ℕ) (text : List ℕ) → drop at all ≡ [] → ((more : List ℕ) → AreLinesOf (map said (drop at all)) more → AreLinesOf (map said all) (text ++ more)) → AreLinesOf (map said all) text
lines_end all at text e was = subst (AreLinesOf (map said all)) (append-nil text) (was [] (subst (λ l. AreLinesOf (map said l) []) (sym e) refl))
