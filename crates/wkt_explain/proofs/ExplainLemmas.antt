-- The parts of an explanation make up the explanation.
use Rattle.std.proofs.Common.{◌≡◌, ℕ, ◌+◌, List, length, take, drop, min, ap, ◌∙◌}
use Rattle.std.proofs.lemmas.List.{take_min, drop_min}
use Rattle.wkt_crs.specs.declared.definition.DefinitionFault.{DefinitionFault}
use Rattle.wkt_explain.specs.declared.walk.Spot.{Spot}
use Rattle.wkt_explain.specs.Characters.{chars}
use Rattle.wkt_explain.specs.Position.{first_line, last_line, without_return, behind_mark, line_number, column, text_in}
use Rattle.wkt_explain.specs.Path.{path_at}
use Rattle.wkt_explain.specs.Shown.{shown_lines}
use Rattle.wkt_explain.specs.Walk.{IsSpot}
use Rattle.wkt_explain.specs.Explains.{explanation, explained, said, told_at}

spot_explained : (name file text : List ℕ) (at to : ℕ) (path : List (List ℕ)) (f : DefinitionFault) (spot : Spot) (place : ℕ)
    → path ≡ path_at (take at text) → place ≡ min to (length file) → IsSpot spot (behind_mark (take place file)) (drop place file)
    → said name spot.line spot.column path (shown_lines (chars spot.before.now) (chars spot.after.now)) text f ≡ explained name text at (behind_mark (take to file)) (drop to file) f
spot_explained name file text at to path f spot place p e s =
    let front = behind_mark (take to file) in
    let before : behind_mark (take place file) ≡ front = ap (λ n. behind_mark (take n file)) e ∙ ap behind_mark (take_min to file) in
    let after : drop place file ≡ drop to file = ap (λ n. drop n file) e ∙ drop_min to file in
    ap (λ l. said name l spot.column path (shown_lines (chars spot.before.now) (chars spot.after.now)) text f) (s.line ∙ ap line_number before)
    ∙ ap (λ k. said name (line_number front) k path (shown_lines (chars spot.before.now) (chars spot.after.now)) text f) (s.column ∙ ap column before)
    ∙ ap (λ l. said name (line_number front) (column front) path l text f)
    (s.shown ∙ ap (λ b. shown_lines (chars (last_line b)) (chars (without_return (first_line (drop place file))))) before ∙ ap (λ b. shown_lines (chars (last_line front)) (chars (without_return (first_line b)))) after)
    ∙ ap (λ q. said name (line_number front) (column front) q (shown_lines (chars (last_line front)) (chars (without_return (first_line (drop to file))))) text f) p

-- what is said at the place of the fault of a text is the explanation of the fault
pub is_explanation : (name file text : List ℕ) (start end at place : ℕ) (path : List (List ℕ)) (f : DefinitionFault) (spot : Spot) (note : List ℕ)
    → text ≡ text_in file start end → at ≡ told_at text f → path ≡ path_at (take at text) → place ≡ min (start + at) (length file)
    → IsSpot spot (behind_mark (take place file)) (drop place file)
    → note ≡ said name spot.line spot.column path (shown_lines (chars spot.before.now) (chars spot.after.now)) text f → note ≡ explanation name file start end f
is_explanation name file text start end at place path f spot note t a p e s n =
    n
    ∙ spot_explained name file text at (start + at) path f spot place p e s
    ∙ ap (λ k. explained name text k (behind_mark (take (start + k) file)) (drop (start + k) file) f) a
    ∙ ap (λ x. explained name x (told_at x f) (behind_mark (take (start + told_at x f) file)) (drop (start + told_at x f) file) f) t
