-- The page in three parts.
use Rattle.std.specs.Prelude.{ℕ, List, [], ◌∷◌, ◌++◌}
use Rattle.std.specs.List.{flat_map}
use Rattle.html_page.specs.Pieces.{Piece, Markup}
use Rattle.html_page.specs.declared.head.PageFigures.{PageFigures}
use Rattle.html_page.specs.declared.markup.TheConstants.{AFTER_FIGURES, CONFLICTS_START, CONFLICTS_END, AWAITED_START, AWAITED_END, GAPS_START, GAPS_END, ENTRIES_START, ENTRIES_END, RETIRED_START, RETIRED_END}
use Rattle.html_page.specs.Shown.{Conflict, Gap, Entry}
use Rattle.html_page.specs.Templates.{head, figures, section, conflict, awaited, gap, entry, end}

-- the title and the figures
abbrev pub top : List ℕ → PageFigures → List Piece
top title f = head title ++ figures f ++ (Markup AFTER_FIGURES.now ∷ [])

-- the conflicts and the awaited ids
abbrev pub unsettled : (List ℕ → List ℕ) → List Conflict → List (List ℕ) → List Piece
unsettled named cs is = section CONFLICTS_START.now (conflict named) CONFLICTS_END.now cs ++ section AWAITED_START.now (awaited named) AWAITED_END.now is

-- the conflicts, the awaited ids and the gaps
abbrev pub open_ends : (List ℕ → List ℕ) → List Conflict → List (List ℕ) → List Gap → List Piece
open_ends named cs is gs = unsettled named cs is ++ section GAPS_START.now (gap named) GAPS_END.now gs

-- the rows of the entries that are not retired, and of those that are
abbrev pub table : (List ℕ → List ℕ) → List Entry → List Entry → List Piece
table named es rs =
    (Markup ENTRIES_START.now ∷ []) ++ flat_map (entry named) es ++ (Markup ENTRIES_END.now ∷ []) ++ section RETIRED_START.now (entry named) RETIRED_END.now rs ++ end
