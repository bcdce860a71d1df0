-- Features and statements that are appended entry by entry.
use Rattle.std.proofs.Common.{◌≡◌, ℕ, ◌||◌, List, [], ◌∷◌, ◌++◌, refl, sym, ap, ◌∙◌, append_assoc, append-nil}
use Rattle.std.specs.List.{flat_map}
use Rattle.crs_export.specs.declared.filed.Filed.{Filed}
use Rattle.crs_export.specs.Features.{after_comma, listed, listed_behind, are_some}
use Rattle.crs_export.specs.Sql.{judged, line_as, lines}

-- ---- features

commas_both : (fs gs : List (List ℕ)) → flat_map after_comma (fs ++ gs) ≡ flat_map after_comma fs ++ flat_map after_comma gs
commas_both [] gs = refl
commas_both (f ∷ fs) gs = ap (λ l. after_comma f ++ l) (commas_both fs gs) ∙ sym (append_assoc (after_comma f) (flat_map after_comma fs) (flat_map after_comma gs))

-- features behind others
pub listed_both : (fs gs : List (List ℕ)) → listed (fs ++ gs) ≡ listed fs ++ listed_behind (are_some fs) gs
listed_both [] gs = refl
listed_both (f ∷ fs) gs = ap (λ l. f ++ l) (commas_both fs gs) ∙ sym (append_assoc f (flat_map after_comma fs) (flat_map after_comma gs))

pub some_of_both : (fs gs : List (List ℕ)) → are_some (fs ++ gs) ≡ (are_some fs || are_some gs)
some_of_both [] gs = refl
some_of_both (f ∷ fs) gs = refl

-- ---- statements

-- the lines of entries after others
pub lines_both : (before fs gs : List Filed) → lines before (fs ++ gs) ≡ lines before fs ++ lines (before ++ fs) gs
lines_both before [] gs = ap (λ l. lines l gs) (sym (append-nil before))
lines_both before (f ∷ fs) gs =
    let line = line_as f (judged before f) in
    ap (λ l. line ++ l) (lines_both (before ++ f ∷ []) fs gs ∙ ap (λ l. lines (before ++ f ∷ []) fs ++ lines l gs) (append_assoc before (f ∷ []) fs))
    ∙ sym (append_assoc line (lines (before ++ f ∷ []) fs) (lines (before ++ f ∷ fs) gs))
