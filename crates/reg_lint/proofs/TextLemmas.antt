-- The texts of a file, one at a time.
use Rattle.std.proofs.Common.{◌≡◌, ℕ, List, [], ◌∷◌, ◌++◌, map, refl, subst, sym, inl, inr}
use Rattle.wkt_tree.specs.Tree.{Piece}
use Rattle.wkt_compare.specs.declared.splitting.cutting.Cut.{Cut}
use Rattle.wkt_compare.specs.Texts.{piece_of, IsCutInto}
use Rattle.reg_lint.specs.declared.kept.KeptSubject.{KeptSubject}
use Rattle.reg_lint.specs.declared.texts.Unread.{Unread}
use Rattle.reg_lint.specs.declared.texts.Unread.TheVariants as why
use Rattle.reg_lint.specs.Texts.{IsTextKept, AreTextsKept, IsUnread, IsFirstUnread, IsFileUnread}

-- what holds of the rest, after the reference systems so far, holds of all
abbrev pub Goes : List ℕ → List Cut → List KeptSubject → List Cut → List KeptSubject → Type 0
Goes name cuts first rest now =
    ((new : List KeptSubject) → AreTextsKept name (map piece_of rest) now new → AreTextsKept name (map piece_of cuts) first new)
    × ((w : Unread) → IsFirstUnread (map piece_of rest) w → IsFirstUnread (map piece_of cuts) w)

pub one_more : (name : List ℕ) (cuts : List Cut) (first : List KeptSubject) (rest others : List Cut) (cut : Cut) (s : KeptSubject) (old new : List KeptSubject)
    → rest ≡ cut ∷ others → IsTextKept name (piece_of cut) s → new ≡ old ++ s ∷ [] → Goes name cuts first rest old → Goes name cuts first others new
one_more name cuts first rest others cut s old new r is e (goes, faults) = (
  λ end are. goes end (subst (λ l. AreTextsKept name (map piece_of l) old end) (sym r) (s, is, subst (λ l. AreTextsKept name (map piece_of others) l end) e are)),
  λ w f. faults w (subst (λ l. IsFirstUnread (map piece_of l) w) (sym r) (inr ((is.0.crs, is.1.1), f))),
)

pub all_read : (name : List ℕ) (cuts : List Cut) (first : List KeptSubject) (rest : List Cut) (now : List KeptSubject) → rest ≡ [] → Goes name cuts first rest now → AreTextsKept name (map piece_of cuts) first now
all_read name cuts first rest now e (goes, faults) = goes now (subst (λ l. AreTextsKept name (map piece_of l) now now) (sym e) refl)

pub one_fault : (name : List ℕ) (cuts : List Cut) (first : List KeptSubject) (rest others : List Cut) (cut : Cut) (now : List KeptSubject) (w : Unread)
    → rest ≡ cut ∷ others → IsUnread (piece_of cut) w → Goes name cuts first rest now → IsFirstUnread (map piece_of cuts) w
one_fault name cuts first rest others cut now w r is (goes, faults) = faults w (subst (λ l. IsFirstUnread (map piece_of l) w) (sym r) (inl is))

-- what holds of the texts of a file holds of the file
pub file_unread : (file : List ℕ) (cuts : List Piece) (w : Unread) → IsCutInto file cuts → IsFirstUnread cuts w → IsFileUnread file w
file_unread file cuts (why.Refused f place len) cut first = (cuts, cut, first)
file_unread file cuts why.Memory cut first = tt
