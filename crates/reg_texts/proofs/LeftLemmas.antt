-- The first text that is passed over is the first that is not a definition.
use Rattle.std.proofs.Common.{◌≡◌, ℕ, Option, Some, None, List, [], ◌∷◌, sym, subst, inl, inr}
use Rattle.wkt_tree.specs.Tree.{Piece}
use Rattle.wkt_compare.specs.Texts.{IsCutInto}
use Rattle.reg_texts.specs.declared.against.UnreadTexts.{UnreadTexts}
use Rattle.reg_texts.specs.declared.against.UnreadTexts.TheVariants as unread
use Rattle.reg_texts.specs.Given.{IsUnread, IsFirstLeft, IsFirstUnread, IsFileUnread, IsFileAgainstWhereRead}
use Rattle.reg_op.specs.Contents.{Content}
use Rattle.reg_texts.specs.declared.engines.with.WithFault.{WithFault}
use Rattle.reg_texts.specs.With.{IsLeftIn, IsPart}

one_reason : (u v : UnreadTexts) → ◌≡◌ {A = Option UnreadTexts} (Some u) (Some v) → u ≡ v
one_reason u v e = cc

no_reason : (u : UnreadTexts) → ◌≡◌ {A = Option UnreadTexts} (Some u) None → ⊥
no_reason u e = cc

first_unread : (cuts : List Piece) (u : UnreadTexts) → IsFirstLeft cuts (Some u) → IsFirstUnread cuts u
first_unread [] u e = absurd (no_reason u e)
first_unread (c ∷ cs) u (inl (defines, later)) = inr (defines, first_unread cs u later)
first_unread (c ∷ cs) u (inr (v, is, some, e)) = inl (subst (IsUnread c) (sym (one_reason u v e)) is)

pub file_unread : (bytes : List ℕ) (cuts : List Piece) (u : UnreadTexts) → IsCutInto bytes cuts → IsFirstLeft cuts (Some u) → IsFileUnread bytes u
file_unread bytes cuts (unread.Refused f at place len) cut left = (cuts, cut, first_unread cuts (unread.Refused f at place len) left)
file_unread bytes cuts unread.Memory cut left = tt

pub part_of : (name bytes : List ℕ) (next : ℕ) (x : Content) (text : List ℕ) (first : Option UnreadTexts) (left : Option WithFault) → IsFileAgainstWhereRead name bytes x text first
    → ((cuts : List Piece) → IsCutInto bytes cuts → IsFirstLeft cuts first → IsLeftIn next bytes cuts left) → IsPart name bytes next x text left
part_of name bytes next x text first left whole leaves = record { cuts = whole.0; cut = whole.1; against = whole.2; first = leaves whole.0 whole.1 whole.3 }
