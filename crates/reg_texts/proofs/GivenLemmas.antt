-- The faults of the texts of a file, one text at a time.
use Rattle.std.proofs.Common.{◌≡◌, ◌≢◌, ℕ, Option, Some, None, List, [], ◌∷◌, ◌++◌, length, refl, ap, sym, subst, inl, inr, arith}
use Rattle.std.specs.Borrow.{Bor}
use Rattle.wkt_tree.specs.Tree.{Piece}
use Rattle.reg_op.specs.Rows.{Row}
use Rattle.reg_report.specs.declared.row.Row.{Row as MadeRow}
use Rattle.reg_texts.specs.Compare.{seen_rows, IsChosen}
use Rattle.reg_texts.specs.Gathered.{Each}
use Rattle.reg_texts.specs.declared.against.UnreadTexts.{UnreadTexts}
use Rattle.reg_texts.specs.declared.against.UnreadTexts.TheVariants as unread
use Rattle.reg_texts.specs.Given.{Defines, IsRival, IsUnread, IsTextOrNone, IsTold, IsFirstLeft, IsFirstUnread, IsFileUnread, earlier}
use Rattle.wkt_compare.specs.Texts.{IsCutInto}
use Rattle.crs_value.specs.declared.key.Key.{Key}
use Rattle.reg_op.specs.Definition.{IsKeyIn}
use Rattle.reg_report.specs.Conflicts.{bytes_of}
use Rattle.reg_report.proofs.ContenderLemmas.{one_key}
use Rattle.reg_keys.specs.Index.{spelling, IsSpelled, AreChosen, AreSpelled}
use Rattle.reg_keys.proofs.IndexLemmas.{key_spelled}

-- each fault of `rest` is a fault of `all`
abbrev pub Passes : List Piece → List Piece → Type 0
Passes all rest = (f : UnreadTexts) → IsFirstUnread rest f → IsFirstUnread all f

pub passes_more : (all rest others : List Piece) (c : Piece) (d : List ℕ) → rest ≡ c ∷ others → Defines c.bytes d → Passes all rest → Passes all others
passes_more all rest others c d first defines p f later = p f (subst (λ l. IsFirstUnread l f) (sym first) (inr ((d, defines), later)))

pub passes_here : (all rest others : List Piece) (c : Piece) (f : UnreadTexts) → rest ≡ c ∷ others → IsUnread c f → Passes all rest → IsFirstUnread all f
passes_here all rest others c f first is p = p f (subst (λ l. IsFirstUnread l f) (sym first) (inl is))

-- ---- texts that are passed over

pub text_or_none : (name : List ℕ) (rs : List Row) (c : Piece) (mine : List ℕ) (left : Option UnreadTexts) → IsTold name rs c mine left → IsTextOrNone name rs c mine
text_or_none name rs c mine None told = inl told
text_or_none name rs c mine (Some u) told = inr ((u, told.0, told.1), told.2)

-- the reasons of `rest`, behind the first one so far, are those of `all`
abbrev pub Leaves : List Piece → List Piece → Option UnreadTexts → Type 0
Leaves all rest first = (later : Option UnreadTexts) → IsFirstLeft rest later → IsFirstLeft all (earlier first later)

pub leaves_none : (all : List Piece) → Leaves all all None
leaves_none all later l = l

pub leaves_more : (name : List ℕ) (rs : List Row) (all rest others : List Piece) (c : Piece) (mine : List ℕ) (first left : Option UnreadTexts) → rest ≡ c ∷ others → IsTold name rs c mine left → Leaves all rest first
    → Leaves all others (earlier first left)
leaves_more name rs all rest others c mine (Some u) None e told leaves later l =
    leaves later (subst (λ r. IsFirstLeft r later) (sym e) (inl ((told.0, told.1), l)))
leaves_more name rs all rest others c mine (Some u) (Some v) e told leaves later l =
    leaves (Some v) (subst (λ r. IsFirstLeft r (Some v)) (sym e) (inr (v, told.0, told.1, refl)))
leaves_more name rs all rest others c mine None None e told leaves later l =
    leaves later (subst (λ r. IsFirstLeft r later) (sym e) (inl ((told.0, told.1), l)))
leaves_more name rs all rest others c mine None (Some v) e told leaves later l =
    leaves (Some v) (subst (λ r. IsFirstLeft r (Some v)) (sym e) (inr (v, told.0, told.1, refl)))

pub leaves_all : (all rest : List Piece) (first : Option UnreadTexts) → rest ≡ [] → Leaves all rest first → IsFirstLeft all first
leaves_all all rest first e leaves = subst (IsFirstLeft all) (same first) (leaves None (subst (λ r. IsFirstLeft r None) (sym e) refl))
  where
    same : (o : Option UnreadTexts) → earlier o None ≡ o
    same None = refl
    same (Some u) = refl

pub some_seen : (rs : List (Bor MadeRow)) → rs ≢ [] → seen_rows rs ≢ []
some_seen [] some none = some refl
some_seen (r ∷ rs) some none = absurd (omega (arith, ap length none))

pub file_unread : (file : List ℕ) (cuts : List Piece) (f : UnreadTexts) → IsCutInto file cuts → IsFirstUnread cuts f → IsFileUnread file f
file_unread file cuts (unread.Refused f at place len) cut first = (cuts, cut, first)
file_unread file cuts unread.Memory cut first = tt

-- ---- the entries of a key, among the rows that are spelled as it

each_again : (P Q : Row → Type 0) → ((r : Row) → Q r → P r) → (rs some found : List Row) → AreChosen P rs some → Each (IsChosen Q) some found → Each (IsChosen Q) rs found
each_again P Q sub [] some found e each = subst (λ l. Each (IsChosen Q) l found) e each
each_again P Q sub (x ∷ rs) some found (inl (p, (rest, e, later))) each =
    let h = subst (λ l. Each (IsChosen Q) l found) e each in
    (h.0, h.1, h.2, each_again P Q sub rs rest h.1 later h.3, h.4)
each_again P Q sub (x ∷ rs) some found (inr (not, later)) each = ([], found, inr (λ q. not (sub x q), refl), each_again P Q sub rs some found later each, refl)

pub rivals_again : (d : List ℕ) (key : Key) (rs some found : List Row) → IsKeyIn key d → AreSpelled (spelling (bytes_of key)) rs some → Each (IsChosen (IsRival d)) some found → Each (IsChosen (IsRival d)) rs found
rivals_again d key rs some found is are each =
    each_again (IsSpelled (spelling (bytes_of key))) (IsRival d)
    (λ r v. subst (λ t. IsSpelled (spelling t) r) (one_key d v.0.0 (bytes_of key) v.0.1 (key, is, refl)) (key_spelled v.0.0 r v.0.2))
    rs some found are.chosen each
