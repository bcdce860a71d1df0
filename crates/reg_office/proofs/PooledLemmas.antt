-- A file has at most one content, and a content has one file of version 2, or one that is too large.
use Rattle.std.proofs.Common.{◌≡◌, ℕ, true, List, length, refl, sym, ap, ◌∙◌, subst, inl, inr, ◌⊎◌}
use Rattle.std.proofs.lemmas.Bool.{cases_lt, true≢false}
use Rattle.reg_op.specs.Set as set
use Rattle.reg_op.specs.Set.{contains, contains-empty}
use Rattle.reg_op.specs.Operations.{Op, Ops, op_cmp}
use Rattle.reg_op.specs.Contents.{Content, state, IsContent}
use Rattle.reg_op.proofs.ContentLemmas.{kept_is_within}
use Rattle.reg_op.specs.Pieces.{Piece, IsPiece}
use Rattle.reg_op.proofs.PieceLemmas.{outside_parts}
use Rattle.reg_state.specs.Runs.{AllIds}
use Rattle.reg_file.specs.Layout.{file, seen_file, piece_file}
use Rattle.reg_file.specs.Files.{most, IsFileOf, IsSeenFileOf, IsPieceFileOf}
use Rattle.reg_file.proofs.HoldLemmas.{one_reading as one_register, one_file}
use Rattle.reg_file.proofs.SummaryLemmas.{one_reading as one_summary, one_file as one_seen_file}
use Rattle.reg_file.proofs.PieceLemmas.{one_reading as one_piece, one_file as one_piece_file}
use Rattle.reg_file.proofs.KindLemmas.{read_register_or_seen, read_register_or_piece, read_seen_or_piece}
use Rattle.reg_file.proofs.MadeRuns.{runs_of_ids}
use Rattle.reg_office.specs.Pooled.{Pooled, OfRegister, OfSeen, OfPiece, HoldsAny, HoldsFirstAny, ReadsAsAny, IsAnyTooLarge, ops_in, TellsOf}

-- ---- a file has at most one content

pub one_pooled : (bytes : List ℕ) (what other : Pooled) → ReadsAsAny bytes what → ReadsAsAny bytes other → what ≡ other
one_pooled bytes (OfRegister x) (OfRegister y) h k = ap OfRegister (one_register bytes x y h k)
one_pooled bytes (OfRegister x) (OfSeen v) h k = absurd (read_register_or_seen bytes x v h k)
one_pooled bytes (OfRegister x) (OfPiece p) h k = absurd (read_register_or_piece bytes x p h k)
one_pooled bytes (OfSeen v) (OfRegister x) h k = absurd (read_register_or_seen bytes x v k h)
one_pooled bytes (OfSeen v) (OfSeen w) h k = ap OfSeen (one_summary bytes v w h k)
one_pooled bytes (OfSeen v) (OfPiece p) h k = absurd (read_seen_or_piece bytes v p h k)
one_pooled bytes (OfPiece p) (OfRegister x) h k = absurd (read_register_or_piece bytes x p k h)
one_pooled bytes (OfPiece p) (OfSeen v) h k = absurd (read_seen_or_piece bytes v p k h)
one_pooled bytes (OfPiece p) (OfPiece q) h k = ap OfPiece (one_piece bytes p q h k)

-- a file of version 2, or of version 1, is read as its content
pub is_read : (bytes : List ℕ) (what : Pooled) → HoldsAny bytes what → ReadsAsAny bytes what
is_read bytes (OfRegister x) h = inl h
is_read bytes (OfSeen v) h = inl h
is_read bytes (OfPiece p) h = inl h

pub first_is_read : (bytes : List ℕ) (what : Pooled) → HoldsFirstAny bytes what → ReadsAsAny bytes what
first_is_read bytes (OfRegister x) h = inr h
first_is_read bytes (OfSeen v) h = inr h
first_is_read bytes (OfPiece p) h = inr h

-- ---- a content has one file of version 2, or one that is too large

pub one_pooled_file : (what : Pooled) (bytes others : List ℕ) → HoldsAny bytes what → HoldsAny others what → bytes ≡ others
one_pooled_file (OfRegister x) bytes others h k = one_file x bytes others h.bytes_are k.bytes_are
one_pooled_file (OfSeen v) bytes others h k = one_seen_file v bytes others h.bytes_are k.bytes_are
one_pooled_file (OfPiece p) bytes others h k = one_piece_file p bytes others h.bytes_are k.bytes_are

-- a content that a file can hold
abbrev pub IsSound : Pooled → Type 0
IsSound (OfRegister x) = IsContent x
IsSound (OfSeen v) = AllIds v
IsSound (OfPiece p) = IsPiece p

pub has_file : (what : Pooled) → IsSound what → ((bytes : List ℕ) × HoldsAny bytes what) ⊎ IsAnyTooLarge what
has_file (OfRegister x) is =
    let r = runs_of_ids x.seen is.are_ids in
    let bytes : List ℕ = file (set.items x.ops) r.0 in
    let are : IsFileOf x bytes = record { runs = r.0; are_runs = r.1; all = r.2; whole = refl } in
    elim (cases_lt most (length bytes)) [
      | inl h ↦ inr (bytes, are, h)
      | inr h ↦ inl (bytes, record { content = is; bytes_are = are; short = h })
    ]
has_file (OfSeen v) is =
    let r = runs_of_ids v is in
    let bytes : List ℕ = seen_file 2 r.0 in
    let are : IsSeenFileOf v bytes = record { runs = r.0; are_runs = r.1; all = r.2; whole = refl } in
    elim (cases_lt most (length bytes)) [
      | inl h ↦ inr (bytes, are, h)
      | inr h ↦ inl (bytes, record { are_ids = is; bytes_are = are; short = h })
    ]
has_file (OfPiece p) is =
    let b = runs_of_ids p.basis is.are_ids in
    let r = runs_of_ids p.seen is.content.are_ids in
    let bytes : List ℕ = piece_file 2 b.0 (set.items p.ops) r.0 in
    let are : IsPieceFileOf p bytes = record { basis = b.0; are_basis = b.1; all_basis = b.2; runs = r.0; are_runs = r.1; all = r.2; whole = refl } in
    elim (cases_lt most (length bytes)) [
      | inl h ↦ inr (bytes, are, h)
      | inr h ↦ inl (bytes, record { piece = is; bytes_are = are; short = h })
    ]

-- ---- the operations in a file

pub ops_within : (reached : Ops) (what : Pooled) → TellsOf reached what → (o : Op) → contains (ops_in what) o ≡ true → contains reached o ≡ true
ops_within reached (OfRegister x) e o h = kept_is_within reached o (subst (λ (c : Content). contains c.ops o ≡ true) e h)
ops_within reached (OfSeen v) e o h = absurd (true≢false (sym h ∙ contains-empty op_cmp o))
ops_within reached (OfPiece p) e o h = kept_is_within reached o (outside_parts e.0 (state reached) o (subst (λ (q : Piece). contains q.ops o ≡ true) e.1 h)).0
