-- Bytes within the size limit are a file of a piece if and only if they are read as that piece.
use Rattle.std.proofs.Common.{◌≡◌, ℕ, ◌^◌, ◌<◌, ◌≤◌, List, [], ◌++◌, length, refl, sym, ap, subst, ◌∙◌, arith, inl, inr}
use Rattle.std.proofs.lemmas.List.{length-append}
use Rattle.reg_op.specs.Set as set
use Rattle.reg_op.specs.Ids.{Ids}
use Rattle.reg_op.specs.Operations.{Op}
use Rattle.reg_op.specs.Pieces.{Piece, part_of}
use Rattle.reg_state.specs.declared.run.Run.{Run}
use Rattle.reg_state.specs.Runs.{AreRuns, seen_of}
use Rattle.reg_state.proofs.RunLemmas.{contains-seen_of}
use Rattle.reg_state.proofs.CanonLemmas.{same_runs}
use Rattle.reg_file.specs.Layout.{ops_bytes, ranges_bytes, grouped, head, piece_file}
use Rattle.reg_file.specs.Fields.{head_at}
use Rattle.reg_file.specs.Reading.{version_in, seen_and_kept, piece, HasPieceFault}
use Rattle.reg_file.specs.Steps.{ReadsSeen, ReadsKept, ReadsPiece}
use Rattle.reg_file.specs.Files.{most, IsPieceFileIn, IsPieceFileOf, HoldsPieceIn, HoldsPiece, HoldsFirstPiece, ReadsAsPiece, IsPieceTooLarge}
use Rattle.reg_file.specs.declared.fault.Refused.{Refused}
use Rattle.reg_file.specs.declared.fault.FileFault.{FileFault}
use Rattle.reg_file.proofs.FieldLemmas.{IsBytes, head_takes, head_again}
use Rattle.reg_file.proofs.NoteLemmas.{AreTold}
use Rattle.reg_file.proofs.VersionLemmas.{second_in, first_in, not_both, by_version}
use Rattle.reg_file.proofs.GroupLemmas.{AllApart}
use Rattle.reg_file.proofs.ApartLemmas.{apart_from_none, outside_apart}
use Rattle.reg_file.proofs.LongLemmas.{ops_long, ranges_long}
use Rattle.reg_file.proofs.KeptLemmas.{seen_take, seen_again, seen_one, kept_take, kept_again, kept_one}
use Rattle.reg_file.proofs.ExactLemmas.{field_exact, piece_exact}
use Rattle.reg_file.proofs.HoldLemmas.{one_fault_at}

-- ---- the length of a file

pub record IsLong (version : ℕ) (bs : List Run) (os : List Op) (rs : List Run) : Type 0 where
  pub basis : length bs ≤ length (piece_file version bs os rs)
  pub ops : length os ≤ length (piece_file version bs os rs)
  pub seen : length rs ≤ length (piece_file version bs os rs)

pub file_long : (version : ℕ) (bs : List Run) (os : List Op) (rs : List Run) → IsLong version bs os rs
file_long version bs os rs =
    let a = length-append (head version 3) (ranges_bytes (grouped bs) ++ (ranges_bytes (grouped rs) ++ ops_bytes version os)) in
    let b = length-append (ranges_bytes (grouped bs)) (ranges_bytes (grouped rs) ++ ops_bytes version os) in
    let c = length-append (ranges_bytes (grouped rs)) (ops_bytes version os) in
    let d = ops_long version os in
    let e = ranges_long rs in
    let f = ranges_long bs in
    record { basis = omega arith; ops = omega arith; seen = omega arith }

-- ---- one version

-- the bytes are the file of the piece in the version, which leaves nothing out
pub record IsHeldIn (version : ℕ) (bytes : List ℕ) (p : Piece) : Type 0 where
  pub holds : HoldsPieceIn version bytes p
  pub told : AreTold version p.ops

module _ (version : ℕ) where
  held_in : (bytes : List ℕ) (p : Piece) → IsBytes bytes → length bytes ≤ most → ReadsPiece version bytes p → IsHeldIn version bytes p
  held_in bytes p fits short r =
      let b = r.based in
      let first = head_takes version 3 bytes (tt, r.rest) fits r.head in
      let second = seen_take set.empty r.rest p.basis b.rest first.rest_fits b.basis in
      let third = kept_take version p.basis b.rest (part_of p) second.takes.rest_fits b.kept in
      record {
        holds = record {
          piece = b.piece;
          bytes_are = record {
            basis = second.runs;
            are_basis = second.are_runs;
            all_basis = second.all;
            runs = third.runs;
            are_runs = third.are_runs;
            all = third.all;
            whole = first.parts ∙ ap (λ (u : List ℕ). head version 3 ++ u) (second.takes.parts ∙ ap (λ (u : List ℕ). ranges_bytes (grouped second.runs) ++ u) third.whole);
          };
          short = short;
        };
        told = third.told;
      }

  reads_in : (bytes : List ℕ) (p : Piece) → IsHeldIn version bytes p → ReadsPiece version bytes p
  reads_in bytes p h =
      let f = h.holds.bytes_are in
      let is = h.holds.piece in
      let os = set.items p.ops in
      let back = ranges_bytes (grouped f.runs) ++ ops_bytes version os in
      let rest = ranges_bytes (grouped f.basis) ++ back in
      let long = file_long version f.basis os f.runs in
      let whole = ap length f.whole in
      let short : length bytes ≤ most = h.holds.short in
      let few_basis : length f.basis < 2 ^ 32 = (let k = long.basis in omega arith) in
      let few_ops : length os < 2 ^ 32 = (let k = long.ops in omega arith) in
      let few_runs : length f.runs < 2 ^ 32 = (let k = long.seen in omega arith) in
      let out : AllApart p.basis f.runs = outside_apart p.basis f.runs (λ i k. is.apart i (ap (λ s. set.contains s i) (sym f.all) ∙ contains-seen_of f.runs i ∙ k)) in
      record {
        rest = rest;
        head = ap (head_at version 3) f.whole ∙ head_again version 3 rest;
        based = record {
          rest = back;
          basis = seen_again set.empty p.basis f.basis back is.are_ids f.are_basis f.all_basis (apart_from_none f.basis) few_basis;
          kept = kept_again version p.basis (part_of p) f.runs is.content h.told f.are_runs f.all out few_runs few_ops;
          piece = is;
        };
      }

  piece_reads : (bytes : List ℕ) (p : Piece) (r : ReadsPiece version bytes p)
      → (piece version).Reads bytes (tt, ((r.based.basis.count, r.based.basis.all), (((r.based.kept.replicas, r.based.kept.groups), (r.based.kept.count, r.based.kept.ops)), tt))) []
  piece_reads bytes p r =
      let b = r.based in
      let k = b.kept in (
        r.rest,
        r.head,
        (b.rest, b.basis.reads, subst (λ v. (seen_and_kept version v).Reads b.rest (((k.replicas, k.groups), (k.count, k.ops)), tt) []) b.basis.ids k.reads),
      )

  read_one : (bytes : List ℕ) (p q : Piece) → ReadsPiece version bytes p → ReadsPiece version bytes q → p ≡ q
  read_one bytes p q r s =
      let rest : r.rest ≡ s.rest = ((field_exact (head_at version 3)).one_value bytes tt tt r.rest s.rest r.head s.head).1 in
      let b = seen_one set.empty s.rest p.basis q.basis r.based.rest s.based.rest (subst (λ t. ReadsSeen set.empty t p.basis r.based.rest) rest r.based.basis) s.based.basis in
      let k = kept_one version q.basis s.based.rest (part_of p) (part_of q) (subst (λ (z : Ids × List ℕ). ReadsKept version z.0 z.1 (part_of p)) (λ j. (b.0 j, b.1 j)) r.based.kept) s.based.kept in
      λ j. record { ops = (k j).ops; basis = b.0 j; seen = (k j).seen }

  no_fault : (bytes : List ℕ) (p : Piece) (r : Refused) → ReadsPiece version bytes p → (piece version).Fails bytes r → ⊥
  no_fault bytes p r k f =
      (piece_exact version).no_fault bytes (tt, ((k.based.basis.count, k.based.basis.all), (((k.based.kept.replicas, k.based.kept.groups), (k.based.kept.count, k.based.kept.ops)), tt))) [] r (piece_reads bytes p k) f

  pub one_file_in : (p : Piece) (bytes others : List ℕ) → IsPieceFileIn version p bytes → IsPieceFileIn version p others → bytes ≡ others
  one_file_in p bytes others f g =
      let b = same_runs f.basis g.basis f.are_basis g.are_basis (f.all_basis ∙ sym g.all_basis) in
      let r = same_runs f.runs g.runs f.are_runs g.are_runs (f.all ∙ sym g.all) in
      f.whole ∙ (λ j. piece_file version (b j) (set.items p.ops) (r j)) ∙ sym g.whole

-- ---- either version

of_second : (bytes : List ℕ) (p : Piece) → HoldsPiece bytes p → version_in bytes ≡ 2
of_second bytes p h = second_in 3 bytes _ h.bytes_are.whole

of_first : (bytes : List ℕ) (p : Piece) → HoldsFirstPiece bytes p → version_in bytes ≡ 1
of_first bytes p h = first_in 3 bytes _ h.0.bytes_are.whole

pub one_version : (bytes : List ℕ) (p q : Piece) → HoldsPiece bytes p → HoldsFirstPiece bytes q → ⊥
one_version bytes p q h k = not_both (version_in bytes) (of_first bytes q k) (of_second bytes p h)

-- bytes that are read as a piece are a file of it, if they are not too many
pub read_holds : (bytes : List ℕ) (p : Piece) → IsBytes bytes → length bytes ≤ most → ReadsPiece (version_in bytes) bytes p → ReadsAsPiece bytes p
read_holds bytes p fits short r = by_version (λ v. ReadsPiece v bytes p → ReadsAsPiece bytes p) bytes first second r
  where
    first : version_in bytes ≡ 1 → ReadsPiece 1 bytes p → ReadsAsPiece bytes p
    first v r = let h = held_in 1 bytes p fits short r in inr (h.holds, λ o k. h.told o k refl)

    second : version_in bytes ≡ 2 → ReadsPiece 2 bytes p → ReadsAsPiece bytes p
    second v r = inl (held_in 2 bytes p fits short r).holds

-- a file of a piece is read as it
hold_reads : (bytes : List ℕ) (p : Piece) → ReadsAsPiece bytes p → ReadsPiece (version_in bytes) bytes p
hold_reads bytes p (inl h) =
    subst (λ v. ReadsPiece v bytes p) (sym (of_second bytes p h)) (reads_in 2 bytes p (record { holds = h; told = λ o k e. absurd (not_both 2 e refl) }))
hold_reads bytes p (inr h) =
    subst (λ v. ReadsPiece v bytes p) (sym (of_first bytes p h)) (reads_in 1 bytes p (record { holds = h.0; told = λ o k e. h.1 o k }))

-- ---- one piece, one file, one fault

pub one_reading : (bytes : List ℕ) (p q : Piece) → ReadsAsPiece bytes p → ReadsAsPiece bytes q → p ≡ q
one_reading bytes p q h k = read_one (version_in bytes) bytes p q (hold_reads bytes p h) (hold_reads bytes q k)

pub one_piece : (bytes : List ℕ) (p q : Piece) → HoldsPiece bytes p → HoldsPiece bytes q → p ≡ q
one_piece bytes p q h k = one_reading bytes p q (inl h) (inl k)

pub read_is_held : (bytes : List ℕ) (p q : Piece) → ReadsPiece (version_in bytes) bytes p → ReadsAsPiece bytes q → p ≡ q
read_is_held bytes p q r h = read_one (version_in bytes) bytes p q r (hold_reads bytes q h)

pub one_file : (p : Piece) (bytes others : List ℕ) → IsPieceFileOf p bytes → IsPieceFileOf p others → bytes ≡ others
one_file p bytes others f g = one_file_in 2 p bytes others f g

pub held_or_fault : (bytes : List ℕ) (p : Piece) (r : Refused) → ReadsAsPiece bytes p → (piece (version_in bytes)).Fails bytes r → ⊥
held_or_fault bytes p r h f = no_fault (version_in bytes) bytes p r (hold_reads bytes p h) f

pub one_first_fault : (bytes : List ℕ) (f g : FileFault) (at place : ℕ) → HasPieceFault bytes f at → HasPieceFault bytes g place → (f ≡ g) × (at ≡ place)
one_first_fault bytes = one_fault_at (piece (version_in bytes)) (piece_exact (version_in bytes)) bytes

-- ---- files that are too large

pub file_of : (p : Piece) (bs : List Run) (os : List Op) (rs : List Run) → os ≡ set.items p.ops → AreRuns bs → seen_of bs ≡ p.basis → AreRuns rs → seen_of rs ≡ p.seen → IsPieceFileOf p (piece_file 2 bs os rs)
file_of p bs os rs e are_basis all_basis are all =
    record { basis = bs; are_basis = are_basis; all_basis = all_basis; runs = rs; are_runs = are; all = all; whole = ap (λ xs. piece_file 2 bs xs rs) e }

pub not_large : (p : Piece) (bytes : List ℕ) → IsPieceFileOf p bytes → length bytes ≤ most → IsPieceTooLarge p → ⊥
not_large p bytes f short t =
    let same = ap length (one_file p bytes t.0 f t.1) in
    let over : most < length t.0 = t.2 in
    omega arith
