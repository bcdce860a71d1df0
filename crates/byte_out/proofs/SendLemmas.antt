-- Chunks of a file that are written one after another.
use Rattle.std.proofs.Common.{◌≡◌, ◌≤◌, ◌<◌, ◌+◌, ◌++◌, ℕ, List, [], length, take, refl, ap, sym, subst, ◌∙◌, arith, append_assoc, length-append, inl, inr}
use Rattle.std.proofs.lemmas.List.{append-nil, take-append-le}
use Rattle.std.proofs.Math.Seq.{take-append-add}
use Rattle.std.proofs.KnownBytes.{Appends-nil, Appends-trans}
use Rattle.std.specs.Io.KnownBytes.{Appends}
use Rattle.byte_io.specs.Device.{SinkState}
use Rattle.byte_io.specs.Whole.{WritesAll, IsCutAt, FailedOrTookNone}
use Rattle.byte_out.specs.Place.{Files, PlaceState, IfReported, Stays}

-- the new file grew by these bytes
abbrev pub Grew : List ℕ → Files → Files → Type 0
Grew bytes old new = Stays old new × Appends old.beside new.beside bytes × (new.same ≡ old.same) × (new.stuck ≡ old.stuck)

-- some of its bytes
abbrev pub Grows : Files → Files → Type 0
Grows old new = Stays old new × (new.stuck ≡ old.stuck)

-- the first n bytes of all were written, and these are left
pub record Sent (all left : List ℕ) (n : ℕ) (old new : PlaceState) : Type 0 where
  pub done : List ℕ
  pub parts : all ≡ done ++ left
  pub count : n ≡ length done
  pub wrote : WritesAll done old.sink new.sink
  pub files : IfReported (Grew done) old.files new.files

-- ---- the sink

wrote_none : (s : SinkState) → WritesAll [] s s
wrote_none s = record {
  taken = sym (append-nil s.taken);
  appended = Appends-nil s.written;
  quiet = refl;
  moved = refl;
  openings = refl;
}

failed_since : (old mid new : SinkState) → mid.failures ≡ old.failures → mid.stalls ≡ old.stalls → FailedOrTookNone mid new → FailedOrTookNone old new
failed_since old mid new quiet moved (inl (f, s)) = inl (f ∙ ap (λ (k : ℕ). k + 1) quiet, s ∙ moved)
failed_since old mid new quiet moved (inr (f, s)) = inr (f ∙ quiet, s ∙ ap (λ (k : ℕ). k + 1) moved)

-- the first bytes of all, when some of the chunk after those that are done was written
front_of : (all done chunk rest : List ℕ) (k : ℕ) → all ≡ done ++ (chunk ++ rest) → k < length chunk → take (length done + k) all ≡ done ++ take k chunk
front_of all done chunk rest k parts short =
    ap (λ (ws : List ℕ). take (length done + k) ws) parts ∙ take-append-add done (chunk ++ rest) k
    ∙ ap (λ (ws : List ℕ). done ++ ws) (take-append-le k chunk rest (omega arith))

shorter : (all done chunk rest : List ℕ) (k : ℕ) → all ≡ done ++ (chunk ++ rest) → k < length chunk → length done + k < length all
shorter all done chunk rest k parts short = omega (arith, ap length parts, length-append done (chunk ++ rest), length-append chunk rest)

cut_after : (all done chunk rest : List ℕ) (k : ℕ) (old mid new : SinkState) → all ≡ done ++ (chunk ++ rest) → WritesAll done old mid → IsCutAt k chunk mid new
    → IsCutAt (length done + k) all old new
cut_after all done chunk rest k old mid new parts was is =
    let e : take (length done + k) all ≡ done ++ take k chunk = front_of all done chunk rest k parts is.short in record {
      taken = is.taken ∙ ap (λ (ws : List ℕ). ws ++ take k chunk) was.taken ∙ append_assoc old.taken done (take k chunk) ∙ ap (λ (ws : List ℕ). old.taken ++ ws) (sym e);
      appended = subst (λ (ws : List ℕ). Appends old.written new.written ws) (sym e) (Appends-trans old.written mid.written new.written done (take k chunk) was.appended is.appended);
      short = shorter all done chunk rest k parts is.short;
      cause = failed_since old mid new was.quiet was.moved is.cause;
      openings = is.openings ∙ was.openings;
    }

-- ---- the files

stays : (old mid new : Files) → Stays old mid → Stays mid new → Stays old new
stays old mid new was is = record {
  same_file = is.same_file ∙ was.same_file;
  same_torn = is.same_torn ∙ was.same_torn;
  same_landed = is.same_landed ∙ was.same_landed;
}

-- ---- one chunk after another

-- the count of bytes stays within all of them
pub within : (all left chunk rest : List ℕ) (n k : ℕ) (old mid : PlaceState) → Sent all left n old mid → left ≡ chunk ++ rest → k ≤ length chunk → n + k ≤ length all
within all left chunk rest n k old mid s next fits =
    omega (arith, s.count, ap length s.parts, length-append s.done left, ap length next, length-append chunk rest)

pub cut_sent : (all left chunk rest : List ℕ) (n k : ℕ) (old mid new : PlaceState) → Sent all left n old mid → left ≡ chunk ++ rest → IsCutAt k chunk mid.sink new.sink
    → IsCutAt (n + k) all old.sink new.sink
cut_sent all left chunk rest n k old mid new s next cut =
    subst (λ (m : ℕ). IsCutAt (m + k) all old.sink new.sink) (sym s.count)
    (cut_after all s.done chunk rest k old.sink mid.sink new.sink (s.parts ∙ ap (λ (ws : List ℕ). s.done ++ ws) next) s.wrote cut)

whole : (all done left : List ℕ) → all ≡ done ++ left → left ≡ [] → done ≡ all
whole all done left parts none = sym (parts ∙ ap (λ (ws : List ℕ). done ++ ws) none ∙ append-nil done)
