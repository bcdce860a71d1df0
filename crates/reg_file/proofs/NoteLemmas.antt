-- Reading a note takes the bytes that are written for it, and these bytes are read as the note.
use Rattle.std.proofs.Common.{◌≡◌, ℕ, ◌≤◌, Bool, true, false, cond, eqb, ltb, List, [], ◌∷◌, ◌++◌, length, Ok, Err, refl, sym, ap, subst, arith}
use Rattle.std.specs.Str.{IsUtf8, is_utf8}
use Rattle.std.proofs.lemmas.Bool.{ltb-false, le-ltb, eqb-true, true≢false, false_from_ne_true}
use Rattle.std.proofs.lemmas.Str.{IsUtf8-nil, IsUtf8-from_is_utf8, is_utf8-from_IsUtf8}
use Rattle.reg_op.specs.Operations.{Op, Ops, IsBody}
use Rattle.reg_op.specs.Notes.{IsNote}
use Rattle.reg_op.specs.Set as set
use Rattle.reg_file.specs.declared.fault.FileFault.TheVariants.{NoteTooLong, NoteNotUtf8}
use Rattle.reg_file.specs.Layout.{note_bytes}
use Rattle.reg_file.specs.Fields.{◌>>=◌, refused, byte_at, cut_at, noted_at, note_at}
use Rattle.reg_file.proofs.FieldLemmas.{IsBytes, IsBytes-rest, bind_ok, guard_ok, guard_ended, ok_is, at, Takes, Takes-then, cut_takes, cut_again}

-- the version has room for the note: version 1 has none
abbrev pub IsTold : ℕ → List ℕ → Type 0
IsTold version note = version ≡ 1 → note ≡ []

abbrev pub AreTold : ℕ → Ops → Type 0
AreTold version s = (o : Op) → set.contains s o ≡ true → IsTold version o.note

-- an operation that a file of the version can hold
pub record IsFit (version : ℕ) (o : Op) : Type 0 where
  pub body : IsBody o.body
  pub note : IsNote o.note
  pub told : IsTold version o.note

not_first : (version : ℕ) → eqb version 1 ≡ false → version ≡ 1 → ⊥
not_first version h e = true≢false (subst (λ v. eqb v 1 ≡ false) e h)

pub no_note : (version : ℕ) (note : List ℕ) → eqb version 1 ≡ true → note_bytes version note ≡ []
no_note version note h = rw h refl

pub some_note : (version : ℕ) (note : List ℕ) → eqb version 1 ≡ false → note_bytes version note ≡ length note ∷ note
some_note version note h = rw h refl

byte_takes : (bytes : List ℕ) (b : ℕ) (rest : List ℕ) → IsBytes bytes → byte_at bytes ≡ Ok (b, rest) → Takes bytes (b ∷ []) rest
byte_takes [] b rest fits e = absurd cc
byte_takes (c ∷ bytes) b rest fits e =
    let is = ok_is (c, bytes) (b, rest) e in
    let first : c ≡ b = ap (λ (p : ℕ × List ℕ). p.0) is in
    let others : bytes ≡ rest = ap (λ (p : ℕ × List ℕ). p.1) is in
    record { parts = λ j. first j ∷ others j; rest_fits = subst IsBytes others (IsBytes-rest c bytes fits) }

pub record TakesNoted (bytes note rest : List ℕ) : Type 0 where
  pub takes : Takes bytes (length note ∷ note) rest
  pub short : length note ≤ 200

pub noted_takes : (bytes note rest : List ℕ) → IsBytes bytes → noted_at bytes ≡ Ok (note, rest) → TakesNoted bytes note rest
unfolding noted_at
noted_takes bytes note rest fits e =
    let a = bind_ok (byte_at bytes) (λ len. cond (ltb 200 len.0) (refused NoteTooLong (length bytes)) (cut_at len.0 len.1)) (note, rest) e in
    let g = guard_ok (ltb 200 a.0.0) (at NoteTooLong (length bytes)) (cut_at a.0.0 a.0.1) (note, rest) a.2 in
    let first = byte_takes bytes a.0.0 a.0.1 fits a.1 in
    let cut = cut_takes a.0.0 a.0.1 note rest first.rest_fits g.1 in
    let counted : Takes bytes (length note ∷ []) a.0.1 = subst (λ n. Takes bytes (n ∷ []) a.0.1) (sym cut.long) first in
    let short : a.0.0 ≤ 200 = ltb-false _ _ g.0 in
    let long : length note ≡ a.0.0 = cut.long in
    record { takes = Takes-then bytes (length note ∷ []) a.0.1 note rest counted cut.takes; short = omega arith }

noted_again : (note rest : List ℕ) → length note ≤ 200 → noted_at (length note ∷ (note ++ rest)) ≡ Ok (note, rest)
unfolding noted_at
noted_again note rest short =
    let below : ltb 200 (length note) ≡ false = le-ltb _ _ short in
    rw (below, cut_again (length note) note rest refl) refl

-- a note that is UTF-8 is read, and another is refused
module _ (version : ℕ) (bytes note rest : List ℕ) (second : version ≡ 1 → ⊥) (read : noted_at bytes ≡ Ok (note, rest)) where
  later : eqb version 1 ≡ false
  later = false_from_ne_true _ (λ h. second (eqb-true version 1 h))

  pub note_read : IsUtf8 note → note_at version bytes ≡ Ok (note, rest)
  unfolding note_at
  note_read is = rw (later, read, is_utf8-from_IsUtf8 note is) refl

  pub note_refused : (IsUtf8 note → ⊥) → note_at version bytes ≡ Err (at NoteNotUtf8 (length bytes))
  unfolding note_at
  note_refused not = let no : is_utf8 note ≡ false = false_from_ne_true _ (λ h. not (IsUtf8-from_is_utf8 note h)) in rw (later, read, no) refl

pub record TakesNote (version : ℕ) (bytes note rest : List ℕ) : Type 0 where
  pub takes : Takes bytes (note_bytes version note) rest
  pub noted : IsNote note
  pub told : IsTold version note

pub note_takes : (version : ℕ) (bytes note rest : List ℕ) → IsBytes bytes → note_at version bytes ≡ Ok (note, rest) → TakesNote version bytes note rest
unfolding note_at
note_takes version bytes note rest fits e = from (eqb version 1) refl e
  where
    from : (b : Bool) → eqb version 1 ≡ b → cond b (Ok ([], bytes)) (noted_at bytes >>= λ x. cond (is_utf8 x.0) (Ok x) (refused NoteNotUtf8 (length bytes))) ≡ Ok (note, rest) → TakesNote version bytes note rest
    from true h e =
        subst (λ (y : List ℕ × List ℕ). TakesNote version bytes y.0 y.1) (ok_is ([], bytes) (note, rest) e)
        (record {
          takes = subst (λ (t : List ℕ). Takes bytes t bytes) (sym (no_note version [] h)) (record { parts = refl; rest_fits = fits });
          noted = record { utf8 = IsUtf8-nil; short = omega arith };
          told = λ v. refl;
        })
    from false h e =
        let a = bind_ok (noted_at bytes) (λ x. cond (is_utf8 x.0) (Ok x) (refused NoteNotUtf8 (length bytes))) (note, rest) e in
        let g = guard_ended (is_utf8 a.0.0) (at NoteNotUtf8 (length bytes)) (Ok a.0) (note, rest) a.2 in
        let t = noted_takes bytes a.0.0 a.0.1 fits a.1 in
        subst (λ (y : List ℕ × List ℕ). TakesNote version bytes y.0 y.1) (ok_is a.0 (note, rest) g.1)
        (record {
          takes = subst (λ (u : List ℕ). Takes bytes u a.0.1) (sym (some_note version a.0.0 h)) t.takes;
          noted = record { utf8 = IsUtf8-from_is_utf8 a.0.0 g.0; short = t.short };
          told = λ v. absurd (not_first version h v);
        })

pub note_again : (version : ℕ) (note rest : List ℕ) → IsNote note → IsTold version note → note_at version (note_bytes version note ++ rest) ≡ Ok (note, rest)
unfolding note_at
note_again version note rest is told = from (eqb version 1) refl
  where
    from : (b : Bool) → eqb version 1 ≡ b → note_at version (note_bytes version note ++ rest) ≡ Ok (note, rest)
    from true h = rw h (λ j. Ok (sym (told (eqb-true version 1 h)) j, rest))
    from false h = rw (h, noted_again note rest is.short, is_utf8-from_IsUtf8 note is.utf8) refl
