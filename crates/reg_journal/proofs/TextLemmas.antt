-- A text is one office file, and an office file has one text.
use Rattle.std.proofs.Common.{◌≡◌, ℕ, ◌<◌, List, ◌++◌, length, take, drop, get_or, refl, sym, ap, ◌∙◌, ◌+◌, ◌-◌, subst, arith, length-append}
use Rattle.std.specs.Prelude.{codes}
use Rattle.std.proofs.lemmas.Bool.Decides.{nat_tests}
use Rattle.std.proofs.lemmas.List.{append_assoc}
use Rattle.std.proofs.Math.Seq.{take-append-add}
use Rattle.uuid.specs.Text.{by_index, hex_digit, lower, nibble}
use Rattle.reg_op.specs.Contents.{Content}
use Rattle.reg_file.specs.Files.{Holds, IsTooLarge, most}
use Rattle.reg_file.proofs.HoldLemmas.{one_content, one_file}
use Rattle.reg_journal.specs.declared.head.Head.{Head}
use Rattle.reg_journal.specs.Journal.{Journal, IsOffice}
use Rattle.reg_journal.specs.Text.{head_text, head_of, IsHead, IsTextOf, IsOfficeTooLarge, BeginsOffice, HoldsOffice}
use Rattle.reg_journal.proofs.LineLemmas.{same_head, head_short}

pub head_is : (f : Journal) → IsOffice f → IsHead (head_of f)
head_is f is =
    let fits = is.fits in
    let stood = is.stood in
    record { long = is.long; bytes = is.bytes; last_fits = is.fits; stood_fits = omega (arith, fits, stood) }

-- the file in the text is that of the operations
pub file_holds : (text : List ℕ) (f : Journal) (h : HoldsOffice text f) → Holds h.text_is.file f.made
file_holds text f h =
    let short = h.short in
    let long : length text ≡ length (head_text (head_of f) ++ h.text_is.file) = ap length h.text_is.whole in
    record { content = h.office.content; bytes_are = h.text_is.is_file; short = omega (arith, short, long, length-append (head_text (head_of f)) h.text_is.file) }

pub one_office : (text : List ℕ) (f g : Journal) → HoldsOffice text f → HoldsOffice text g → f ≡ g
one_office text f g h k =
    let same = same_head (head_of f) (head_of g) h.text_is.file k.text_is.file (head_is f h.office) (head_is g k.office) (sym h.text_is.whole ∙ k.text_is.whole) in
    let made : f.made ≡ g.made = one_content h.text_is.file f.made g.made (file_holds text f h) (subst (λ b. Holds b g.made) (sym same.1) (file_holds text g k)) in
    λ i. record { replica = (same.0 i).replica; last = (same.0 i).last; stood = (same.0 i).stood; made = made i }

pub one_text : (f : Journal) (text other : List ℕ) → IsTextOf f text → IsTextOf f other → text ≡ other
one_text f text other h k = h.whole ∙ ap (λ (b : List ℕ). head_text (head_of f) ++ b) (one_file f.made h.file k.file h.is_file k.is_file) ∙ sym k.whole

-- a file that is too long is so behind two lines, too
pub large_file : (f : Journal) → IsTooLarge f.made → IsOfficeTooLarge f
large_file f (file, is, over) = (
  head_text (head_of f) ++ file,
  record { file = file; is_file = is; whole = refl },
  omega (arith, over, length-append (head_text (head_of f)) file),
)

pub large_text : (f : Journal) (head file : List ℕ) → head ≡ head_text (head_of f) → Holds file f.made → most < length head + length file → IsOfficeTooLarge f
large_text f head file e h over = (
  head_text (head_of f) ++ file,
  record { file = file; is_file = h.bytes_are; whole = refl },
  (let same : length head ≡ length (head_text (head_of f)) = ap length e in omega (arith, over, same, length-append (head_text (head_of f)) file)),
)

-- a text with these two lines is the file of no other office
pub same_lines : (text file : List ℕ) (h : Head) (f : Journal) → text ≡ head_text h ++ file → IsHead h → (k : HoldsOffice text f) → (h ≡ head_of f) × (file ≡ k.text_is.file)
same_lines text file h f e is k = same_head h (head_of f) file k.text_is.file is (head_is f k.office) (sym e ∙ k.text_is.whole)

pub same_made : (text file : List ℕ) (h : Head) (f : Journal) (made : Content) → text ≡ head_text h ++ file → IsHead h → Holds file made → HoldsOffice text f → made ≡ f.made
same_made text file h f made e is holds k =
    let same = same_lines text file h f e is k in
    one_content file made f.made holds (subst (λ b. Holds b f.made) (sym same.1) (file_holds text f k))

-- the first 64 bytes of an office file, with any bytes after it, are its lines and the first bytes of a register
pub office_begins : (text rest : List ℕ) (f : Journal) → HoldsOffice text f → BeginsOffice (codes "CRSR") (take 64 (text ++ rest))
office_begins text rest f h =
    let lines : List ℕ = head_text (head_of f) in
    let front : List ℕ = lines ++ codes "CRSR" in
    let more : List ℕ = drop 4 h.text_is.file in
    let starts : h.text_is.file ≡ codes "CRSR" ++ more = h.text_is.is_file.whole ∙ ap (λ (t : List ℕ). codes "CRSR" ++ t) (ap (λ (t : List ℕ). drop 4 t) (sym h.text_is.is_file.whole)) in
    let whole : text ++ rest ≡ front ++ (more ++ rest) =
    ap (λ (t : List ℕ). t ++ rest) (h.text_is.whole ∙ ap (λ (t : List ℕ). lines ++ t) starts ∙ sym (append_assoc lines (codes "CRSR") more)) ∙ append_assoc front more rest in
    let left : ℕ = 64 - length front in
    let room : length front + left ≡ 64 = omega (arith, length-append lines (codes "CRSR"), head_short (head_of f) (head_is f h.office)) in (
      head_of f,
      take left (more ++ rest),
      head_is f h.office,
      subst (λ (n : ℕ). take n (text ++ rest) ≡ front ++ take left (more ++ rest)) room (ap (λ (t : List ℕ). take (length front + left) t) whole ∙ take-append-add front (more ++ rest) left)
          ∙ append_assoc lines (codes "CRSR") (take left (more ++ rest)),
    )

-- no digit of a UUID is the first letter of a register's file
no_digit : (d : ℕ) → hex_digit lower d ≡ 67 → ⊥
no_digit d h = grind (arith, nat_tests)

-- a register's file does not begin so
pub register_is_none : (file text : List ℕ) → take 4 text ≡ codes "CRSR" → BeginsOffice file text → ⊥
unfolding by_index
register_is_none file text is (h, rest, fits, e) =
    let front : take 4 (head_text h ++ (file ++ rest)) ≡ codes "CRSR" = subst (λ (t : List ℕ). take 4 t ≡ codes "CRSR") e is in
    no_digit (nibble h.replica 0) (ap (λ (t : List ℕ). get_or t 0 0) front)
