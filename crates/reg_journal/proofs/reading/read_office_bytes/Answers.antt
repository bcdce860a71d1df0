use Rattle.std.proofs.Common.{◌≡◌, ◌∙◌, ◌<◌, Ok, Err, sym, ap, subst, inl, inr, rules, arith}
use Rattle.reg_op.specs.Contents.{Content}
use Rattle.reg_file.specs.Files.{Holds}
use Rattle.reg_journal.specs.declared.head.Head.{Head}
use Rattle.reg_journal.specs.Journal.{numbers}
use Rattle.reg_journal.specs.Text.{HoldsOffice, IsUnread, head_of}
use Rattle.reg_journal.proofs.TextLemmas.{head_is, file_holds, one_office, same_lines, same_made}
use Rattle.reg_journal.proofs.reading.read_office_bytes.Goals as goal

pub returns-in_default-clause-only : goal.returns-in_default-clause-only
returns-in_default-clause-only c = λ f h. absurd (c.in_default.ensures.none (head_of f) h.text_is.file (head_is f h.office) h.text_is.whole)

pub returns-in_default-clause-fault : goal.returns-in_default-clause-fault
returns-in_default-clause-fault c = (c.if-text-gt-MAX_FILE.false, λ f h. c.in_default.ensures.none (head_of f) h.text_is.file (head_is f h.office) h.text_is.whole)

pub returns-in-Err-clause-only : goal.returns-in-Err-clause-only
returns-in-Err-clause-only c = λ f h.
    let found = c.in-Some.ensures.found in
    elim c.in-Err.ensures.fault [
      | inl e ↦ absurd (c.read_made.ensures.none (c.in-Err.is ∙ ap Err e) f.made (subst (λ b. Holds b f.made) (sym (same_lines c.args.text.now c.in-Some.file.now c.in-Some.head f found.0 found.1 h).1) (file_holds c.args.text.now f h)))
      | inr e ↦ inr (ap Err e)
    ]

pub returns-in-Err-clause-fault : goal.returns-in-Err-clause-fault
returns-in-Err-clause-fault c =
    let found = c.in-Some.ensures.found in
    elim c.in-Err.ensures.fault [
      | inl e ↦ subst (IsUnread c.args.text.now) (sym e) (
        c.if-text-gt-MAX_FILE.false,
        λ f h.
            c.read_made.ensures.none (c.in-Err.is ∙ ap Err e) f.made (subst (λ b. Holds b f.made) (sym (same_lines c.args.text.now c.in-Some.file.now c.in-Some.head f found.0 found.1 h).1) (file_holds c.args.text.now f h)),
      )
      | inr e ↦ subst (IsUnread c.args.text.now) (sym e) tt
    ]

pub returns-then-head-clause-only : goal.returns-then-head-clause-only
returns-then-head-clause-only c = λ f h.
    let found = c.in-Some.ensures.found in
    let same = (same_lines c.args.text.now c.in-Some.file.now c.in-Some.head f found.0 found.1 h).0 in
    let over : c.in-Some.head.last < c.in-Some.head.stood = search rules in
    let last : c.in-Some.head.last ≡ f.last = ap (λ (g : Head). g.last) same in
    let stood : c.in-Some.head.stood ≡ f.stood = ap (λ (g : Head). g.stood) same in
    let most = h.office.stood in
    absurd (omega (arith, over, last, stood, most))

pub returns-then-head-clause-fault : goal.returns-then-head-clause-fault
returns-then-head-clause-fault c =
    let found = c.in-Some.ensures.found in
    let over : c.in-Some.head.last < c.in-Some.head.stood = search rules in (
      c.if-text-gt-MAX_FILE.false,
      λ f h.
          let same = (same_lines c.args.text.now c.in-Some.file.now c.in-Some.head f found.0 found.1 h).0 in
          let last : c.in-Some.head.last ≡ f.last = ap (λ (g : Head). g.last) same in
          let stood : c.in-Some.head.stood ≡ f.stood = ap (λ (g : Head). g.stood) same in
          let most = h.office.stood in
          omega (arith, over, last, stood, most),
    )

pub returns-then-not-has_numbers-clause-only : goal.returns-then-not-has_numbers-clause-only
returns-then-not-has_numbers-clause-only c = λ f h.
    let found = c.in-Some.ensures.found in
    let same = (same_lines c.args.text.now c.in-Some.file.now c.in-Some.head f found.0 found.1 h).0 in
    let made = same_made c.args.text.now c.in-Some.file.now c.in-Some.head f c.in-Ok.made found.0 found.1 c.in-Ok.ensures.found h in
    let all = c.has_numbers.ensures.1 (c.seen.ensures.value ∙ ap (λ (x : Content). x.seen) made ∙ h.office.seen ∙ (λ k. numbers (sym same k).replica (sym same k).last)) in
    absurd cc

pub returns-then-not-has_numbers-clause-fault : goal.returns-then-not-has_numbers-clause-fault
returns-then-not-has_numbers-clause-fault c = (
  c.if-text-gt-MAX_FILE.false,
  λ f h.
      let found = c.in-Some.ensures.found in
      let same = (same_lines c.args.text.now c.in-Some.file.now c.in-Some.head f found.0 found.1 h).0 in
      let made = same_made c.args.text.now c.in-Some.file.now c.in-Some.head f c.in-Ok.made found.0 found.1 c.in-Ok.ensures.found h in
      let all = c.has_numbers.ensures.1 (c.seen.ensures.value ∙ ap (λ (x : Content). x.seen) made ∙ h.office.seen ∙ (λ k. numbers (sym same k).replica (sym same k).last)) in
      cc,
)

pub returns-clause-only : goal.returns-clause-only
returns-clause-only c = λ f h.
    let found : HoldsOffice c.args.text.now (record { replica = c.in-Some.head.replica; last = c.in-Some.head.last; stood = c.in-Some.head.stood; made = c.in-Ok.made }) = search rules in
    inl (ap Ok (one_office c.args.text.now _ f found h))
