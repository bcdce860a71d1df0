use Rattle.std.proofs.Common.{cond, sym, ap, ◌∙◌}
use Rattle.crs_export.specs.declared.verdict.Verdict.TheVariants.{LeftOut}
use Rattle.crs_export.specs.Places.{place_of}
use Rattle.crs_export.specs.Held.{place_bytes, text_in, with_text}
use Rattle.crs_export.specs.Sql.{text_at, by_text}
use Rattle.crs_export.proofs.HeldLemmas.{skipped, taken, given}
use Rattle.crs_export.proofs.verdict.judge.Goals as goal

pub returns-then-not-fits : goal.returns-then-not-fits
returns-then-not-fits c = λ before held.
    let f = c.args.filed.now in
    let no = sym c.fits.ensures ∙ c.if-not-fits.true in
    (sym (ap (λ b. cond b (by_text f.keyed.text.now (text_at (place_of f.keyed) before)) LeftOut) no), λ q. held q ∙ sym (skipped (place_bytes q) before f no))

pub returns-in-Some : goal.returns-in-Some
returns-in-Some c = λ before held.
    let f = c.args.filed.now in
    let fits = sym c.fits.ensures ∙ c.if-not-fits.false in
    let found = sym (ap text_in c.in-Some.is) ∙ c.held_at.ensures (λ p. text_at p before) held ∙ ap (λ p. text_at p before) c.place_of-place.ensures in (
      c.by_text.ensures ∙ ap (by_text f.keyed.text.now) found ∙ sym (ap (λ b. cond b (by_text f.keyed.text.now (text_at (place_of f.keyed) before)) LeftOut) fits),
      λ q. held q ∙ sym (taken (place_bytes q) before f c.in-Some.earlier.text.now (sym found)),
    )

pub returns : goal.returns
returns c = λ before held.
    let f = c.args.filed.now in
    let fits = sym c.fits.ensures ∙ c.if-not-fits.false in
    let none = sym (ap text_in c.in-None.is) ∙ c.held_at.ensures (λ p. text_at p before) held ∙ ap (λ p. text_at p before) c.place_of-place.ensures in (
      ap (by_text f.keyed.text.now) none ∙ sym (ap (λ b. cond b (by_text f.keyed.text.now (text_at (place_of f.keyed) before)) LeftOut) fits),
      λ q.
          c.in_ok-hold.ensures (λ p. text_at p before) held q ∙ ap (λ p. with_text p f.keyed.text.now (λ r. text_at r before) (place_bytes q)) c.place_of-place.ensures
          ∙ given (place_bytes q) before f fits (sym none),
    )
