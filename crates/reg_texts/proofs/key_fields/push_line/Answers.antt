use Rattle.std.proofs.Common.{ℕ, List, ◌++◌, map, ap, ◌∙◌}
use Rattle.csv.specs.Writing.{row_text, default_writer}
use Rattle.crs_part.specs.declared.crs.CrsParts.{CrsParts}
use Rattle.reg_texts.specs.KeyFields.{key_fields}
use Rattle.reg_texts.specs.Said.{said}
use Rattle.reg_texts.proofs.key_fields.push_line.Goals as goal

pub returns : goal.returns
returns c =
    let line : CrsParts → List ℕ = λ p. row_text default_writer (key_fields (said c.args.first.now) (map said c.args.others.now) p) in (
      c.in_ok-line.line.items,
      record { crs = c.in-Ok.crs; spelled = c.in-Ok.ensures.found; is = c.in_ok-line.ensures ∙ ap line c.parts.ensures },
      c.in_ok-extend_from_slice.ensures.items ∙ ap (λ l. c.args.text.now.items ++ l) c.deref.ensures.value,
    )
