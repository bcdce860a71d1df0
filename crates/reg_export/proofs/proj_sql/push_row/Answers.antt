use Rattle.std.proofs.Common.{[], ◌∷◌, ◌++◌, refl, sym, ap, ◌∙◌, append-nil, subst}
use Rattle.crs_export.specs.Held.{Holds}
use Rattle.crs_export.specs.Sql.{text_at, line_as, judged}
use Rattle.reg_report.specs.Conflicts.{bytes_of}
use Rattle.reg_report.specs.Seen.{row_seen}
use Rattle.reg_export.specs.ProjSql.{passes_over, FilesUnless}
use Rattle.reg_export.proofs.proj_sql.push_row.Goals as goal

pub returns-then-passes_over : goal.returns-then-passes_over
returns-then-passes_over c = λ before held.
    let key = c.key-key.result.now in
    let passed = sym c.if-passes_over.true ∙ c.passes_over.ensures ∙ ap (passes_over c.args.all) c.as_bytes.ensures in (
      [],
      (bytes_of key, (key, c.key-key.ensures, refl), subst (λ b. FilesUnless b (row_seen c.args.row.now) []) passed refl),
      subst (λ l. Holds c.args.held.now (λ p. text_at p l)) (sym (append-nil before)) held,
      sym (append-nil c.args.text.now.items),
    )

pub returns : goal.returns
returns c = λ before held.
    let key = c.key-key.result.now in
    let f = c.in_ok-filed.filed in
    let kept = sym c.if-passes_over.false ∙ c.passes_over.ensures ∙ ap (passes_over c.args.all) c.as_bytes.ensures in
    let one = c.in_ok-push_entry.ensures before held in (
      f ∷ [],
      (bytes_of key, (key, c.key-key.ensures, refl), subst (λ b. FilesUnless b (row_seen c.args.row.now) (f ∷ [])) kept (f, c.in_ok-filed.ensures, refl)),
      one.1,
      one.0 ∙ ap (λ l. c.args.text.now.items ++ l) (sym (append-nil (line_as f (judged before f)))),
    )
