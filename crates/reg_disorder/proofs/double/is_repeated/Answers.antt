use Rattle.std.proofs.Common.{sym, ap, ◌∙◌}
use Rattle.reg_report.specs.Seen.{row_seen}
use Rattle.reg_disorder.specs.Texts.{has_text}
use Rattle.reg_disorder.proofs.TextLemmas.{repeated_is}
use Rattle.reg_disorder.proofs.double.is_repeated.Goals as goal

pub returns : goal.returns
returns c = λ rs has.
    repeated_is rs c.args.several.now (row_seen c.args.row.now) c.contains.result has (sym c.is_retired.ensures ∙ c.if-is_retired.false) (c.contains.ensures ∙ ap (has_text c.args.several.now) c.as_bytes.ensures.bytes)
