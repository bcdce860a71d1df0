use Rattle.std.proofs.Common.{map, inr, sym, ◌∙◌, subst}
use Rattle.std.proofs.lemmas.Bool.{true≢false}
use Rattle.reg_report.specs.Seen.{row_seen}
use Rattle.reg_keys.specs.Named.{AreEntries, HasWord}
use Rattle.reg_keys.proofs.NamedLemmas.{no_id}
use Rattle.reg_keys.proofs.telling.told_by.Goals as goal

pub returns-then-is_none-clause-fault : goal.returns-then-is_none-clause-fault
returns-then-is_none-clause-fault c = (
  no_id c.args.word.now c.in_default.ensures.only,
  subst (AreEntries (HasWord c.args.word.now) (map row_seen c.args.rows.now)) (sym c.deref.ensures.value ∙ c.is_none.ensures.0 c.if-is_none.true) c.in-Ok-entries_of_key.ensures,
)

pub returns-clause-ok : goal.returns-clause-ok
returns-clause-ok c = inr (
  no_id c.args.word.now c.in_default.ensures.only,
  c.in-Ok-entries_of_key.ensures,
  λ e. true≢false (sym (c.is_none.ensures.1 (c.deref.ensures.value ∙ e)) ∙ c.if-is_none.false),
)
