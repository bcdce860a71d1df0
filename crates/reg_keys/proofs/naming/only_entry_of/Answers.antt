use Rattle.std.proofs.Common.{inr, map, sym, ◌∙◌, subst}
use Rattle.reg_report.specs.Seen.{row_seen}
use Rattle.reg_keys.specs.Named.{AreEntries, Answers, IsNotOne}
use Rattle.reg_keys.proofs.NamedLemmas.{no_id, objects}
use Rattle.reg_keys.proofs.naming.only_entry_of.Goals as goal

pub returns-in-Ok-only-clause-ok : goal.returns-in-Ok-only-clause-ok
returns-in-Ok-only-clause-ok c = inr (
  no_id c.args.word.now c.in_default.ensures.only,
  subst (AreEntries (Answers c.args.word.now) (map row_seen c.args.rows.now)) (sym c.deref.ensures.value ∙ c.in-Ok-only.ensures.ok) c.in-Ok.ensures,
)

pub returns-clause-fault : goal.returns-clause-fault
returns-clause-fault c = objects (map row_seen c.args.rows.now) c.args.word.now c.in-Ok.ids.items c.in-Err-only.fault
    (no_id c.args.word.now c.in_default.ensures.only) c.in-Ok.ensures (subst (λ es. IsNotOne es c.in-Err-only.fault) c.deref.ensures.value c.in-Err-only.ensures.fault)
