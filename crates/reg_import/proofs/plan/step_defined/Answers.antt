use Rattle.std.proofs.Common.{ℕ, ◌+◌, ◌++◌, ◌≤◌, List, length, ap, sym, subst, ◌∙◌}
use Rattle.reg_state.specs.Runs.{id_at}
use Rattle.reg_report.specs.Conflicts.{bytes_of}
use Rattle.reg_office.specs.Making.{numbered}
use Rattle.reg_import.specs.declared.standing_entry.StandingEntry.{StandingEntry}
use Rattle.reg_import.specs.declared.reading.ReadText.TheVariants as reading
use Rattle.reg_import.specs.Known.{with_key}
use Rattle.reg_import.specs.Imports.{told_of, bodies_of}
use Rattle.reg_import.specs.Index.{key_bytes, entries_seen, nothing_there}
use Rattle.reg_import.specs.Plans.{StepsOn}
use Rattle.reg_import.proofs.StepLemmas.{told_fits, step_is, then_fits}
use Rattle.reg_import.proofs.plan.step_defined.Goals as goal

pub push_ops-requires-clause-fits : goal.push_ops-requires-clause-fits
push_ops-requires-clause-fits c =
    let rules = c.args.rules.now in
    let n = c.count_after-count.result in
    let b = c.take-entries.result in
    subst (λ (k : List StandingEntry). n + length (bodies_of c.told_of-told.result c.args.definition.now k) ≤ 4294967296) (sym c.deref.ensures.value)
    (told_fits rules.differs rules.replica n (entries_seen b) c.args.definition.now c.in_ok-text.text.definition c.told_of-told.result c.told_of-told.ensures c.in_ok-text.ensures (subst (λ (k : ℕ). k ≤ 4294967296) (sym c.count_after-count.ensures) c.requires.fits))

pub returns-clause-told : goal.returns-clause-told
returns-clause-told c = λ at i.
    let rules = c.args.rules.now in
    let n = c.count_after-count.result in
    let b = c.take-entries.result in
    let t = c.told_of-told.result in
    let is = c.told_of-told.ensures ∙ ap (told_of rules.differs (id_at rules.replica n) (entries_seen b)) c.in_ok-text.ensures in
    let ops = c.in_ok-push_ops.ensures ∙ ap (λ (k : List StandingEntry). c.args.made.now.ops.items ++ numbered rules.replica n rules.note.now (bodies_of t c.args.definition.now k)) c.deref.ensures.value in
    subst (λ (k : ℕ). StepsOn rules.differs rules.replica k rules.note.now (reading.Defined c.args.definition.now c.args.key.now) at c.put.new.index c.args.made.now.ops.items c.push_ops.new.ops.items t) c.count_after-count.ensures
    (step_is rules.differs rules.replica n rules.note.now c.args.definition.now c.args.key.now at c.in_ok-indexed.indexed b c.in_ok-after.after c.put.new.index c.args.made.now.ops.items c.push_ops.new.ops.items t
    (ap bytes_of c.in_ok-indexed.ensures) (c.take-entries.ensures.found at i) is ops c.in_ok-after.ensures (c.in_ok-put.ensures (with_key (key_bytes c.in_ok-indexed.indexed) nothing_there at) (c.take-entries.ensures.rest at i)))

pub returns-clause-fits : goal.returns-clause-fits
returns-clause-fits c =
    let rules = c.args.rules.now in
    let n = c.count_after-count.result in
    let b = c.take-entries.result in
    let t = c.told_of-told.result in
    let known = b.known.items in
    then_fits rules.replica rules.first n rules.note.now c.args.made.now.ops.items c.push_ops.new.ops.items (bodies_of t c.args.definition.now known)
    (c.in_ok-push_ops.ensures ∙ ap (λ (k : List StandingEntry). c.args.made.now.ops.items ++ numbered rules.replica n rules.note.now (bodies_of t c.args.definition.now k)) c.deref.ensures.value)
    c.count_after-count.ensures
    (told_fits rules.differs rules.replica n (entries_seen b) c.args.definition.now c.in_ok-text.text.definition t c.told_of-told.ensures c.in_ok-text.ensures (subst (λ (k : ℕ). k ≤ 4294967296) (sym c.count_after-count.ensures) c.requires.fits))
