use Rattle.std.proofs.Common.{◌≤◌, ◌++◌, List, length, sym, ap, ◌∙◌, subst}
use Rattle.std.proofs.lemmas.List.{take_all}
use Rattle.std.proofs.lemmas.List.Folds.{flat_map-map}
use Rattle.std.specs.List.{flat_map}
use Rattle.csv.specs.Writing.{row_text, default_writer}
use Rattle.reg_op.specs.Ids.{Id}
use Rattle.reg_report.specs.Lines.{contender_fields, sheet_text}
use Rattle.reg_report.proofs.conflict_lines.write_conflict.Goals as goal

pub returns : goal.returns
returns c =
    let old = sheet_text c.args.wtr.now in
    let conflict = c.args.conflict.now in
    let entries = conflict.entries.items in
    let all : length entries ≤ c.loop-entry.entry-index = subst (λ (l : List Id). length l ≤ c.loop-entry.entry-index) c.deref-entry-items.ensures.value c.loop-entry-test.false in
    let fields = contender_fields conflict.authority.bytes conflict.code.bytes in
    record {
      text = c.loop-entry.invariant.1
          ∙ (λ j. old ++ flat_map (λ i. row_text default_writer (contender_fields (c.as_bytes-authority.ensures j) (c.as_bytes-code.ensures j) i)) (take_all c.loop-entry.entry-index entries all j))
          ∙ ap (λ t. old ++ t) (sym (flat_map-map (λ l. row_text default_writer l) fields entries));
      ready = c.loop-entry.invariant.0;
    }
