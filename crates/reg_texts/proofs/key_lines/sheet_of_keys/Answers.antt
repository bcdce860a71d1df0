use Rattle.std.proofs.Common.{◌++◌, map, ap, ◌∙◌, subst}
use Rattle.reg_report.specs.Seen.{row_seen}
use Rattle.reg_texts.specs.Compare.{seen_rows}
use Rattle.reg_texts.specs.Gathered.{Each, AreOfRow}
use Rattle.reg_texts.specs.KeySheet.{AreLinesOf}
use Rattle.reg_texts.specs.Said.{said}
use Rattle.reg_texts.proofs.key_lines.sheet_of_keys.Goals as goal

pub returns : goal.returns
returns c =
    let made = ap (map row_seen) c.deref.ensures.value ∙ c.in_ok-rows.ensures.rows in
    let are = c.in_ok-made.ensures in
    record {
      once = map said c.in_ok-made.made.items;
      said = record { all = are.0; gathered = subst (λ l. Each (AreOfRow l) (seen_rows c.args.some.now) are.0) made are.1; order = are.2 };
      lines = c.in_ok-lines.lines.items;
      are = subst (λ l. AreLinesOf (map said l) c.in_ok-lines.lines.items) c.deref-2.ensures.value c.in_ok-lines.ensures;
      is = c.in_ok-extend_from_slice.ensures.items ∙ ap (λ l. c.in_ok-text.text.items ++ l) c.deref-3.ensures.value ∙ ap (λ l. l ++ c.in_ok-lines.lines.items) c.in_ok-text.ensures;
    }
