use Rattle.std.proofs.Common.{map, ap, ◌∙◌, subst}
use Rattle.byte_folder.specs.Folder.{seen}
use Rattle.reg_export.specs.KeyFiles.{AreInOrder}
use Rattle.reg_export.specs.IntoFiles.{long_in}
use Rattle.reg_export.proofs.into_rows.files_of_texts.Goals as goal

pub returns : goal.returns
returns c =
    let entries = c.deref.ensures.value ∙ c.in_ok-entries.ensures in
    let each = ap (map seen) c.deref-2.ensures.value ∙ c.in_ok-each.ensures in
    record {
      all = map seen c.in_order.result.items;
      files = subst (λ l. AreInOrder l (map seen c.in_order.result.items)) c.in_ok-each.ensures c.in_order.ensures;
      fits = c.fit-files.ensures;
      named = c.long_in-long.ensures ∙ (λ j. long_in c.args.keep_going (entries j) (each j));
    }
