use Rattle.std.proofs.Common.{map, subst}
use Rattle.byte_folder.specs.Folder.{seen}
use Rattle.reg_export.specs.KeyFiles.{keyed}
use Rattle.reg_export.specs.Kept.{row_at}
use Rattle.reg_export.specs.IntoFiles.{AreFilesOfTexts}
use Rattle.reg_export.proofs.into_rows.files_of_rows.Goals as goal

pub returns : goal.returns
returns c =
    let made = c.in_ok-made.made in (
      map keyed c.in_ok-texts.texts.items,
      c.in_ok-texts.ensures,
      subst (λ l. AreFilesOfTexts c.args.keep_going (map row_at c.args.rows.now) (map keyed l) made.long (map seen made.files.items)) c.deref.ensures.value c.in_ok-made.ensures,
    )
