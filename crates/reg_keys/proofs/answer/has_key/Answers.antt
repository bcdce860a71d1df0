use Rattle.std.proofs.Common.{refl, subst}
use Rattle.reg_report.specs.Conflicts.{bytes_of}
use Rattle.reg_report.proofs.ContenderLemmas.{one_key}
use Rattle.reg_keys.specs.Words.{NamesKey}
use Rattle.reg_keys.proofs.answer.has_key.Goals as goal

pub returns : goal.returns
returns c =
    let key = c.key-key.result.now in (
      λ h. (bytes_of key, c.names_key.ensures.0 h, (key, c.key-key.ensures, refl)),
      λ (k, names, keyed). c.names_key.ensures.1 (subst (NamesKey c.args.word.now) (one_key c.args.row.now.definition k (bytes_of key) keyed (key, c.key-key.ensures, refl)) names),
    )
