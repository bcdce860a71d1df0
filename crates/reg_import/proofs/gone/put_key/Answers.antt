use Rattle.std.proofs.Common.{◌↔◌, ◌++◌, [], ◌∷◌, IsTrue, ap, sym, subst}
use Rattle.std.specs.Prelude.{Contains}
use Rattle.std.specs.BTreeSet.{contains}
use Rattle.reg_report.specs.Conflicts.{KeyBytes, bytes_of}
use Rattle.reg_import.specs.declared.reading.ReadText.{ReadText}
use Rattle.reg_import.specs.Index.{key_bytes, text_cmp}
use Rattle.reg_import.specs.Readings.{keys_in}
use Rattle.reg_import.proofs.GoneLemmas.{key_added}
use Rattle.reg_import.proofs.gone.put_key.Goals as goal

pub returns-in_ok-insert-in-Defined : goal.returns-in_ok-insert-in-Defined
returns-in_ok-insert-in-Defined c = λ before has q.
    let old = contains text_cmp c.args.keys.now q in
    let new = contains text_cmp c.insert.new.self q in
    let k = key_bytes c.in_ok-key-in-Defined.key in
    subst (λ (r : ReadText). IsTrue new ↔ Contains (before ++ keys_in (r ∷ [])) (key_bytes q)) (sym c.in-Defined.is)
    (subst (λ (b : KeyBytes). IsTrue new ↔ Contains (before ++ b ∷ []) (key_bytes q)) (ap bytes_of c.in_ok-key-in-Defined.ensures)
    (key_added before k (key_bytes q) old new (c.in_ok-insert-in-Defined.ensures.updates.0 q) (has q)))
