use Rattle.std.proofs.Common.{◌++◌, refl}
use Rattle.reg_op.specs.Set as set
use Rattle.reg_file.specs.Layout.{register_file}
use Rattle.reg_file.proofs.MadeRuns.{runs_of_ids}
use Rattle.reg_journal.specs.Text.{head_text, head_of}
use Rattle.reg_journal.proofs.TextLemmas.{one_office, one_text}
use Rattle.reg_journal.proofs.laws.one_text.Goals as goal

pub returns : goal.returns
returns c = record {
  one_office = one_office;
  one_text = one_text;
  each = λ f is.
      let r = runs_of_ids f.made.seen is.content.are_ids in
      let file = register_file 2 (set.items f.made.ops) r.0 in
      (head_text (head_of f) ++ file, record { file = file; is_file = record { runs = r.0; are_runs = r.1; all = r.2; whole = refl }; whole = refl });
}
