use Rattle.reg_op.specs.Rows.{rows}
use Rattle.reg_supersede.proofs.SameRows.{same_back, every_too, each_too, fails_too}
use Rattle.reg_supersede.proofs.MadeLemmas.{list_later}
use Rattle.reg_supersede.proofs.laws.words_stay.Goals as goal

pub returns : goal.returns
returns c = record {
  every = λ t n x y texts ids left word es did.
      let same = (list_later t n x y texts ids left did).same in
      (every_too word (rows x.ops) (rows y.ops) same es, every_too word (rows y.ops) (rows x.ops) (same_back (rows x.ops) (rows y.ops) same) es);
  each = λ t n x y texts ids left words es did.
      let same = (list_later t n x y texts ids left did).same in
      (each_too (rows x.ops) (rows y.ops) same words es, each_too (rows y.ops) (rows x.ops) (same_back (rows x.ops) (rows y.ops) same) words es);
  fault = λ t n x y texts ids left words k f did.
      let same = (list_later t n x y texts ids left did).same in
      (fails_too (rows x.ops) (rows y.ops) same 0 words k f, fails_too (rows y.ops) (rows x.ops) (same_back (rows x.ops) (rows y.ops) same) 0 words k f);
}
