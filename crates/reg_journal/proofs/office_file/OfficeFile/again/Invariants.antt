use Rattle.std.proofs.Common.{◌≡◌, ◌⊎◌, ◌+◌, true, length}
use Rattle.reg_office.specs.Making.{greatest}
use Rattle.reg_journal.specs.Again.{is_again}
use Rattle.reg_journal.proofs.LateLemmas.{Covers}
use Rattle.reg_journal.proofs.office_file.OfficeFile.again.Given as goal

-- the greatest number so far, if there is one, will do; a greater one has its operation among the rest
abbrev pub invariant-loop-op : goal.invariant-loop-op
invariant-loop-op l = record {
  most : l.most + length l.effects ≡ greatest l.self.replica l.joined.seen + 1;
  good : (l.last ≡ 0) ⊎ (is_again l.seen l.joined.ops l.self.replica l.note l.effects l.last ≡ true);
  covers : Covers l.self.replica (is_again l.seen l.joined.ops l.self.replica l.note l.effects) l.last l.rest;
}

abbrev pub decreases-loop-op : goal.decreases-loop-op
decreases-loop-op l = length l.rest
