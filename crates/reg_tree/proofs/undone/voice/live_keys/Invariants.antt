use Rattle.std.proofs.Common.{◌≡◌, not, ◌&&◌, take}
use Rattle.std.specs.List.{list_any}
use Rattle.reg_op.specs.Status.{retires}
use Rattle.reg_op.specs.Operations.{Op}
use Rattle.reg_report.specs.Conflicts.{KeyBytes}
use Rattle.reg_tree.specs.Sayings.{Keys, enters_key}
use Rattle.reg_tree.specs.Voices.{AreRight, has_key}
use Rattle.reg_tree.proofs.GatheredLemmas.{AllKeyed}
use Rattle.reg_tree.proofs.undone.voice.live_keys.Given as goal

abbrev pub invariant-loop-op : goal.invariant-loop-op
invariant-loop-op l = record {
  live : (has : Keys KeyBytes) → AreRight has l.register.ops → (q : KeyBytes) → has_key l.live q ≡ list_any (λ (o : Op). enters_key has q o.body && not (retires l.register.ops o.id)) (take l.op-index l.ops);
  keyed : AllKeyed (take l.op-index l.ops);
}
