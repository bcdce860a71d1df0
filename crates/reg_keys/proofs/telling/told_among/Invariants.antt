use Rattle.std.proofs.Common.{List, map, drop}
use Rattle.reg_op.specs.Rows.{Row}
use Rattle.reg_keys.specs.Index.{IsIndex}
use Rattle.reg_keys.proofs.ToldLemmas.{Completes, Passes}
use Rattle.reg_keys.proofs.telling.told_among.Given as goal

abbrev pub invariant-loop-word : goal.invariant-loop-word
invariant-loop-word l = (rs : List Row) → IsIndex l.index rs
    → Completes rs (map (λ w. w.now) l.words) (map (λ w. w.now) (drop l.word-index l.words)) l.ids.items
    × Passes rs (map (λ w. w.now) l.words) (map (λ w. w.now) (drop l.word-index l.words))
