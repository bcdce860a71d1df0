use Rattle.std.proofs.Common.{List, map, drop}
use Rattle.reg_op.specs.Rows.{Row}
use Rattle.reg_keys.specs.Index.{IsIndex}
use Rattle.reg_keys.proofs.EveryLemmas.{CompletesEvery, Passes}
use Rattle.reg_keys.proofs.indexed.every_of_words_in.Given as goal

abbrev pub invariant-loop-at : goal.invariant-loop-at
invariant-loop-at l = (rs : List Row) → IsIndex l.index rs →
    CompletesEvery rs (map (λ w. w.now) l.words) (map (λ w. w.now) (drop l.at l.words)) l.ids.items
    × Passes rs (map (λ w. w.now) l.words) l.at (map (λ w. w.now) (drop l.at l.words))
