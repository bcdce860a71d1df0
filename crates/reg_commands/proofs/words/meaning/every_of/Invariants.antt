use Rattle.std.proofs.Common.{List, map, drop}
use Rattle.reg_op.specs.Rows.{Row}
use Rattle.reg_keys.specs.Index.{IsIndex}
use Rattle.reg_commands.proofs.MeaningLemmas.{CompletesEvery, Passes}
use Rattle.reg_commands.proofs.words.meaning.every_of.Given as goal

abbrev pub invariant-loop-word : goal.invariant-loop-word
invariant-loop-word l = (xs zs : List Row) → IsIndex l.was xs → IsIndex l.now zs →
    CompletesEvery xs zs (map (λ w. w.now) l.words) (map (λ w. w.now) (drop l.word-index l.words)) l.ids.items
    × Passes xs zs (map (λ w. w.now) l.words) (map (λ w. w.now) (drop l.word-index l.words))
