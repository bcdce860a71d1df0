use Rattle.std.proofs.Common.{map, drop}
use Rattle.reg_report.specs.Seen.{row_seen}
use Rattle.reg_keys.proofs.EveryLemmas.{CompletesEach, Passes}
use Rattle.reg_keys.proofs.every.each_of_words.Given as goal

abbrev pub invariant-loop-at : goal.invariant-loop-at
invariant-loop-at l =
    CompletesEach (map row_seen l.rows) (map (λ w. w.now) l.words) (map (λ w. w.now) (drop l.at l.words)) l.ids.items
    × Passes (map row_seen l.rows) (map (λ w. w.now) l.words) l.at (map (λ w. w.now) (drop l.at l.words))
