use Rattle.std.proofs.Common.{map, ℕ, List}
use Rattle.std.specs.Borrow.{Bor}
use Rattle.reg_commands.proofs.MeaningLemmas.{there_both}
use Rattle.reg_commands.proofs.words.meaning.entries_there.Goals as goal

pub returns-in-Ok-each_of_words_in : goal.returns-in-Ok-each_of_words_in
returns-in-Ok-each_of_words_in c = λ xs zs is.
    there_both xs zs (map (λ (w : Bor (List ℕ)). w.now) c.args.words.now) (map (λ (w : Bor (List ℕ)). w.now) c.args.newer.now) c.in-Ok.changed.items c.in-Ok-each_of_words_in.newer.items
    (c.in-Ok.ensures.ok zs is) (c.in-Ok-each_of_words_in.ensures.ok zs is)
