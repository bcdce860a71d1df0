use Rattle.std.proofs.Common.{List, sym, subst, ◌∙◌}
use Rattle.reg_import.specs.declared.standing_entry.StandingEntry.{StandingEntry}
use Rattle.reg_import.specs.Summary.{SumsUp}
use Rattle.reg_import.proofs.entries_of_key.EntriesOfKey.with.Goals as goal

pub or_summed-requires : goal.or_summed-requires
or_summed-requires c = λ s is.
    subst (λ (l : List StandingEntry). SumsUp s.value l) (sym (c.deref.ensures.value ∙ c.in_ok-push_entry.ensures)) (c.in_ok-summary.ensures c.args.self.known.items c.args.self.sums s is)
