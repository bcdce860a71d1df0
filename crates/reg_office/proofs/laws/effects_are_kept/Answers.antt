use Rattle.reg_office.specs.declared.command.Command.TheVariants.{Retire, Supersede}
use Rattle.reg_office.proofs.NewLemmas.{effects_kept, entered_kept}
use Rattle.reg_office.proofs.laws.effects_are_kept.Goals as goal

pub returns : goal.returns
returns c = record { entered = entered_kept; retired = effects_kept Retire; superseded = λ x replica note old. effects_kept (Supersede old) x replica note }
