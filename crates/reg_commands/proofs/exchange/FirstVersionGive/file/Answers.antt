use Rattle.std.proofs.Common.{sym, subst}
use Rattle.reg_commands.specs.Exchange.{HasNoFirst}
use Rattle.reg_commands.proofs.ExchangeLemmas.{no_first}
use Rattle.reg_commands.proofs.exchange.FirstVersionGive.file.Goals as goal

pub returns-in-Err-clause-refuses : goal.returns-in-Err-clause-refuses
returns-in-Err-clause-refuses c =
    subst (HasNoFirst c.args.register.now) (sym c.of_first.ensures) (no_first c.args.register.now c.in-Err.fault c.in-Err.ensures.note c.in-Err.ensures.large c.in-Err.ensures.unmade)
