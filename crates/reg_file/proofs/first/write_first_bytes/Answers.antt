use Rattle.std.proofs.Common.{sym, ap, ◌∙◌}
use Rattle.reg_file.specs.Files.{first_in}
use Rattle.reg_file.proofs.FirstLemmas.{unnoted}
use Rattle.reg_file.proofs.first.write_first_bytes.Goals as goal

pub returns-in-Ok-clause-held : goal.returns-in-Ok-clause-held
returns-in-Ok-clause-held c =
    (c.in-Ok.ensures.held, unnoted c.args.register.now.ops (sym (ap first_in (c.as_slice.ensures ∙ c.ops.ensures.items)) ∙ sym c.first_in.ensures ∙ c.in_default.is))
