use Rattle.std.proofs.Common.{◌∙◌}
use Rattle.reg_desk.proofs.import.texts.take_text.Goals as goal

pub returns-clause-come : goal.returns-clause-come
returns-clause-come c = λ x files cuts texts ts h named explains.
    let come = c.in_ok-progress.ensures.come x files cuts texts ts h named explains in
    record { text = c.in_ok-text.text; did = come.0; read = c.in_ok-text.ensures; come = come.1; is = c.in_ok-progress.ensures.ends ∙ c.ends_at-ends.ensures }
