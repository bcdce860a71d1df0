use Rattle.std.proofs.Common.{Some, subst}
use Rattle.reg_texts.specs.Given.{IsFirstLeft}
use Rattle.reg_texts.proofs.LeftLemmas.{file_unread}
use Rattle.reg_texts.proofs.engines.with.left_in.Goals as goal

pub returns-in-Some : goal.returns-in-Some
returns-in-Some c = rw c.in-Some.is (λ bytes cuts cut left. c.refused_in.ensures bytes (file_unread bytes cuts c.in-Some.why cut left))
