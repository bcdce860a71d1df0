use Rattle.std.proofs.Common.{ap, arith, length}
use Rattle.reg_export.proofs.NameLemmas.{no_separator, long, extension, name_bytes}
use Rattle.reg_export.proofs.laws.names_stay_in_the_folder.Goals as goal

pub returns-clause-separator : goal.returns-clause-separator
returns-clause-separator c = no_separator

pub returns-clause-some : goal.returns-clause-some
returns-clause-some c = λ p a d e. let more = long p a d in let same = ap length e in omega (arith, more, same)

pub returns-clause-dot : goal.returns-clause-dot
returns-clause-dot c = λ p a d e. let more = long p a d in let same = ap length e in omega (arith, more, same)

pub returns-clause-dots : goal.returns-clause-dots
returns-clause-dots c = λ p a d e. let more = long p a d in let same = ap length e in omega (arith, more, same)

pub returns-clause-extension : goal.returns-clause-extension
returns-clause-extension c = λ p a d. (_, extension p a d)

pub returns-clause-bytes : goal.returns-clause-bytes
returns-clause-bytes c = name_bytes
