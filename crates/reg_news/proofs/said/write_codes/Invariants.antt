use Rattle.std.proofs.Common.{length}
use Rattle.reg_news.proofs.said.write_codes.Given as goal

-- the codes that are left
abbrev pub decreases-loop-code : goal.decreases-loop-code
decreases-loop-code g l = length l.rest
