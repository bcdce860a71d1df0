use Rattle.reg_shelf.proofs.Contents
use Rattle.reg_commands.proofs.laws.nothing_is_small.Goals as goal

pub returns : goal.returns
returns c = Contents.empty_fits
