use Rattle.reg_shelf.proofs.Contents.{one_content, one_size_of}
use Rattle.reg_shelf.proofs.laws.one_shelf.Goals as goal

pub returns-clause-content : goal.returns-clause-content
returns-clause-content c = one_content

pub returns-clause-size : goal.returns-clause-size
returns-clause-size c = one_size_of
