use Rattle.byte_shelf.proofs.OneShelf.{one_bytes}
use Rattle.byte_shelf.proofs.laws.one_content.Goals as goal

pub returns : goal.returns
returns c = one_bytes
