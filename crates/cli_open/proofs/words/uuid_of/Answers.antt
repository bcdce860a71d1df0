use Rattle.uuid.specs.Text.{parsed}
use Rattle.cli_open.proofs.Unspelled.{unparsed}
use Rattle.cli_open.proofs.words.uuid_of.Goals as goal

pub returns-in-Err : goal.returns-in-Err
returns-in-Err c = unparsed (parsed c.args.word.now) c.in-Err.ensures.ok
