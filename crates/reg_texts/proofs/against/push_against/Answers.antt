use Rattle.reg_texts.proofs.against.push_against.Goals as goal

pub returns : goal.returns
returns c = let pair = c.in_ok-push_pair.ensures in (pair.0, (c.in_ok-entry.entry, c.in_ok-entry.ensures, pair.1), pair.2)
