use Rattle.reg_texts.proofs.compare.push_against.Goals as goal

pub returns : goal.returns
returns c = λ one of. let pair = c.in_ok-push_pair.ensures in (pair.0, (c.args.first.now, c.in_ok-second.second, of, c.in_ok-second.ensures, pair.1), pair.2)
