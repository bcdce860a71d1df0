use Rattle.wkt_tree.proofs.Sound.{cut_sound}
use Rattle.wkt_tree.proofs.laws.sound_tokens.Goals as goal

pub returns : goal.returns
returns c = λ text ts o. cut_sound 0 text ts o.cut o.utf8
