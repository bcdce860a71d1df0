use Rattle.std.proofs.Common.{subst}
use Rattle.wkt_tree.proofs.Stands.{sound_outline}
use Rattle.wkt_tree.specs.Cursor.{IsSoundCut}
use Rattle.wkt_tree.proofs.cursor.Outline.cursor.Goals as goal

pub at-requires : goal.at-requires
at-requires c = sound_outline c.self.inside.text.now c.self.invariant

pub returns-clause-sound : goal.returns-clause-sound
returns-clause-sound c = let s = subst (λ t. IsSoundCut 0 t) c.self.view_is (sound_outline c.self.inside.text.now c.self.invariant) in s.sound
