use Rattle.std.proofs.Common.{Some, None, Ok, Err}
use Rattle.wkt_tree.proofs.Stands.{lexes_rest, lexes_all, none_come, stand_at, tokens_come}
use Rattle.wkt_tree.proofs.cursor.Cursor.at.Goals as goal

pub invariant_of-t-9 : goal.invariant_of-t-9
invariant_of-t-9 c = stand_at c.args.place c.args.text.now c.in-Ok-Some.token c.requires (lexes_rest c.args.text.now c.args.place (Ok (Some c.in-Ok-Some.token)) (rw c.in-Ok-Some.field-0-is at c.in-Ok-Some.ensures))

pub unreachable-requires : goal.unreachable-requires
unreachable-requires c = lexes_all c.args.place c.args.text.now c.in-Err.field-0 c.requires (lexes_rest c.args.text.now c.args.place (Err c.in-Err.field-0) c.in-Err.ensures)

pub returns-in-Ok-Some : goal.returns-in-Ok-Some
returns-in-Ok-Some c = tokens_come c.args.place c.args.text.now c.in-Ok-Some.token c.requires (lexes_rest c.args.text.now c.args.place (Ok (Some c.in-Ok-Some.token)) (rw c.in-Ok-Some.field-0-is at c.in-Ok-Some.ensures))

pub returns-in-Ok-None : goal.returns-in-Ok-None
returns-in-Ok-None c = none_come c.args.place c.args.text.now c.requires (lexes_rest c.args.text.now c.args.place (Ok None) (rw c.in-Ok-None.field-0-is at c.in-Ok-None.ensures))
