use Rattle.reg_file.proofs.KindLemmas as kinds
use Rattle.reg_file.proofs.laws.one_kind.Goals as goal

pub returns-clause-register_or_seen : goal.returns-clause-register_or_seen
returns-clause-register_or_seen c = kinds.read_register_or_seen

pub returns-clause-register_or_piece : goal.returns-clause-register_or_piece
returns-clause-register_or_piece c = kinds.read_register_or_piece

pub returns-clause-seen_or_piece : goal.returns-clause-seen_or_piece
returns-clause-seen_or_piece c = kinds.read_seen_or_piece
