use Rattle.std.proofs.Common.{refl}
use Rattle.reg_op.specs.Set as set
use Rattle.reg_file.specs.Layout.{register_file, seen_file, piece_file}
use Rattle.reg_file.proofs.MadeRuns.{runs_of_ids}
use Rattle.reg_file.proofs.laws.each_has_a_file.Goals as goal

pub returns-clause-register : goal.returns-clause-register
returns-clause-register c = λ version x is.
    let r = runs_of_ids x.seen is.are_ids in (register_file version (set.items x.ops) r.0, record { runs = r.0; are_runs = r.1; all = r.2; whole = refl })

pub returns-clause-seen : goal.returns-clause-seen
returns-clause-seen c = λ version ids are. let r = runs_of_ids ids are in (seen_file version r.0, record { runs = r.0; are_runs = r.1; all = r.2; whole = refl })

pub returns-clause-piece : goal.returns-clause-piece
returns-clause-piece c = λ version p is.
    let b = runs_of_ids p.basis is.are_ids in
    let r = runs_of_ids p.seen is.content.are_ids in
    (piece_file version b.0 (set.items p.ops) r.0, record { basis = b.0; are_basis = b.1; all_basis = b.2; runs = r.0; are_runs = r.1; all = r.2; whole = refl })
