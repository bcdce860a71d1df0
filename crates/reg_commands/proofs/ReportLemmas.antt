-- A content that has the operation of an entry has the entry.
use Rattle.std.proofs.Common.{◌≡◌, true, ◌&&◌, ℕ, List, ap}
use Rattle.std.specs.Ordering.{is_eq}
use Rattle.std.specs.Cmp.{tied_itself}
use Rattle.reg_op.specs.Set as set
use Rattle.reg_op.specs.Ids.{Id, is_same}
use Rattle.reg_op.specs.Kept.{entering}
use Rattle.reg_op.specs.Contents.{Content}
use Rattle.reg_op.specs.Status.{enters, is_enter}
use Rattle.reg_op.proofs.FiniteLemmas.{any_from_member}
use Rattle.reg_op.proofs.OpLemmas.{id_total, op_total, op_exact}

pub entered : (x : Content) (entry : Id) (definition note : List ℕ) → set.contains x.ops (entering entry definition note) ≡ true → enters x.ops entry ≡ true
entered x entry definition note h =
    any_from_member op_total op_exact (λ o. is_same entry o.id && is_enter o.body) x.ops (entering entry definition note) h
    (ap (λ r. is_eq r && true) (tied_itself id_total entry))
