use Rattle.std.proofs.Common.{arith, ◌≡◌, ℕ, List, length, subst}
use Rattle.std.specs.Prelude.{All, ◌<◌}
use Rattle.reg_op.proofs.op_id.OpId.new.Goals as goal

pub invariant_of-result : goal.invariant_of-result
invariant_of-result c =
    let P : List ℕ → Type 0 = λ xs. (length xs ≡ 16) × All (λ b. b < 256) xs in
    let fit : P c.args.replica = subst P c.as_bytes.ensures c.bytes_fit.ensures in
    record { long = fit.0; bytes = fit.1; positive = omega arith; fits = c.ranges.count.fits }
