use Rattle.std.proofs.Common.{◌≡◌, false, List, ℕ, drop, subst, arith}
use Rattle.wkt_write.specs.Condensed.{Shuts}
use Rattle.wkt_write.proofs.Keeping.{blank_leads}
use Rattle.wkt_write.proofs.condensing.pieces.blank_piece.Goals as goal
use Rattle.wkt_write.proofs.condensing.pieces.blank_piece.Goals.{then-shut-via-then-shut, then-shut-via-else-shut+then-shuts}

pub returns-then-shut : goal.returns-then-shut
returns-then-shut c =
    let shuts : c.args.shut ≡ false → Shuts (drop c.blank_len-len.result c.args.bytes.now) = elim c.then-shut.branch [
      | then-shut-via-then-shut w ↦ λ e. let t = w.if-shut in absurd (cc)
      | then-shut-via-else-shut+then-shuts w ↦ λ e. subst (λ (l : List ℕ). Shuts l) c.split_at.ensures.back (w.shuts.ensures w.if-shuts.true)
    ] in
    record { some = omega arith; within = c.blank_len-len.ensures.within; leads = blank_leads c.args.shut c.args.bytes.now c.blank_len-len.result c.blank_len-len.ensures.is shuts }
