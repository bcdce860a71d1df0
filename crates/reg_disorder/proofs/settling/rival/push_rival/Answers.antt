use Rattle.std.proofs.Common.{inl, refl}
use Rattle.reg_disorder.proofs.Steps.{not_both}
use Rattle.reg_disorder.proofs.settling.rival.push_rival.Goals as goal

pub returns : goal.returns
returns c = inl (
  record { stands = c.is_live.ensures.0 c.if-not-is_live.false; no_keep = λ k. not_both c.is_among.result (c.is_among.ensures.1 k) c.if-is_among.false },
  (record { key = c.key_of-key.result; row = c.args.row }, record { entry = refl; keyed = c.key_of-key.ensures }, c.in_ok-push.ensures.items),
)
