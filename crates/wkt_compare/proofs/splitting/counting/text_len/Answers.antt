use Rattle.std.proofs.Common.{sym, subst}
use Rattle.wkt_compare.specs.Texts.{IsFirstText}
use Rattle.wkt_compare.proofs.Firsts.{first_text}
use Rattle.wkt_compare.proofs.splitting.counting.text_len.Goals as goal

pub returns : goal.returns
returns c = subst (λ n. IsFirstText c.args.bytes.now n) (sym c.closing_len.ensures) (first_text c.args.bytes.now)
