use Rattle.std.proofs.Common.{sym, subst, take, drop}
use Rattle.wkt_write.specs.Pieces.{before, Leads}
use Rattle.wkt_write.proofs.Keeping.{plain_leads}
use Rattle.wkt_write.proofs.condensing.pieces.plain_piece.Goals as goal

pub returns : goal.returns
returns c =
    record {
      some = c.requires.some;
      within = c.requires.within;
      leads = subst (λ s. Leads (before c.args.shut) c.args.bytes.now (take c.args.len c.args.bytes.now) (before s) (drop c.args.len c.args.bytes.now)) (sym c.is_delimiter.ensures)
          (plain_leads c.args.shut c.args.bytes.now c.args.len c.requires.some c.requires.within c.requires.plain);
    }
