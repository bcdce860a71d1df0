use Rattle.std.proofs.Common.{◌∙◌, sym, ap, length, arith}
use Rattle.std.specs.Prelude.{position}
use Rattle.std.proofs.lemmas.List.{length-drop}
use Rattle.wkt_tree.specs.Tokens.{is_mark}
use Rattle.wkt_write.proofs.Keeping.{quoted_lead}
use Rattle.wkt_write.proofs.condensing.pieces.quoted_piece.Goals as goal

pub returns : goal.returns
returns c =
    let back = c.split_at.ensures.back in
    let room = ap length back in
    record {
      some = omega arith;
      within = omega (arith, room, c.in_ok-inside.ensures.within, length-drop 1 c.args.bytes.now);
      leads = quoted_lead c.args.shut c.args.bytes.now c.in_ok-inside.inside c.requires.some c.requires.mark (ap (position is_mark) (sym back) ∙ sym c.in_ok-inside.ensures.first);
    }
