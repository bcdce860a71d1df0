use Rattle.std.proofs.Common.{arith}
use Rattle.std.proofs.lemmas.List.Sums.{prefix_len-le-length}
use Rattle.wkt_tree.specs.Bytes.{is_blank}
use Rattle.wkt_tree.proofs.Lexemes.{front_passes, front_stops}
use Rattle.wkt_compare.proofs.splitting.cutting.blank_len.Goals as goal

pub returns : goal.returns
returns c = record {
  within = omega (arith, c.blank_count.ensures, prefix_len-le-length is_blank c.args.bytes.now);
  blank = rw (c.blank_count.ensures) (front_passes is_blank c.args.bytes.now);
  stops = rw (c.blank_count.ensures) (front_stops is_blank c.args.bytes.now);
}
