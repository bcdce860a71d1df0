use Rattle.std.proofs.Common.{◌≡◌, ◌+◌, ◌≤◌, false, drop}
use Rattle.wkt_compare.specs.Counting.{text_len}
use Rattle.wkt_compare.proofs.splitting.counting.closing_len.Given as goal

abbrev pub invariant-loop-at : goal.invariant-loop-at
invariant-loop-at l = record {
  within : l.count ≤ l.at;
  rest : l.at + text_len l.count l.quoted (drop l.at l.bytes) ≡ text_len 0 false l.bytes;
}
