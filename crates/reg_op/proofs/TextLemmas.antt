-- The printed text of an id spells that id.
use Rattle.std.proofs.Common.{arith, ◌∷◌, refl, sym, inl}
use Rattle.uuid.specs.Text.{hyphenated_text, lower}
use Rattle.uuid.proofs.RoundTrips.{parses_hyphenated}
use Rattle.uuid.proofs.TextLemmas.{by_index_length}
use Rattle.std.specs.Fmt.{decimal}
use Rattle.reg_op.specs.Ids.{Id, IsId}
use Rattle.reg_op.specs.Text.{printed, Spells}

pub printed_reads : (i : Id) → IsId i → Spells (printed i) i
printed_reads i is = record {
  front = hyphenated_text lower i.replica;
  back = 58 ∷ decimal i.count;
  whole = refl;
  long = by_index_length 36 _;
  replica_is = sym (parses_hyphenated lower i.replica (inl refl) is.long is.bytes);
  count_is = record { rest = decimal i.count; whole = refl; numeral = record { digits = refl; positive = omega (arith, is.positive); fits = is.fits } };
}
