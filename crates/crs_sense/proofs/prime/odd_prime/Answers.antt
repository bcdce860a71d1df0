use Rattle.crs_sense.proofs.PrimeLemmas.{said_of}
use Rattle.crs_sense.proofs.prime.odd_prime.Goals as goal

pub returns-in-Some : goal.returns-in-Some
returns-in-Some c = said_of c.args.crs.now c.in-Some.meridian.now _ _ _ _ c.prime_of.ensures c.unit_or.ensures c.base_unit.ensures c.angles_of.ensures c.in-Some.ensures
