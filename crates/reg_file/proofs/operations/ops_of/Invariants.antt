use Rattle.std.proofs.Common.{◌≡◌, length, None}
use Rattle.reg_file.specs.Readers.{ReadsEach, state_after}
use Rattle.reg_file.specs.Reading.{operation, id_after, places_of}
use Rattle.reg_file.proofs.operations.ops_of.Given as goal

abbrev pub invariant-loop : goal.invariant-loop
invariant-loop l = record {
  reads : ReadsEach (operation l.version l.seen) id_after None l.bytes l.ops.items l.rest;
  last_is : l.last ≡ state_after id_after None l.ops.items;
  places_are : l.places.items ≡ places_of l.version l.ops.items l.rest;
  counted : length l.ops.items ≡ l.counter;
}
