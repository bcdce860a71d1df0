use Rattle.std.proofs.Common.{◌≡◌, take, drop, map, length}
use Rattle.reg_engine.specs.Inputs.{GivePartsAfter}
use Rattle.reg_engine.proofs.inputs.read_parts_after.Given as goal

abbrev pub invariant-loop-i : goal.invariant-loop-i
invariant-loop-i g l = record {
  front : GivePartsAfter l.fn.known.registers.items l.fn.known.pieces.items (take l.i (map g.S.Source.state l.initial.sources)) (take l.i (map g.S.Source.state l.sources)) l.parts.registers.items l.parts.pieces.items;
  back : drop l.i (map g.S.Source.state l.sources) ≡ drop l.i (map g.S.Source.state l.initial.sources);
  size : length l.sources ≡ length l.initial.sources;
}
