use Rattle.std.proofs.Common.{◌≡◌, take, drop, length}
use Rattle.reg_desk.specs.Look.{AreLooks}
use Rattle.reg_desk.proofs.status.looks_of.Given as goal

abbrev pub invariant-loop-i : goal.invariant-loop-i
invariant-loop-i g l = record {
  front : AreLooks g.T.Inspect.looks (take l.i l.initial.files) (take l.i l.files) l.looks.items;
  back : drop l.i l.files ≡ drop l.i l.initial.files;
  size : length l.files ≡ length l.initial.files;
}
