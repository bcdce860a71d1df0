use Rattle.std.proofs.Common.{◌≡◌, take, drop, map, length}
use Rattle.reg_take.specs.Files.{file_state, AreArrivals, AreRetired}
use Rattle.reg_take.proofs.files.arrivals.Given as goal

abbrev pub invariant-loop-i : goal.invariant-loop-i
invariant-loop-i g l = record {
  front : AreArrivals l.fn.options l.fn.next (take l.i (map (λ s. file_state (g.S.Source.state s) (g.S.LateSource.shut s)) l.initial.files))
      (take l.i (map (λ s. file_state (g.S.Source.state s) (g.S.LateSource.shut s)) l.files)) l.arrivals.all.items;
  retired : AreRetired l.fn.options l.fn.next (take l.i (map (λ s. file_state (g.S.Source.state s) (g.S.LateSource.shut s)) l.initial.files))
      (take l.i (map (λ s. file_state (g.S.Source.state s) (g.S.LateSource.shut s)) l.files)) l.arrivals.retired.items;
  back : drop l.i (map (λ s. file_state (g.S.Source.state s) (g.S.LateSource.shut s)) l.files) ≡ drop l.i (map (λ s. file_state (g.S.Source.state s) (g.S.LateSource.shut s)) l.initial.files);
  size : length l.files ≡ length l.initial.files;
}
