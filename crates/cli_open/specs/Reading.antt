-- A shelf that is read once.
use Rattle.std.specs.Prelude.{◌≡◌, Option, Some, None}
use Rattle.reg_engine.specs.Shelf.{Disks}
use Rattle.reg_engine.specs.Store.{Around, on_shelf}
use Rattle.reg_engine.specs.declared.fault.CliFault.TheVariants as cli
use Rattle.reg_engine.specs.declared.fault.ShelfProblem.TheVariants as problem

-- a register came from the shelf, whose disk is not used again; or there is no shelf any more
abbrev pub read_once : {D : Type 0} → Disks D → Option D → Around
read_once {D} d None = record {
  came = λ x. ⊥;
  none = λ f. f ≡ cli.Shelf problem.NotOpened;
  left = λ x y. ⊥;
  unleft = λ x y f. ⊥;
}
read_once {D} d (Some disk) = record {
  came = λ x. (after : D) × (on_shelf d disk after).came x;
  none = λ f. (after : D) × (on_shelf d disk after).none f;
  left = λ x y. ⊥;
  unleft = λ x y f. ⊥;
}
