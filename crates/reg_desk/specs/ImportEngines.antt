-- The engines of an import: their input and output.
use Rattle.std.specs.Prelude.{◌≡◌, ◌⊎◌, ℕ, List, Option, Some, None}
use Rattle.byte_io.specs.Device.{SourceState, SinkState}
use Rattle.byte_io.specs.Whole.{WritesAll}
use Rattle.reg_op.specs.Contents.{Content}
use Rattle.reg_engine.specs.declared.fault.CliFault.{CliFault}
use Rattle.reg_engine.specs.Store.{Around, Admission, AreCut, IsTold, IsUntold}
use Rattle.reg_desk.specs.declared.import.options.ImportOptions.{ImportOptions}
use Rattle.reg_desk.specs.declared.import.fault.Unimported.{Unimported}
use Rattle.reg_desk.specs.Import.{IsPlain, IsReadyIn, IsUnreadyIn}
use Rattle.reg_desk.specs.ImportRoom.{Room}

-- ---- the register that is read, and the one that is written

pub record Way : Type 1 where
  -- this register was read, and nothing was written
  pub came : Content → Type 0
  -- none was, for this reason, and nothing was written
  pub none : CliFault → Type 0
  -- the second content was made from the first, and is there, or has room there, and then these lines were written
  pub gave : Content → Content → List ℕ → Type 0
  -- not all of that, for this reason
  pub failed : Content → Content → List ℕ → CliFault → Type 0

-- a store that keeps it
abbrev pub kept_in : Around → SinkState → SinkState → Way
kept_in a before after = record {
  came = λ x. a.came x × (after ≡ before);
  none = λ f. a.none f × (after ≡ before);
  gave = λ x y lines. IsTold a x y lines before after;
  failed = λ x y lines f. IsUntold a x y lines before after f;
}

-- a store that would have room for it, and is only read
abbrev pub tried_in : Around → Room → SinkState → SinkState → Way
tried_in a r before after = record {
  came = λ x. a.came x × (after ≡ before);
  none = λ f. a.none f × (after ≡ before);
  gave = λ x y lines. r.fits x y × WritesAll lines before after;
  failed = λ x y lines f. (r.full x y f × (after ≡ before)) ⊎ (r.fits x y × AreCut lines before after f);
}

-- ---- the effect of an import

-- a register and texts were read; the texts were imported, none was passed over, and the result was written
abbrev pub IsImported : Way → Admission → ImportOptions → ℕ → List SourceState → List SourceState → Type 0
IsImported w a o next old new = (x : Content) × (y : Content) × (lines : List ℕ) × IsReadyIn a o next x old new y lines None × w.gave x y lines

-- the fault after an import: everything was written, and it is that of the texts that were passed over; or not everything
-- was written
abbrev pub IsAnswer : Way → Content → Content → List ℕ → Option Unimported → Unimported → Type 0
IsAnswer w x y lines passed u = ((passed ≡ Some u) × w.gave x y lines) ⊎ IsPlain (w.failed x y lines) u

-- no register was read, and no file of texts was; or one was, and there is no result, or this is the fault afterwards
abbrev pub IsUnimported : Way → Admission → ImportOptions → ℕ → List SourceState → List SourceState → Unimported → Type 0
IsUnimported w a o next old new u = (IsPlain w.none u × (new ≡ old))
    ⊎ (((x : Content) × w.came x × IsUnreadyIn a o next x old new u)
    ⊎ ((x : Content) × (y : Content) × (lines : List ℕ) × (passed : Option Unimported) × IsReadyIn a o next x old new y lines passed × IsAnswer w x y lines passed u))
