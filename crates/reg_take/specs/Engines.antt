-- The engines of the command: what was read, and what was written.
use Rattle.std.specs.Prelude.{◌≡◌, ◌≢◌, ◌⊎◌, List, ℕ}
use Rattle.byte_io.specs.Device.{SinkState}
use Rattle.byte_io.specs.Whole.{WritesAll}
use Rattle.reg_op.specs.Contents.{Content}
use Rattle.reg_query.specs.DiffLines.{IsDiff}
use Rattle.reg_file.specs.Files.{IsTooLarge}
use Rattle.reg_engine.specs.declared.fault.OutFault.TheVariants as out
use Rattle.reg_engine.specs.declared.fault.CliFault.{CliFault}
use Rattle.reg_engine.specs.declared.fault.CliFault.TheVariants as cli
use Rattle.reg_engine.specs.Fault.{is_after}
use Rattle.reg_engine.specs.Store.{Around, Admission, Admits, AreCut, WritesIf, IsKeptIn}
use Rattle.reg_take.specs.declared.options.TakeOptions.{TakeOptions}
use Rattle.reg_take.specs.declared.taking.LeftOut.{LeftOut}
use Rattle.reg_take.specs.declared.effect.TakeEffect.{TakeEffect}
use Rattle.reg_take.specs.declared.files.Arrival.{Arrival}
use Rattle.reg_take.specs.declared.loading.Loaded.{Loaded}
use Rattle.reg_take.specs.Files.{FileState, AreArrivals, AreRetired, IsStopped}
use Rattle.reg_take.specs.Take.{Takes, CannotJoin, IsBarred}

-- the register that a store gives, and what is written for the register that replaces it
pub record Way : Type 1 where
  -- this register came in, and nothing was written
  pub came : Content → Type 0
  -- none did, for this reason, and nothing was written
  pub none : CliFault → Type 0
  -- the second content is in the place of the first, and these lines were written
  pub gave : Content → Content → List ℕ → Type 0
  -- not all of that, for this reason
  pub failed : Content → Content → List ℕ → CliFault → Type 0

-- no file can have it; or memory ran out
abbrev pub IsUnfit : Content → CliFault → Type 0
IsUnfit y f = ((f ≡ cli.Out out.TooLarge) × IsTooLarge y) ⊎ (f ≡ cli.Memory)

-- a store that is only read, to see what would be kept: the first content, or one that a file can have
abbrev pub only_tried : Around → SinkState → SinkState → Way
only_tried a before after = record {
  came = λ x. a.came x × (after ≡ before);
  none = λ f. a.none f × (after ≡ before);
  gave = λ x y lines. a.came x × ((y ≡ x) ⊎ (¬ (IsTooLarge y))) × WritesAll lines before after;
  failed = λ x y lines f. a.came x × (((y ≢ x) × IsUnfit y f × (after ≡ before)) ⊎ AreCut lines before after f);
}

-- the store has the second content, whether or not a power cut can undo that; if it equals the first one, the store is unchanged
abbrev pub Leaves : (Content → Content → Type 0) → Around → Content → Content → Type 0
Leaves Has a x y = ((y ≡ x) × a.came x) ⊎ ((y ≢ x) × Has x y)

-- a store that keeps the second content, unless that is the first one
abbrev pub kept_if_changed : Around → SinkState → SinkState → Way
kept_if_changed a before after = record {
  came = λ x. a.came x × (after ≡ before);
  none = λ f. a.none f × (after ≡ before);
  gave = λ x y lines. Leaves a.left a x y × WritesAll lines before after;
  failed = λ x y lines f. ((y ≢ x) × a.unleft x y f × WritesIf (is_after f) lines before after) ⊎ (Leaves (IsKeptIn a) a x y × AreCut lines before after f);
}

-- the store gave this register and admits another one, to which files are joined; and they gave this, and these are retired in them
abbrev pub IsLoaded : Around → Admission → TakeOptions → ℕ → List FileState → List FileState → Loaded → Type 0
IsLoaded a admission how next old new l = a.came l.register × AreArrivals how next old new l.arrivals.items × Admits admission l.register l.base
    × AreRetired how next old new l.retired.items

-- the files were all read, and the store does not admit the register
abbrev pub IsUnadmitted : Admission → TakeOptions → ℕ → List FileState → List FileState → Content → CliFault → Type 0
IsUnadmitted admission how next old new x f = (gave : List Arrival) × AreArrivals how next old new gave × IsBarred admission x f

-- it gave none, and no file was read; or they were not all read; or it does not admit the register
abbrev pub IsUnloaded : Around → Admission → TakeOptions → ℕ → List FileState → List FileState → CliFault → Type 0
IsUnloaded a admission how next old new f = (a.none f × (new ≡ old))
    ⊎ ((x : Content) × a.came x × (IsStopped how next old new f ⊎ IsUnadmitted admission how next old new x f))

-- the first register was read, and admitted; the files were joined to it, except those that are left out, which gave the second one;
-- and the rows that changed were written. What the files gave is returned and, where offices are named, the entries that are retired in
-- them
abbrev pub IsTaken : Way → Admission → TakeOptions → ℕ → List FileState → List FileState → TakeEffect → Type 0
IsTaken w admission how next old new t = (z : Content) × (lines : List ℕ) × Admits admission t.before z × Takes how next old new z t.after t.left.items
    × IsDiff t.before t.after lines × w.gave t.before t.after lines × AreRetired how next old new t.retired.items
    × AreArrivals how next old new t.arrivals.items

-- the files were read, and cannot be joined to the admitted register
abbrev pub IsUnjoinable : Admission → TakeOptions → ℕ → List FileState → List FileState → Content → CliFault → Type 0
IsUnjoinable admission how next old new x f = (z : Content) × (gave : List Arrival) × Admits admission x z × AreArrivals how next old new gave
    × CannotJoin how.keep_going z gave f

-- the files were joined, and not everything was written
abbrev pub IsUnwritten : Way → Admission → TakeOptions → ℕ → List FileState → List FileState → Content → CliFault → Type 0
IsUnwritten w admission how next old new x f = (z : Content) × (y : Content) × (lines : List ℕ) × (left : List LeftOut) × Admits admission x z
    × Takes how next old new z y left × IsDiff x y lines × w.failed x y lines f

-- none was read, and no file either; or not all files were; or the register is not admitted; or nothing is joined to it; or the files were
-- joined, and not everything was written
abbrev pub IsUntaken : Way → Admission → TakeOptions → ℕ → List FileState → List FileState → CliFault → Type 0
IsUntaken w admission how next old new f = (w.none f × (new ≡ old))
    ⊎ (((x : Content) × w.came x × (IsStopped how next old new f ⊎ IsUnadmitted admission how next old new x f))
    ⊎ (((x : Content) × w.came x × IsUnjoinable admission how next old new x f)
    ⊎ ((x : Content) × IsUnwritten w admission how next old new x f)))
