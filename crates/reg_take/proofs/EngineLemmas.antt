-- What keeps a register from being loaded, as what keeps a take from its end.
use Rattle.std.proofs.Common.{◌≡◌, ◌≢◌, ◌⊎◌, ◌↔◌, ℕ, Bool, false, List, inl, inr}
use Rattle.std.specs.Prelude.{IsTrue}
use Rattle.std.proofs.lemmas.Bool.{both_ways as never}
use Rattle.byte_io.specs.Device.{SinkState}
use Rattle.reg_file.specs.Files.{IsTooLarge}
use Rattle.reg_op.specs.Contents.{Content}
use Rattle.reg_engine.specs.declared.fault.CliFault.{CliFault}
use Rattle.reg_engine.specs.Store.{Around, Admission, AreCut}
use Rattle.reg_take.specs.declared.options.TakeOptions.{TakeOptions}
use Rattle.reg_take.specs.Files.{FileState}
use Rattle.reg_take.specs.Engines.{Way, IsUnloaded, IsUntaken, IsUnfit}

-- where nothing was written, what keeps the register from being loaded keeps the command from its end
pub unloaded : (w : Way) (a : Around) (admission : Admission) (how : TakeOptions) (next : ℕ) (old new : List FileState) (f : CliFault) → ((g : CliFault) → a.none g → w.none g)
    → ((x : Content) → a.came x → w.came x) → IsUnloaded a admission how next old new f → IsUntaken w admission how next old new f
unloaded w a admission how next old new f none came (inl (h, same)) = inl (none f h, same)
unloaded w a admission how next old new f none came (inr (x, h, why)) = inr (inl (x, came x h, why))

-- the register is the loaded one, or a file can have it
pub same_or_fits : (x y : Content) (s : Bool) → (IsTrue s ↔ (y ≡ x)) → (IsTrue s ⊎ (¬ (IsTooLarge y))) → (y ≡ x) ⊎ (¬ (IsTooLarge y))
same_or_fits x y s h (inl t) = inl (h.0 t)
same_or_fits x y s h (inr n) = inr n

-- it is another one, and no file can have it; or the lines are cut
pub unfit_or_cut : (x y : Content) (s : Bool) (lines : List ℕ) (before after : SinkState) (f : CliFault) → (IsTrue s ↔ (y ≡ x))
    → (((s ≡ false) × IsUnfit y f × (after ≡ before)) ⊎ AreCut lines before after f) → ((y ≢ x) × IsUnfit y f × (after ≡ before)) ⊎ AreCut lines before after f
unfit_or_cut x y s lines before after f h (inl (e, u, n)) = inl (λ same. never s e (h.1 same), u, n)
unfit_or_cut x y s lines before after f h (inr c) = inr c
