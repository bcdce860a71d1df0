use Rattle.std.proofs.Common.{◌≡◌, ⊎_elim}
use Rattle.std.specs.Prelude.{◌⊎◌, Result, Ok, Err}
use Rattle.crs_value.specs.declared.crs.Crs.{Crs}
use Rattle.wkt_crs.specs.declared.fault.ReadFault.{ReadFault}
use Rattle.wkt_crs.specs.declared.fault.ReadFault.TheVariants as fault
use Rattle.wkt_crs.proofs.Texts.{no_slot}
use Rattle.wkt_crs.proofs.canonical.rewritten.Goals as goal

of_fault : (r : Result Crs ReadFault) (f g : ReadFault) → r ≡ Err f → r ≡ Err g → f ≡ g
of_fault r f g e h = cc

of_memory : (r : Result Crs ReadFault) (f : ReadFault) (v : Crs) → r ≡ Err f → (r ≡ Ok v) ⊎ (r ≡ Err fault.Memory) → f ≡ fault.Memory
of_memory r f v e h = ⊎_elim (λ o. absurd (no f v r e o)) (λ m. of_fault r f fault.Memory e m) h
  where
    no : (f : ReadFault) (v : Crs) (r : Result Crs ReadFault) → r ≡ Err f → r ≡ Ok v → ⊥
    no f v r e o = cc

pub returns-in-Err-clause-only : goal.returns-in-Err-clause-only
returns-in-Err-clause-only c = λ v s. of_memory c.read_crs.result c.in-Err.fault v c.in-Err.is (c.read_crs.ensures.only v s)

pub returns-in-Err-clause-slot : goal.returns-in-Err-clause-slot
returns-in-Err-clause-slot c = λ f h. of_fault c.read_crs.result c.in-Err.fault _ c.in-Err.is (c.read_crs.ensures.slot f h)

pub returns-clause-slot : goal.returns-clause-slot
returns-clause-slot c = λ f first. absurd (no_slot c.args.text.now c.in-Ok.crs f c.in-Ok.ensures.found first)
