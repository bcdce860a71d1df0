-- The laws of commands that change a register.
use Rattle.std.specs.Prelude.{ℕ, List, refl}
use Rattle.std.proofs.Common.{sym, subst}
use Rattle.byte_io.specs.Device.{SourceState}
use Rattle.wkt_crs.specs.declared.fault.Unspelled.TheVariants as unspelled
use Rattle.wkt_crs.specs.declared.definition.DefinitionFault.TheVariants as undefined
use Rattle.wkt_crs.specs.declared.source.DefineFromFault.{DefineFromFault}
use Rattle.wkt_crs.specs.declared.source.DefineFromFault.TheVariants as define
use Rattle.wkt_crs.specs.Source.{IsDefineFromFault}
use Rattle.reg_op.specs.Contents.{Content}
use Rattle.reg_engine.specs.declared.fault.CliFault.{CliFault}
use Rattle.reg_engine.specs.Fault.{definition_fault}
use Rattle.reg_commands.specs.Change.{CannotDefine, CannotEnter}

-- a text that gives no definition enters nothing, whatever the register is
pub cannot_define : (replica note : List ℕ) (number : ℕ) (old new : SourceState) (x : Content) (f : DefineFromFault) → IsDefineFromFault old new f
    → CannotEnter replica note number old new x (definition_fault number f)
cannot_define replica note number old new x (define.ReadFailed n) h = (refl, h)
cannot_define replica note number old new x (define.Refused (undefined.Read (unspelled.Text f))) h = h
cannot_define replica note number old new x (define.Refused (undefined.Read (unspelled.Slot f))) h = h
cannot_define replica note number old new x (define.Refused (undefined.Read (unspelled.Broken condition place))) h = h
cannot_define replica note number old new x (define.Refused undefined.NoIdentifier) (v, finds, none) = (v, finds, none)
cannot_define replica note number old new x (define.Refused undefined.CanonicalTooLong) (v, finds, some, long) = (v, finds, (some, long))
cannot_define replica note number old new x (define.Refused undefined.NotCanonical) h = absurd h
cannot_define replica note number old new x (define.Refused undefined.Memory) h = h

pub undefined_is_unentered : (replica note : List ℕ) (number : ℕ) (old new : SourceState) (x : Content) (f : CliFault) → CannotDefine number old new f
    → CannotEnter replica note number old new x f
undefined_is_unentered replica note number old new x f (g, is, e) = subst (CannotEnter replica note number old new x) (sym e) (cannot_define replica note number old new x g is)
