use Rattle.std.proofs.Common.{map, inl, inr, refl, subst}
use Rattle.byte_folder.specs.Folder.{seen}
use Rattle.byte_folder.specs.Put.{Puts}
use Rattle.reg_export.specs.Into.{IsNotOut}
use Rattle.reg_export.proofs.into.run_into.Goals as goal

pub returns-in-Err-handed-clause-fault : goal.returns-in-Err-handed-clause-fault
returns-in-Err-handed-clause-fault g c = inr (c.in-Ok.register, c.in-Ok.ensures.came, inl (c.in-Err-handed.ensures.fault, refl))

pub returns-in-Ok-put_files-clause-put : goal.returns-in-Ok-put_files-clause-put
returns-in-Ok-put_files-clause-put g c =
    let old = g.F.FolderPlace.state c.args.place.now in
    let new = g.F.FolderPlace.state c.put_files.new.place in (
      c.in-Ok.register,
      c.in-Ok.ensures.came,
      (
        map seen c.in-Ok-handed.handed.files.items,
        c.in-Ok-handed.ensures.ok,
        subst (λ l. Puts (map seen l) old new) c.deref.ensures.value c.in-Ok-put_files.ensures.ok,
      ),
    )

pub returns-clause-fault : goal.returns-clause-fault
returns-clause-fault g c =
    let old = g.F.FolderPlace.state c.args.place.now in
    let new = g.F.FolderPlace.state c.put_files.new.place in
    inr (
      c.in-Ok.register,
      c.in-Ok.ensures.came,
      inr (
        c.in-Ok-handed.handed.left,
        map seen c.in-Ok-handed.handed.files.items,
        c.in-Ok-handed.ensures.ok,
        subst (λ l. IsNotOut (map seen l) old new c.in-Err-put_files.fault) c.deref.ensures.value c.in-Err-put_files.ensures.fault,
      ),
    )
