use Rattle.std.proofs.Common.{◌≡◌, ◌∷◌, ◌+◌, map, ap, sym, subst, rules}
use Rattle.byte_io.specs.Publish.{IsPublishFault}
use Rattle.byte_folder.specs.Folder.{seen}
use Rattle.byte_folder.specs.Put.{IsAddFault}
use Rattle.byte_folder.specs.declared.fault.FolderFault.TheVariants as put
use Rattle.byte_folder.proofs.PutLemmas.{loop_more, loop_cut}
use Rattle.byte_folder.proofs.putting.add_files.Goals as goal

pub returns-in-Err-WriteFailed-clause-fault : goal.returns-in-Err-WriteFailed-clause-fault
returns-in-Err-WriteFailed-clause-fault g c =
    let split : c.loop-file.rest.now ≡ c.in-Some.file.now ∷ c.in-Some.others.now = search rules in
    let mid = g.P.FolderPlace.state c.loop-file.place in
    let new = g.P.FolderPlace.state c.add.new.self in
    let failed = subst (IsPublishFault c.deref-in-Some.result.now mid.sink new.sink) c.in-Err-WriteFailed.field-0-is c.in-Err-WriteFailed.ensures.fault in
    subst (λ n. IsAddFault (map seen c.args.files.now) (g.P.FolderPlace.state c.args.place.now) new (put.WriteFailed (c.loop-file.written + n))) (sym c.in-Err-WriteFailed.n-is)
    (loop_cut (map seen c.args.files.now) (map seen c.loop-file.rest.now) (map seen c.in-Some.others.now) (seen c.in-Some.file.now) _ _ c.loop-file.written c.in-Err-WriteFailed.n _ mid new
    c.loop-file.invariant (ap (map seen) split) c.deref.ensures.value c.deref-in-Some.ensures.value failed c.in-Err-WriteFailed.ensures.folders)

pub loop-file-preserved : goal.loop-file-preserved
loop-file-preserved g c =
    let split : c.loop-file.rest.now ≡ c.in-Some.file.now ∷ c.in-Some.others.now = search rules in
    loop_more (map seen c.args.files.now) (map seen c.loop-file.rest.now) (map seen c.in-Some.others.now) (seen c.in-Some.file.now) _ _ c.loop-file.written _ _
    (g.P.FolderPlace.state c.loop-file.place) (g.P.FolderPlace.state c.add.new.self)
    c.loop-file.invariant (ap (map seen) split) c.deref.ensures.value c.deref-in-Some.ensures.value (let l = c.len-written.ensures in let m = c.deref-in-Some.ensures.len in cc) c.in-Ok.ensures.ok c.in-Ok.ensures.folders
