use Rattle.std.proofs.Common.{◌≡◌, ◌+◌, ◌++◌, ◌∷◌, [], rules, arith, inl, inr, ap, ◌∙◌}
use Rattle.std.proofs.lemmas.List.{map_push, length-map}
use Rattle.reg_desk.specs.ImportFiles.{bytes_of}
use Rattle.reg_desk.proofs.ImportFileLemmas.{gave_next, runs_out_yet, none_fails_yet, unread_next, behind}
use Rattle.reg_desk.proofs.import.files.read_files.Goals as goal

pub returns-in_default-clause-fault : goal.returns-in_default-clause-fault
returns-in_default-clause-fault g c =
    let was = c.loop-i.invariant in
    inr (
      none_fails_yet g.F.Source.state c.args.files.now c.loop-i.files c.loop-i.i (bytes_of c.loop-i.all.items) was.size was.front was.back,
      omega (arith, length-map c.args.files.now g.F.Source.state, c.in_default.ensures, c.loop-i-test.true),
    )

pub returns-in-Err-whole_file-clause-fault : goal.returns-in-Err-whole_file-clause-fault
returns-in-Err-whole_file-clause-fault g c =
    let was = c.loop-i.invariant in
    let at : c.in-Some.number ≡ c.args.first + c.loop-i.i = search rules in
    unread_next g.F.Source.state c.args.files.now c.loop-i.files c.args.first c.loop-i.i c.in-Some.number c.index-files-i.result c.whole_file.new.file (bytes_of c.loop-i.all.items)
    c.loop-i-test.true was.size was.front was.back at c.in-Err-whole_file.fault c.in-Err-whole_file.ensures.fault

pub returns-in-Err-clause-fault : goal.returns-in-Err-clause-fault
returns-in-Err-clause-fault g c =
    let was = c.loop-i.invariant in
    inl (runs_out_yet g.F.Source.state c.args.files.now c.loop-i.files c.loop-i.i (bytes_of c.loop-i.all.items) c.loop-i-test.true was.size was.front was.back)

pub loop-i-preserved : goal.loop-i-preserved
loop-i-preserved g c =
    let was = c.loop-i.invariant in
    let pushed : c.push_reserved.new.self.items ≡ c.loop-i.all.items ++ c.in-Ok.bytes ∷ [] = cc (c.push_reserved.ensures.items, c.reserve.ensures.items) in
    record {
      front = gave_next g.F.Source.state c.args.files.now c.loop-i.files c.loop-i.i c.index-files-i.result c.whole_file.new.file (bytes_of c.loop-i.all.items) (bytes_of c.push_reserved.new.self.items) c.in-Ok.bytes.items
          c.loop-i-test.true was.size was.front was.back c.in-Ok.ensures.gives (ap bytes_of pushed ∙ map_push _ c.loop-i.all.items c.in-Ok.bytes);
      back = behind g.F.Source.state c.args.files.now c.loop-i.files c.loop-i.i c.whole_file.new.file was.size was.back;
      size = search rules;
    }
