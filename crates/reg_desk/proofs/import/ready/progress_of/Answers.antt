use Rattle.reg_desk.specs.ImportFiles.{bytes_of}
use Rattle.reg_desk.proofs.import.ready.progress_of.Goals as goal

pub returns : goal.returns
returns c = c.in_ok-progress.ensures c.args.register.now (c.in_ok-begun.ensures.come (bytes_of c.args.files.now)) c.in_ok-begun.ensures.ends
