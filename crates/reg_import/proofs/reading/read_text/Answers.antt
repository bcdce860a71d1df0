use Rattle.reg_import.proofs.reading.read_text.Goals as goal

pub returns-in_ok-key-in-Ok : goal.returns-in_ok-key-in-Ok
returns-in_ok-key-in-Ok c = (c.in-Ok.ensures.ok, c.in-Ok.ensures.is, c.in_ok-key-in-Ok.ensures)
