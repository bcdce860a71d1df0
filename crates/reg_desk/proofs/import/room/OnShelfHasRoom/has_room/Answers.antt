use Rattle.reg_desk.proofs.import.room.OnShelfHasRoom.has_room.Goals as goal

pub returns-in-Ok-clause-fits : goal.returns-in-Ok-clause-fits
returns-in-Ok-clause-fits g c = λ first was same came. c.in-Ok.ensures.fits first.disk.now was same.1 came
