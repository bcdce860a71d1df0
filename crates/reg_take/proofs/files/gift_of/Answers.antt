use Rattle.std.proofs.Common.{inl}
use Rattle.reg_take.specs.Files.{file_state}
use Rattle.reg_take.proofs.FileLemmas.{screened_arrival}
use Rattle.reg_take.proofs.files.gift_of.Goals as goal

pub returns-in-Ok-gift_in-clause-arrived : goal.returns-in-Ok-gift_in-clause-arrived
returns-in-Ok-gift_in-clause-arrived g c =
    screened_arrival c.args.options.now c.args.number (file_state (g.S.Source.state c.args.file.now) (g.S.LateSource.shut c.args.file.now))
    (file_state (g.S.Source.state c.read_next.new.file) (g.S.LateSource.shut c.read_next.new.file)) c.in-Ok.part c.in-Ok-gift_in.gift.arrival c.in-Ok.ensures.found
    c.in-Ok-gift_in.ensures.arrival

pub returns-in-Ok-gift_in-clause-retired : goal.returns-in-Ok-gift_in-clause-retired
returns-in-Ok-gift_in-clause-retired g c = inl (c.in-Ok.part, c.in-Ok.ensures.found, c.in-Ok-gift_in.ensures.retired)
