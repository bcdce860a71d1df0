-- One process alone replaces OUT.
use Rattle.std.proofs.Common.{◌≡◌, inl, [], ◌∷◌, Some, refl}
use Rattle.std.proofs.lemmas.Option.{none-some}
use Rattle.byte_system.specs.Disk.{Disk, no_files, Honest, content, after}
use Rattle.byte_protocol.specs.Protocol.{Stage, IsElsewhere, Chains, AreFair, Follows, IsStart, events, sample_job, sample_deeds}
use Rattle.byte_protocol.specs.Cuts.{AreSparing}

start : IsStart sample_job no_files
start = record { two = λ e. cc; apart = λ i e f. cc }

chains : Chains sample_deeds
chains = (((((((((tt, refl), refl), refl), refl), refl), refl), refl), refl), refl)

looks : {s : Stage} {d : Disk} → IsElsewhere sample_job 0 s d d
looks = record {
  at_new = refl;
  at_out = refl;
  content = refl;
  made = λ i m ne e. (e, refl);
  held = λ i m ne e. (e, refl);
  own = λ i e. record { bytes = refl; holder = refl; maker = refl };
}

fair : AreFair sample_job no_files sample_deeds
fair = (((((((((tt, tt), tt), tt), tt), tt), tt), looks), tt), looks)

honest : Honest no_files (events sample_job sample_deeds)
honest =
    (((((((((tt, (refl, record { nameless = λ p e. cc; free = refl; empty = refl; made = refl })), inl refl), refl), tt), tt), refl), refl), refl), tt)

sparing : AreSparing sample_job no_files sample_deeds
sparing = (((((((((tt, λ e. cc), tt), tt), tt), tt), tt), λ i e. absurd (none-some i e)), tt), λ i e. absurd (none-some i e))

pub alone_is_done : IsStart sample_job no_files × Follows sample_job no_files sample_deeds × AreSparing sample_job no_files sample_deeds × (content (after no_files (events sample_job sample_deeds)) sample_job.out ≡ Some (7 ∷ []))
alone_is_done = (start, record { chains = chains; fair = fair; honest = honest }, sparing, refl)
