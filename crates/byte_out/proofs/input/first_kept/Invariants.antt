use Rattle.std.proofs.Common.{◌≡◌, drop, map}
use Rattle.byte_out.specs.Input.{kept_of, first_kept}
use Rattle.byte_out.proofs.input.first_kept.Given as goal

-- the first kept bytes of the remaining sources are the first kept bytes of all sources
abbrev pub invariant-loop-source : goal.invariant-loop-source
invariant-loop-source g l =
    first_kept (map (λ s. kept_of (g.S.Input.keeps s) (g.S.Source.state s)) (drop l.source-index l.sources)) ≡ first_kept (map (λ s. kept_of (g.S.Input.keeps s) (g.S.Source.state s)) l.fn.sources)
