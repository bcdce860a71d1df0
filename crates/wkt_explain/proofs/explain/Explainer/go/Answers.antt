use Rattle.std.proofs.Common.{◌-◌, ◌<◌, ◌≤◌, ℕ, true, false, List, take, drop, sym, subst, ◌∙◌, arith}
use Rattle.wkt_explain.specs.Position.{behind_mark}
use Rattle.wkt_explain.specs.Walk.{IsSpot}
use Rattle.wkt_explain.proofs.MarkLemmas.{spot_kept, spot_within, spot_cut}
use Rattle.wkt_explain.proofs.explain.Explainer.go.Goals as goal

pub returns-then-not-begins_mark-clause-spot : goal.returns-then-not-begins_mark-clause-spot
returns-then-not-begins_mark-clause-spot c =
    subst (λ (f : List ℕ). IsSpot c.go.result (behind_mark (take c.args.place f)) (drop c.args.place f)) c.self.view_is
    (spot_kept c.go.result c.args.place c.self.inside.file.now c.self.inside.walk.file.now (sym c.begins_mark.ensures ∙ c.if-not-begins_mark.true) c.self.inside.behind c.go.ensures.spot)

pub returns-then-place-lt-MARK-clause-spot : goal.returns-then-place-lt-MARK-clause-spot
returns-then-place-lt-MARK-clause-spot c =
    let within : c.args.place < 3 = omega (arith, c.if-place-lt-MARK.true) in
    subst (λ (f : List ℕ). IsSpot c.go-then-place-lt-MARK.result (behind_mark (take c.args.place f)) (drop c.args.place f)) c.self.view_is
    (spot_within c.go-then-place-lt-MARK.result c.args.place c.self.inside.file.now within
    (subst (λ (f : List ℕ). IsSpot c.go-then-place-lt-MARK.result (take c.args.place f) (drop c.args.place f)) c.new-walk.ensures.file c.go-then-place-lt-MARK.ensures.spot))

pub returns-clause-spot : goal.returns-clause-spot
returns-clause-spot c =
    let behind : 3 ≤ c.args.place = omega (arith, c.if-place-lt-MARK.false) in
    subst (λ (f : List ℕ). IsSpot c.go-2.result (behind_mark (take c.args.place f)) (drop c.args.place f)) c.self.view_is
    (spot_cut c.go-2.result c.args.place c.self.inside.file.now c.self.inside.walk.file.now (sym c.begins_mark.ensures ∙ c.if-not-begins_mark.false) behind c.self.inside.behind c.go-2.ensures.spot)
