use Rattle.std.proofs.Common.{◌≤◌, ◌+◌, ℕ, List, length, take, drop, ap, sym, subst, ◌∙◌}
use Rattle.std.proofs.lemmas.List.{take_min}
use Rattle.wkt_explain.specs.Characters.{chars}
use Rattle.wkt_explain.specs.Position.{without_return}
use Rattle.wkt_explain.specs.Walk.{IsSpot}
use Rattle.wkt_explain.proofs.NearLemmas.{spot_line, spot_column, spot_shown}
use Rattle.wkt_explain.proofs.walk.Walk.go.Goals as goal

pub returns-clause-spot : goal.returns-clause-spot
returns-clause-spot c =
    let w = c.near-walk.result in
    let same = c.near-walk.ensures.file in
    let within : c.args.place ≤ length w.file.now = subst (λ (f : List ℕ). c.args.place ≤ length f) (sym same) c.requires in
    let ahead = c.split_at-2.ensures.front ∙ ap (λ n. take n c.split_at.result.1.now) c.min.ensures ∙ take_min 321 c.split_at.result.1.now ∙ ap (take 321) c.split_at.ensures.back in
    subst (λ (f : List ℕ). IsSpot (record { line = w.line; column = w.passed + c.count_chars.result + 1; before = c.text_in-before.result; after = c.without_return.result }) (take c.args.place f) (drop c.args.place f)) same
    (record {
      line = spot_line w.file.now w.place c.args.place w.line c.near-walk.ensures.line w.counted;
      column = spot_column w.file.now w.place c.args.place w.passed c.count_chars.result c.near-walk.ensures.line w.whole w.chars
          (c.count_chars.ensures.count ∙ ap (λ x. length (chars x)) c.text_in-before.ensures);
      shown = spot_shown w.file.now w.place c.args.place w.passed _ _ _ c.near-walk.ensures.line within c.near-walk.ensures.far w.whole w.chars
          c.text_in-before.ensures ahead (c.without_return.ensures ∙ ap without_return c.first_line.ensures);
    })
