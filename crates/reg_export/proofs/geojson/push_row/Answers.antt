use Rattle.std.proofs.Common.{◌≡◌, ◌==◌, ◌++◌, ◌||◌, not, ℕ, List, map, sym, ap, ◌∙◌, subst}
use Rattle.std.specs.Global.{Vec}
use Rattle.crs_export.specs.Features.{listed_behind, are_some}
use Rattle.reg_export.proofs.BeginLemmas.{some_features}
use Rattle.reg_export.proofs.geojson.push_row.Goals as goal
use Rattle.reg_export.proofs.geojson.push_row.Goals.{then-behind, else-behind}

pub returns : goal.returns
returns c =
    let made = c.in_ok-features.features.items in
    let fs = map (λ (f : Vec ℕ). f.items) made in
    let more : c.if-behind.result ≡ (c.args.behind || are_some fs) = elim c.if-behind.branch [
      | then-behind w ↦ w.result-is ∙ w.if-behind.true ∙ sym (ap (λ b. b || are_some fs) w.if-behind.true)
      | else-behind w ↦ w.result-is ∙ ap not (w.is_empty.ensures ∙ ap (λ n. n == 0) c.in_ok-features.features.ok.0) ∙ some_features made ∙ sym (ap (λ b. b || are_some fs) w.if-behind.false)
    ] in (
      fs,
      c.in_ok-features.ensures,
      subst (λ (l : List (Vec ℕ)). c.push_listed.new.text.items ≡ c.args.text.now.items ++ listed_behind c.args.behind (map (λ (f : Vec ℕ). f.items) l)) c.deref.ensures.value
          c.in_ok-push_listed.ensures,
      more,
    )
