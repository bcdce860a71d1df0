use Rattle.std.proofs.Common.{[], ◌∷◌, ◌++◌, map, ap, sym, ◌∙◌, if◌then◌else◌, append-nil}
use Rattle.std.proofs.lemmas.List.{map-append}
use Rattle.reg_disorder.specs.Marks.{mark_seen}
use Rattle.reg_news.specs.Codes.{code_seen}
use Rattle.reg_news.proofs.codes.push_told.Goals as goal

pub returns : goal.returns
returns c = λ live.
    let told = c.if-not-told.false in
    let one = mark_seen c.args.mark.now ∷ [] in
    ap (map code_seen) c.in_ok-push.ensures.items ∙ map-append code_seen c.args.made.now.items (c.in_ok-code.code ∷ [])
    ∙ ap (λ m. map code_seen c.args.made.now.items ++ m ∷ []) (c.in_ok-code.ensures (live told))
    ∙ sym (ap (λ b. map code_seen c.args.made.now.items ++ (if b then one else [])) told)
