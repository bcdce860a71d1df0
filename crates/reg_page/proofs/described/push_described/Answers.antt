use Rattle.std.proofs.Common.{sym, ◌∙◌, subst, [], ◌∷◌, All}
use Rattle.std.proofs.lemmas.List.Elements.{All-append}
use Rattle.reg_page.specs.Descriptions.{IsDescribed}
use Rattle.reg_page.proofs.DescribeLemmas.{described_here, alone}
use Rattle.reg_page.proofs.described.push_described.Goals as goal

pub returns-clause-each : goal.returns-clause-each
returns-clause-each c =
    let s = c.args.register.now.ops in
    let one = c.in_ok-one.one in
    let here : IsDescribed c.args.rules.now s one =
    described_here c.args.rules.now s c.args.op.now c.id.result c.in-Enter.definition c.as_bytes.result.now one c.requires.there (sym c.body.ensures ∙ c.in-Enter.is) c.id.ensures.value (c.as_bytes.ensures.bytes ∙ c.note.ensures) c.in_ok-one.ensures in
    subst (All (IsDescribed c.args.rules.now s)) (sym c.in_ok-push.ensures.items) (All-append (IsDescribed c.args.rules.now s) c.args.described.now.items (one ∷ []) c.requires.before (alone (IsDescribed c.args.rules.now s) one here))
