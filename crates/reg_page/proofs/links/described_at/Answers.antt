use Rattle.std.proofs.Common.{rules}
use Rattle.std.proofs.lemmas.List.Sorted.{answers_always}
use Rattle.reg_page.specs.declared.described.Described.{Described}
use Rattle.reg_page.proofs.FindLemmas.{found_at, none_at}
use Rattle.reg_page.proofs.links.described_at.Goals as goal

pub returns-in-Ok : goal.returns-in-Ok
returns-in-Ok c =
    let found = c.in-Ok.ensures.position (λ (t : Described). t.id) (answers_always _ _ _ (λ f a r g h. search rules)) in
    found_at c.args.described.now c.in-Ok.place c.index-described-place.result c.args.id c.requires c.in-Ok.ensures.bound c.index-described-place.is found

pub returns-in-Err : goal.returns-in-Err
returns-in-Err c =
    let point = c.in-Err.ensures.position (λ (t : Described). t.id) (answers_always _ _ _ (λ f a r g h. search rules)) in
    none_at c.args.described.now c.args.id c.in-Err.field-0 c.requires point
