use Rattle.std.proofs.Common.{List, [], ℕ, map, sym, ap, ◌∙◌, subst}
use Rattle.std.specs.Borrow.{Bor}
use Rattle.reg_supersede.specs.Lists.{rows_if, pairs_of, lacking, RefusesFor}
use Rattle.reg_supersede.specs.Effects.{task_of, after, AddsFor, IsAddFault}
use Rattle.reg_supersede.proofs.WordLemmas.{refuses_word, adds_some, refuses_pairs, some_words}
use Rattle.reg_supersede.proofs.list.allowed_for.Goals as goal

pub returns-in-Err-clause-fault : goal.returns-in-Err-clause-fault
returns-in-Err-clause-fault c = λ refusal.
    let t = task_of c.args.options.now in
    let y = after t c.args.options.now.register.now c.args.effects.now.bodies.items in
    let e = ap (map (λ (w : Bor (List ℕ)). w.now)) c.in-Some.ensures.cases.0 in
    let f = c.in-Err.ensures.fault (rows_if c.args.options.now.keys c.args.options.now.register.now) c.requires.index in
    subst (λ ws. RefusesFor t y ws c.in-Err.fault) (sym e) (refuses_word t y _ _ c.in-Err.fault f.0 f.1 f.2 f.3)

pub returns-in-Ok-pairs_to_add-clause-adds : goal.returns-in-Ok-pairs_to_add-clause-adds
returns-in-Ok-pairs_to_add-clause-adds c =
    let t = task_of c.args.options.now in
    let x = c.args.options.now.register.now in
    let bs = c.args.effects.now.bodies.items in
    let e = ap (map (λ (w : Bor (List ℕ)). w.now)) c.in-Some.ensures.cases.0 in
    let rs = rows_if c.args.options.now.keys c.args.options.now.register.now in
    let pairs = c.deref-3.ensures.value ∙ c.in-Ok-pairs_of.ensures ∙ (λ j. pairs_of (c.deref.ensures.value j) (c.deref-2.ensures.value j)) in
    subst (λ ws. AddsFor t x bs ws c.in-Ok-pairs_to_add.added.items) (sym e)
    (adds_some t x bs _ _ c.in-Ok.entries.olds.items c.in-Ok.entries.newer.items c.in-Ok-pairs_to_add.added.items (some_words (λ (w : Bor (List ℕ)). w.now) c.in-Some.others.now c.if-is_empty.ensures) (c.in-Ok.ensures.olds rs c.requires.index) (c.in-Ok.ensures.newer rs c.requires.index)
    (c.in-Ok-pairs_to_add.ensures.lacking ∙ ap (lacking (after t x bs).ops []) pairs) c.in-Ok-pairs_to_add.ensures.allowed)

pub returns-clause-fault : goal.returns-clause-fault
returns-clause-fault c = λ refusal.
    let t = task_of c.args.options.now in
    let x = c.args.options.now.register.now in
    let y = after t x c.args.effects.now.bodies.items in
    let e = ap (map (λ (w : Bor (List ℕ)). w.now)) c.in-Some.ensures.cases.0 in
    let rs = rows_if c.args.options.now.keys c.args.options.now.register.now in
    let pairs = c.deref-3.ensures.value ∙ c.in-Ok-pairs_of.ensures ∙ (λ j. pairs_of (c.deref.ensures.value j) (c.deref-2.ensures.value j)) in
    subst (λ ws. RefusesFor t y ws c.in-Err-pairs_to_add.fault) (sym e)
    (refuses_pairs t y _ _ c.in-Ok.entries.olds.items c.in-Ok.entries.newer.items c.in-Err-pairs_to_add.fault (some_words (λ (w : Bor (List ℕ)). w.now) c.in-Some.others.now c.if-is_empty.ensures) (c.in-Ok.ensures.olds rs c.requires.index) (c.in-Ok.ensures.newer rs c.requires.index)
    (subst (λ ps. IsAddFault t y (lacking y.ops [] ps) c.in-Err-pairs_to_add.fault) pairs c.in-Err-pairs_to_add.ensures.fault) refusal)
