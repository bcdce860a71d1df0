use Rattle.std.proofs.Common.{ℕ, List, [], ◌∷◌, ◌++◌, None, map, refl, sym, ap, ◌∙◌, subst}
use Rattle.std.specs.Global.{Vec}
use Rattle.reg_export.specs.KeyFiles.{lower}
use Rattle.reg_export.specs.Twins.{with_name, with_note, Tells}
use Rattle.reg_export.proofs.TwinLemmas.{nothing_held, nothing_told, told_more, more_done, all_done}
use Rattle.reg_export.proofs.twins.notes_of.Goals as goal
use Rattle.reg_texts.proofs.NamedLemmas.{nothing_left}

abbrev bytes : Vec ℕ → List ℕ
bytes n = n.items

pub loop-name-init : goal.loop-name-init
loop-name-init c = ([], refl, ((λ _. None), nothing_held c.new-made.result c.new-made.ensures.empty, nothing_told))

pub loop-name-preserved : goal.loop-name-preserved
loop-name-preserved c =
    let n = bytes c.in-Some.name.now in
    let done = c.loop-name.invariant.0 in
    let at = c.loop-name.invariant.2.0 in
    let low = c.in_ok-low.low.items in
    let name = c.deref-in-Some.result.now in
    let keyed = sym (c.in_ok-low.ensures.ok ∙ ap lower c.deref.ensures.value) in
    let first = ap (map bytes) c.in-Some.ensures.cases.0 in (
      done ++ n ∷ [],
      more_done (map bytes c.args.names.now) done (map bytes c.loop-name.rest.now) (map bytes c.in-Some.others.now) n c.loop-name.invariant.1 first,
      (
        with_note low (with_name name (at low)) at,
        c.in_ok-put_name.ensures at c.loop-name.invariant.2.1,
        told_more done n at low name keyed (sym c.deref-in-Some.ensures.value) c.loop-name.invariant.2.2,
      ),
    )

pub returns : goal.returns
returns c =
    let at = c.loop-name.invariant.2.0 in
    let whole = all_done (map bytes c.args.names.now) c.loop-name.invariant.0 (map bytes c.loop-name.rest.now) c.loop-name.invariant.1 (nothing_left bytes c.loop-name.rest.now c.in_default.ensures.cases) in
    (at, c.loop-name.invariant.2.1, λ k. subst (λ l. Tells l k (at k)) (sym whole) (c.loop-name.invariant.2.2 k))
