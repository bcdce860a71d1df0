use Rattle.std.proofs.Common.{ℕ, ◌∷◌, [], ◌++◌, length, None, Some, sym, ap, subst, ◌∙◌, arith}
use Rattle.std.proofs.lemmas.List.{length_push}
use Rattle.reg_op.specs.Ids.{Id}
use Rattle.reg_file.specs.Readers.{ReadsEach, StopsIn, state_after}
use Rattle.reg_file.specs.Reading.{operation, id_after, places_of}
use Rattle.reg_file.specs.declared.op_offset.OpOffset.{OpOffset}
use Rattle.reg_file.proofs.FieldLemmas.{IsBytes}
use Rattle.reg_file.proofs.BodyLemmas.{op_takes}
use Rattle.reg_file.proofs.ListLemmas.{ops_take}
use Rattle.reg_file.proofs.PlaceLemmas.{places-push}
use Rattle.reg_file.proofs.Sequences.{each-push, state-push, stops_at_one}
use Rattle.reg_file.proofs.operations.ops_of.Goals as goal

abbrev place_of : Id → ℕ → OpOffset
place_of id left = record { id = id; left = left }

pub returns-in-Err-clause-err : goal.returns-in-Err-clause-err
returns-in-Err-clause-err c =
    let i = c.loop.invariant in
    stops_at_one (operation c.args.version c.args.seen.now) id_after None c.args.count c.args.bytes.now c.loop.ops.items c.loop.rest.now c.in-Err.stop i.reads (omega (arith, i.counted, c.loop-test.true))
    (subst (λ last. StopsIn (operation c.args.version c.args.seen.now last) c.loop.rest.now c.in-Err.stop) i.last_is c.in-Err.ensures.err)

pub loop-preserved : goal.loop-preserved
loop-preserved c =
    let i = c.loop.invariant in
    let o = c.in-Ok.read.0 in
    let rest = c.in-Ok.read.1.now in
    let os = c.loop.ops.items in
    let fits : IsBytes c.args.bytes.now = λ k. omega (arith, c.type_inv.bytes k) in
    let before = ops_take c.args.version c.args.seen.now None c.args.bytes.now os c.loop.rest.now fits i.reads in
    let taken = op_takes c.args.version c.loop.last c.args.seen.now c.loop.rest.now o rest before.takes.rest_fits c.in-Ok.ensures.ok in
    let pushed = c.in_ok-push-2.ensures.items in
    record {
      reads = subst (λ xs. ReadsEach (operation c.args.version c.args.seen.now) id_after None c.args.bytes.now xs rest) (sym pushed)
          (each-push (operation c.args.version c.args.seen.now) id_after None c.args.bytes.now os c.loop.rest.now o rest i.reads (subst (λ last. (operation c.args.version c.args.seen.now last).Reads c.loop.rest.now o rest) i.last_is c.in-Ok.ensures.ok));
      last_is = ap Some c.id-id.ensures.value ∙ sym (state-push (operation c.args.version c.args.seen.now) id_after None os o) ∙ ap (state_after id_after None) (sym pushed);
      places_are = c.in_ok-push.ensures.items
          ∙ (λ k. i.places_are k ++ place_of (c.id-id.ensures.value k) (length c.loop.rest.now) ∷ [])
          ∙ (λ k. places_of c.args.version os (taken.takes.parts k) ++ place_of o.id (length (taken.takes.parts k)) ∷ [])
          ∙ sym (places-push c.args.version os o rest)
          ∙ ap (λ xs. places_of c.args.version xs rest) (sym pushed);
      counted = ap length pushed ∙ (let l = length_push os o in omega (arith, l, i.counted));
    }
