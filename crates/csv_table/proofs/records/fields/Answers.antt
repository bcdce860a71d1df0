use Rattle.std.proofs.Common.{◌≡◌, ◌∙◌, Bor, List, ℕ, [], ◌∷◌, ap, rules, true}
use Rattle.std.specs.Result.{is_ok}
use Rattle.std.proofs.lemmas.List.{map-append}
use Rattle.csv.specs.Records.{Row, fields_of, field_at}
use Rattle.csv_table.proofs.FieldLemmas.{took, ended}
use Rattle.csv_table.proofs.records.fields.Goals as goal

pub loop-field-preserved : goal.loop-field-preserved
loop-field-preserved c =
    let inv = c.loop-field.invariant in
    let s = rw c.in-Some.is at c.next.ensures.steps in
    let good : is_ok c.push.result ≡ true = search rules in
    let items = rw good at c.push.ensures.items in
    let at_row = s.1 ∙ ap (λ (r : Row). field_at (fields_of r) c.loop-field.field-iterator.at) inv.0 in (
      ap (λ (r : Bor Row). r.now) s.0 ∙ inv.0,
      rw (items, map-append (λ (field : Bor (List ℕ)). field.now) c.loop-field.made.items (c.in-Some.field ∷ []), s.2) (took _ _ _ _ _ inv.1 at_row),
    )

pub returns : goal.returns
returns c =
    let inv = c.loop-field.invariant in
    let s = rw c.in-None.is at c.next.ensures.steps in
    ended _ _ _ _ inv.1 (s.1 ∙ ap (λ (r : Row). field_at (fields_of r) c.loop-field.field-iterator.at) inv.0)
