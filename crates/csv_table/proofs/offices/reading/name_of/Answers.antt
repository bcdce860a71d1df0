use Rattle.std.proofs.Common.{◌∙◌, ap, length, ◌++◌}
use Rattle.uuid.proofs.TextLemmas.{by_index_length}
use Rattle.csv_table.proofs.offices.reading.name_of.Goals as goal

pub invariant_of-result : goal.invariant_of-result
invariant_of-result c = record { long = ap length (c.in_ok-extend_from_slice.ensures.items ∙ ap (λ l. l ++ c.as_bytes.result.now) c.new-printed.ensures.items ∙ c.as_bytes.ensures.value ∙ c.encode_lower-text.ensures.text) ∙ by_index_length 36 _ }
