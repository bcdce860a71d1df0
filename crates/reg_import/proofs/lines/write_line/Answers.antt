use Rattle.std.proofs.Common.{map, [], ap, ◌∙◌, sym, subst}
use Rattle.std.specs.String.{string_bytes}
use Rattle.crs_value.specs.declared.key.Key.{Key}
use Rattle.reg_import.specs.declared.reading.ReadText.{ReadText}
use Rattle.reg_import.specs.Lines.{IsLineOf, line_fields}
use Rattle.reg_import.proofs.lines.write_line.Goals as goal

pub returns-in_ok-write_named-in-Defined : goal.returns-in_ok-write_named-in-Defined
returns-in_ok-write_named-in-Defined c = (
  line_fields (map string_bytes c.args.names.now) c.args.text.now c.args.told.now c.as_bytes-authority.result.now c.as_bytes-code.result.now c.as_bytes-name.result.now,
  subst (λ (r : ReadText). IsLineOf (map string_bytes c.args.names.now) c.args.text.now c.args.told.now r (line_fields (map string_bytes c.args.names.now) c.args.text.now c.args.told.now c.as_bytes-authority.result.now c.as_bytes-code.result.now c.as_bytes-name.result.now))
      (sym c.in-Defined.is) (
        c.name.ensures.0,
        c.name.ensures.1,
        λ j. line_fields (map string_bytes c.args.names.now) c.args.text.now c.args.told.now ((c.as_bytes-authority.ensures ∙ ap (λ (k : Key). k.authority.bytes) c.get-key.ensures) j) ((c.as_bytes-code.ensures ∙ ap (λ (k : Key). k.code.bytes) c.get-key.ensures) j) ((c.as_bytes-name.ensures ∙ c.name.ensures.2) j),
      ),
  c.in_ok-write_named-in-Defined.ensures,
)

pub returns-in_ok-write_named-in-Unread : goal.returns-in_ok-write_named-in-Unread
returns-in_ok-write_named-in-Unread c = (
  line_fields (map string_bytes c.args.names.now) c.args.text.now c.args.told.now [] [] c.deref.result.now,
  subst (λ (r : ReadText). IsLineOf (map string_bytes c.args.names.now) c.args.text.now c.args.told.now r (line_fields (map string_bytes c.args.names.now) c.args.text.now c.args.told.now [] [] c.deref.result.now))
      (sym c.in-Unread.is) (ap (line_fields (map string_bytes c.args.names.now) c.args.text.now c.args.told.now [] []) c.deref.ensures.value),
  c.in_ok-write_named-in-Unread.ensures,
)
