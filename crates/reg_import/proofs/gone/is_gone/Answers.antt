use Rattle.std.proofs.Common.{◌↔◌, refl, sym, ap, ◌∙◌, subst}
use Rattle.std.specs.Prelude.{IsTrue, Contains}
use Rattle.crs_value.specs.declared.key.Key.{Key}
use Rattle.crs_value.specs.Parts.{IsAlike}
use Rattle.reg_report.specs.Conflicts.{bytes_of}
use Rattle.reg_report.specs.Seen.{row_seen}
use Rattle.reg_import.proofs.GoneLemmas.{is_of_another, is_of_it}
use Rattle.reg_import.proofs.gone.is_gone.Goals as goal

pub returns-then-not-is_alike : goal.returns-then-not-is_alike
returns-then-not-is_alike c = λ texts has.
    let key = c.in_ok-key.key in
    is_of_another c.args.authority.now texts (row_seen c.args.row.now) (bytes_of key) (key, c.in_ok-key.ensures, refl) c.is_alike.result
    (subst (λ a. IsTrue c.is_alike.result ↔ IsAlike c.args.authority.now a) (c.as_bytes.ensures ∙ ap (λ (k : Key). k.authority.bytes) c.get.ensures) c.is_alike.ensures) c.if-not-is_alike.true

pub returns : goal.returns
returns c = λ texts has.
    let key = c.in_ok-key.key in
    is_of_it c.args.authority.now texts (row_seen c.args.row.now) (bytes_of key) (key, c.in_ok-key.ensures, refl) c.is_alike.result c.contains.result
    (sym c.stands.ensures ∙ c.if-not-stands.false)
    (subst (λ a. IsTrue c.is_alike.result ↔ IsAlike c.args.authority.now a) (c.as_bytes.ensures ∙ ap (λ (k : Key). k.authority.bytes) c.get.ensures) c.is_alike.ensures) c.if-not-is_alike.false
    (subst (λ b. IsTrue b ↔ Contains texts (bytes_of key)) (sym c.contains.ensures) (has (record { key = key })))
