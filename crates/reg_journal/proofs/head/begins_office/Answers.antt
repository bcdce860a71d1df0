use Rattle.std.proofs.Common.{◌≡◌, ◌∙◌, ◌++◌, List, ℕ, drop, length, sym, ap}
use Rattle.std.proofs.lemmas.Bool.Decides.{Decides-eqb}
use Rattle.std.proofs.lemmas.Slice.Eq.{starts_is}
use Rattle.reg_journal.specs.declared.head.Head.{Head}
use Rattle.reg_journal.specs.Text.{head_text, BeginsOffice, IsHead}
use Rattle.reg_journal.proofs.LineLemmas.{same_head}
use Rattle.reg_journal.proofs.head.begins_office.Goals as goal

after_head : (text file rest : List ℕ) (g : Head) → IsHead g → text ≡ head_text g ++ rest → BeginsOffice file text → (back : List ℕ) × (rest ≡ file ++ back)
after_head text file rest g ig e (h, back, ih, k) = (back, (same_head g h rest (file ++ back) ig ih (sym e ∙ k)).1)

pub returns-in-Some : goal.returns-in-Some
returns-in-Some c =
    let found = c.in-Some.ensures.found in
    let starts = starts_is Decides-eqb c.in-Some.rest.now c.args.file.now c.starts_with.result c.starts_with.ensures.value in (
      λ is. (c.in-Some.field-0-0, drop (length c.args.file.now) c.in-Some.rest.now, found.1, found.0 ∙ ap (λ (t : List ℕ). head_text c.in-Some.field-0-0 ++ t) (starts.0 is)),
      λ begins. let back = after_head c.args.text.now c.args.file.now c.in-Some.rest.now c.in-Some.field-0-0 found.1 found.0 begins in starts.1 back.0 back.1,
    )
