use Rattle.std.proofs.Common.{◌+◌, List, ℕ, [], drop, length-drop, arith, ap, sym, refl, subst, ◌∷◌, ◌∙◌}
use Rattle.std.proofs.lemmas.List.{drop_more, length-map}
use Rattle.wkt_tree.specs.Tree.{Piece}
use Rattle.wkt_compare.specs.Texts.{piece_of, IsCutInto}
use Rattle.reg_desk.specs.ImportFiles.{bytes_of}
use Rattle.reg_desk.proofs.ImportTextLemmas.{cuts_more, cuts_done}
use Rattle.reg_desk.proofs.FirstTextLemmas.{first_here}
use Rattle.reg_desk.proofs.import.first.first_text.Goals as goal

pub loop-file-preserved : goal.loop-file-preserved
loop-file-preserved c =
    let files = c.args.files.now in
    let file = c.loop-file.file in
    let is = ap bytes_of (drop_more files file c.index-files-file.result c.loop-file-test.true) ∙ ap (λ v. v.items ∷ bytes_of (drop (file + 1) files)) (sym c.index-files-file.is) in
    let none = subst (λ (b : List ℕ). IsCutInto b []) c.deref.ensures.value c.in_default.ensures.none in
    cuts_more (bytes_of files) file (bytes_of (drop file files)) (bytes_of (drop (file + 1) files)) c.index-files-file.result.items [] [] [] is none refl c.loop-file.invariant

pub returns-in-Some-clause-some : goal.returns-in-Some-clause-some
returns-in-Some-clause-some c =
    let files = c.args.files.now in
    let file = c.loop-file.file in
    let is = ap bytes_of (drop_more files file c.index-files-file.result c.loop-file-test.true) ∙ ap (λ v. v.items ∷ bytes_of (drop (file + 1) files)) (sym c.index-files-file.is) in
    let begins = subst (λ (b : List ℕ). (later : List Piece) × IsCutInto b (piece_of c.in-Some.cut ∷ later)) c.deref.ensures.value c.in-Some.ensures.some in
    first_here (bytes_of files) file (bytes_of (drop file files)) (bytes_of (drop (file + 1) files)) c.index-files-file.result.items (piece_of c.in-Some.cut) is c.loop-file.invariant begins

pub returns-clause-none : goal.returns-clause-none
returns-clause-none c =
    let rest = drop c.loop-file.file c.args.files.now in
    cuts_done (bytes_of c.args.files.now) c.loop-file.file (bytes_of rest) []
    (length-map rest _ ∙ length-drop c.loop-file.file c.args.files.now ∙ omega (arith, c.loop-file-test.false)) c.loop-file.invariant
