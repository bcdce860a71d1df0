use Rattle.std.proofs.Common.{◌+◌, List, ℕ, drop, length-drop, arith, ap, sym, subst, ◌∷◌, ◌∙◌}
use Rattle.std.proofs.lemmas.List.{drop_more, length-map}
use Rattle.reg_desk.specs.ImportFiles.{bytes_of}
use Rattle.reg_desk.specs.ImportProgress.{FileCome}
use Rattle.reg_desk.proofs.ImportTextLemmas.{next_file, ends_given, none_before, all_given, content_at}
use Rattle.reg_desk.proofs.import.texts.take_texts.Goals as goal

pub loop-file-init : goal.loop-file-init
loop-file-init c = λ x h goes. none_before c.args.options.now x (bytes_of c.args.files.now) c.args.progress h goes

pub loop-file-preserved : goal.loop-file-preserved
loop-file-preserved c = λ x h goes.
    let o = c.args.options.now in
    let files = c.args.files.now in
    let file = c.loop-file.file in
    let v = c.index-files-file.result in
    let behind = drop_more files file v c.loop-file-test.true ∙ ap (λ w. w ∷ drop (file + 1) files) (sym c.index-files-file.is) in
    let s = c.loop-file.invariant x h goes in
    let new = c.in_ok-progress.progress in
    let r = subst (λ (b : List ℕ). FileCome o x (bytes_of files) file b s.cuts s.texts s.ts new) c.deref.ensures.value
    (c.in_ok-progress.ensures x (bytes_of files) s.cuts s.texts s.ts s.come (c.deref.ensures.value ∙ content_at files file v (drop (file + 1) files) behind) s.goes) in
    next_file o x (bytes_of files) file (bytes_of (drop file files)) (bytes_of (drop (file + 1) files)) v.items c.loop-file.progress new (ap bytes_of behind) s r c.if-progress.false

pub returns-then-progress : goal.returns-then-progress
returns-then-progress c = λ x h goes.
    let o = c.args.options.now in
    let files = c.args.files.now in
    let file = c.loop-file.file in
    let v = c.index-files-file.result in
    let behind = drop_more files file v c.loop-file-test.true ∙ ap (λ w. w ∷ drop (file + 1) files) (sym c.index-files-file.is) in
    let s = c.loop-file.invariant x h goes in
    let new = c.in_ok-progress.progress in
    let r = subst (λ (b : List ℕ). FileCome o x (bytes_of files) file b s.cuts s.texts s.ts new) c.deref.ensures.value
    (c.in_ok-progress.ensures x (bytes_of files) s.cuts s.texts s.ts s.come (c.deref.ensures.value ∙ content_at files file v (drop (file + 1) files) behind) s.goes) in
    ends_given o x (bytes_of files) file (bytes_of (drop file files)) (bytes_of (drop (file + 1) files)) v.items c.loop-file.progress new (ap bytes_of behind) s r c.if-progress.true

pub returns : goal.returns
returns c = λ x h goes.
    let rest = drop c.loop-file.file c.args.files.now in
    all_given c.args.options.now x (bytes_of c.args.files.now) c.loop-file.file (bytes_of rest) c.loop-file.progress
    (length-map rest _ ∙ length-drop c.loop-file.file c.args.files.now ∙ omega (arith, c.loop-file-test.false)) (c.loop-file.invariant x h goes)
