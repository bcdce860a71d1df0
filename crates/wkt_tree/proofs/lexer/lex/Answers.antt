use Rattle.std.proofs.Common.{sym, subst, ◌+◌}
use Rattle.wkt_tree.specs.Tokens.{Blanks}
use Rattle.wkt_tree.proofs.Lexemes.{some_blanks, lexes_after}
use Rattle.wkt_tree.proofs.lexer.lex.Goals as goal

pub returns : goal.returns
returns c =
    let n = c.blank_len-blanks.result in
    let b = some_blanks c.args.place c.args.bytes.now n c.blank_len-blanks.ensures.within c.blank_len-blanks.ensures.blank in
    lexes_after c.args.place (c.args.place + n) c.args.bytes.now c.split_at.result.1.now c.token_at.result
    (subst (λ l. Blanks c.args.place c.args.bytes.now (c.args.place + n) l) (sym c.split_at.ensures.back) b) c.token_at.ensures
