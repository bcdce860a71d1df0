use Rattle.std.proofs.Common.{sym, ◌∙◌}
use Rattle.wkt_tree.proofs.Lexemes.{bad_byte, open_text, lexeme_of, lexed_of_lexeme}
use Rattle.wkt_tree.proofs.lexer.token_at.Goals as goal

pub returns-in_default-kind_of : goal.returns-in_default-kind_of
returns-in_default-kind_of c =
    bad_byte c.args.place c.args.bytes.now c.in-Some.others.now c.in-Some.first.now c.in-Some.ensures.cases.0 c.requires (sym c.kind_of.ensures ∙ c.in_default-kind_of.is)

pub returns-in_default-follow_len : goal.returns-in_default-follow_len
returns-in_default-follow_len c =
    open_text c.args.place c.args.bytes.now c.in-Some.others.now c.in-Some.first.now c.in-Some-kind_of.kind c.in-Some.ensures.cases.0 (sym c.kind_of.ensures ∙ c.in-Some-kind_of.is) c.in_default-follow_len.ensures.quoted c.in_default-follow_len.ensures.none

pub returns : goal.returns
returns c =
    let l = lexeme_of c.args.bytes.now c.in-Some.others.now c.in-Some.first.now c.in-Some-kind_of.kind c.in-Some-follow_len.follow c.in-Some.ensures.cases.0 (sym c.kind_of.ensures ∙ c.in-Some-kind_of.is) c.in-Some-follow_len.ensures.follow c.in-Some-follow_len.ensures.ends in
    (_, lexed_of_lexeme c.args.place c.args.bytes.now _ _ c.in-Some-kind_of.kind l)
