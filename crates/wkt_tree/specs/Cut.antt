-- The tokens of some bytes, computed.
use Rattle.std.specs.Prelude.{ℕ, zero, suc, ◌+◌, Bool, true, false, List, [], ◌∷◌, length, take, drop, Option, Some, None, if◌then◌else◌, option_and_then}
use Rattle.std.specs.Option.{option_map}
use Rattle.std.specs.List.{prefix_len}
use Rattle.wkt_tree.specs.declared.token.TokenKind.{TokenKind}
use Rattle.wkt_tree.specs.declared.token.TokenKind.TheVariants.{Word, Quoted, Number, Comma, Open, Close}
use Rattle.wkt_tree.specs.Bytes.{is_blank, is_word_byte, is_number_byte, begun_by}
use Rattle.wkt_tree.specs.Tree.{Tok, tok}
use Rattle.wkt_tree.specs.Tokens.{is_mark, end_of}

-- the number of bytes up to the mark that closes a text, if one does; whether a mark came just before
abbrev pub text_len : Bool → List ℕ → Option ℕ
text_len false [] = None
text_len true [] = Some 0
text_len false (b ∷ bs) = option_map suc (text_len (is_mark b) bs)
text_len true (b ∷ bs) = if is_mark b then option_map suc (text_len false bs) else Some 0

-- how many bytes follow the first of a token
abbrev pub follow_count : TokenKind → List ℕ → Option ℕ
follow_count Word bs = Some (prefix_len is_word_byte bs)
follow_count Number bs = Some (prefix_len is_number_byte bs)
follow_count Quoted bs = text_len false bs
follow_count Comma bs = Some 0
follow_count (Open d) bs = Some 0
follow_count (Close d) bs = Some 0

-- the kind and the length of the token that the bytes begin with
abbrev pub lexeme_at : List ℕ → Option (TokenKind × ℕ)
lexeme_at [] = None
lexeme_at (b ∷ bs) = option_and_then (λ k. option_map (λ n. (k, suc n)) (follow_count k bs)) (begun_by b)

-- the token that the bytes at a place begin with
abbrev pub token_behind : ℕ → List ℕ → Option Tok
token_behind place bytes = option_map (λ (l : TokenKind × ℕ). tok l.0 (record { place = place; bytes = take l.1 bytes })) (lexeme_at bytes)

-- the first token, after blanks
abbrev pub first_token : ℕ → List ℕ → Option Tok
first_token place bytes = token_behind (place + prefix_len is_blank bytes) (drop (prefix_len is_blank bytes) bytes)

-- the bytes after the first token
abbrev pub behind : List ℕ → Tok → List ℕ
behind bytes t = drop (length t.piece.bytes) (drop (prefix_len is_blank bytes) bytes)

-- the first token, if there is one, and those after it
abbrev pub cut_from : List ℕ → (ℕ → List ℕ → List Tok) → Option Tok → List Tok
cut_from bytes go None = []
cut_from bytes go (Some t) = t ∷ go (end_of t) (behind bytes t)

-- at most this many tokens
abbrev pub cut_within : ℕ → ℕ → List ℕ → List Tok
cut_within zero place bytes = []
cut_within (suc n) place bytes = cut_from bytes (cut_within n) (first_token place bytes)

-- the tokens of the bytes, from a place on
unfoldable pub cut : ℕ → List ℕ → List Tok
cut place bytes = cut_within (length bytes) place bytes
