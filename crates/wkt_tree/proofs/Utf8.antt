-- UTF-8, cut at bytes of ASCII.
use Rattle.std.proofs.Common.{◌≡◌, ℕ, zero, suc, ◌<◌, Bool, true, Some, List, [], ◌∷◌, ◌++◌, length, get_or, refl, sym, subst, append_assoc, arith, inl, inr, IsUtf8, length-append}
use Rattle.std.specs.List.{AllPass}
use Rattle.std.specs.Str.{IsAscii}
use Rattle.std.proofs.lemmas.List.{take_at, drop_at}
use Rattle.std.proofs.lemmas.List.Elements.{All-head, All-tail}
use Rattle.std.proofs.lemmas.Str.{IsUtf8-take, IsUtf8-drop, IsUtf8-append, IsCharBoundary-before_ascii, IsCharBoundary-after_ascii, IsUtf8-from_ascii}
use Rattle.std.proofs.lemmas.Bool.Decides.{nat_tests}
use Rattle.wkt_tree.specs.declared.token.TokenKind.{TokenKind}
use Rattle.wkt_tree.specs.Bytes.{is_blank, is_word_byte, is_number_byte, begun_by}
use Rattle.wkt_tree.proofs.Lexemes.{body, by_mark, body-mark, body-plain}

at_seam : (xs : List ℕ) (b : ℕ) (ys : List ℕ) → get_or (xs ++ b ∷ ys) (length xs) 0 ≡ b
at_seam [] b ys = refl
at_seam (x ∷ xs) b ys = at_seam xs b ys

-- UTF-8 can be split before an ASCII byte
pub utf8_before : (xs : List ℕ) (b : ℕ) (ys : List ℕ) → b < 128 → IsUtf8 (xs ++ b ∷ ys) → IsUtf8 xs × IsUtf8 (b ∷ ys)
utf8_before xs b ys small u =
    let e = at_seam xs b ys in
    let seam = IsCharBoundary-before_ascii (xs ++ b ∷ ys) (length xs) (omega (arith, length-append xs (b ∷ ys))) (omega (arith, e, small)) in (
      subst IsUtf8 (take_at xs (b ∷ ys) (length xs) refl) (IsUtf8-take (xs ++ b ∷ ys) (length xs) u seam),
      subst IsUtf8 (drop_at xs (b ∷ ys) (length xs) refl) (IsUtf8-drop (xs ++ b ∷ ys) (length xs) u seam),
    )

-- UTF-8 that begins with an ASCII byte is UTF-8 after it
pub utf8_behind : (b : ℕ) (ys : List ℕ) → b < 128 → IsUtf8 (b ∷ ys) → IsUtf8 ys
utf8_behind b ys small u = subst IsUtf8 (drop_at (b ∷ []) ys 1 refl) (IsUtf8-drop (b ∷ ys) 1 u (IsCharBoundary-after_ascii (b ∷ ys) 0 u (omega arith) small))

-- UTF-8 that begins with bytes that pass a test of ASCII bytes is UTF-8 after them
pub utf8_past : (p : ℕ → Bool) → ((b : ℕ) → p b ≡ true → b < 128) → (xs ys : List ℕ) → AllPass p xs → IsUtf8 (xs ++ ys) → IsUtf8 ys
utf8_past p small [] ys a u = u
utf8_past p small (x ∷ xs) ys a u =
    utf8_past p small xs ys (All-tail (λ b. p b ≡ true) x xs a) (utf8_behind x (xs ++ ys) (small x (All-head (λ b. p b ≡ true) x xs a)) u)

-- ---- the content of a quoted text

undoubled : (c pre : List ℕ) → IsUtf8 (pre ++ body c) → IsUtf8 (pre ++ c)
undoubled [] pre u = u
undoubled (b ∷ c) pre u =
    elim (by_mark b) [
      | inl m ↦
          let v : IsUtf8 (pre ++ 34 ∷ (34 ∷ body c)) = subst (λ x. IsUtf8 (pre ++ x)) (body-mark b c m.1) u in
          let w = utf8_before pre 34 (34 ∷ body c) (omega arith) v in
          let r = utf8_behind 34 (body c) (omega arith) (utf8_behind 34 (34 ∷ body c) (omega arith) w.1) in
          let i : IsUtf8 c = undoubled c [] r in
          subst (λ x. IsUtf8 (pre ++ x ∷ c)) (sym m.0) (IsUtf8-append pre (34 ∷ c) w.0 (mark_before c i))
      | inr n ↦
          let v : IsUtf8 (pre ++ b ∷ body c) = subst (λ x. IsUtf8 (pre ++ x)) (body-plain b c n.1) u in
          subst IsUtf8 (append_assoc pre (b ∷ []) c) (undoubled c (pre ++ b ∷ []) (subst IsUtf8 (sym (append_assoc pre (b ∷ []) (body c))) v))
    ]
  where
    one_ascii : IsAscii (34 ∷ [])
    one_ascii zero = omega arith
    one_ascii (suc k) = omega arith

    mark_before : (c : List ℕ) → IsUtf8 c → IsUtf8 (34 ∷ c)
    mark_before c i = IsUtf8-append (34 ∷ []) c (IsUtf8-from_ascii (34 ∷ []) one_ascii) i

-- the content of a quoted text is UTF-8 if its doubled form is
pub utf8_content : (c : List ℕ) → IsUtf8 (body c) → IsUtf8 c
utf8_content c u = undoubled c [] u

-- ---- bytes of tokens are ASCII

pub blank_small : (b : ℕ) → is_blank b ≡ true → b < 128
blank_small b h = grind (arith, nat_tests)

pub word_small : (b : ℕ) → is_word_byte b ≡ true → b < 128
word_small b h = grind (arith, nat_tests)

pub number_small : (b : ℕ) → is_number_byte b ≡ true → b < 128
number_small b h = grind (arith, nat_tests)

pub begun_small : (b : ℕ) (k : TokenKind) → begun_by b ≡ Some k → b < 128
unfolding begun_by
begun_small b k h = grind (arith, nat_tests)
