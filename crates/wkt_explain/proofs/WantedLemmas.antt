-- Words that are appended one after another.
use Rattle.std.proofs.Common.{◌≡◌, ℕ, List, ◌++◌, ap, ◌∙◌, append_assoc}

-- after three parts, the second of which is known by another name
pub appended : (start a b c : List ℕ) (one two three word : List ℕ) → one ≡ start ++ a → word ≡ b → two ≡ one ++ word → three ≡ two ++ c → three ≡ start ++ ((a ++ b) ++ c)
appended start a b c one two three word first is second third =
    third
    ∙ ap (λ l. l ++ c) (second ∙ ap (λ l. l ++ word) first ∙ ap (λ l. (start ++ a) ++ l) is ∙ append_assoc start a b)
    ∙ append_assoc start (a ++ b) c
