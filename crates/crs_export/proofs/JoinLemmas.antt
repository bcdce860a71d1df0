-- Bytes that are appended to bytes.
use Rattle.std.proofs.Common.{◌≡◌, ℕ, List, ◌++◌, ap, ◌∙◌, append_assoc}

step : (old a new b newer : List ℕ) → new ≡ old ++ a → newer ≡ new ++ b → newer ≡ old ++ (a ++ b)
step old a new b newer e f = f ∙ ap (λ t. t ++ b) e ∙ append_assoc old a b

-- appending five lists in turn appends their concatenation
pub five : (t a b c d e t1 t2 t3 t4 t5 : List ℕ) → t1 ≡ t ++ a → t2 ≡ t1 ++ b → t3 ≡ t2 ++ c → t4 ≡ t3 ++ d → t5 ≡ t4 ++ e → t5 ≡ t ++ (a ++ b ++ c ++ d ++ e)
five t a b c d e t1 t2 t3 t4 t5 e1 e2 e3 e4 e5 =
    step t (a ++ b ++ c ++ d) t4 e t5 (step t (a ++ b ++ c) t3 d t4 (step t (a ++ b) t2 c t3 (step t a t1 b t2 e1 e2) e3) e4) e5
