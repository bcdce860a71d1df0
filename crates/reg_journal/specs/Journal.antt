-- What an office file has.
use Rattle.std.specs.Prelude.{◌≡◌, ℕ, ◌<◌, ◌≤◌, ◌^◌, Bool, List, All, length, refl}
use Rattle.std.specs.Ordering.{is_eq}
use Rattle.std.specs.Coded.{Coded, code_by, coded×, coded_ℕ, coded_list}
use Rattle.reg_op.specs.Set as set
use Rattle.reg_op.specs.Ids.{Id, Ids}
use Rattle.reg_op.specs.Contents.{Content, IsContent, nothing}
use Rattle.reg_op.specs.Codes.{content_code}
use Rattle.reg_state.specs.Runs.{replica_cmp, ids_from}

-- the bytes of an office's UUID; the last number that it gave, or 0; the greatest of its numbers that is known to have stood in a
-- register, or 0; and the content of all operations that it made, each as it was made
pub record Journal : Type 0 where
  pub replica : List ℕ
  pub last : ℕ
  pub stood : ℕ
  pub made : Content

-- the ids of an office from number 1 to number n
abbrev pub numbers : List ℕ → ℕ → Ids
numbers replica n = set.from_list (ids_from replica 1 n)

-- the operations are a content that has seen exactly the numbers that the office gave
pub record IsOffice (f : Journal) : Type 0 where
  pub long : length f.replica ≡ 16
  pub bytes : All (λ b. b < 256) f.replica
  pub fits : f.last < 2 ^ 32
  pub stood : f.stood ≤ f.last
  pub content : IsContent f.made
  pub seen : f.made.seen ≡ numbers f.replica f.last

-- the office made nothing
abbrev pub fresh : List ℕ → Journal
fresh replica = record { replica = replica; last = 0; stood = 0; made = nothing }

-- the id is the office's
abbrev pub is_own : List ℕ → Id → Bool
is_own replica i = is_eq (replica_cmp i.replica replica)

abbrev pub journal_code : Coded Journal
journal_code =
    code_by (List ℕ × (ℕ × (ℕ × Content))) (coded× (coded_list coded_ℕ) (coded× coded_ℕ (coded× coded_ℕ content_code)))
    (λ f. (f.replica, (f.last, (f.stood, f.made)))) (λ p. record { replica = p.0; last = p.1.0; stood = p.1.1.0; made = p.1.1.1 }) (λ _. refl)
