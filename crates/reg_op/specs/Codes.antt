-- Operations, contents and pieces as data, as the value of a model needs them.
use Rattle.std.specs.Prelude.{◌≡◌, ℕ, List, [], ◌∷◌, refl, zero, suc}
use Rattle.reg_op.specs.Set as set
use Rattle.std.specs.Coded.{Coded, code_by, coded×, coded_ℕ, coded_list}
use Rattle.reg_op.specs.Ids.{Id, Ids, id_code}
use Rattle.reg_op.specs.Operations.{Body, Enter, Supersede, Retire, kind_of, text_of, named_in, Op, Ops}
use Rattle.reg_op.specs.Contents.{Content}
use Rattle.reg_op.specs.Pieces.{Piece}

abbrev pub first_of : List Id → Id
first_of [] = record { replica = []; count = 0 }
first_of (i ∷ is) = i

abbrev pub second_of : List Id → Id
second_of [] = first_of []
second_of (i ∷ is) = first_of is

-- a body from its kind, its text and the ids that it names
abbrev pub body_of : ℕ → List ℕ → List Id → Body
body_of zero text named = Enter text
body_of (suc zero) text named = Supersede (first_of named) (second_of named)
body_of (suc (suc n)) text named = Retire (first_of named)

abbrev pub body_back : (b : Body) → body_of (kind_of b) (text_of b) (named_in b) ≡ b
body_back (Enter text) = refl
body_back (Supersede old newer) = refl
body_back (Retire entry) = refl

abbrev pub with_body : Id → Body → List ℕ → Op
with_body i b note = record { id = i; body = b; note = note }

abbrev pub op_code : Coded Op
op_code =
    code_by (Id × (ℕ × (List ℕ × (List Id × List ℕ))))
    (coded× id_code (coded× coded_ℕ (coded× (coded_list coded_ℕ) (coded× (coded_list id_code) (coded_list coded_ℕ)))))
    (λ o. (o.id, (kind_of o.body, (text_of o.body, (named_in o.body, o.note)))))
    (λ p. with_body p.0 (body_of p.1.0 p.1.1.0 p.1.1.1.0) p.1.1.1.1) (λ o k. with_body o.id (body_back o.body k) o.note)

abbrev pub content_code : Coded Content
content_code =
    code_by (Ops × Ids) (coded× (set.code op_code) (set.code id_code)) (λ x. (x.ops, x.seen)) (λ p. record { ops = p.0; seen = p.1 }) (λ _. refl)

abbrev pub piece_code : Coded Piece
piece_code =
    code_by (Ops × (Ids × Ids)) (coded× (set.code op_code) (coded× (set.code id_code) (set.code id_code)))
    (λ p. (p.ops, (p.basis, p.seen))) (λ t. record { ops = t.0; basis = t.1.0; seen = t.1.1 }) (λ _. refl)
