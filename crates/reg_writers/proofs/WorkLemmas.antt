-- What a command makes is what it makes in a world that has the office file which it read.
use Rattle.std.proofs.Common.{◌≡◌, ℕ, true, List, ◌∷◌, Option, Some, None, Result, Ok, Err, refl, sym, ap, ◌∙◌}
use Rattle.std.specs.List.{slice_get}
use Rattle.reg_op.specs.Set as set
use Rattle.reg_op.specs.Ids.{Id}
use Rattle.reg_op.specs.Operations.{Op}
use Rattle.reg_op.specs.Contents.{Content, state, joined}
use Rattle.reg_office.specs.declared.fault.OfficeFault.{OfficeFault}
use Rattle.reg_office.specs.Making.{made}
use Rattle.reg_journal.specs.Journals.{Copy, World, Makes, at_office, new_ops, both, base, puts, makes, makes_on, makes_at, happens}
use Rattle.reg_writers.specs.Works.{Command, Work, worked, works, works_on, work}

-- the world after a command has made this, or was refused
abbrev pub with_work : World → List ℕ → Option Work → World
with_work w i (Some v) = record { files = at_office w.files i v.file; copies = v.register ∷ w.copies }
with_work w i None = w

puts_is : (w : World) (i : List ℕ) (c : Copy) (os : List Op) (j z : Result Content Id) → puts w i c os true j z ≡ with_work w i (worked (w.files i) c os j z)
puts_is w i c os (Ok j) (Ok z) = refl
puts_is w i c os (Ok j) (Err id) = refl
puts_is w i c os (Err id) z = refl

makes_is : (w : World) (i : List ℕ) (c : Copy) (y : Content) (r : Result (List Op) OfficeFault) → makes w i c y true r ≡ with_work w i (works (w.files i) c y r)
makes_is w i c y (Ok os) = puts_is w i c os (joined (w.files i).content (state (new_ops os))) (joined y (state (new_ops os)))
makes_is w i c y (Err fault) = refl

makes_on_is : (w : World) (a : Command) (c : Copy) (r : Result Content Id)
    → makes_on w a.office c (a.effects (w.files a.office).content c.content) a.note true r ≡ with_work w a.office (works_on a (w.files a.office) c r)
makes_on_is w a c (Ok y) = makes_is w a.office c y (made y a.office a.note (a.effects (w.files a.office).content c.content))
makes_on_is w a c (Err id) = refl

-- the event of a command that has read the office file as it is
pub happens_is : (w : World) (a : Command) (c : Copy) (place : ℕ) → slice_get w.copies place ≡ Some c
    → happens w (Makes a.office place (a.effects (w.files a.office).content c.content) a.note true) ≡ with_work w a.office (work a (w.files a.office) c)
happens_is w a c place at =
    ap (makes_at w a.office (a.effects (w.files a.office).content c.content) a.note true) at
    ∙ makes_on_is w a c (base w a.office c)

-- what a command made, and of what
pub record IsWork (a : Command) (f c : Copy) (v : Work) : Type 0 where
  pub base : Content
  pub are_joined : joined c.content f.content ≡ Ok base
  pub are_made : made base a.office a.note (a.effects f.content c.content) ≡ Ok v.ops
  pub file : v.file.reached ≡ set.union f.reached (new_ops v.ops)
  pub register : v.register.reached ≡ set.union (both c f) (new_ops v.ops)

worked_is : (f c : Copy) (os : List Op) (j z : Result Content Id) (v : Work) → worked f c os j z ≡ Some v
    → (v.ops ≡ os) × (v.file.reached ≡ set.union f.reached (new_ops os)) × (v.register.reached ≡ set.union (both c f) (new_ops os))
worked_is f c os (Ok j) (Ok z) v h =
    let made : Work = record {
      ops = os;
      file = record { content = j; reached = set.union f.reached (new_ops os) };
      register = record { content = z; reached = set.union (both c f) (new_ops os) };
    } in
    let e : made ≡ v = cc in
    (ap (λ (u : Work). u.ops) (sym e), ap (λ (u : Work). u.file.reached) (sym e), ap (λ (u : Work). u.register.reached) (sym e))
worked_is f c os (Ok j) (Err id) v h = absurd cc
worked_is f c os (Err id) z v h = absurd cc

works_is : (a : Command) (f c : Copy) (y : Content) (r : Result (List Op) OfficeFault) (v : Work) → joined c.content f.content ≡ Ok y
    → made y a.office a.note (a.effects f.content c.content) ≡ r → works f c y r ≡ Some v → IsWork a f c v
works_is a f c y (Ok os) v j e h =
    let is = worked_is f c os (joined f.content (state (new_ops os))) (joined y (state (new_ops os))) v h in
    record {
      base = y;
      are_joined = j;
      are_made = e ∙ ap Ok (sym is.0);
      file = is.1 ∙ ap (λ os. set.union f.reached (new_ops os)) (sym is.0);
      register = is.2 ∙ ap (λ os. set.union (both c f) (new_ops os)) (sym is.0);
    }
works_is a f c y (Err fault) v j e h = absurd cc

works_on_is : (a : Command) (f c : Copy) (r : Result Content Id) (v : Work) → joined c.content f.content ≡ r → works_on a f c r ≡ Some v → IsWork a f c v
works_on_is a f c (Ok y) v j h = works_is a f c y (made y a.office a.note (a.effects f.content c.content)) v j refl h
works_on_is a f c (Err id) v j h = absurd cc

pub work_is : (a : Command) (f c : Copy) (v : Work) → work a f c ≡ Some v → IsWork a f c v
work_is a f c v h = works_on_is a f c (joined c.content f.content) v refl h
