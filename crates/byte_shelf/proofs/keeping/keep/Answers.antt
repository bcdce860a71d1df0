use Rattle.std.proofs.Common.{◌⊎◌, List, ℕ, Bool, IsTrue, sym, subst, ◌∙◌}
use Rattle.byte_shelf.specs.Shelf.{IsShelf, IsShelfOf, EndsWithin}
use Rattle.byte_shelf.proofs.Kept.{moments_then}
use Rattle.byte_shelf.proofs.Outcomes.{at_ok}
use Rattle.byte_shelf.proofs.keeping.keep.Goals as goal

pub returns-then-is_err-clause-any_moment : goal.returns-then-is_err-clause-any_moment
returns-then-is_err-clause-any_moment g c = λ told was shelf.
    let told' = subst (λ (b : Bool). IsTrue b) (sym c.ready.ensures.tells) told in
    let nothing = c.ready.ensures.nothing told in
    let still = subst (λ (t : List ℕ). IsShelf t was) (sym nothing.same) shelf in
    moments_then g.D.Disk.seen g.D.Disk.images g.D.Disk.moment g.D.Disk.images_since c.args.disk.now c.ready.new.disk c.put.new.disk (λ t. IsShelf t was ⊎ IsShelf t c.args.bytes.now) nothing
    (c.put.ensures.any_moment told' (c.in-Ok.ensures.only told) was c.args.bytes.now still (c.in-Ok.ensures.ready told))

pub returns-then-is_err-clause-size_stays : goal.returns-then-is_err-clause-size_stays
returns-then-is_err-clause-size_stays g c = λ told was size shelf.
    let told' = subst (λ (b : Bool). IsTrue b) (sym c.ready.ensures.tells) told in
    let nothing = c.ready.ensures.nothing told in
    let still = subst (λ (t : List ℕ). IsShelfOf t size was) (sym nothing.same) shelf in
    moments_then g.D.Disk.seen g.D.Disk.images g.D.Disk.moment g.D.Disk.images_since c.args.disk.now c.ready.new.disk c.put.new.disk
    (λ t. IsShelfOf t size was ⊎ IsShelfOf t size c.args.bytes.now) nothing
    (c.put.ensures.size_stays told' (c.in-Ok.ensures.only told) was c.args.bytes.now size still (c.in-Ok.ensures.ready told))

pub returns-clause-any_moment : goal.returns-clause-any_moment
returns-clause-any_moment g c = λ told was shelf.
    let told' = subst (λ (b : Bool). IsTrue b) (sym c.ready.ensures.tells) told in
    let nothing = c.ready.ensures.nothing told in
    let still = subst (λ (t : List ℕ). IsShelf t was) (sym nothing.same) shelf in
    moments_then g.D.Disk.seen g.D.Disk.images g.D.Disk.moment g.D.Disk.images_since c.args.disk.now c.ready.new.disk c.put.new.disk (λ t. IsShelf t was ⊎ IsShelf t c.args.bytes.now) nothing
    (c.put.ensures.any_moment told' (c.in-Ok.ensures.only told) was c.args.bytes.now still (c.in-Ok.ensures.ready told))

pub returns-clause-size_stays : goal.returns-clause-size_stays
returns-clause-size_stays g c = λ told was size shelf.
    let told' = subst (λ (b : Bool). IsTrue b) (sym c.ready.ensures.tells) told in
    let nothing = c.ready.ensures.nothing told in
    let still = subst (λ (t : List ℕ). IsShelfOf t size was) (sym nothing.same) shelf in
    moments_then g.D.Disk.seen g.D.Disk.images g.D.Disk.moment g.D.Disk.images_since c.args.disk.now c.ready.new.disk c.put.new.disk
    (λ t. IsShelfOf t size was ⊎ IsShelfOf t size c.args.bytes.now) nothing
    (c.put.ensures.size_stays told' (c.in-Ok.ensures.only told) was c.args.bytes.now size still (c.in-Ok.ensures.ready told))

pub returns-clause-kept : goal.returns-clause-kept
returns-clause-kept g c = λ told was shelf.
    let told' = subst (λ (b : Bool). IsTrue b) (sym c.ready.ensures.tells) told in
    let still = subst (λ (t : List ℕ). IsShelf t was) (sym (c.ready.ensures.nothing told).same) shelf in
    at_ok c.put.result (sym c.is_err.ensures.value ∙ c.if-is_err.false) (c.put.ensures.kept told' was c.args.bytes.now still (c.in-Ok.ensures.ready told))

pub returns-clause-sized : goal.returns-clause-sized
returns-clause-sized g c = λ told was size shelf.
    let told' = subst (λ (b : Bool). IsTrue b) (sym c.ready.ensures.tells) told in
    let same = (c.ready.ensures.nothing told).same in
    let still = subst (λ (t : List ℕ). IsShelfOf t size was) (sym same) shelf in
    let done = at_ok c.put.result (sym c.is_err.ensures.value ∙ c.if-is_err.false) (c.put.ensures.sized told' was c.args.bytes.now size still (c.in-Ok.ensures.ready told)) in
    (done.0, subst (λ (t : List ℕ). EndsWithin size t (g.D.Disk.seen c.put.new.disk)) same done.1)
