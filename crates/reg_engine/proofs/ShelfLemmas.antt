-- A register is restored from a shelf, and another one is kept there.
use Rattle.std.proofs.Common.{◌≡◌, ◌⊎◌, ◌+◌, ◌<◌, ◌≤◌, ◌^◌, inl, inr, ⊎_elim, Bool, ℕ, List, length, drop, refl, sym, ap, subst, ◌∙◌, arith, length-take, length-drop}
use Rattle.std.specs.Int.{w32, to_be_bytes, from_be_bytes}
use Rattle.std.proofs.lemmas.Nat.{from_be_bytes-to_be_bytes_4}
use Rattle.std.specs.Prelude.{IsTrue, Err, IsErrOf}
use Rattle.byte_disk.specs.Disk.{Only, LeavesOnly}
use Rattle.byte_disk.proofs.Moments.{weaker, joined}
use Rattle.byte_shelf.specs.Shelf.{StandAt, HasNoHead, IsSize, EndsWithin}
use Rattle.byte_shelf.specs.Keep.{AddsNothing, CountsFault}
use Rattle.byte_shelf.specs.declared.keeping.Frame.{Frame}
use Rattle.byte_shelf.specs.declared.fault.ShelfFault.{ShelfFault}
use Rattle.byte_shelf.specs.declared.fault.ShelfFault.TheVariants as shelf
use Rattle.reg_op.specs.Contents.{Content}
use Rattle.reg_shelf.specs.Shelf.{IsShelf, IsShelfOf, IsNoShelf, HasFile}
use Rattle.reg_shelf.specs.Keep.{IsTooLarge, IsRestoreFault}
use Rattle.reg_shelf.specs.Ready.{IsReady}
use Rattle.reg_engine.specs.declared.fault.ShelfProblem.TheVariants as problem
use Rattle.reg_engine.specs.declared.fault.CliFault.{CliFault}
use Rattle.reg_engine.specs.declared.fault.CliFault.TheVariants as cli
use Rattle.reg_engine.specs.Fault.{shelf_fault}
use Rattle.reg_engine.specs.Shelf.{Disks, Has, IsSure, AddsNothingTo, StaysOn, PassesOn, KeepsSize, KeepsOn, HasNoRoom, IsUnrestored, IsUnkept, IsReadyOn, IsUnready, IsUnput}

-- ---- faults

abbrev IsRestoring : ShelfFault → Type 0
IsRestoring shelf.BadSize = ⊥
IsRestoring shelf.TooLarge = ⊥
IsRestoring shelf.NotShelf = Unit {0}
IsRestoring shelf.Memory = Unit {0}
IsRestoring shelf.DiskFailed = Unit {0}

is_restoring : (f : ShelfFault) → IsRestoreFault f → IsRestoring f
is_restoring f (inl e) = subst IsRestoring (sym e) tt
is_restoring f (inr (inl e)) = subst IsRestoring (sym e) tt
is_restoring f (inr (inr e)) = subst IsRestoring (sym e) tt

pub unrestored : {D T : Type 0} (d : Disks D) (old new : D) (f : ShelfFault) → IsRestoreFault f → CountsFault {T = T} (Err f) (d.failures old) (d.failures new)
    → (IsTrue (d.tells old) → IsErrOf {T = T} (Err f) shelf.NotShelf → IsNoShelf (d.seen old)) → AddsNothingTo d old new → IsUnrestored d old new (shelf_fault f)
unrestored d old new shelf.BadSize is counts none nothing = absurd (is_restoring shelf.BadSize is)
unrestored d old new shelf.TooLarge is counts none nothing = absurd (is_restoring shelf.TooLarge is)
unrestored d old new shelf.NotShelf is counts none nothing = (λ told. none told refl, record { quiet = counts; nothing = nothing })
unrestored d old new shelf.Memory is counts none nothing = record { quiet = counts; nothing = nothing }
unrestored d old new shelf.DiskFailed is counts none nothing = (counts, nothing)

-- bytes with a number at offset 1 are at least 5
pub long_head : (s : List ℕ) (n : ℕ) → StandAt s 1 (to_be_bytes w32 n) → 5 ≤ length s
long_head s n stands = omega (arith, ap length stands, length-take 4 (drop 1 s), length-drop 1 s)

one_size : (s : List ℕ) (a b : ℕ) → a < 2 ^ 32 → b < 2 ^ 32 → StandAt s 1 (to_be_bytes w32 a) → StandAt s 1 (to_be_bytes w32 b) → a ≡ b
one_size s a b p q x y = sym (from_be_bytes-to_be_bytes_4 a p) ∙ ap (λ (t : List ℕ). from_be_bytes w32 t) (sym x ∙ y) ∙ from_be_bytes-to_be_bytes_4 b q

no_head : (s : List ℕ) (x : Content) → HasNoHead s → IsShelf s x → ⊥
no_head s x (inl short) p = omega (arith, short, long_head s p.shelf.size p.shelf.head.size_stands)
no_head s x (inr (gate, size, head, bad)) p =
    bad (subst IsSize (one_size s p.shelf.size size p.shelf.head.size_fits head.size_fits p.shelf.head.size_stands head.size_stands) p.shelf.in_range)

pub unkept : {D T : Type 0} (d : Disks D) (old new : D) (x y : Content) (f : ShelfFault) → Has d old x → (IsErrOf {T = T} (Err f) shelf.BadSize → ⊥)
    → CountsFault {T = T} (Err f) (d.failures old) (d.failures new) → (IsTrue (d.tells old) → IsErrOf {T = T} (Err f) shelf.NotShelf → HasNoHead (d.seen old))
    → (IsTrue (d.tells old) → IsErrOf {T = T} (Err f) shelf.TooLarge → IsTooLarge (d.seen old) y)
    → (IsTrue (d.tells old) → d.failures new ≡ d.failures old → AddsNothing d.seen d.images d.moment d.since old new) → PassesOn d x y old new → IsUnkept d x y old new (shelf_fault f)
unkept d old new x y shelf.BadSize has good counts head large refused passes = absurd (good refl)
unkept d old new x y shelf.TooLarge has good counts head large refused passes = (λ told. large told refl, record { quiet = counts; nothing = λ told. refused told counts })
unkept d old new x y shelf.NotShelf has good counts head large refused passes =
    (λ told. no_head (d.seen old) x (head told refl) (has told), record { quiet = counts; nothing = λ told. refused told counts })
unkept d old new x y shelf.Memory has good counts head large refused passes = record { quiet = counts; nothing = λ told. refused told counts }
unkept d old new x y shelf.DiskFailed has good counts head large refused passes = (counts, passes)

pub unready : {D T : Type 0} (d : Disks D) (old new : D) (x y : Content) (f : ShelfFault) → Has d old x → (IsErrOf {T = T} (Err f) shelf.BadSize → ⊥)
    → CountsFault {T = T} (Err f) (d.failures old) (d.failures new) → (IsTrue (d.tells old) → IsErrOf {T = T} (Err f) shelf.NotShelf → HasNoHead (d.seen old))
    → (IsTrue (d.tells old) → IsErrOf {T = T} (Err f) shelf.TooLarge → IsTooLarge (d.seen old) y)
    → AddsNothingTo d old new → IsUnready d y old new (shelf_fault f)
unready d old new x y shelf.BadSize has good counts head large nothing = absurd (good refl)
unready d old new x y shelf.TooLarge has good counts head large nothing = (λ told. large told refl, record { quiet = counts; nothing = nothing })
unready d old new x y shelf.NotShelf has good counts head large nothing = (λ told. no_head (d.seen old) x (head told refl) (has told), record { quiet = counts; nothing = nothing })
unready d old new x y shelf.Memory has good counts head large nothing = record { quiet = counts; nothing = nothing }
unready d old new x y shelf.DiskFailed has good counts head large nothing = (counts, nothing)

-- ---- what a stop leaves on a disk that is surely a shelf

all_shelves : {D : Type 0} (d : Disks D) (old : D) (x : Content) → Has d old x → IsSure d old → IsTrue (d.tells old) → (c : List ℕ) → d.images old c → IsShelf c x
all_shelves d old x has sure told c may = subst (λ (t : List ℕ). IsShelf t x) (sym (sure told c may)) (has told)

pub passes_on : {D : Type 0} (d : Disks D) (old new : D) (x y : Content) → IsSure d old
    → (IsTrue (d.tells old) → (was : Content) (size : ℕ) → ((c : List ℕ) → d.images old c → IsShelfOf c size was)
    → LeavesOnly d.moment d.since old new (λ c. IsShelfOf c size was ⊎ IsShelfOf c size y))
    → PassesOn d x y old new
passes_on d old new x y sure leaves = λ told size shelf.
    weaker d.moment d.since old new (λ c. IsShelfOf c size x ⊎ IsShelfOf c size y) (λ c. d.images old c ⊎ (IsShelfOf c size x ⊎ IsShelfOf c size y))
    (leaves told x size (λ c may. subst (λ (t : List ℕ). IsShelfOf t size x) (sym (sure told c may)) shelf)) (λ c left. inr left)

pub keeps_on : {D : Type 0} (d : Disks D) (old new : D) (x y : Content) → Has d old x → IsSure d old → d.tells new ≡ d.tells old → d.failures new ≡ d.failures old → HasFile y
    → (IsTrue (d.tells old) → (was : Content) → ((c : List ℕ) → d.images old c → IsShelf c was) → Only (d.seen new) (d.images new) × IsShelf (d.seen new) y)
    → KeepsSize d x y old new → PassesOn d x y old new → KeepsOn d x y old new
keeps_on d old new x y has sure tells quiet file kept sized passes =
    let before : IsTrue (d.tells new) → IsTrue (d.tells old) = λ told. subst (λ (b : Bool). IsTrue b) tells told in
    let now : IsTrue (d.tells new) → Only (d.seen new) (d.images new) × IsShelf (d.seen new) y = λ told. kept (before told) x (all_shelves d old x has sure (before told)) in
    record { quiet = quiet; file = file; has = λ told. (now told).1; sized = sized; sure = λ told. (now told).0; passes = passes }

-- ---- a frame that is put on a shelf

put_passes : {D : Type 0} (d : Disks D) (old new : D) (x y : Content) (frame : Frame) → IsSure d old → IsReadyOn d old y frame
    → (IsTrue (d.tells old) → Only (d.seen old) (d.images old) → (was next : Content) (size : ℕ) → IsShelfOf (d.seen old) size was → IsReady (d.seen old) next frame
    → LeavesOnly d.moment d.since old new (λ c. IsShelfOf c size was ⊎ IsShelfOf c size next)) → PassesOn d x y old new
put_passes d old new x y frame sure ready leaves = λ told size shelf.
    weaker d.moment d.since old new (λ c. IsShelfOf c size x ⊎ IsShelfOf c size y) (λ c. d.images old c ⊎ (IsShelfOf c size x ⊎ IsShelfOf c size y))
    (leaves told (sure told) x y size shelf (ready.1 told)) (λ c left. inr left)

pub unput : {D : Type 0} (d : Disks D) (old new : D) (x y : Content) (frame : Frame) (f : ShelfFault) → IsSure d old → IsReadyOn d old y frame
    → f ≡ shelf.DiskFailed → CountsFault {T = Unit {0}} (Err f) (d.failures old) (d.failures new)
    → (IsTrue (d.tells old) → Only (d.seen old) (d.images old) → (was next : Content) (size : ℕ) → IsShelfOf (d.seen old) size was → IsReady (d.seen old) next frame
    → LeavesOnly d.moment d.since old new (λ c. IsShelfOf c size was ⊎ IsShelfOf c size next)) → IsUnput d x y old new (shelf_fault f)
unput d old new x y frame f sure ready is counts leaves = (
  ap shelf_fault is,
  subst (λ (g : ShelfFault). CountsFault {T = Unit {0}} (Err g) (d.failures old) (d.failures new)) is counts,
  put_passes d old new x y frame sure ready leaves,
)

pub puts_on : {D : Type 0} (d : Disks D) (old new : D) (x y : Content) (frame : Frame) → Has d old x → IsSure d old → IsReadyOn d old y frame → d.tells new ≡ d.tells old → d.failures new ≡ d.failures old
    → (IsTrue (d.tells old) → Only (d.seen old) (d.images old) → (was next : Content) (size : ℕ) → IsShelfOf (d.seen old) size was → IsReady (d.seen old) next frame
    → LeavesOnly d.moment d.since old new (λ c. IsShelfOf c size was ⊎ IsShelfOf c size next))
    → (IsTrue (d.tells old) → (was next : Content) → IsShelf (d.seen old) was → IsReady (d.seen old) next frame → Only (d.seen new) (d.images new) × IsShelf (d.seen new) next)
    → (IsTrue (d.tells old) → (was next : Content) (size : ℕ) → IsShelfOf (d.seen old) size was → IsReady (d.seen old) next frame
    → IsShelfOf (d.seen new) size next × EndsWithin size (d.seen old) (d.seen new))
    → KeepsOn d x y old new
puts_on d old new x y frame has sure ready tells quiet leaves kept sized =
    let before : IsTrue (d.tells new) → IsTrue (d.tells old) = λ told. subst (λ (b : Bool). IsTrue b) tells told in
    let now : IsTrue (d.tells new) → Only (d.seen new) (d.images new) × IsShelf (d.seen new) y = λ told. kept (before told) x y (has (before told)) (ready.1 (before told)) in
    record {
      quiet = quiet;
      file = ready.0;
      has = λ told. (now told).1;
      sized = λ told size was. sized told x y size was (ready.1 told);
      sure = λ told. (now told).0;
      passes = put_passes d old new x y frame sure ready leaves;
    }

-- ---- a step that changes nothing, and the step after it

module _ {D : Type 0} (d : Disks D) (old mid new : D) (tells : d.tells mid ≡ d.tells old) (stays : StaysOn d old mid) where
  then_told : IsTrue (d.tells old) → IsTrue (d.tells mid)
  then_told told = subst (λ (b : Bool). IsTrue b) (sym tells) told

  pub then_has : (x : Content) → Has d old x → Has d mid x
  then_has x has = λ told.
      let first = subst (λ (b : Bool). IsTrue b) tells told in
      subst (λ (t : List ℕ). IsShelf t x) (sym (stays.nothing first).same) (has first)

  then_nothing : AddsNothingTo d mid new → AddsNothingTo d old new
  then_nothing more = λ told.
      let first = stays.nothing told in
      let second = more (then_told told) in record {
        same = second.same ∙ first.same;
        fewer = λ c may. first.fewer c (second.fewer c may);
        any_moment = joined d.moment d.since old mid new (d.images old) first.any_moment
            (weaker d.moment d.since mid new (d.images mid) (d.images old) second.any_moment first.fewer);
      }

  pub then_stays : StaysOn d mid new → StaysOn d old new
  then_stays more = record { quiet = more.quiet ∙ stays.quiet; nothing = then_nothing more.nothing }

  pub then_passes : (x y : Content) → PassesOn d x y mid new → PassesOn d x y old new
  then_passes x y passes = λ told size shelf.
      let first = stays.nothing told in
      let P : List ℕ → Type 0 = λ c. d.images old c ⊎ (IsShelfOf c size x ⊎ IsShelfOf c size y) in
      let still = subst (λ (t : List ℕ). IsShelfOf t size x) (sym first.same) shelf in
      joined d.moment d.since old mid new P (weaker d.moment d.since old mid (d.images old) P first.any_moment (λ c may. inl may))
      (weaker d.moment d.since mid new (λ c. d.images mid c ⊎ (IsShelfOf c size x ⊎ IsShelfOf c size y)) P (passes (then_told told) size still) (λ c left. ⊎_elim (λ may. inl (first.fewer c may)) inr left))

  then_sized : (x y : Content) → KeepsSize d x y mid new → KeepsSize d x y old new
  then_sized x y sized = λ told size was.
      let same = (stays.nothing told).same in
      let done = sized (then_told told) size (subst (λ (t : List ℕ). IsShelfOf t size x) (sym same) was) in
      (done.0, subst (λ (t : List ℕ). EndsWithin size t (d.seen new)) same done.1)

  pub then_keeps : (x y : Content) → KeepsOn d x y mid new → KeepsOn d x y old new
  then_keeps x y keeps = record { quiet = keeps.quiet ∙ stays.quiet; file = keeps.file; has = keeps.has; sized = then_sized x y keeps.sized; sure = keeps.sure; passes = then_passes x y keeps.passes }

  room_before : (y : Content) → HasNoRoom d mid y → HasNoRoom d old y
  room_before y large = λ told. subst (λ (t : List ℕ). IsTooLarge t y) (stays.nothing told).same (large (then_told told))

  pub then_unkept : (x y : Content) (f : CliFault) → IsUnkept d x y mid new f → IsUnkept d x y old new f
  then_unkept x y (cli.Refused r) h = h
  then_unkept x y (cli.File k f) h = h
  then_unkept x y (cli.Out f) h = h
  then_unkept x y cli.Memory h = then_stays h
  then_unkept x y (cli.Shelf problem.NotOpened) h = h
  then_unkept x y (cli.Shelf problem.Busy) h = h
  then_unkept x y (cli.Shelf problem.NotLocked) h = h
  then_unkept x y (cli.Shelf problem.NotShelf) h = (λ told. h.0 (then_told told), then_stays h.1)
  then_unkept x y (cli.Shelf problem.TooLarge) h = (room_before y h.0, then_stays h.1)
  then_unkept x y (cli.Shelf problem.DiskFailed) h = (h.0 ∙ ap (λ (n : ℕ). n + 1) stays.quiet, then_passes x y h.1)
  then_unkept x y (cli.Office t) h = h

  pub then_unready : (y : Content) (f : CliFault) → IsUnready d y mid new f → IsUnready d y old new f
  then_unready y (cli.Refused r) h = h
  then_unready y (cli.File k f) h = h
  then_unready y (cli.Out f) h = h
  then_unready y cli.Memory h = then_stays h
  then_unready y (cli.Shelf problem.NotOpened) h = h
  then_unready y (cli.Shelf problem.Busy) h = h
  then_unready y (cli.Shelf problem.NotLocked) h = h
  then_unready y (cli.Shelf problem.NotShelf) h = (λ told. h.0 (then_told told), then_stays h.1)
  then_unready y (cli.Shelf problem.TooLarge) h = (room_before y h.0, then_stays h.1)
  then_unready y (cli.Shelf problem.DiskFailed) h = (h.0 ∙ ap (λ (n : ℕ). n + 1) stays.quiet, then_nothing h.1)
  then_unready y (cli.Office t) h = h

  pub then_unput : (x y : Content) (f : CliFault) → IsUnput d x y mid new f → IsUnput d x y old new f
  then_unput x y f h = (h.0, h.1 ∙ ap (λ (n : ℕ). n + 1) stays.quiet, then_passes x y h.2)

-- after x is restored, the effect of keeping y over what was restored is that of keeping y over x
module _ {D : Type 0} (d : Disks D) (old mid new : D) (tells : d.tells mid ≡ d.tells old) (stays : StaysOn d old mid) (sure : IsSure d mid) (x : Content) (has : Has d old x) where
  pub kept_then : (y : Content) → ((was : Content) → Has d mid was → IsSure d mid → KeepsOn d was y mid new) → KeepsOn d x y old new
  kept_then y keeps = then_keeps d old mid new tells stays x y (keeps x (then_has d old mid new tells stays x has) sure)

  pub unkept_then : (y : Content) (f : CliFault) → ((was : Content) → Has d mid was → IsSure d mid → IsUnkept d was y mid new f) → IsUnkept d x y old new f
  unkept_then y f fault = then_unkept d old mid new tells stays x y f (fault x (then_has d old mid new tells stays x has) sure)
