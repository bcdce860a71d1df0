-- Bytes within the size limit are a file of a content if and only if they are read as that content.
use Rattle.std.proofs.Common.{◌≡◌, ℕ, ◌-◌, ◌^◌, ◌<◌, ◌≤◌, List, [], ◌++◌, length, refl, sym, ap, subst, ◌∙◌, arith, inl, inr}
use Rattle.std.proofs.lemmas.List.{length-append}
use Rattle.reg_op.specs.Set as set
use Rattle.reg_op.specs.Operations.{Op}
use Rattle.reg_op.specs.Contents.{Content}
use Rattle.reg_state.specs.declared.run.Run.{Run}
use Rattle.reg_state.proofs.CanonLemmas.{same_runs}
use Rattle.reg_file.specs.Layout.{ops_bytes, ranges_bytes, grouped, head, register_file}
use Rattle.reg_file.specs.Fields.{head_at}
use Rattle.reg_file.specs.Readers.{Portion}
use Rattle.reg_file.specs.Reading.{version_in, register, FailsAt, HasFault}
use Rattle.reg_file.specs.Steps.{ReadsKept, ReadsContent}
use Rattle.reg_file.specs.Files.{most, IsFileIn, IsFileOf, HoldsIn, Holds, HoldsFirst, ReadsAs}
use Rattle.reg_file.specs.declared.fault.Refused.{Refused}
use Rattle.reg_file.specs.declared.fault.FileFault.{FileFault}
use Rattle.reg_file.proofs.FieldLemmas.{IsBytes, head_takes, head_again}
use Rattle.reg_file.proofs.NoteLemmas.{AreTold}
use Rattle.reg_file.proofs.VersionLemmas.{second_in, first_in, not_both, by_version}
use Rattle.reg_file.proofs.ApartLemmas.{apart_from_none}
use Rattle.reg_file.proofs.LongLemmas.{ops_long, ranges_long}
use Rattle.reg_file.proofs.KeptLemmas.{kept_take, kept_again, kept_one}
use Rattle.reg_file.proofs.ExactLemmas.{IsExact, field_exact, register_exact}

-- ---- the length of a file

pub record IsLong (version : ℕ) (os : List Op) (runs : List Run) : Type 0 where
  pub ops : length os ≤ length (register_file version os runs)
  pub seen : length runs ≤ length (register_file version os runs)

pub file_long : (version : ℕ) (os : List Op) (runs : List Run) → IsLong version os runs
file_long version os runs =
    let a = length-append (head version 1) (ranges_bytes (grouped runs) ++ ops_bytes version os) in
    let b = length-append (ranges_bytes (grouped runs)) (ops_bytes version os) in
    let c = ops_long version os in
    let d = ranges_long runs in
    record { ops = omega arith; seen = omega arith }

-- ---- one version

-- the bytes are the file of the content in the version, which leaves nothing out
pub record IsHeldIn (version : ℕ) (bytes : List ℕ) (x : Content) : Type 0 where
  pub holds : HoldsIn version bytes x
  pub told : AreTold version x.ops

module _ (version : ℕ) where
  held_in : (bytes : List ℕ) (x : Content) → IsBytes bytes → length bytes ≤ most → ReadsContent version bytes x → IsHeldIn version bytes x
  held_in bytes x fits short r =
      let first = head_takes version 1 bytes (tt, r.rest) fits r.head in
      let t = kept_take version set.empty r.rest x first.rest_fits r.kept in
      record {
        holds = record {
          content = r.kept.content;
          bytes_are = record { runs = t.runs; are_runs = t.are_runs; all = t.all; whole = first.parts ∙ ap (λ (u : List ℕ). head version 1 ++ u) t.whole };
          short = short;
        };
        told = t.told;
      }

  reads_in : (bytes : List ℕ) (x : Content) → IsHeldIn version bytes x → ReadsContent version bytes x
  reads_in bytes x h =
      let f = h.holds.bytes_are in
      let os = set.items x.ops in
      let long = file_long version os f.runs in
      let whole = ap length f.whole in
      let short : length bytes ≤ most = h.holds.short in
      let few_ops : length os < 2 ^ 32 = (let k = long.ops in omega arith) in
      let few_runs : length f.runs < 2 ^ 32 = (let k = long.seen in omega arith) in
      let rest : List ℕ = ranges_bytes (grouped f.runs) ++ ops_bytes version os in
      record {
        rest = rest;
        head = ap (head_at version 1) f.whole ∙ head_again version 1 rest;
        kept = kept_again version set.empty x f.runs h.holds.content h.told f.are_runs f.all (apart_from_none f.runs) few_runs few_ops;
      }

  register_reads : (bytes : List ℕ) (x : Content) (r : ReadsContent version bytes x) → (register version).Reads bytes (tt, (((r.kept.replicas, r.kept.groups), (r.kept.count, r.kept.ops)), tt)) []
  register_reads bytes x r = (r.rest, r.head, r.kept.reads)

  read_one : (bytes : List ℕ) (x y : Content) → ReadsContent version bytes x → ReadsContent version bytes y → x ≡ y
  read_one bytes x y r s =
      let rest : r.rest ≡ s.rest = ((field_exact (head_at version 1)).one_value bytes tt tt r.rest s.rest r.head s.head).1 in
      kept_one version set.empty s.rest x y (subst (λ t. ReadsKept version set.empty t x) rest r.kept) s.kept

  no_fault : (bytes : List ℕ) (x : Content) (r : Refused) → ReadsContent version bytes x → (register version).Fails bytes r → ⊥
  no_fault bytes x r k f = (register_exact version).no_fault bytes (tt, (((k.kept.replicas, k.kept.groups), (k.kept.count, k.kept.ops)), tt)) [] r (register_reads bytes x k) f

  pub one_file_in : (x : Content) (bytes others : List ℕ) → IsFileIn version x bytes → IsFileIn version x others → bytes ≡ others
  one_file_in x bytes others f g = f.whole ∙ ap (register_file version (set.items x.ops)) (same_runs f.runs g.runs f.are_runs g.are_runs (f.all ∙ sym g.all)) ∙ sym g.whole

-- ---- either version

of_second : (bytes : List ℕ) (x : Content) → Holds bytes x → version_in bytes ≡ 2
of_second bytes x h = second_in 1 bytes _ h.bytes_are.whole

of_first : (bytes : List ℕ) (x : Content) → HoldsFirst bytes x → version_in bytes ≡ 1
of_first bytes x h = first_in 1 bytes _ h.0.bytes_are.whole

pub one_version : (bytes : List ℕ) (x y : Content) → Holds bytes x → HoldsFirst bytes y → ⊥
one_version bytes x y h k = not_both (version_in bytes) (of_first bytes y k) (of_second bytes x h)

-- bytes that are read as a content are a file of it, if they are not too many
pub read_holds : (bytes : List ℕ) (x : Content) → IsBytes bytes → length bytes ≤ most → ReadsContent (version_in bytes) bytes x → ReadsAs bytes x
read_holds bytes x fits short r = by_version (λ v. ReadsContent v bytes x → ReadsAs bytes x) bytes first second r
  where
    first : version_in bytes ≡ 1 → ReadsContent 1 bytes x → ReadsAs bytes x
    first v r = let h = held_in 1 bytes x fits short r in inr (h.holds, λ o k. h.told o k refl)

    second : version_in bytes ≡ 2 → ReadsContent 2 bytes x → ReadsAs bytes x
    second v r = inl (held_in 2 bytes x fits short r).holds

-- a file of a content is read as it
pub hold_reads : (bytes : List ℕ) (x : Content) → ReadsAs bytes x → ReadsContent (version_in bytes) bytes x
hold_reads bytes x (inl h) =
    subst (λ v. ReadsContent v bytes x) (sym (of_second bytes x h)) (reads_in 2 bytes x (record { holds = h; told = λ o k e. absurd (not_both 2 e refl) }))
hold_reads bytes x (inr h) =
    subst (λ v. ReadsContent v bytes x) (sym (of_first bytes x h)) (reads_in 1 bytes x (record { holds = h.0; told = λ o k e. h.1 o k }))

-- ---- one content, one file, one fault

pub one_reading : (bytes : List ℕ) (x y : Content) → ReadsAs bytes x → ReadsAs bytes y → x ≡ y
one_reading bytes x y h k = read_one (version_in bytes) bytes x y (hold_reads bytes x h) (hold_reads bytes y k)

pub one_content : (bytes : List ℕ) (x y : Content) → Holds bytes x → Holds bytes y → x ≡ y
one_content bytes x y h k = one_reading bytes x y (inl h) (inl k)

pub read_is_held : (bytes : List ℕ) (x y : Content) → ReadsContent (version_in bytes) bytes x → ReadsAs bytes y → x ≡ y
read_is_held bytes x y r h = read_one (version_in bytes) bytes x y r (hold_reads bytes y h)

pub one_file : (x : Content) (bytes others : List ℕ) → IsFileOf x bytes → IsFileOf x others → bytes ≡ others
one_file x bytes others f g = one_file_in 2 x bytes others f g

pub held_or_fault : (bytes : List ℕ) (x : Content) (r : Refused) → ReadsAs bytes x → (register (version_in bytes)).Fails bytes r → ⊥
held_or_fault bytes x r h f = no_fault (version_in bytes) bytes x r (hold_reads bytes x h) f

pub one_fault_at : {A : Type 0} (p : Portion A) → IsExact p → (bytes : List ℕ) (f g : FileFault) (at place : ℕ) → FailsAt p bytes f at → FailsAt p bytes g place → (f ≡ g) × (at ≡ place)
one_fault_at p is bytes f g at place h k =
    let e = is.one_fault bytes h.0 k.0 h.1 k.1 in
    (h.2 ∙ ap (λ (r : Refused). r.fault) e ∙ sym k.2, h.3 ∙ ap (λ (r : Refused). length bytes - r.left) e ∙ sym k.3)

pub one_first_fault : (bytes : List ℕ) (f g : FileFault) (at place : ℕ) → HasFault bytes f at → HasFault bytes g place → (f ≡ g) × (at ≡ place)
one_first_fault bytes = one_fault_at (register (version_in bytes)) (register_exact (version_in bytes)) bytes
