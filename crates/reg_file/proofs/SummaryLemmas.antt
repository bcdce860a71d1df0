-- Bytes within the size limit are a file of the seen ids if and only if they are read as these ids.
use Rattle.std.proofs.Common.{◌≡◌, ℕ, ◌^◌, ◌<◌, ◌≤◌, List, [], ◌++◌, length, refl, sym, ap, subst, ◌∙◌, arith, inl, inr}
use Rattle.std.proofs.lemmas.List.{append-nil, length-append}
use Rattle.reg_op.specs.Set as set
use Rattle.reg_op.specs.Ids.{Ids}
use Rattle.reg_state.specs.declared.run.Run.{Run}
use Rattle.reg_state.specs.Runs.{AreRuns, seen_of}
use Rattle.reg_state.proofs.CanonLemmas.{same_runs}
use Rattle.reg_file.specs.Layout.{ranges_bytes, grouped, head, seen_file}
use Rattle.reg_file.specs.Fields.{head_at}
use Rattle.reg_file.specs.Reading.{version_in, summary, HasSeenFault}
use Rattle.reg_file.specs.Steps.{ReadsSeen, ReadsSummary}
use Rattle.reg_file.specs.Files.{most, IsSeenFileIn, IsSeenFileOf, HoldsSeenIn, HoldsSeen, HoldsFirstSeen, ReadsAsSeen, IsSeenTooLarge}
use Rattle.reg_file.specs.declared.fault.Refused.{Refused}
use Rattle.reg_file.specs.declared.fault.FileFault.{FileFault}
use Rattle.reg_file.proofs.FieldLemmas.{IsBytes, head_takes, head_again}
use Rattle.reg_file.proofs.VersionLemmas.{second_in, first_in, not_both, by_version}
use Rattle.reg_file.proofs.ApartLemmas.{apart_from_none}
use Rattle.reg_file.proofs.LongLemmas.{ranges_long}
use Rattle.reg_file.proofs.KeptLemmas.{seen_take, seen_again, seen_one}
use Rattle.reg_file.proofs.ExactLemmas.{field_exact, summary_exact}
use Rattle.reg_file.proofs.HoldLemmas.{one_fault_at}

-- ---- one version

module _ (version : ℕ) where
  held_in : (bytes : List ℕ) (ids : Ids) → IsBytes bytes → length bytes ≤ most → ReadsSummary version bytes ids → HoldsSeenIn version bytes ids
  held_in bytes ids fits short r =
      let first = head_takes version 2 bytes (tt, r.rest) fits r.head in
      let second = seen_take set.empty r.rest ids [] first.rest_fits r.seen in
      record {
        are_ids = r.are_ids;
        bytes_are = record {
          runs = second.runs;
          are_runs = second.are_runs;
          all = second.all;
          whole = first.parts ∙ ap (λ (u : List ℕ). head version 2 ++ u) (second.takes.parts ∙ append-nil (ranges_bytes (grouped second.runs)));
        };
        short = short;
      }

  pub file_long : (runs : List Run) → length runs ≤ length (seen_file version runs)
  file_long runs =
      let a = length-append (head version 2) (ranges_bytes (grouped runs)) in
      let b = ranges_long runs in
      omega arith

  reads_in : (bytes : List ℕ) (ids : Ids) → HoldsSeenIn version bytes ids → ReadsSummary version bytes ids
  reads_in bytes ids h =
      let f = h.bytes_are in
      let rest = ranges_bytes (grouped f.runs) in
      let whole = ap length f.whole in
      let short : length bytes ≤ most = h.short in
      let few : length f.runs < 2 ^ 32 = (let k = file_long f.runs in omega arith) in
      record {
        rest = rest;
        head = ap (head_at version 2) f.whole ∙ head_again version 2 rest;
        seen = subst (λ (t : List ℕ). ReadsSeen set.empty t ids []) (append-nil rest) (seen_again set.empty ids f.runs [] h.are_ids f.are_runs f.all (apart_from_none f.runs) few);
        are_ids = h.are_ids;
      }

  summary_reads : (bytes : List ℕ) (ids : Ids) (r : ReadsSummary version bytes ids) → (summary version).Reads bytes (tt, ((r.seen.count, r.seen.all), tt)) []
  summary_reads bytes ids r = (r.rest, r.head, ([], r.seen.reads, (refl, refl)))

  read_one : (bytes : List ℕ) (x y : Ids) → ReadsSummary version bytes x → ReadsSummary version bytes y → x ≡ y
  read_one bytes x y r s =
      let rest : r.rest ≡ s.rest = ((field_exact (head_at version 2)).one_value bytes tt tt r.rest s.rest r.head s.head).1 in
      (seen_one set.empty s.rest x y [] [] (subst (λ t. ReadsSeen set.empty t x []) rest r.seen) s.seen).0

  no_fault : (bytes : List ℕ) (ids : Ids) (r : Refused) → ReadsSummary version bytes ids → (summary version).Fails bytes r → ⊥
  no_fault bytes ids r k f = (summary_exact version).no_fault bytes (tt, ((k.seen.count, k.seen.all), tt)) [] r (summary_reads bytes ids k) f

  pub one_file_in : (ids : Ids) (bytes others : List ℕ) → IsSeenFileIn version ids bytes → IsSeenFileIn version ids others → bytes ≡ others
  one_file_in ids bytes others f g = f.whole ∙ ap (seen_file version) (same_runs f.runs g.runs f.are_runs g.are_runs (f.all ∙ sym g.all)) ∙ sym g.whole

-- ---- either version

of_second : (bytes : List ℕ) (ids : Ids) → HoldsSeen bytes ids → version_in bytes ≡ 2
of_second bytes ids h = second_in 2 bytes _ h.bytes_are.whole

of_first : (bytes : List ℕ) (ids : Ids) → HoldsFirstSeen bytes ids → version_in bytes ≡ 1
of_first bytes ids h = first_in 2 bytes _ h.bytes_are.whole

pub one_version : (bytes : List ℕ) (x y : Ids) → HoldsSeen bytes x → HoldsFirstSeen bytes y → ⊥
one_version bytes x y h k = not_both (version_in bytes) (of_first bytes y k) (of_second bytes x h)

pub read_holds : (bytes : List ℕ) (ids : Ids) → IsBytes bytes → length bytes ≤ most → ReadsSummary (version_in bytes) bytes ids → ReadsAsSeen bytes ids
read_holds bytes ids fits short r =
    by_version (λ v. ReadsSummary v bytes ids → ReadsAsSeen bytes ids) bytes (λ v s. inr (held_in 1 bytes ids fits short s)) (λ v s. inl (held_in 2 bytes ids fits short s)) r

hold_reads : (bytes : List ℕ) (ids : Ids) → ReadsAsSeen bytes ids → ReadsSummary (version_in bytes) bytes ids
hold_reads bytes ids (inl h) = subst (λ v. ReadsSummary v bytes ids) (sym (of_second bytes ids h)) (reads_in 2 bytes ids h)
hold_reads bytes ids (inr h) = subst (λ v. ReadsSummary v bytes ids) (sym (of_first bytes ids h)) (reads_in 1 bytes ids h)

-- ---- one summary, one file, one fault

pub one_reading : (bytes : List ℕ) (x y : Ids) → ReadsAsSeen bytes x → ReadsAsSeen bytes y → x ≡ y
one_reading bytes x y h k = read_one (version_in bytes) bytes x y (hold_reads bytes x h) (hold_reads bytes y k)

pub one_summary : (bytes : List ℕ) (x y : Ids) → HoldsSeen bytes x → HoldsSeen bytes y → x ≡ y
one_summary bytes x y h k = one_reading bytes x y (inl h) (inl k)

pub read_is_held : (bytes : List ℕ) (x y : Ids) → ReadsSummary (version_in bytes) bytes x → ReadsAsSeen bytes y → x ≡ y
read_is_held bytes x y r h = read_one (version_in bytes) bytes x y r (hold_reads bytes y h)

pub one_file : (ids : Ids) (bytes others : List ℕ) → IsSeenFileOf ids bytes → IsSeenFileOf ids others → bytes ≡ others
one_file ids bytes others f g = one_file_in 2 ids bytes others f g

pub held_or_fault : (bytes : List ℕ) (ids : Ids) (r : Refused) → ReadsAsSeen bytes ids → (summary (version_in bytes)).Fails bytes r → ⊥
held_or_fault bytes ids r h f = no_fault (version_in bytes) bytes ids r (hold_reads bytes ids h) f

pub one_first_fault : (bytes : List ℕ) (f g : FileFault) (at place : ℕ) → HasSeenFault bytes f at → HasSeenFault bytes g place → (f ≡ g) × (at ≡ place)
one_first_fault bytes = one_fault_at (summary (version_in bytes)) (summary_exact (version_in bytes)) bytes

-- ---- files that are too large

pub file_of : (ids : Ids) (rs : List Run) → AreRuns rs → seen_of rs ≡ ids → IsSeenFileOf ids (seen_file 2 rs)
file_of ids rs are all = record { runs = rs; are_runs = are; all = all; whole = refl }

pub not_large : (ids : Ids) (bytes : List ℕ) → IsSeenFileOf ids bytes → length bytes ≤ most → IsSeenTooLarge ids → ⊥
not_large ids bytes f short t =
    let same = ap length (one_file ids bytes t.0 f t.1) in
    let over : most < length t.0 = t.2 in
    omega arith
