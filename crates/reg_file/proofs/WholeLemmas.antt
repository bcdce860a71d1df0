-- The steps of reading whole files.
use Rattle.std.proofs.Common.{◌≡◌, ℕ, List, [], None, Ok, refl, ap, subst, ◌∙◌, sym}
use Rattle.std.specs.Int.{w32}
use Rattle.reg_op.specs.Set as set
use Rattle.reg_op.specs.Ids.{Ids}
use Rattle.reg_op.specs.Operations.{Op}
use Rattle.reg_op.specs.Contents.{Content}
use Rattle.reg_op.specs.Lists.{content_at}
use Rattle.reg_op.specs.Pieces.{Piece, part_of}
use Rattle.reg_state.specs.Runs.{AllIds, seen_of}
use Rattle.reg_file.specs.declared.fault.Stop.{Stop}
use Rattle.reg_file.specs.declared.fault.Stop.TheVariants as stop
use Rattle.reg_file.specs.declared.op_offset.OpOffset.{OpOffset}
use Rattle.reg_file.specs.Layout.{runs_of}
use Rattle.reg_file.specs.Fields.{Fails, head_at, number_at}
use Rattle.reg_file.specs.Readers.{field, ◌behind◌, StopsIn}
use Rattle.reg_file.specs.Reading.{ranges, operations, counted_operations, places_of, ending, seen_and_ops, seen_and_kept, register, ended, summary, based, piece}
use Rattle.reg_file.specs.Steps.{ReadsSeen, ReadsOps, EndsWell, StopsAtEnd, ReadsKept, ReadsContent, ReadsSummary, EndsPiece, ReadsBased}
use Rattle.reg_file.proofs.FieldLemmas.{IsBytes, number_takes}
use Rattle.reg_file.proofs.GroupLemmas.{ranges_take}
use Rattle.reg_file.proofs.ApartLemmas.{seen_apart}
use Rattle.reg_file.proofs.ListLemmas.{ops_take, by_id_of, seen_of_own}
use Rattle.reg_file.proofs.Sequences.{stops_field, stops_front, stops_back}

-- ---- seen ids and operations

module _ (version : ℕ) (basis : Ids) (bytes : List ℕ) where
  pub stops_in_seen : (s : Stop) → StopsIn (ranges basis) bytes s → StopsIn (seen_and_ops version basis) bytes s
  stops_in_seen s h = stops_front (ranges basis) (λ gs. counted_operations version (seen_of (runs_of gs.1))) bytes s h

  module _ (seen : Ids) (r2 : List ℕ) (a : ReadsSeen basis bytes seen r2) where
    in_operations : (s : Stop) → StopsIn (counted_operations version (seen_of (runs_of a.all))) r2 s → StopsIn (seen_and_ops version basis) bytes s
    in_operations s h = stops_back (ranges basis) (λ gs. counted_operations version (seen_of (runs_of gs.1))) bytes (a.count, a.all) r2 s a.reads h

    pub stops_in_count : (s : Stop) → Fails s (number_at w32 r2) → StopsIn (seen_and_ops version basis) bytes s
    stops_in_count s h = in_operations s (stops_front (field (number_at w32)) (operations version (seen_of (runs_of a.all))) r2 s (stops_field (number_at w32) r2 s h))

    module _ (n : ℕ) (r3 : List ℕ) (count : number_at w32 r2 ≡ Ok (n, r3)) where
      pub stops_in_ops : (s : Stop) → StopsIn (operations version seen n) r3 s → StopsIn (seen_and_ops version basis) bytes s
      stops_in_ops s h =
          in_operations s (stops_back (field (number_at w32)) (operations version (seen_of (runs_of a.all))) r2 n r3 s count (subst (λ v. StopsIn (operations version v n) r3 s) a.ids h))

      pub ops_read : (os : List Op) (places : List OpOffset) (rest : List ℕ) → (operations version seen n).Reads r3 os rest → places ≡ places_of version os rest → IsBytes bytes → ReadsOps version basis bytes os places seen rest
      ops_read os places rest reads placed fits =
          let second = ranges_take basis bytes a.count a.all r2 fits a.reads in
          let third = number_takes r2 n r3 second.0.rest_fits count in
          let own = (ops_take version seen None r3 os rest third.0.rest_fits reads.0).own in
          record {
            replicas = a.count;
            groups = a.all;
            count = n;
            reads = (r2, a.reads, (r3, count, subst (λ v. (operations version v n).Reads r3 os rest) a.ids reads));
            ids = a.ids;
            places_are = placed;
            by_id = by_id_of version None seen os own;
            are_seen = seen_of_own version None seen os own;
            apart = seen_apart basis bytes seen r2 fits a;
          }

-- ---- up to the end of the file

pub stops_before : (version : ℕ) (basis : Ids) (bytes : List ℕ) (s : Stop) → StopsIn (seen_and_ops version basis) bytes s → StopsIn (seen_and_kept version basis) bytes s
stops_before version basis bytes s h = stops_front (seen_and_ops version basis) (λ x. ending version x.1.1) bytes s h

module _ (version : ℕ) (basis : Ids) (bytes : List ℕ) (os : List Op) (places : List OpOffset) (seen : Ids) (rest : List ℕ) where
  module _ (a : ReadsOps version basis bytes os places seen rest) where
    ending_stops : (s : Stop) → StopsAtEnd os places rest s → StopsIn (ending version os) rest s
    ending_stops stop.Memory h = tt
    ending_stops (stop.Refused r) h = subst (λ ps. StopsAtEnd os ps rest (stop.Refused r)) a.places_are h

    pub stops_at_end : (s : Stop) → StopsAtEnd os places rest s → StopsIn (seen_and_kept version basis) bytes s
    stops_at_end s h = stops_back (seen_and_ops version basis) (λ x. ending version x.1.1) bytes ((a.replicas, a.groups), (a.count, os)) rest s a.reads (ending_stops s h)

    pub reads_kept : (x : Content) → EndsWell os seen rest x → ReadsKept version basis bytes x
    reads_kept x w = record {
      replicas = a.replicas;
      groups = a.groups;
      count = a.count;
      ops = os;
      reads = (rest, a.reads, (w.none_dropped, w.over, refl));
      is = w.is ∙ ap (content_at os) a.ids;
      content = w.content;
    }

-- ---- registers

module _ (version : ℕ) (bytes rest : List ℕ) (head : head_at version 1 bytes ≡ Ok (tt, rest)) (basis : Ids) (none : basis ≡ set.empty) where
  pub stops_in_register : (s : Stop) → StopsIn (seen_and_kept version basis) rest s → StopsIn (register version) bytes s
  stops_in_register s h =
      stops_back (field (head_at version 1)) (λ x. seen_and_kept version set.empty) bytes tt rest s head (subst (λ b. StopsIn (seen_and_kept version b) rest s) none h)

  pub reads_register : (x : Content) → ReadsKept version basis rest x → ReadsContent version bytes x
  reads_register x k = record { rest = rest; head = head; kept = subst (λ b. ReadsKept version b rest x) none k }

-- ---- summaries

module _ (version : ℕ) (bytes rest : List ℕ) (head : head_at version 2 bytes ≡ Ok (tt, rest)) (none : Ids) (is_none : none ≡ set.empty) where
  behind_head : (s : Stop) → StopsIn (ranges set.empty behind (λ gs. ended)) rest s → StopsIn (summary version) bytes s
  behind_head s h = stops_back (field (head_at version 2)) (λ x. ranges set.empty behind (λ gs. ended)) bytes tt rest s head h

  module _ (ids : Ids) (left : List ℕ) (a : ReadsSeen none rest ids left) where
    pub stops_behind_summary : (s : Stop) → StopsIn ended left s → StopsIn (summary version) bytes s
    stops_behind_summary s h =
        behind_head s (stops_back (ranges set.empty) (λ gs. ended) rest (a.count, a.all) left s (subst (λ b. (ranges b).Reads rest (a.count, a.all) left) is_none a.reads) h)

    pub reads_summary : left ≡ [] → AllIds ids → ReadsSummary version bytes ids
    reads_summary over are = record {
      rest = rest;
      head = head;
      seen = subst (λ (z : Ids × List ℕ). ReadsSeen z.0 rest ids z.1) (λ j. (is_none j, over j)) a;
      are_ids = are;
    }

-- ---- pieces

module _ (version : ℕ) (bytes : List ℕ) (none : Ids) (is_none : none ≡ set.empty) where
  pub stops_in_basis : (s : Stop) → StopsIn (ranges none) bytes s → StopsIn (based version) bytes s
  stops_in_basis s h = stops_front (ranges set.empty) (λ gs. seen_and_kept version (seen_of (runs_of gs.1))) bytes s (subst (λ b. StopsIn (ranges b) bytes s) is_none h)

  module _ (basis : Ids) (rest : List ℕ) (a : ReadsSeen none bytes basis rest) where
    a' : ReadsSeen set.empty bytes basis rest
    a' = subst (λ b. ReadsSeen b bytes basis rest) is_none a

    pub stops_behind_basis : (s : Stop) → StopsIn (seen_and_kept version basis) rest s → StopsIn (based version) bytes s
    stops_behind_basis s h =
        stops_back (ranges set.empty) (λ gs. seen_and_kept version (seen_of (runs_of gs.1))) bytes (a'.count, a'.all) rest s a'.reads (subst (λ v. StopsIn (seen_and_kept version v) rest s) a'.ids h)

    pub reads_based : (p : Piece) (os : List Op) (places : List OpOffset) (seen : Ids) (r4 : List ℕ) → ReadsOps version basis rest os places seen r4 → EndsPiece os basis seen r4 p → ReadsBased version bytes p
    reads_based p os places seen r4 o w = record {
      rest = rest;
      basis = subst (λ b. ReadsSeen set.empty bytes b rest) (sym w.basis_is) a';
      kept = subst (λ b. ReadsKept version b rest (part_of p)) (sym w.basis_is) (reads_kept version basis rest os places seen r4 o (part_of p) w.ends);
      piece = w.piece;
    }

module _ (version : ℕ) (bytes rest : List ℕ) (head : head_at version 3 bytes ≡ Ok (tt, rest)) where
  pub stops_in_piece : (s : Stop) → StopsIn (based version) rest s → StopsIn (piece version) bytes s
  stops_in_piece s h = stops_back (field (head_at version 3)) (λ x. based version) bytes tt rest s head h
