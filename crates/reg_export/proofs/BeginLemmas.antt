-- The first rows of a text.
use Rattle.std.proofs.Common.{◌≡◌, ℕ, ◌+◌, ◌<◌, Bool, ◌||◌, List, [], ◌∷◌, ◌++◌, map, take, drop, length, get_or, refl, sym, ap, ◌∙◌, append_assoc, ◌==◌, not, arith}
use Rattle.std.proofs.lemmas.List.{take_more, map-append, take-append-drop}
use Rattle.std.proofs.lemmas.Bool.Decides.{nat_tests}
use Rattle.std.specs.BTreeMap.{BTreeMap}
use Rattle.std.specs.Global.{Vec}
use Rattle.byte_io.specs.Device.{SinkState}
use Rattle.crs_export.specs.Features.{listed, listed_behind, are_some}
use Rattle.crs_export.specs.declared.held.RowPlace.{RowPlace}
use Rattle.crs_export.specs.declared.held.HeldText.{HeldText}
use Rattle.crs_export.specs.declared.filed.Filed.{Filed}
use Rattle.crs_export.specs.Held.{Holds}
use Rattle.crs_export.specs.Sql.{text_at, lines}
use Rattle.reg_op.specs.Rows.{Row}
use Rattle.reg_export.specs.Titles.{Each}
use Rattle.reg_export.specs.ProjSql.{FilesAs}
use Rattle.reg_export.specs.ProjSql.{BeginsWith as BeginsStatements}
use Rattle.reg_export.specs.Geojson.{AreFeaturesOf, BeginsWith}
use Rattle.reg_engine.specs.declared.fault.CliFault.{CliFault}
use Rattle.reg_export.specs.Written.{IsSoFar, IsStopped, IsCutShort}
use Rattle.reg_export.proofs.EachLemmas.{each_more}
use Rattle.crs_export.proofs.InTurn.{listed_both, some_of_both, lines_both}
use Rattle.reg_export.proofs.WrittenLemmas.{made, moved}

-- ---- the first rows of a list

pub before_more : {V W : Type 0} (f : W → V) (ws : List W) (i : ℕ) (d : W) → i < length ws → map f (take (i + 1) ws) ≡ map f (take i ws) ++ f (get_or ws i d) ∷ []
before_more f ws i d h = ap (map f) (take_more ws i d h) ∙ map-append f (take i ws) (get_or ws i d ∷ [])

pub both_parts : {V W : Type 0} (f : W → V) (ws : List W) (i : ℕ) → map f (take i ws) ++ map f (drop i ws) ≡ map f ws
both_parts f ws i = sym (map-append f (take i ws) (drop i ws)) ∙ ap (map f) (take-append-drop i ws)

-- ---- features

-- whether there are some
pub some_features : (fs : List (Vec ℕ)) → not (length fs == 0) ≡ are_some (map (λ (f : Vec ℕ). f.items) fs)
some_features [] = refl
some_features (f ∷ fs) = grind (arith, nat_tests)

-- these rows have given so much
pub record HasFeatures (start : List ℕ) (rs : List Row) (first now : SinkState) (waiting : List ℕ) (behind : Bool) (count : ℕ) : Type 0 where
  pub fs : List (List ℕ)
  pub each : Each AreFeaturesOf rs fs
  pub some : behind ≡ are_some fs
  pub so_far : IsSoFar first (start ++ listed fs) now waiting count

-- one more row, whose features wait
pub features_more : {start : List ℕ} {rs : List Row} {first now : SinkState} {waiting new : List ℕ} {behind : Bool} {count : ℕ} (r : Row) (mine : List (List ℕ)) (more : Bool)
    → HasFeatures start rs first now waiting behind count → AreFeaturesOf r mine → new ≡ waiting ++ listed_behind behind mine → more ≡ (behind || are_some mine)
    → HasFeatures start (rs ++ r ∷ []) first now new more count
features_more {start = start} {rs = rs} {waiting = waiting} {new = new} {behind = behind} r mine more has gives pushed is = record {
  fs = has.fs ++ mine;
  each = each_more AreFeaturesOf rs r has.fs mine has.each gives;
  some = is ∙ ap (λ b. b || are_some mine) has.some ∙ sym (some_of_both has.fs mine);
  so_far = moved (made (listed_behind (are_some has.fs) mine) has.so_far (pushed ∙ ap (λ b. waiting ++ listed_behind b mine) has.some))
      (append_assoc start (listed has.fs) (listed_behind (are_some has.fs) mine) ∙ ap (λ l. start ++ l) (sym (listed_both has.fs mine)));
}

-- the bytes that wait are written, or some of them
pub features_passed : {start : List ℕ} {rs : List Row} {first now after : SinkState} {waiting new : List ℕ} {behind : Bool} {count total : ℕ} (has : HasFeatures start rs first now waiting behind count)
    → IsSoFar first (start ++ listed has.fs) after new total → HasFeatures start rs first after new behind total
features_passed has so_far = record { fs = has.fs; each = has.each; some = has.some; so_far = so_far }

-- the output stops there
pub features_cut : {start : List ℕ} {rs all : List Row} {first now after : SinkState} {waiting : List ℕ} {behind : Bool} {count : ℕ} (later : List Row) (f : CliFault)
    → (has : HasFeatures start rs first now waiting behind count) → rs ++ later ≡ all → IsStopped (start ++ listed has.fs) first after f → IsCutShort (BeginsWith start) all first after f
features_cut {start = start} {rs = rs} later f has split stops = record { some = rs; later = later; are_first = split; text = start ++ listed has.fs; begins = (has.fs, has.each, refl); stops = stops }

-- ---- statements

-- these rows have given so much, and these texts are held
pub record HasStatements (start : List ℕ) (all : Bool) (rs : List Row) (held : BTreeMap RowPlace HeldText) (first now : SinkState) (waiting : List ℕ) (count : ℕ) : Type 0 where
  pub fs : List Filed
  pub each : Each (FilesAs all) rs fs
  pub holds : Holds held (λ p. text_at p fs)
  pub so_far : IsSoFar first (start ++ lines [] fs) now waiting count

-- what one more row gives after others
abbrev pub GivesAfter : Bool → Row → BTreeMap RowPlace HeldText → List ℕ → List ℕ → List Filed → Type 0
GivesAfter all r held waiting new before = (mine : List Filed) × FilesAs all r mine × Holds held (λ p. text_at p (before ++ mine)) × (new ≡ waiting ++ lines before mine)

-- one more row, whose statements wait
pub statements_more : {start : List ℕ} {all : Bool} {rs : List Row} {held then : BTreeMap RowPlace HeldText} {first now : SinkState} {waiting new : List ℕ} {count : ℕ} (r : Row)
    → (has : HasStatements start all rs held first now waiting count) → GivesAfter all r then waiting new has.fs → HasStatements start all (rs ++ r ∷ []) then first now new count
statements_more {start = start} {all = all} {rs = rs} r has (mine, gives, holds, pushed) = record {
  fs = has.fs ++ mine;
  each = each_more (FilesAs all) rs r has.fs mine has.each gives;
  holds = holds;
  so_far = moved (made (lines has.fs mine) has.so_far pushed) (append_assoc start (lines [] has.fs) (lines has.fs mine) ∙ ap (λ l. start ++ l) (sym (lines_both [] has.fs mine)));
}

-- the bytes that wait are written, or some of them
pub statements_passed : {start : List ℕ} {all : Bool} {rs : List Row} {held : BTreeMap RowPlace HeldText} {first now after : SinkState} {waiting new : List ℕ} {count total : ℕ}
    (has : HasStatements start all rs held first now waiting count) → IsSoFar first (start ++ lines [] has.fs) after new total → HasStatements start all rs held first after new total
statements_passed has so_far = record { fs = has.fs; each = has.each; holds = has.holds; so_far = so_far }

-- the output stops there
pub statements_cut : {start : List ℕ} {all : Bool} {rs every : List Row} {held : BTreeMap RowPlace HeldText} {first now after : SinkState} {waiting : List ℕ} {count : ℕ} (later : List Row) (f : CliFault)
    → (has : HasStatements start all rs held first now waiting count) → rs ++ later ≡ every → IsStopped (start ++ lines [] has.fs) first after f → IsCutShort (BeginsStatements start all) every first after f
statements_cut {start = start} {rs = rs} later f has split stops = record { some = rs; later = later; are_first = split; text = start ++ lines [] has.fs; begins = (has.fs, has.each, refl); stops = stops }
