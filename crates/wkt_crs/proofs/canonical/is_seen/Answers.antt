use Rattle.std.proofs.Common.{◌≤◌, ℕ, List, length, sym, subst, arith}
use Rattle.crs_value.specs.declared.crs.Crs.{Crs}
use Rattle.wkt_canonical.specs.Reads.{IsCanonical}
use Rattle.wkt_crs.specs.Spells.{Spells, SpellsCanon}
use Rattle.wkt_crs.proofs.Written.{canonical_spells}
use Rattle.wkt_crs.proofs.canonical.is_seen.Goals as goal

own : (text : List ℕ) → length text ≤ 1048576 → IsCanonical text → SpellsCanon text text
own text short c =
    let v : Crs = record { parts = c.value; conditions = c.conditions } in
    record {
      value = v;
      spells = subst (λ t. Spells t v) (sym c.is) (canonical_spells v (subst (λ t. length t ≤ 1048576) c.is short));
      is = c.is;
    }

pub returns : goal.returns
returns c = λ h. own c.args.text.now (omega arith) (c.is_canonical.ensures h)
