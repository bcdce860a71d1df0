-- The tables of bytes.
use Rattle.std.proofs.Common.{◌≡◌, ℕ, ◌<◌, false, List, get_or, map, refl, ap, ◌∙◌, arith}
use Rattle.std.specs.Prelude.{None}
use Rattle.std.specs.List.{range_with_len}
use Rattle.std.proofs.lemmas.List.FromFn.{get_or-map-range_with_len}
use Rattle.wkt_tree.specs.declared.bytes.TheConstants.{BLANKS, WORD_BYTES, NUMBER_BYTES, BEGINNINGS}
use Rattle.wkt_tree.specs.Bytes.{is_blank, is_word_byte, is_number_byte, begun_by}

-- a table of the values of f for all bytes returns the value of f at each byte
told : {A : Type 0} (f : ℕ → A) (table : List A) (d : A) (b : ℕ) → table ≡ map f (range_with_len 0 256) → b < 256 → get_or table b d ≡ f b
told f table d b e h = ap (λ l. get_or l b d) e ∙ get_or-map-range_with_len f 0 256 b b d h (omega arith)

pub blank_told : (b : ℕ) → b < 256 → get_or BLANKS b false ≡ is_blank b
blank_told b h = told is_blank BLANKS false b refl h

pub word_told : (b : ℕ) → b < 256 → get_or WORD_BYTES b false ≡ is_word_byte b
word_told b h = told is_word_byte WORD_BYTES false b refl h

pub number_told : (b : ℕ) → b < 256 → get_or NUMBER_BYTES b false ≡ is_number_byte b
number_told b h = told is_number_byte NUMBER_BYTES false b refl h

pub beginning_told : (b : ℕ) → b < 256 → get_or BEGINNINGS b None ≡ begun_by b
unfolding begun_by
beginning_told b h = told begun_by BEGINNINGS None b refl h
