-- Files of the same bytes have the same readings.
use Rattle.std.proofs.Common.{◌≡◌, ℕ, ◌+◌, List, [], ◌∷◌, ◌++◌, map, refl, sym, ap, subst, ◌∙◌}
use Rattle.std.proofs.lemmas.List.{append_cancel_left}
use Rattle.crs_part.specs.declared.text.Text.{Text}
use Rattle.crs_part.proofs.Texts.{same_text}
use Rattle.crs_value.specs.declared.key.Key.{Key}
use Rattle.wkt_compare.proofs.OneCut.{one_cut}
use Rattle.byte_io.specs.Device.{SourceState}
use Rattle.reg_report.specs.Conflicts.{KeyBytes, bytes_of}
use Rattle.reg_import.specs.declared.reading.FileText.{FileText}
use Rattle.reg_import.specs.declared.reading.ReadText.{ReadText}
use Rattle.reg_import.specs.declared.reading.ReadText.TheVariants as reading
use Rattle.reg_import.specs.Readings.{readings}
use Rattle.reg_import.specs.Again.{IsSameReading, AreReadings}
use Rattle.reg_import.proofs.ReadingLemmas.{one_reading}
use Rattle.reg_desk.specs.ImportFiles.{GiveAll}
use Rattle.reg_desk.specs.ImportTexts.{TextAt, in_file, AreCuts, AreRead, HaveTexts}

-- ---- the bytes that sources gave

pub one_given : (os ns : List SourceState) (bs cs : List (List ℕ)) → GiveAll os ns bs → GiveAll os ns cs → bs ≡ cs
one_given [] [] [] [] h k = refl
one_given [] [] [] (c ∷ cs) h k = absurd k
one_given [] [] (b ∷ bs) cs h k = absurd h
one_given [] (n ∷ ns) bs cs h k = absurd h
one_given (o ∷ os) [] bs cs h k = absurd h
one_given (o ∷ os) (n ∷ ns) [] cs h k = absurd h
one_given (o ∷ os) (n ∷ ns) (b ∷ bs) [] h k = absurd k
one_given (o ∷ os) (n ∷ ns) (b ∷ bs) (c ∷ cs) h k =
    let same : b ≡ c = append_cancel_left o.given b c (sym h.0.0.given ∙ k.0.0.given) in
    ap (λ x. x ∷ bs) same ∙ ap (λ xs. c ∷ xs) (one_given os ns bs cs h.1 k.1)

-- ---- texts

same_key : (key other : Key) → bytes_of key ≡ bytes_of other → key ≡ other
same_key key other e =
    let make : Text → Text → Key = λ a c. record { authority = a; code = c } in
    ap (λ a. make a key.code) (same_text key.authority other.authority (ap (λ (k : KeyBytes). k.authority) e))
    ∙ ap (make other.authority) (same_text key.code other.code (ap (λ (k : KeyBytes). k.code) e))

pub same_reading : (r s : ReadText) → IsSameReading r s → r ≡ s
same_reading (reading.Defined text key) (reading.Defined other its) h = ap (λ t. reading.Defined t key) h.0 ∙ ap (reading.Defined other) (same_key key its h.1)
same_reading (reading.Defined text key) (reading.Unread g) h = absurd h
same_reading (reading.Unread f) (reading.Defined other its) h = absurd h
same_reading (reading.Unread f) (reading.Unread g) h = ap reading.Unread h

pub one_cuts : (file : ℕ) (files : List (List ℕ)) (cs ds : List TextAt) → AreCuts file files cs → AreCuts file files ds → cs ≡ ds
one_cuts file [] cs ds h k = h ∙ sym k
one_cuts file (bytes ∷ others) cs ds (these, rest, cut, are, whole) (those, more, slit, be, all) =
    whole ∙ ap (λ ps. map (in_file file) ps ++ rest) (one_cut bytes these those cut slit)
    ∙ ap (λ m. map (in_file file) those ++ m) (one_cuts (file + 1) others rest more are be) ∙ sym all

pub one_read : (cuts : List TextAt) (ts us : List FileText) → AreRead cuts ts → AreRead cuts us → readings ts ≡ readings us
one_read [] [] [] h k = refl
one_read [] [] (u ∷ us) h k = absurd k
one_read [] (t ∷ ts) us h k = absurd h
one_read (c ∷ cs) [] us h k = absurd h
one_read (c ∷ cs) (t ∷ ts) [] h k = absurd k
one_read (c ∷ cs) (t ∷ ts) (u ∷ us) h k =
    ap (λ r. r ∷ readings ts) (same_reading t.reading u.reading (one_reading c.bytes t.reading u.reading h.0.reads k.0.reads)) ∙ ap (λ rs. u.reading ∷ rs) (one_read cs ts us h.1 k.1)

pub same_readings : (files : List (List ℕ)) (cuts others : List TextAt) (ts us : List FileText) → HaveTexts files cuts ts → HaveTexts files others us → readings ts ≡ readings us
same_readings files cuts others ts us h k = one_read cuts ts us h.read (subst (λ cs. AreRead cs us) (sym (one_cuts 0 files cuts others h.cut k.cut)) k.read)

-- texts that were read have these readings
pub are_readings : (cuts : List TextAt) (ts : List FileText) → AreRead cuts ts → AreReadings (map (λ (c : TextAt). c.bytes) cuts) (readings ts)
are_readings [] [] h = refl
are_readings [] (t ∷ ts) h = absurd h
are_readings (c ∷ cs) [] h = absurd h
are_readings (c ∷ cs) (t ∷ ts) h = (t.reading, readings ts, h.0.reads, are_readings cs ts h.1, refl)
