use Rattle.std.proofs.Common.{◌≤◌, ℕ, length, sym, subst, ap, ◌∙◌, Some}
use Rattle.std.proofs.lemmas.List.Sums.{prefix_len-le-length}
use Rattle.std.proofs.lemmas.Bool.{true≢false}
use Rattle.crs_value.specs.declared.search.point.Point.{Point}
use Rattle.crs_value.specs.Points.{is_no_comma, IsOnGlobe}
use Rattle.crs_value.proofs.PointLemmas.{latitude_of, longitude_of, same_point, read_once, not_read}
use Rattle.crs_value.proofs.search.point.Point.read.Goals as goal

pub split_at-requires : goal.split_at-requires
split_at-requires c = subst (λ (n : ℕ). n ≤ length c.args.text.now) (sym c.before_comma.ensures) (prefix_len-le-length is_no_comma c.args.text.now)

pub returns-in_default-clause-only : goal.returns-in_default-clause-only
returns-in_default-clause-only c p h =
    let latitude = c.from_numeral.ensures.only p.latitude (latitude_of c.args.text.now c.split_at.result.0.now c.before_comma.result p c.split_at.ensures.front c.before_comma.ensures h) in
    absurd (not_read c.from_numeral.result c.in_default.field-0 p.latitude c.in_default.is latitude)

pub returns-in_default-from_numeral-clause-only : goal.returns-in_default-from_numeral-clause-only
returns-in_default-from_numeral-clause-only c p h =
    let longitude = c.from_numeral-2.ensures.only p.longitude
    (longitude_of c.args.text.now c.split_at.result.1.now c.behind_comma.result.now c.before_comma.result p c.split_at.ensures.back c.before_comma.ensures c.behind_comma.ensures h) in
    absurd (not_read c.from_numeral-2.result c.in_default-from_numeral.field-0 p.longitude c.in_default-from_numeral.is longitude)

pub returns-then-not-is_on_globe-clause-only : goal.returns-then-not-is_on_globe-clause-only
returns-then-not-is_on_globe-clause-only c p h =
    let latitude = c.from_numeral.ensures.only p.latitude (latitude_of c.args.text.now c.split_at.result.0.now c.before_comma.result p c.split_at.ensures.front c.before_comma.ensures h) in
    let longitude = c.from_numeral-2.ensures.only p.longitude
    (longitude_of c.args.text.now c.split_at.result.1.now c.behind_comma.result.now c.before_comma.result p c.split_at.ensures.back c.before_comma.ensures c.behind_comma.ensures h) in
    let same = same_point c.in-Ok.latitude c.in-Ok-from_numeral.longitude p
    (read_once c.from_numeral.result c.in-Ok.latitude p.latitude c.in-Ok.is latitude)
    (read_once c.from_numeral-2.result c.in-Ok-from_numeral.longitude p.longitude c.in-Ok-from_numeral.is longitude) in
    let is = c.is_on_globe.ensures.1 (subst (λ (q : Point). IsOnGlobe q) (sym same) h.2) in
    absurd (true≢false (sym is ∙ c.if-not-is_on_globe.true))

pub returns-clause-only : goal.returns-clause-only
returns-clause-only c p h =
    let latitude = c.from_numeral.ensures.only p.latitude (latitude_of c.args.text.now c.split_at.result.0.now c.before_comma.result p c.split_at.ensures.front c.before_comma.ensures h) in
    let longitude = c.from_numeral-2.ensures.only p.longitude
    (longitude_of c.args.text.now c.split_at.result.1.now c.behind_comma.result.now c.before_comma.result p c.split_at.ensures.back c.before_comma.ensures c.behind_comma.ensures h) in
    ap Some (same_point c.in-Ok.latitude c.in-Ok-from_numeral.longitude p
    (read_once c.from_numeral.result c.in-Ok.latitude p.latitude c.in-Ok.is latitude)
    (read_once c.from_numeral-2.result c.in-Ok-from_numeral.longitude p.longitude c.in-Ok-from_numeral.is longitude))
