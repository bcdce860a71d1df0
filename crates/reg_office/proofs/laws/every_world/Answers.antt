use Rattle.reg_office.proofs.WorldCommands.{made_by_id}
use Rattle.reg_office.proofs.WorldLemmas.{reached, leads_keeps}
use Rattle.reg_office.proofs.WorldFollows.{same_files, reads, together, are_new, never_clashes, goes_on, one_world, stays_retired, retired_in_joins}
use Rattle.reg_office.proofs.WorldSame.{same_reports, same_ops_reports, same_exports}
use Rattle.reg_office.proofs.WorldSteps.{made_reaches, refused_makes, sent_is_pooled, first_is_pooled, seen_is_pooled, piece_is_pooled, no_summary, taken_reaches, piece_reaches, piece_is_refused, summary_is_refused, one_reaches, one_is_missing, nothing_to_take, nothing_to_find, nothing_to_answer, restart_keeps, upgrade_keeps}
use Rattle.reg_office.proofs.WorldStops.{stop_is_all_or_nothing, stop_leaves_a_shelf, stop_leaves_the_new, stop_may_leave_the_old, stop_may_leave_the_new}
use Rattle.reg_office.proofs.WorldMade.{pool_grows, was_made}
use Rattle.reg_office.proofs.WorldOnce.{made_once}
use Rattle.reg_office.proofs.laws.every_world.Goals as goal

pub returns : goal.returns
returns c = record {
  content = λ w h. (reached w h).content;
  last = λ w h. (reached w h).last;
  pool = λ w h. reads w (reached w h);
  same = λ w h. same_files w (reached w h);
  same_reports = λ w h. same_reports w (reached w h);
  same_ops_reports = λ w h. same_ops_reports w (reached w h);
  same_exports = λ w h. same_exports w (reached w h);
  made_is_reached = λ w v h i effects note os. made_reaches w (reached w h) i effects note os v;
  refused_makes_nothing = refused_makes;
  sent_is_pooled = sent_is_pooled;
  pool_stays = λ w v later. pool_grows later w v;
  seen_is_pooled = λ w v h. seen_is_pooled w v (reached w h);
  piece_is_pooled = λ w v h i place sent seen at. piece_is_pooled w (reached w h) i place sent v at seen;
  no_piece_is_pooled = λ w v h i place sent at. no_summary w (reached w h) i place sent v at;
  first_is_pooled = first_is_pooled;
  taken_is_reached = λ w v h i place sent x at. taken_reaches w (reached w h) i place sent v at x;
  piece_is_reached = λ w v h i place sent piece at. piece_reaches w (reached w h) i place sent v at piece;
  piece_is_refused = λ w v h i place sent piece at. piece_is_refused w (reached w h) i place sent v at piece;
  summary_is_refused = λ w v h i place sent seen at. summary_is_refused w (reached w h) i place sent v at seen;
  one_is_reached = λ w v h i place id sent what o at holds there named happens. one_reaches w (reached w h) i place id sent what v at holds happens o there named;
  none_is_reached = λ w v h i place id sent what at holds none happens. one_is_missing w (reached w h) i place id sent what v at holds happens none;
  nothing_to_take = nothing_to_take;
  nothing_to_find = nothing_to_find;
  nothing_to_answer = nothing_to_answer;
  restart_keeps = λ w v h. restart_keeps w v (reached w h);
  upgrade_keeps = λ w v h. upgrade_keeps w v (reached w h);
  stop_is_all_or_nothing = λ w v h. stop_is_all_or_nothing w v (reached w h);
  stop_leaves_a_shelf = λ w v h. stop_leaves_a_shelf w v (reached w h);
  stop_leaves_the_new = λ w u v h e left happens. stop_leaves_the_new w v (reached w h) e left happens u;
  was_made = was_made;
  one_body = λ w h. together w (reached w h);
  new_ids = λ w h. are_new w (reached w h);
  own_ids = λ w h i effects note os k. made_by_id (w.offices i).content i note effects os k;
  grows = λ w v later h k. (leads_keeps later w (reached w h) v k).1;
  made_once = made_once;
  no_clash = λ w h. never_clashes w (reached w h);
  goes_on = λ w h. goes_on w (reached w h);
  one_world = one_world;
  stop_may_leave_the_old = λ w h. stop_may_leave_the_old w (reached w h);
  stop_may_leave_the_new = λ w v h. stop_may_leave_the_new w v (reached w h);
  stays_retired = λ w v later h. stays_retired w v (reached w h) later;
  retired_in_joins = retired_in_joins;
}
