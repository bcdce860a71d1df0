use Rattle.std.proofs.Common.{ℕ, Bool, sym, subst}
use Rattle.reg_take.specs.declared.taking.Taking.{Taking}
use Rattle.reg_take.specs.declared.taking.TakePhase.TheVariants as phase
use Rattle.reg_take.specs.Taken.{Shows, starting, each_taken, all_taken, rounds, AllWait, IsTakenFrom}
use Rattle.reg_take.proofs.TakenLemmas.{taken_from, taken_again, if_ok_weaker}
use Rattle.reg_take.proofs.all.take_all.Goals as goal

pub returns-then-keep_going : goal.returns-then-keep_going
returns-then-keep_going c =
    let all = c.args.arrivals.now in
    let x = c.args.register.now in
    let none = starting x in
    let unread = each_taken phase.Unread none 0 all in
    let honest = each_taken phase.Forged unread 0 all in
    let registers = each_taken phase.Registers honest 0 all in
    let shows = c.in_ok-walked.ensures registers (c.in_ok-joined.ensures honest (c.in_ok-honest.ensures unread (c.in_ok-unread.ensures none (c.in_ok-try_clone.ensures, c.new.ensures.items)))) in
    let again = c.try_again.ensures (all_taken x all) shows in
    if_ok_weaker (λ (new : Taking). (n : ℕ) × Shows new (rounds all n (all_taken x all)) × AllWait all (rounds all n (all_taken x all)))
    (λ (new : Taking). (n : ℕ) × Shows new (rounds all n (all_taken x all)) × AllWait all (rounds all n (all_taken x all)))
    (λ (new : Taking). IsTakenFrom c.args.keep_going x all new.register new.left.items) c.try_again.result
    (λ new a b. subst (λ (g : Bool). IsTakenFrom g x all new.register new.left.items) (sym c.if-keep_going.true) (taken_again x c.seen-seen.ensures.content all new a.0 a.1 a.2)) again again

pub returns : goal.returns
returns c =
    let all = c.args.arrivals.now in
    let x = c.args.register.now in
    let none = starting x in
    let unread = each_taken phase.Unread none 0 all in
    let honest = each_taken phase.Forged unread 0 all in
    let registers = each_taken phase.Registers honest 0 all in
    let shows = c.in_ok-walked.ensures registers (c.in_ok-joined.ensures honest (c.in_ok-honest.ensures unread (c.in_ok-unread.ensures none (c.in_ok-try_clone.ensures, c.new.ensures.items)))) in
    subst (λ (g : Bool). IsTakenFrom g x all c.in_ok-walked.walked.register c.in_ok-walked.walked.left.items) (sym c.if-keep_going.false)
    (taken_from x c.seen-seen.ensures.content all c.in_ok-walked.walked shows)
