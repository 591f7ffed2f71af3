-- A log that is cut ends the tray early. Where all logs were passed, the tray ends with them or goes on.
use Rattle.std.proofs.Common.{◌+◌, ◌-◌, sym, subst, arith}
use Rattle.trays.proofs.Reading.{Passed, log_short, log_cut, passed_first, passed_next, ends_early, decided}
use Rattle.trays.proofs.logs.holds_logs.Goals as goal

pub loop-init : goal.loop-init
loop-init c = passed_first c.args.tray.now c.args.logs c.requires

pub returns-then-tray-at-lt2 : goal.returns-then-tray-at-lt2
returns-then-tray-at-lt2 c =
    let a = c.args in
    let l = c.loop in
    ends_early a.tray.now a.logs l.at (a.logs - l.counter) l.invariant (omega arith) (log_short a.tray.now l.at l.invariant.inside c.if-tray-at-lt2.true)

pub returns-then-tray-start : goal.returns-then-tray-start
returns-then-tray-start c =
    let a = c.args in
    let l = c.loop in
    ends_early a.tray.now a.logs l.at (a.logs - l.counter) l.invariant (omega arith)
    (log_cut a.tray.now l.at (omega (arith, l.invariant.inside)) (omega (arith, c.log_length-bytes.ensures)))

pub loop-preserved : goal.loop-preserved
loop-preserved c =
    let a = c.args in
    let l = c.loop in
    let e = c.log_length-bytes.ensures in
    subst (λ k. Passed a.tray.now a.logs (l.at + 2 + k) (a.logs - (l.counter + 1))) (sym e)
    (passed_next a.tray.now a.logs l.at l.counter l.invariant (omega arith) (omega (arith, e, l.invariant.inside)))

pub returns : goal.returns
returns c =
    let a = c.args in
    let l = c.loop in
    decided a.tray.now a.logs l.at (a.logs - l.counter) l.invariant (omega arith)
