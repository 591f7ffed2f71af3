-- The tray has no byte, or too many logs by its first one, or its logs fill it or do not.
use Rattle.std.proofs.Common.{refl, inl, inr, arith}
use Rattle.trays.proofs.Reading.{no_bytes, many_logs, broken_tray, whole_tray}
use Rattle.trays.proofs.logs.read_tray.Goals as goal

pub returns-in_default : goal.returns-in_default
returns-in_default c = (no_bytes c.args.tray.now (omega arith), inr refl)

pub returns-then-logs-gt-MOST_LOGS : goal.returns-then-logs-gt-MOST_LOGS
returns-then-logs-gt-MOST_LOGS c = (many_logs c.args.tray.now c.in-len1-up.len_at_least c.if-logs-gt-MOST_LOGS.true, inl refl)

pub returns-then-holds_logs : goal.returns-then-holds_logs
returns-then-holds_logs c = whole_tray c.args.tray.now c.in-len1-up.len_at_least c.if-logs-gt-MOST_LOGS.false c.if-holds_logs.ensures

pub returns : goal.returns
returns c = (broken_tray c.args.tray.now c.in-len1-up.len_at_least c.if-logs-gt-MOST_LOGS.false c.if-holds_logs.ensures, inr refl)
