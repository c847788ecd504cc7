use Rattle.session_log.proofs.Opening.{open_refused, open_9, open_10, open_answer, open_out}
use Rattle.session_log.proofs.open.Goals as goal

pub returns-then-start-gt-LIMIT : goal.returns-then-start-gt-LIMIT
returns-then-start-gt-LIMIT c = open_refused _ _ 9 (search open_9)

pub returns-then-log-lt-LOG_HEADER : goal.returns-then-log-lt-LOG_HEADER
returns-then-log-lt-LOG_HEADER c = open_refused _ _ 10 (search open_10)

pub returns : goal.returns
returns c = (search open_answer, search open_out)
