use Rattle.session_log.proofs.Scanning.{scan_short, scan_many, scan_long}
use Rattle.session_log.proofs.inner.read.Goals as goal

pub returns-then-log-lt-LOG_HEADER : goal.returns-then-log-lt-LOG_HEADER
returns-then-log-lt-LOG_HEADER c = search scan_short

pub returns-then-count-gt-MAX_REVISIONS : goal.returns-then-count-gt-MAX_REVISIONS
returns-then-count-gt-MAX_REVISIONS c = search scan_many

pub returns-then-start-gt-MAX_SIZE : goal.returns-then-start-gt-MAX_SIZE
returns-then-start-gt-MAX_SIZE c = search scan_long
