use Rattle.json_read.proofs.Holding.{text_empty, text_skips, text_over, text_feeds}
use Rattle.json_read.proofs.inner.add_insert.Goals as goal

pub returns-then-bytes-eq0 : goal.returns-then-bytes-eq0
returns-then-bytes-eq0 c = search text_empty

pub returns-then-not-keeps_limits : goal.returns-then-not-keeps_limits
returns-then-not-keeps_limits c = let f = c.if-bytes-eq0.false in search (text_skips, f)

pub returns-then-bytes-gt-MAX_SIZE : goal.returns-then-bytes-gt-MAX_SIZE
returns-then-bytes-gt-MAX_SIZE c = let f = c.if-bytes-eq0.false in search (text_over, f)

pub returns : goal.returns
returns c = let f = c.if-bytes-eq0.false in search (text_feeds, f)
