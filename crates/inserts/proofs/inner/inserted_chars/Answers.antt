use Rattle.inserts.proofs.Texts.{no_text, text_ill, text_stops, text_starts, text_plain}
use Rattle.inserts.proofs.inner.inserted_chars.Goals as goal

pub returns-then-text-eq0 : goal.returns-then-text-eq0
returns-then-text-eq0 c = search no_text

pub returns-in_default : goal.returns-in_default
returns-in_default c = search text_ill

pub returns-then-not-start_well : goal.returns-then-not-start_well
returns-then-not-start_well c = search text_stops

pub returns-else-not-start_well : goal.returns-else-not-start_well
returns-else-not-start_well c = search text_starts

pub returns-else-chars-text : goal.returns-else-chars-text
returns-else-chars-text c = search text_plain
