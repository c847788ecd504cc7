use Rattle.characters.proofs.Passed.{form_holds}
use Rattle.answers.specs.declared.Refusal.TheVariants.{Utf8, Log, Revision, IncompatibleLengths}
use Rattle.undo.proofs.Answers.{undo_refused, undo_3, undo_6, undo_none, undo_7, undo_8, undo_found, undo_rev, undo_agrees}
use borrow.Author.Rules.{rules}
use Rattle.undo.proofs.undo.Goals as goal

pub returns-in_default : goal.returns-in_default
returns-in_default c = undo_refused _ _ _ _ _ _ Utf8 (search undo_3)

pub returns-in_default-read : goal.returns-in_default-read
returns-in_default-read c = undo_refused _ _ _ _ _ _ Log (search undo_6)

pub returns-then-k-eq0 : goal.returns-then-k-eq0
returns-then-k-eq0 c = undo_refused _ _ _ _ _ _ Revision (search undo_none)

pub returns-then-s-k : goal.returns-then-s-k
returns-then-s-k c = undo_refused _ _ _ _ _ _ Revision (search undo_7)

pub returns-then-chars-s : goal.returns-then-chars-s
returns-then-chars-s c = undo_refused _ _ _ _ _ _ IncompatibleLengths (search undo_8)

pub take_back-requires : goal.take_back-requires
take_back-requires c = (search form_holds, search undo_found, search rules, search undo_rev, search undo_agrees)
