-- Nothing typed is lost: what that says of a list of accept and undo calls.
use Rattle.std.specs.Prelude.{Bool, true, false, List, [], ◌∷◌, ℕ, ◌-◌, ◌≤◌, replicate, take, drop, length, T, ◌≡◌}
use Rattle.characters.specs.Text.{Char}
use Rattle.edits.specs.Sequence.{Seq}
use Rattle.edits.specs.Trace.{carry, Within, stays, marked, typed}
use Rattle.edits.specs.Op.{target}
use Rattle.answers.specs.Answer.{succeeds}
use Rattle.record.specs.Record.{ops}
use Rattle.session.specs.History.{History, inverse_of}
use Rattle.session.specs.Demand.{Ask, accept, undo, Call, rev_of, fed_call, after}
use Rattle.session.specs.Rows.{play_all}

-- the marks of the text after a row of edits
abbrev pub carry_all : Bool → List Seq → List Bool → List Bool
carry_all m [] ms = ms
carry_all m (e ∷ es) ms = carry_all m es (carry m e ms)

-- what the newest revision typed; before the first one, the starting text
abbrev pub newest : ℕ → List Seq → List Bool
newest n [] = replicate n true
newest n (e ∷ []) = carry true e (replicate n false)
newest n (e ∷ f ∷ es) = newest (target e) (f ∷ es)

-- the edit that a call brings in: an undo counts as an edit by somebody who has seen revision k, the inverse of that revision
abbrev pub brings : History → Ask → Seq
brings h (accept edit r) = ops edit
brings h (undo k text scratch_a scratch_b) = inverse_of h k text

-- `ms` marks characters of the text after revision k. No accepted edit of the list that was written against revision k or a
-- later one deletes a marked character: its author saw the marked ones, where they then stood, and left them
abbrev pub Spared : ℕ → List Bool → History → List Call → Type 0
Spared k ms h [] = Unit {0}
Spared k ms h (c ∷ cs) =
    (T (succeeds (fed_call h c).answer) → k ≤ rev_of c.ask
    → Within (carry_all false (take (rev_of c.ask - k) (drop k h.edits)) ms) (stays (brings h c.ask)))
    × Spared k ms (fed_call h c).history cs

-- any characters that the newest revision typed: after more calls they stand in the text, as they were and in order, unless an
-- accepted edit whose author had seen them deletes one
abbrev pub NothingLost : History → List Call → Type 0
NothingLost h later =
    let k = length h.edits in
    let es = (after h later).edits in
    (ms : List Bool) → Within ms (newest h.start h.edits) → Spared k ms h later
    → (t : List Char) → length t ≡ h.start → marked (carry_all false (drop k es) ms) (play_all es t) ≡ marked ms (play_all h.edits t)

-- all of them: the text has what the accepted call `c` types, word for word
abbrev pub TypedStands : History → Call → List Call → Type 0
TypedStands h c later =
    let g = (fed_call h c).history in
    let k = length g.edits in
    let ms = newest g.start g.edits in
    let es = (after g later).edits in
    T (succeeds (fed_call h c).answer) → Spared k ms g later
    → (t : List Char) → length t ≡ h.start → marked (carry_all false (drop k es) ms) (play_all es t) ≡ typed (brings h c.ask)
