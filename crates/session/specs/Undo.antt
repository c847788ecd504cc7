-- Undo in a translator's words: which text it leaves, what it deletes and what it types. Document 02, M-102.
use Rattle.std.specs.Prelude.{ℕ, ◌≡◌, Bool, false, not, List, [], ◌∷◌, ◌++◌, map, T, length, take, drop}
use Rattle.characters.specs.Text.{chars, bytes}
use Rattle.answers.specs.Answer.{succeeds}
use Rattle.edits.specs.Sequence.{Seq}
use Rattle.edits.specs.Trace.{typed, stays, marked}
use Rattle.session_log.specs.Log.{count_of}
use Rattle.session.specs.Rows.{play_all}
use Rattle.session.specs.Session.{played}
use Rattle.session.specs.History.{History, earlier, edit_at, history_play}
use Rattle.session.specs.Demand.{undo, Call, ran, log_after, fed_call, AllGo}
use Rattle.session.specs.Keeping.{carry_all, newest}

-- an undo of revision k of this starting text, and what it is lent
pub record Undo : Type 0 where
  pub text : List ℕ
  pub scratch_a : ℕ
  pub scratch_b : ℕ
  pub behind : List ℕ
  pub out : List ℕ

abbrev pub undo_of : ℕ → Undo → Call
undo_of k u = record { ask = undo k u.text u.scratch_a u.scratch_b; behind = u.behind; out = u.out }

-- ---- the text afterwards

-- the text is the one before revision k, with the counterparts of the revisions after k played on it
abbrev pub LeavesText : History → ℕ → Undo → Type 0
LeavesText h k u =
    let t = fed_call h (undo_of k u) in
    T (succeeds t.answer)
    → history_play t.history u.text ≡ bytes (play_all t.counterparts (play_all (earlier k h.edits) (chars u.text)))

-- "For the newest revision the text afterwards is the text before it": a call, and the undo of what it brought in
abbrev pub TakesBack : History → Call → Undo → Type 0
TakesBack h c u =
    let g = (fed_call h c).history in
    let d = undo_of (length g.edits) u in
    T (succeeds (fed_call h c).answer) → T (succeeds (fed_call g d).answer)
    → history_play (fed_call g d).history u.text ≡ history_play h u.text

-- "and undoing that undo gives the edited text again"
abbrev pub BringsBack : History → Undo → Undo → Type 0
BringsBack h u v =
    let d = undo_of (length h.edits) u in
    let g = (fed_call h d).history in
    let e = undo_of (length g.edits) v in
    v.text ≡ u.text → T (succeeds (fed_call h d).answer) → T (succeeds (fed_call g e).answer)
    → history_play (fed_call g e).history u.text ≡ history_play h u.text

-- the same of the session's log: play gives the same bytes of both, whatever stands behind them
abbrev pub SamePlay : (log log' text : List ℕ) → Type 0
SamePlay log log' text = (behind behind' : List ℕ) → played (log ++ behind) text ≡ played (log' ++ behind') text

abbrev pub TakesBackIn : List ℕ → Call → Undo → Type 0
TakesBackIn log c u =
    let d = undo_of (count_of (log_after log (c ∷ []))) u in
    AllGo (ran log (c ∷ d ∷ [])) → SamePlay (log_after log (c ∷ d ∷ [])) log u.text

abbrev pub BringsBackIn : List ℕ → Undo → Undo → Type 0
BringsBackIn log u v =
    let d = undo_of (count_of log) u in
    let e = undo_of (count_of (log_after log (d ∷ []))) v in
    v.text ≡ u.text → AllGo (ran log (d ∷ e ∷ [])) → SamePlay (log_after log (d ∷ e ∷ [])) log u.text

-- ---- what it does

-- the characters of the text that an edit deletes
abbrev pub deletes : Seq → List Bool
deletes e = map not (stays e)

-- an undo of revision k deletes exactly the characters which revision k typed and which still stand, and types exactly what
-- revision k deleted
pub record Says (h : History) (k : ℕ) (text : List ℕ) (after : History) : Type 0 where
  pub new : Seq
  pub joins : after.edits ≡ h.edits ++ (new ∷ [])
  pub takes_away : deletes new ≡ carry_all false (drop k h.edits) (newest h.start (take k h.edits))
  pub types_again : typed new ≡ marked (deletes (edit_at k h.edits)) (play_all (earlier k h.edits) (chars text))

abbrev pub UndoSays : History → ℕ → Undo → Type 0
UndoSays h k u = T (succeeds (fed_call h (undo_of k u)).answer) → Says h k u.text (fed_call h (undo_of k u)).history
