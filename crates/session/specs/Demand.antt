-- Demand 3: what is to hold of every list of accept and undo calls on a fresh session, as one claim.
use Rattle.std.specs.Prelude.{ℕ, ◌-◌, ◌≡◌, List, [], ◌∷◌, ◌++◌, length, take, T, ◌↔◌}
use Rattle.buffers.specs.Buffers.{put_at_front}
use Rattle.buffers.specs.Lists.{all_of}
use Rattle.characters.specs.Form.{is_well_formed}
use Rattle.characters.specs.Chars.{number_of_chars}
use Rattle.answers.specs.Answer.{success, succeeds}
use Rattle.answers.specs.Output.{Out, Outs}
use Rattle.record.specs.Layout.{size_of}
use Rattle.record.specs.Record.{encode}
use Rattle.session_log.specs.Log.{contents, encode_all, count_of, records_in, revisions}
use Rattle.session_log.specs.Open.{open_call}
use Rattle.session.specs.Session.{accept_call, inverse_in, undo_call, summary_call}
use Rattle.session.specs.History.{History, log_in, Outcome, history_accept, history_undo, fresh, history_summary, history_play}

-- ---- a session: a log that was just opened, and a list of calls

-- `log` is what opening left
pub record Fresh (n : ℕ) (log : List ℕ) : Type 0 where
  pub buffer : List ℕ
  pub opens : (open_call n buffer).answer ≡ success (4 ∷ [])
  pub leaves : contents (open_call n buffer).out ≡ log

-- what is asked of it: to accept an edit written against r, or to undo revision k, with the starting text and two scratch
-- buffers of these sizes
pub data Ask : Type 0 where
  accept : (edit : List ℕ) (r : ℕ) → Ask
  undo : (k : ℕ) (text : List ℕ) (scratch_a scratch_b : ℕ) → Ask

-- a call is lent a buffer with the log's contents and any bytes behind them, and any output
pub record Call : Type 0 where
  pub ask : Ask
  pub behind : List ℕ
  pub out : List ℕ

abbrev pub ask_call : Ask → List ℕ → List ℕ → Outs
ask_call (accept edit r) log out = accept_call edit r log out
ask_call (undo k text scratch_a scratch_b) log out = undo_call log k text scratch_a scratch_b out

abbrev pub run_call : List ℕ → Call → Outs
run_call log c = ask_call c.ask (log ++ c.behind) c.out

-- "Each call gets the log as the call before left it": every answer, log and output, and the log after the list
abbrev pub ran : List ℕ → List Call → List Outs
ran log [] = []
ran log (c ∷ cs) = run_call log c ∷ ran (contents (run_call log c).out_a) cs

abbrev pub log_after : List ℕ → List Call → List ℕ
log_after log [] = log
log_after log (c ∷ cs) = log_after (contents (run_call log c).out_a) cs

-- ---- the history of such a list

-- it is fed what is asked, and the sizes of the log's buffer and of the output for counterparts
abbrev pub history_ask : History → Ask → ℕ → ℕ → Outcome
history_ask h (accept edit r) room space = history_accept h edit r room space
history_ask h (undo k text scratch_a scratch_b) room space = history_undo h k text scratch_a scratch_b room space

abbrev pub fed_call : History → Call → Outcome
fed_call h c = history_ask h c.ask (length (log_in h ++ c.behind)) (length c.out)

abbrev pub after : History → List Call → History
after h [] = h
after h (c ∷ cs) = after (fed_call h c).history cs

-- what the history gives: the answer, the log and the counterparts at the front of their buffers, all else as it was
abbrev pub expected_call : History → Call → Outs
expected_call h c = record {
  answer = (fed_call h c).answer;
  out_a = put_at_front (log_in (fed_call h c).history) (log_in h ++ c.behind);
  out_b = put_at_front (encode_all (fed_call h c).counterparts) c.out;
}

abbrev pub expected : History → List Call → List Outs
expected h [] = []
expected h (c ∷ cs) = expected_call h c ∷ expected (fed_call h c).history cs

-- and of a summary: the answer, and the record at the front of its output
abbrev pub expected_summary : History → List ℕ → Out
expected_summary h out = let x = history_summary h (length out) in record { answer = x.answer; out = put_at_front x.summary out }

-- ---- summaries that are given

-- some call of summary on this log gives the bytes `s`
pub record Given (log s : List ℕ) : Type 0 where
  pub behind : List ℕ
  pub out : List ℕ
  pub answers : (summary_call (log ++ behind) out).answer ≡ success (length s ∷ [])
  pub writes : take (length s) (summary_call (log ++ behind) out).out ≡ s

-- ---- the second session

-- none of these calls is refused
abbrev pub AllGo : List Outs → Type 0
AllGo os = T (all_of (λ o. succeeds o.answer) os)

-- what else an accept is lent: the bytes behind the edit and behind the log, and the output
pub record Lent : Type 0 where
  pub behind_edit : List ℕ
  pub behind_log : List ℕ
  pub output : List ℕ

abbrev pub accept_of : List ℕ → ℕ → Lent → Call
accept_of edit r b = record { ask = accept (edit ++ b.behind_edit) r; behind = b.behind_log; out = b.output }

-- records as calls, "each against the newest revision"
abbrev pub against_newest : List ℕ → List (List ℕ) → (ℕ → Lent) → List Call
against_newest log [] lent = []
against_newest log (e ∷ es) lent =
    let c = accept_of e (count_of log) (lent (length es)) in
    c ∷ against_newest (contents (run_call log c).out_a) es lent

-- the edit that a call brings in, as a record, and the revision that it was written against: an undo's is "that inverse against k"
abbrev pub edit_of : List ℕ → Ask → List ℕ
edit_of log (accept edit r) = take (size_of edit) edit
edit_of log (undo k text scratch_a scratch_b) = encode (inverse_in log k text)

abbrev pub rev_of : Ask → ℕ
rev_of (accept edit r) = r
rev_of (undo k text scratch_a scratch_b) = k

-- the counterparts that a call handed out
abbrev pub handed_out : List ℕ → Call → List (List ℕ)
handed_out log c = records_in (count_of log - rev_of c.ask) (run_call log c).out_b

-- ---- the claim

-- "each answer, refusal, log and counterpart is just what document 01's history of that list gives, and so is a summary at
-- any point"
pub record AsExpected (n : ℕ) (log : List ℕ) (cs : List Call) : Type 0 where
  pub calls : ran log cs ≡ expected (fresh n) cs
  pub summaries : (behind out : List ℕ) → summary_call (log_after log cs ++ behind) out ≡ expected_summary (after (fresh n) cs) out

-- "the summaries after them, where both are given, agree byte for byte exactly when on every text of that length playing one
-- history and playing the other give the same text"
abbrev pub SummariesTell : ℕ → (log log' : List ℕ) (cs ds : List Call) → Type 0
SummariesTell n log log' cs ds =
    (s t : List ℕ) → Given (log_after log cs) s → Given (log_after log' ds) t
    → (s ≡ t) ↔ ((text : List ℕ) → T (is_well_formed text) → number_of_chars text ≡ n → history_play (after (fresh n) cs) text ≡ history_play (after (fresh n) ds) text)

-- "the copies meet": a session accepts an edit against r, or undoes revision r; another one that holds "just the same first r
-- revisions" accepts the edit too, or the inverse, against r, "then the counterparts that the first handed out for this edit"
abbrev pub CopiesMeet : (here there : List ℕ) → Type 0
CopiesMeet here there =
    (c : Call) (mine : Lent) (lent : ℕ → Lent) →
    let r = rev_of c.ask in
    let edited = accept_of (edit_of here c.ask) r mine in
    let then = against_newest (contents (run_call there edited).out_a) (handed_out here c) lent in
    revisions there ≡ take r (revisions here)
    → AllGo (ran here (c ∷ [])) → AllGo (ran there (edited ∷ then))
    → (s t : List ℕ) → Given (log_after here (c ∷ [])) s → Given (log_after there (edited ∷ then)) t → s ≡ t

pub record Demand3 : Type 0 where
  pub as_expected : (n : ℕ) (log : List ℕ) → Fresh n log → (cs : List Call) → AsExpected n log cs
  pub summaries_tell : (n : ℕ) (log log' : List ℕ) → Fresh n log → Fresh n log' → (cs ds : List Call) → SummariesTell n log log' cs ds
  pub copies_meet : (n : ℕ) (log log' : List ℕ) → Fresh n log → Fresh n log' → (cs ds : List Call) → CopiesMeet (log_after log cs) (log_after log' ds)
