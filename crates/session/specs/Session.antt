-- What accept, undo, summary and play give back and leave in their buffers, for every input: document 01, "Session", and
-- document 02, M-102.
use Rattle.std.specs.Prelude.{ℕ, ◌+◌, ◌-◌, suc, List, [], ◌∷◌, ◌++◌, drop, length, take, get_or, ◌&&◌, leb, ltb, eqb}
use Rattle.buffers.specs.Words.{words}
use Rattle.buffers.specs.Buffers.{put_at_front}
use Rattle.characters.specs.Text.{chars, bytes}
use Rattle.characters.specs.Form.{is_well_formed}
use Rattle.characters.specs.Chars.{number_of_chars}
use Rattle.edits.specs.Sequence.{Seq}
use Rattle.edits.specs.Invert.{invert}
use Rattle.answers.specs.Answer.{or_else, needs, success, refused, unless_refused}
use Rattle.answers.specs.Output.{Outs, Out, writing}
use Rattle.record.specs.Record.{ops, encode, record_fault, fits}
use Rattle.record.specs.Layout.{base_of}
use Rattle.session_log.specs.Log.{revisions, encode_all, count_of, readable, size_of_log, length_at, max_revisions, start_of}
use Rattle.session.specs.Rows.{Moved, rebase, retain_whole, composes_within, compose_all, play_all, longest}

-- ---- accept: "Checks: the edit, the log, 7, 8 (its base isn't the length after revision r), 9, 10."

unfoldable pub moved_in : List ℕ → ℕ → List ℕ → Moved
unfolding rebase ops revisions
moved_in edit r log = rebase (ops edit) (drop r (revisions log))

-- 9: "A result would pass a limit of refusal 1 or 6"; 10: "the log's rest is too short", or the output
abbrev pub join_fault : Moved → List ℕ → List ℕ → ℕ
join_fault m log out =
    needs (ltb (count_of log) max_revisions && m.kept) 9
    (needs (leb (size_of_log log + length (encode m.edit)) (length log) && leb (length (encode_all m.counterparts)) (length out)) 10 0)

unfoldable pub accept_fault : List ℕ → ℕ → List ℕ → List ℕ → ℕ
unfolding moved_in readable record_fault length_at size_of_log encode encode_all
accept_fault edit r log out =
    or_else (record_fault edit)
    (needs (readable log) 6
    (needs (leb r (count_of log)) 7
    (needs (eqb (base_of edit) (length_at r log)) 8 (join_fault (moved_in edit r log) log out))))

-- "what comes out is appended": a record behind the log's contents, and one revision more
unfoldable pub append : List ℕ → List ℕ → List ℕ
unfolding put_at_front size_of_log
append log rec =
    let n = size_of_log log in
    put_at_front (words (suc (count_of log) ∷ [])) (take n log ++ put_at_front rec (drop n log))

-- "accept the bytes added to the log, then those of the counterparts"; "Counterparts are written oldest first, end to end."
abbrev pub joining : ℕ → Moved → List ℕ → List ℕ → Outs
joining fault m log out =
    unless_refused fault (λ n. record { answer = refused n; out_a = log; out_b = out })
    (record {
      answer = success (length (encode m.edit) ∷ length (encode_all m.counterparts) ∷ []);
      out_a = append log (encode m.edit);
      out_b = put_at_front (encode_all m.counterparts) out;
    })

unfoldable pub accept_call : List ℕ → ℕ → List ℕ → List ℕ → Outs
unfolding accept_fault moved_in append encode encode_all put_at_front
accept_call edit r log out = joining (accept_fault edit r log out) (moved_in edit r log) log out

-- ---- undo: document 02, M-102

-- "It plays revisions 1 to k − 1, inverts revision k on that text"
unfoldable pub inverse_in : List ℕ → ℕ → List ℕ → Seq
unfolding revisions chars invert
inverse_in log k text = invert (get_or (revisions log) (k - 1) []) (play_all (take (k - 1) (revisions log)) (chars text))

-- "and accepts the inverse as written against k, counterparts included"
unfoldable pub moved_inverse : List ℕ → ℕ → List ℕ → Moved
unfolding rebase inverse_in revisions
moved_inverse log k text = rebase (inverse_in log k text) (drop k (revisions log))

-- "Checks run: text 3, log 6, k being 0 or too great 7, starting length 8, 10 for a scratch shorter than the longest text up to
-- revision k − 1, then 9, for the inverse too, and 10." The two scratch buffers have these sizes.
unfoldable pub undo_fault : List ℕ → ℕ → List ℕ → ℕ → ℕ → List ℕ → ℕ
unfolding inverse_in moved_inverse readable revisions chars bytes fits size_of_log encode encode_all
undo_fault log k text scratch_a scratch_b out =
    let need = longest (take (k - 1) (revisions log)) (chars text) in
    needs (is_well_formed text) 3
    (needs (readable log) 6
    (needs (leb 1 k && leb k (count_of log)) 7
    (needs (eqb (number_of_chars text) (start_of log)) 8
    (needs (leb need scratch_a && leb need scratch_b) 10
    (needs (fits (inverse_in log k text)) 9 (join_fault (moved_inverse log k text) log out))))))

-- the answer, the log and the counterparts, as accept leaves them; the scratch buffers are "free afterwards as in play"
unfoldable pub undo_call : List ℕ → ℕ → List ℕ → ℕ → ℕ → List ℕ → Outs
unfolding undo_fault moved_inverse append encode encode_all put_at_front
undo_call log k text scratch_a scratch_b out =
    joining (undo_fault log k text scratch_a scratch_b out) (moved_inverse log k text) log out

-- ---- summary

unfoldable pub summary_fault : List ℕ → ℕ
unfolding readable revisions retain_whole fits
summary_fault log = needs (readable log) 6 (needs (composes_within (retain_whole (start_of log)) (revisions log)) 9 0)

unfoldable pub summary_call : List ℕ → List ℕ → Out
unfolding summary_fault revisions retain_whole writing encode
summary_call log out = writing (summary_fault log) (encode (compose_all (retain_whole (start_of log)) (revisions log))) out

-- ---- play: "Checks: text, log, 8, 10 (a scratch shorter than the longest text on the way ..)"

unfoldable pub played : List ℕ → List ℕ → List ℕ
unfolding revisions chars bytes
played log t = bytes (play_all (revisions log) (chars t))

-- with two scratch buffers of these sizes
unfoldable pub play_fault : List ℕ → List ℕ → ℕ → ℕ → ℕ
unfolding readable revisions chars bytes
play_fault log t scratch_a scratch_b =
    let need = longest (revisions log) (chars t) in
    needs (is_well_formed t) 3
    (needs (readable log) 6
    (needs (eqb (number_of_chars t) (start_of log)) 8 (needs (leb need scratch_a && leb need scratch_b) 10 0)))

unfoldable pub play_call : List ℕ → List ℕ → ℕ → ℕ → List ℕ → Out
unfolding play_fault played writing
play_call log t scratch_a scratch_b out = writing (play_fault log t scratch_a scratch_b) (played log t) out
