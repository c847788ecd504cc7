-- The headline theorems of document 02, each under one name, in its order. The definitions that they speak of stand in the specs of
-- the crates that are named in the `use` lines; their proofs stand where the last line of each leads.
use Prim.Native.Nat.{ℕ, ◌≤◌, ◌-◌}
use mathlib.Core.Path.{◌≡◌}
use mathlib.Core.Logic.{◌↔◌, ◌≢◌}
use mathlib.Core.List.{List, [], ◌∷◌, ◌++◌}
use mathlib.Core.Option.{none, some}
use lib.Dec.{T}
use lib.ListN.{length, take}
use Rattle.buffers.specs.Buffers.{put_at_front}
use Rattle.characters.specs.Form.{is_well_formed}
use Rattle.characters.specs.Text.{chars}
use Rattle.edits.specs.Built.{Built}
use Rattle.edits.specs.Invert.{invert}
use Rattle.edits.specs.Op.{base}
use Rattle.edits.specs.Sequence.{Seq}
use Rattle.answers.specs.Answer.{success, refused, succeeds, unless_refused}
use Rattle.answers.specs.Given.{given}
use Rattle.operational_transform.specs.Calls.{deliver, apply_call, invert_call}
use Rattle.operational_transform.proofs.Laws.{Returns, invert_returns, invert_eight, apply_inverts}
use Rattle.record.specs.Layout.{size_of, max_record, max_size}
use Rattle.record.specs.Record.{ops, encode, record_fault}
use Rattle.record.proofs.Records.{Bytes}
use Rattle.json_lists.specs.Form.{Item, at_start, read}
use Rattle.json_lists.specs.Grammar.{is_raw, JsonText}
use Rattle.json_lists.specs.Written.{escaped, written}
use Rattle.json_lists.specs.Calls.{from_json_call, to_json_call}
use Rattle.json_lists.proofs.Reading.{tight}
use Rattle.json_lists.proofs.Builders.{run, Agrees, StopsAtNine, by_builders, nine_for_one}
use Rattle.json_lists.proofs.Escapes.{only_raw}
use Rattle.json_lists.proofs.Theorems as lists
use Rattle.session_log.specs.Log.{contents, revisions, size_of_log}
use Rattle.session.specs.Session.{accept_call, inverse_in, undo_call, play_call}
use Rattle.session.specs.History.{fresh}
use Rattle.session.specs.Demand.{Fresh, Given, Call, Lent, run_call, ran, log_after, after, AllGo, accept_of, against_newest, handed_out}
use Rattle.session.specs.Undo.{Undo, undo_of, SamePlay, TakesBackIn, BringsBackIn, LeavesText, UndoSays}
use Rattle.session.proofs.Demands.{demand3}
use Rattle.session.proofs.UndoAccepts.{undo_tests, undo_accepts}
use Rattle.session.proofs.Undos as undos
use Rattle.session.proofs.Unread.{SameAccept, undo_unread}

-- ---- M-100, lists from the browser

-- A list is read exactly where it is UTF-8 that RFC 8259's rules derive, as the items that they give it,
pub list_is_grammar : (list : List ℕ) (l : List Item) → (read list ≡ some l) ↔ (T (is_well_formed list) × JsonText list l)
list_is_grammar = lists.reads_grammar

-- and 11 is the answer exactly where it isn't.
pub list_eleven : (list out : List ℕ) → ((from_json_call list out).answer ≡ refused 11) ↔ (read list ≡ none)
list_eleven = lists.eleven

-- "Read such a list through the builders": on their own calls, one after another, each given room for every record,
pub list_by_builders : (list : List ℕ) (l : List Item) (room : List ℕ) → read list ≡ some l → max_record ≤ length room → (out : List ℕ) → Agrees (run l room) (from_json_call list out) out
list_by_builders = by_builders

-- and 9 for the list is 9 for one of them.
pub list_nine : (list room out : List ℕ) → max_record ≤ length room → (from_json_call list out).answer ≡ refused 9 → StopsAtNine list room
list_nine = nine_for_one

-- "Reading a written list returns the same record, for every record."
pub list_comes_back : (rec buffer out : List ℕ) → Bytes rec → record_fault rec ≡ 0 → length (written (ops rec)) ≤ length buffer → size_of rec ≤ length out
    → from_json_call (take (length (written (ops rec))) (to_json_call rec buffer).out) out ≡ record { answer = success (size_of rec ∷ []); out = put_at_front (take (size_of rec) rec) out }
list_comes_back = lists.comes_back_whole

-- "Write one without white space": none outside of strings,
pub list_tight : (s : Seq) → Built s → T (tight at_start (written s))
list_tight = lists.no_white_space

-- "escaping only" what needs it, codes below 20 hexadecimal by their number.
pub list_escapes : (b : ℕ) → (escaped b ≡ b ∷ []) ↔ T (is_raw b)
list_escapes = only_raw

-- ---- M-101, inverse of the wrong string

-- "Invert now tests that the text has base characters and answers 8 otherwise, after 3."
pub inverse_eight : (r t out : List ℕ) → record_fault r ≡ 0 → T (is_well_formed t) → ((invert_call r t out).answer ≡ refused 8) ↔ (length (chars t) ≢ base (ops r))
inverse_eight = invert_eight

-- "Then apply followed by the inverse returns the text in every case that isn't refused": apply gives a text, which only a short output
-- can refuse, and the inverse gives of that the text again, byte for byte.
pub inverse_returns : (r t x : List ℕ) → T (succeeds (invert_call r t x).answer) → Returns r t (given (invert_call r t x))
inverse_returns = invert_returns

-- Where apply gives a text, only 9 and 10 are left to refuse the inverse.
pub inverse_of_applied : (r t u : List ℕ) → T (succeeds (apply_call r t u).answer) → (out : List ℕ) → invert_call r t out ≡ deliver 0 (invert (ops r) (chars t)) out
inverse_of_applied = apply_inverts

-- ---- M-102, undo any revision. Demand 3 and nothing lost, for lists of accept and undo calls, stand in Promises.antt.

-- It "accepts the inverse as written against k, counterparts included": of every log, after its own tests undo is accept.
pub undo_is_accept : (log : List ℕ) (k : ℕ) (text : List ℕ) (a b : ℕ) (out : List ℕ)
    → undo_call log k text a b out
    ≡ unless_refused (undo_tests log k text a b) (λ n. record { answer = refused n; out_a = log; out_b = out })
    (accept_call (encode (inverse_in log k text)) k log out)
undo_is_accept = undo_accepts

-- "For the newest revision the text afterwards is the text before it": after any calls on a fresh session, one more call and the undo
-- of what it brought in,
pub undo_newest : (n : ℕ) (log : List ℕ) → Fresh n log → (before : List Call) (c : Call) (u : Undo) → TakesBackIn (log_after log before) c u
undo_newest = undos.log_takes_back

-- "and undoing that undo gives the edited text again".
pub undo_twice : (n : ℕ) (log : List ℕ) → Fresh n log → (before : List Call) (u v : Undo) → BringsBackIn (log_after log before) u v
undo_twice = undos.log_brings_back

-- Both are said of what play gives, so two calls of play that are given write the same bytes.
pub same_play_calls : (log log' text : List ℕ) → SamePlay log log' text → (behind behind' : List ℕ) (a b a' b' : ℕ) (out out' : List ℕ) →
    let o = play_call (log ++ behind) text a b out in
    let o' = play_call (log' ++ behind') text a' b' out' in
    T (succeeds o.answer) → T (succeeds o'.answer) → given o ≡ given o'
same_play_calls = undos.plays_same

-- Of every revision k: the text afterwards is the text before it, with the counterparts of the later revisions played on it.
pub undo_leaves : (n : ℕ) → n ≤ max_size → (before : List Call) (k : ℕ) (u : Undo) → LeavesText (after (fresh n) before) k u
undo_leaves = undos.undo_leaves_text

-- It deletes just what revision k typed and still stands, and puts back just what revision k deleted.
pub undo_says : (n : ℕ) → n ≤ max_size → (before : List Call) (k : ℕ) (u : Undo) → UndoSays (after (fresh n) before) k u
undo_says = undos.undo_deletes_and_types

-- The copies meet: another session that holds just the first k revisions accepts the inverse against k, then the counterparts that
-- the undo handed out, and its summary is the same.
pub undo_copies_meet : (n : ℕ) (log log' : List ℕ) → Fresh n log → Fresh n log'
    → (cs ds : List Call) (k : ℕ) (u : Undo) (mine : Lent) (lent : ℕ → Lent) →
    let here = log_after log cs in
    let there = log_after log' ds in
    let inverse = accept_of (encode (inverse_in here k u.text)) k mine in
    let then = against_newest (contents (run_call there inverse).out_a) (handed_out here (undo_of k u)) lent in
    revisions there ≡ take k (revisions here)
    → AllGo (ran here (undo_of k u ∷ [])) → AllGo (ran there (inverse ∷ then))
    → (s t : List ℕ) → Given (log_after here (undo_of k u ∷ [])) s → Given (log_after there (inverse ∷ then)) t → s ≡ t
undo_copies_meet n log log' f f' cs ds k u = demand3.copies_meet n log log' f f' cs ds (undo_of k u)

-- And that session can make the inverse by itself.
pub undo_own_inverse : (here there : List ℕ) (k : ℕ) (text : List ℕ) → 1 ≤ k
    → revisions there ≡ take k (revisions here) → inverse_in there k text ≡ inverse_in here k text
undo_own_inverse = undos.own_inverse

-- Bytes behind the log's own contents aren't read. Undo is given as many of them as there were, and writes there.
pub undo_behind : (l more : List ℕ) → size_of_log l ≤ length l → length more ≡ length l - size_of_log l
    → (out : List ℕ) (k : ℕ) (text : List ℕ) (a b : ℕ)
    → SameAccept l more (undo_call l k text a b out) (undo_call (take (size_of_log l) l ++ more) k text a b out)
undo_behind = undo_unread
