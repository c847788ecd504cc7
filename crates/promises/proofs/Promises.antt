-- The headline theorems, each under one name, in document 01's order. The definitions that they speak of stand in the specs of
-- the crates that are named in the `use` lines; their proofs stand where the last line of each leads.
use Prim.Native.Nat.{ℕ, ◌≤◌, ◌-◌}
use mathlib.Core.Path.{◌≡◌}
use mathlib.Core.Logic.{◌↔◌}
use mathlib.Core.Bool.{true, false}
use mathlib.Core.Option.{Option}
use mathlib.Core.List.{List, [], ◌∷◌, ◌++◌}
use lib.Dec.{T, eqb, leb}
use lib.ListN.{length, take, drop}
use Rattle.characters.specs.Form.{is_well_formed, well_char}
use Rattle.characters.specs.Chars.{number_of_chars}
use Rattle.characters.specs.Text.{Char, chars}
use Rattle.characters.specs.Scalar.{encode_scalar}
use Rattle.characters.specs.Order.{order}
use Rattle.characters.proofs.Texts.{Octets, octets, chars_length}
use Rattle.characters.proofs.Codes.{encode_inj}
use Rattle.characters.proofs.Scalars.{Encoded, well_char_encoded}
use Rattle.edits.specs.Op.{Op, base, target}
use Rattle.edits.specs.Built.{Built}
use Rattle.edits.specs.Sequence.{Seq}
use Rattle.edits.specs.Build.{extend}
use Rattle.edits.specs.Apply.{apply}
use Rattle.edits.specs.Compose.{compose}
use Rattle.edits.specs.Transform.{transform}
use Rattle.edits.specs.Trace.{typed, stays, marked, carry}
use Rattle.edits.specs.Origins.{origins_all, Names}
use Rattle.edits.specs.Invert.{invert}
use Rattle.edits.proofs.Symmetry.{swapped}
use Rattle.edits.proofs.Together.{Holds, Mixed}
use Rattle.edits.proofs.Standing.{InOrder}
use Rattle.edits.proofs.Standing as standing
use Rattle.edits.proofs.Theorems as edits
use Rattle.answers.specs.Answer.{success, succeeds, refused, needs, unless_refused}
use Rattle.answers.specs.Output.{writing}
use Rattle.answers.specs.Given.{given, given_a, given_b}
use Rattle.record.specs.Layout.{size_of, max_size}
use Rattle.record.specs.Record.{record_fault}
use Rattle.record.proofs.Records.{Bytes}
use Rattle.record.proofs.Sequences.{Good}
use Rattle.record.proofs.Theorems.{Passes, ReadBack}
use Rattle.record.proofs.Theorems as records
use Rattle.record.proofs.Unread.{Alike, behind_alike}
use Rattle.operational_transform.specs.Calls.{apply_call, compose_call, transform_call}
use Rattle.operational_transform.proofs.Exchange.{exchanged, call_swaps}
use Rattle.operational_transform.proofs.Laws.{tp1_calls, compose_calls}
use Rattle.operational_transform.proofs.Unread as unread
use Rattle.session_log.specs.Log.{count_of, start_of, size_of_log, revisions}
use Rattle.session.specs.Rows.{play_all}
use Rattle.session.specs.Session.{accept_call, append, summary_call, played, play_call}
use Rattle.session.specs.History.{fresh, history_play}
use Rattle.session.specs.Demand.{Fresh, Given, Call, run_call, log_after, fed_call, after, rev_of, Demand3}
use Rattle.session.specs.Keeping.{NothingLost, TypedStands, brings, carry_all, Spared, newest as newestMarks}
use Rattle.session.proofs.Demands as demands
use Rattle.session.proofs.Keeping as keeping
use Rattle.session.proofs.Newest.{newest_fault, accept_newest}
use Rattle.session.proofs.Unread.{AlikeLogs, behind_alike_log, summary_unread, play_unread, SameAccept, accept_unread}
use Rattle.session.proofs.Playing as playing
use Rattle.session.proofs.Standing as sessions
use Rattle.play_program.specs.Program.{max_input, program, complaint}
use Rattle.play_program.proofs.Ships.{program_session}

-- ---- "What a call gives back"

-- "Bytes behind an operand's own contents aren't read." A record that is all there, and other bytes behind it: all that any call
-- reads of it is the same. `record/proofs/Unread.antt` and `operational_transform/proofs/Unread.antt` have every call's answer and
-- output by it; here are those of apply, compose and transform.
pub behind_record : (r more : List ℕ) → size_of r ≤ length r → Alike (take (size_of r) r ++ more) r
behind_record = behind_alike

pub apply_behind : (r s : List ℕ) → Alike r s → (t out : List ℕ) → apply_call r t out ≡ apply_call s t out
apply_behind = unread.apply_unread

pub compose_behind : (a b c d : List ℕ) → Alike a c → Alike b d → (out : List ℕ) → compose_call a b out ≡ compose_call c d out
compose_behind = unread.compose_unread

pub transform_behind : (a b c d : List ℕ) → Alike a c → Alike b d → (x y : List ℕ) → transform_call a b x y ≡ transform_call c d x y
transform_behind = unread.transform_unread

-- A log that is all there, and other bytes behind it. Accept is given as many of them as there were, and writes there.
pub behind_log_unread : (l more : List ℕ) → size_of_log l ≤ length l → AlikeLogs (take (size_of_log l) l ++ more) l
behind_log_unread = behind_alike_log

pub summary_behind : (l m : List ℕ) → AlikeLogs l m → (out : List ℕ) → summary_call l out ≡ summary_call m out
summary_behind = summary_unread

pub play_behind : (l m : List ℕ) → AlikeLogs l m → (t : List ℕ) (x y : ℕ) (out : List ℕ) → play_call l t x y out ≡ play_call m t x y out
play_behind = play_unread

pub accept_behind : (edit edit' : List ℕ) → Alike edit' edit → (r : ℕ) (l more : List ℕ) → size_of_log l ≤ length l → length more ≡ length l - size_of_log l → (out : List ℕ)
    → SameAccept l more (accept_call edit r l out) (accept_call edit' r (take (size_of_log l) l ++ more) out)
accept_behind edit edit' e r l more whole room out = accept_unread l more whole room out edit edit' e r

-- ---- "Characters"

-- RFC 3629, section 4: UTF8-octets = *( UTF8-char ). A text is well-formed exactly when its bytes are those of characters.
pub rfc3629 : (t : List ℕ) → T (is_well_formed t) ↔ Octets t
rfc3629 = octets

-- "A character is one Unicode scalar value." Bytes are one well-formed character exactly when they are the encoding, by RFC 3629,
-- section 3, of a number from U+0000 to U+10FFFF that is no surrogate; and different numbers have different encodings.
pub character_is_scalar : (c : List ℕ) → T (well_char c) ↔ Encoded c
character_is_scalar = well_char_encoded

pub scalars_differ : (v w : ℕ) → encode_scalar v ≡ encode_scalar w → v ≡ w
scalars_differ = encode_inj

-- A text has as many characters as it has bytes that aren't continuations.
pub characters_counted : (t : List ℕ) → T (is_well_formed t) → length (chars t) ≡ number_of_chars t
characters_counted = chars_length

-- ---- "The record"

-- A record that passes is a built sequence within the limits, and its encoding is the record's own bytes.
pub record_passes : (r : List ℕ) → Bytes r → record_fault r ≡ 0 → Passes r
record_passes = records.passes

-- A built sequence within the limits, encoded, with any bytes behind it, passes and is read back as itself.
pub record_read_back : (s : Seq) (more : List ℕ) → Good s → ReadBack s more
record_read_back = records.read_back

-- ---- "Builders"

-- An operation more does what it would do at the end, and a built sequence stays built.
pub builders_effect : (s : Seq) (o : Op Char) (t : List Char) → apply (extend s o) t ≡ apply (s ++ (o ∷ [])) t
builders_effect = edits.extend_effect

pub builders_built : (s : Seq) (o : Op Char) → Built s → Built (extend s o)
builders_built = edits.extend_built

-- ---- "Playing an edit"

pub apply_length : (s : Seq) (t : List Char) → length t ≡ base s → length (apply s t) ≡ target s
apply_length = edits.apply_length

-- ---- "Compose": "the built sequence whose effect is the first, then the second"

pub compose_effect : (a b : Seq) → target a ≡ base b → (t : List Char) → length t ≡ base a → apply (compose a b) t ≡ apply b (apply a t)
compose_effect = edits.compose_effect

pub compose_built : (a b : Seq) → Built (compose a b)
compose_built = edits.compose_built

-- It is the only one.
pub compose_only : (a b c : Seq) → target a ≡ base b → Built c → base c ≡ base a
    → ((t : List Char) → length t ≡ base a → apply c t ≡ apply b (apply a t)) → c ≡ compose a b
compose_only = edits.compose_only

pub compose_associative : (a b c : Seq) → target a ≡ base b → target b ≡ base c → compose (compose a b) c ≡ compose a (compose b c)
compose_associative = edits.compose_assoc

-- On the calls' own bytes: wherever compose gives a record and the first is applied, the composed record, with any bytes `p` behind
-- it, gives on the text what the second gives on the first's result, in any buffer.
pub compose_on_bytes : (a b t x u p : List ℕ) → T (succeeds (compose_call a b x).answer) → T (succeeds (apply_call a t u).answer) → (out : List ℕ)
    → apply_call (given (compose_call a b x) ++ p) t out ≡ apply_call b (given (apply_call a t u)) out
compose_on_bytes = compose_calls

-- ---- "Transform"

-- "TP1: A then B' equals B then A' on every text of base characters."
pub tp1 : (a b : Seq) → base a ≡ base b → (t : List Char) → length t ≡ base a
    → apply (transform order a b).right (apply a t) ≡ apply (transform order a b).left (apply b t)
tp1 = edits.tp1

-- TP1 on the calls' own bytes: `given`, `given_a` and `given_b` are the bytes that a call has written.
pub tp1_on_bytes : (a b t x y u v p q : List ℕ)
    → T (succeeds (transform_call a b x y).answer) → T (succeeds (apply_call a t u).answer) → T (succeeds (apply_call b t v).answer) → (out : List ℕ)
    → apply_call (given_b (transform_call a b x y) ++ q) (given (apply_call a t u)) out ≡ apply_call (given_a (transform_call a b x y) ++ p) (given (apply_call b t v)) out
tp1_on_bytes = tp1_calls

-- "both built"
pub transform_built : (a b : Seq) → Built (transform order a b).left × Built (transform order a b).right
transform_built = edits.transform_built

-- Nothing typed is lost: all that either side typed is there, in its order, and of the text just what both keep.
pub both_typed : (a b : Seq) → base a ≡ base b → (t : List Char) → length t ≡ base a → Holds a b t (apply (transform order a b).right (apply a t))
both_typed = edits.nothing_lost

-- A' types what A types, and deletes just what A deletes and B left there.
pub moved_types : (a b : Seq) → typed (transform order a b).left ≡ typed a
moved_types = edits.typed_left

pub moved_deletes : (a b : Seq) → base a ≡ base b → stays (transform order a b).left ≡ carry true b (stays a)
moved_deletes = edits.stays_left

-- Copies never reorder: what ships is the author's text less what the other deleted, in its order, with what the other typed put in.
pub ships : (a b : Seq) → base a ≡ base b → (t : List Char) → length t ≡ base a
    → Mixed (typed b) (marked (carry true a (stays b)) (apply a t)) (apply (transform order a b).left (apply b t))
ships = standing.ships

-- No answer depends on the caller: of two sequences, and of two records that pass.
pub no_side_favoured : (a b : Seq) → transform order b a ≡ swapped (transform order a b)
no_side_favoured = edits.transform_swaps

pub no_caller_favoured : (a b x y : List ℕ) → record_fault a ≡ 0 → record_fault b ≡ 0 → transform_call b a y x ≡ exchanged (transform_call a b x y)
no_caller_favoured = call_swaps

-- ---- "Session"

-- Demand 3, about every list of accept and undo calls on a fresh session.
pub demand3 : Demand3
demand3 = demands.demand3

-- Nothing typed is lost, after any list of calls on a fresh session: what an accepted edit typed stands in the text, unless an
-- accepted edit whose author had seen it deletes it. An undo of revision k counts as an edit whose author has seen revision k.
pub nothing_lost : (n : ℕ) → n ≤ max_size → (before later : List Call) → NothingLost (after (fresh n) before) later
nothing_lost = keeping.nothing_lost

pub typed_stands : (n : ℕ) → n ≤ max_size → (before : List Call) (c : Call) (later : List Call) → TypedStands (after (fresh n) before) c later
typed_stands = keeping.typed_stands

-- What ships: play, and the program, of a session's log give what playing its history gives, whatever stands behind the log.
pub play_is_history : (n : ℕ) (log : List ℕ) → Fresh n log → (cs : List Call) (behind t : List ℕ) → played (log_after log cs ++ behind) t ≡ history_play (after (fresh n) cs) t
play_is_history = playing.play_session

pub program_is_history : (n : ℕ) (log : List ℕ) → Fresh n log → (cs : List Call) (t : List ℕ) → let h = after (fresh n) cs in let input = log_after log cs ++ t in
    program input ≡ unless_refused (needs (leb (length input) max_input) 10 (needs (is_well_formed t) 3 (needs (eqb (number_of_chars t) h.start) 8 0))) complaint (history_play h t)
program_is_history = program_session

-- So the summaries tell what play gives on every text,
pub summaries_tell_played : (n : ℕ) (log log' : List ℕ) → Fresh n log → Fresh n log' → (cs ds : List Call) (behind behind' s t : List ℕ)
    → Given (log_after log cs) s → Given (log_after log' ds) t
    → (s ≡ t) ↔ ((text : List ℕ) → T (is_well_formed text) → number_of_chars text ≡ n → played (log_after log cs ++ behind) text ≡ played (log_after log' ds ++ behind') text)
summaries_tell_played = playing.summaries_tell_played

-- the summary's record, applied, gives what play gives,
pub summary_on_bytes : (log t x p : List ℕ) → T (succeeds (summary_call log x).answer) → T (is_well_formed t) → number_of_chars t ≡ start_of log → (out : List ℕ)
    → apply_call (given (summary_call log x) ++ p) t out ≡ writing 0 (played log t) out
summary_on_bytes = playing.summary_calls

-- what an accepted edit types stands in the text that the later log plays, unless an accepted edit whose author had seen it deletes it,
pub typed_stands_played : (n : ℕ) (log : List ℕ) → Fresh n log → (before : List Call) (t : List ℕ) → T (is_well_formed t) → number_of_chars t ≡ n → (c : Call) (later : List Call) (behind : List ℕ) →
    let here = log_after log before in
    let next = log_after here (c ∷ []) in
    let there = log_after next later in
    let k = length (revisions next) in
    let ms = newestMarks n (revisions next) in
    T (succeeds (run_call here c).answer) → Spared k ms (fed_call (after (fresh n) before) c).history later
    → marked (carry_all false (drop k (revisions there)) ms) (chars (played (there ++ behind) t))
    ≡ typed (brings (after (fresh n) before) c.ask)
typed_stands_played = playing.typed_stands_played

-- and copies never reorder: every character of the author's text that is still in the server's text after any more calls stands there
-- in its order.
pub copies_in_order : (n : ℕ) (small : n ≤ max_size) (before : List Call) (c : Call) (later : List Call) (t : List Char) (fits : length t ≡ n) → let h = after (fresh n) before in
    T (succeeds (fed_call h c).answer) → (D : Type 0) (char : D → Char) (ls : List (Option D))
    → Names char ls (apply (brings h c.ask) (play_all (take (rev_of c.ask) h.edits) t))
    → InOrder char ls (origins_all (sessions.since n small before c later t fits) ls) (play_all (after (fed_call h c).history later).edits t)
copies_in_order n small before c later t fits g D = sessions.session_in_order n small before c later t fits g

-- An edit against the newest revision goes into the log as its own bytes.
pub newest : (edit log out : List ℕ) → Bytes edit
    → accept_call edit (count_of log) log out
    ≡ unless_refused (newest_fault edit log) (λ n. record { answer = refused n; out_a = log; out_b = out })
    (record { answer = success (size_of edit ∷ 0 ∷ []); out_a = append log (take (size_of edit) edit); out_b = out })
newest = accept_newest

-- ---- "Invert": "It undoes the edit only if the text has base characters." (On bytes, and that it is refused otherwise: `inverse_returns`
-- and `inverse_eight` in Requests.antt.)

pub invert_undoes : (s : Seq) (t : List Char) → length t ≡ base s → apply (invert s t) (apply s t) ≡ t
invert_undoes = edits.invert_undoes

pub invert_built : (s : Seq) (t : List Char) → Built (invert s t)
invert_built = edits.invert_built

-- ---- "Examples, T to be proved": `table` in operational_transform/proofs/Examples.antt has T1 to T10.

-- ---- two built sequences that do the same to every text of their base are the same

pub unique : (a b : Seq) → Built a → Built b → base a ≡ base b → ((t : List Char) → length t ≡ base a → apply a t ≡ apply b t) → a ≡ b
unique = edits.same_effect
