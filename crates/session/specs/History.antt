-- Document 01, the paragraph "A list's history is ..", and document 02's words on undo. It speaks of sequences and sizes alone,
-- and takes from the calls nothing but the rule by which one edit is transformed past another.
use Rattle.std.specs.Prelude.{ℕ, zero, suc, List, [], ◌∷◌, ◌++◌, map, Bool, ◌&&◌, length, leb, ltb, eqb}
use Rattle.buffers.specs.Lists.{all_of}
use Rattle.characters.specs.Text.{Char, chars, bytes}
use Rattle.characters.specs.Form.{is_well_formed}
use Rattle.characters.specs.Chars.{number_of_chars}
use Rattle.edits.specs.Sequence.{Seq}
use Rattle.edits.specs.Op.{target, base}
use Rattle.edits.specs.Apply.{apply}
use Rattle.edits.specs.Transform.{Sides}
use Rattle.edits.specs.Compose.{compose}
use Rattle.edits.specs.Invert.{invert}
use Rattle.answers.specs.Answer.{Answer, or_else, success, needs, refused, unless_refused}
use Rattle.record.specs.Record.{encode, fits, ops, record_fault}
use Rattle.session_log.specs.Log.{log_of, encode_all, max_revisions}
use Rattle.session.specs.Rows.{rule, retain_whole, play_all}

-- "the starting length and a row of edits, its revisions: none at first"
pub record History : Type 0 where
  pub start : ℕ
  pub edits : List Seq

abbrev pub fresh : ℕ → History
fresh n = record { start = n; edits = [] }

-- "The log's contents are the number of edits, the starting length and the row's records."
abbrev pub log_in : History → List ℕ
log_in h = log_of h.start h.edits

-- "edit r's target, or for r = 0 the starting length"
abbrev pub target_after : ℕ → List Seq → ℕ → ℕ
target_after n es zero = n
target_after n [] (suc r) = n
target_after n (e ∷ es) (suc r) = target_after (target e) es r

-- edits r + 1 to the last
abbrev pub later : ℕ → List Seq → List Seq
later zero es = es
later (suc r) [] = []
later (suc r) (e ∷ es) = later r es

-- "what comes out of one going into the next": the transforms, and what comes out of the last
abbrev pub transforms : Seq → List Seq → List (Sides Char)
transforms e [] = []
transforms e (v ∷ vs) = rule e v ∷ transforms (rule e v).left vs

abbrev pub comes_out : Seq → List (Sides Char) → Seq
comes_out e [] = e
comes_out e (s ∷ ss) = comes_out s.left ss

-- a call's answer, the counterparts, and the history after it
pub record Outcome : Type 0 where
  pub answer : Answer
  pub counterparts : List Seq
  pub history : History

-- "It is fed each accept's edit and r, and the sizes of the log's buffer and of the output for counterparts."
unfoldable pub history_accept : History → List ℕ → ℕ → ℕ → ℕ → Outcome
unfolding record_fault ops log_of rule fits encode encode_all
history_accept h edit r room space =
    let ts = transforms (ops edit) (later r h.edits) in
    let new = comes_out (ops edit) ts in
    let counterparts = map (λ s. s.right) ts in
    let next : History = record { start = h.start; edits = h.edits ++ (new ∷ []) } in
    unless_refused
    (or_else (record_fault edit)
    (needs (leb r (length h.edits)) 7
    (needs (eqb (base (ops edit)) (target_after h.start h.edits r)) 8
    (needs (ltb (length h.edits) max_revisions && all_of (λ s. fits s.left && fits s.right) ts) 9
    (needs (leb (length (log_in next)) room && leb (length (encode_all counterparts)) space) 10 0)))))
    (λ n. record { answer = refused n; counterparts = []; history = h })
    (record { answer = success (length (encode new) ∷ length (encode_all counterparts) ∷ []); counterparts = counterparts; history = next })

-- edits 1 to k − 1, and edit k
abbrev pub earlier : ℕ → List Seq → List Seq
earlier zero es = []
earlier (suc zero) es = []
earlier (suc (suc k)) [] = []
earlier (suc (suc k)) (e ∷ es) = e ∷ earlier (suc k) es

abbrev pub edit_at : ℕ → List Seq → Seq
edit_at zero es = []
edit_at (suc k) [] = []
edit_at (suc zero) (e ∷ es) = e
edit_at (suc (suc k)) (e ∷ es) = edit_at (suc k) es

-- the texts on the way, first and last included
abbrev pub texts : List Seq → List Char → List (List Char)
texts [] t = t ∷ []
texts (e ∷ es) t = t ∷ texts es (apply e t)

-- "plays revisions 1 to k − 1, inverts revision k on that text"
unfoldable pub inverse_of : History → ℕ → List ℕ → Seq
unfolding chars invert
inverse_of h k text = invert (edit_at k h.edits) (play_all (earlier k h.edits) (chars text))

-- "the history is fed what the undo is given, except the log, and the sizes of its buffers. It gives the refusals just named, in
-- that order, and a refused undo leaves it as it was; otherwise it answers and changes as by accepting that inverse against k."
unfoldable pub history_undo : History → ℕ → List ℕ → (scratch_a scratch_b room space : ℕ) → Outcome
unfolding chars bytes fits encode inverse_of history_accept
history_undo h k text scratch_a scratch_b room space =
    let inverse = inverse_of h k text in
    let holds : List Char → Bool = λ t. leb (length (bytes t)) scratch_a && leb (length (bytes t)) scratch_b in
    unless_refused
    (needs (is_well_formed text) 3
    (needs (leb 1 k && leb k (length h.edits)) 7
    (needs (eqb (number_of_chars text) h.start) 8
    (needs (all_of holds (texts (earlier k h.edits) (chars text))) 10
    (needs (fits inverse) 9 0)))))
    (λ n. record { answer = refused n; counterparts = []; history = h })
    (history_accept h (encode inverse) k room space)

-- the partial results of composing a row, and the last of them
abbrev pub partials : Seq → List Seq → List Seq
partials s [] = s ∷ []
partials s (e ∷ es) = s ∷ partials (compose s e) es

abbrev pub final : Seq → List Seq → Seq
final s [] = s
final s (p ∷ ps) = final p ps

-- the history's summary: its answer, and the record, no bytes where it is refused
pub record Summed : Type 0 where
  pub answer : Answer
  pub summary : List ℕ

-- It "is fed the size of its output": "9 as there, then 10 if the output is too short".
unfoldable pub history_summary : History → ℕ → Summed
unfolding retain_whole fits encode
history_summary h space =
    let ps = partials (retain_whole h.start) h.edits in
    let summary = encode (final (retain_whole h.start) ps) in
    unless_refused (needs (all_of fits ps) 9 (needs (leb (length summary) space) 10 0)) (λ n. record { answer = refused n; summary = [] })
    (record { answer = success (length summary ∷ []); summary = summary })

-- "Playing a history on a text applies its edits, oldest first, with no limit on room."
unfoldable pub history_play : History → List ℕ → List ℕ
unfolding chars bytes
history_play h t = bytes (play_all h.edits (chars t))
