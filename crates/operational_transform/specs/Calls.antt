-- What each call on records gives back and leaves in its output, for every input.
-- "Operands are checked one after another: first record, second record, text ..; then the rest": 8, 9, 10.
use Rattle.std.specs.Prelude.{ℕ, List, eqb, ◌&&◌}
use Rattle.characters.specs.Form.{is_well_formed}
use Rattle.characters.specs.Text.{chars, bytes}
use Rattle.characters.specs.Chars.{number_of_chars}
use Rattle.characters.specs.Order.{order}
use Rattle.edits.specs.Sequence.{Seq}
use Rattle.edits.specs.Op.{retain, delete, insert}
use Rattle.edits.specs.Build.{extend}
use Rattle.edits.specs.Apply.{apply}
use Rattle.edits.specs.Compose.{compose}
use Rattle.edits.specs.Transform.{transform}
use Rattle.edits.specs.Invert.{invert}
use Rattle.answers.specs.Answer.{or_else, needs}
use Rattle.answers.specs.Output.{Out, writing, Outs, writing_both}
use Rattle.record.specs.Record.{record_fault, encode, fits, ops}
use Rattle.record.specs.Layout.{base_of, target_of}

-- the operands: two records; a record and a text; a record and a text that has to have base characters
abbrev pub records_fault : List ℕ → List ℕ → ℕ
records_fault a b = or_else (record_fault a) (record_fault b)

abbrev pub text_fault : List ℕ → List ℕ → ℕ
text_fault r t = or_else (record_fault r) (needs (is_well_formed t) 3 0)

abbrev pub base_text_fault : List ℕ → List ℕ → ℕ
base_text_fault r t = or_else (text_fault r t) (needs (eqb (number_of_chars t) (base_of r)) 8 0)

-- a resulting sequence goes to the output as a record, unless it passes a limit (9)
unfoldable pub deliver : ℕ → Seq → List ℕ → Out
unfolding writing fits encode
deliver fault s out = writing (or_else fault (needs (fits s) 9 0)) (encode s) out

-- ---- builders: "the record is checked first, then the inserted text"

unfoldable pub retain_call : List ℕ → ℕ → List ℕ → Out
unfolding deliver record_fault ops extend
retain_call r n out = deliver (record_fault r) (extend (ops r) (retain n)) out

unfoldable pub delete_call : List ℕ → ℕ → List ℕ → Out
unfolding deliver record_fault ops extend
delete_call r n out = deliver (record_fault r) (extend (ops r) (delete n)) out

unfoldable pub insert_call : List ℕ → List ℕ → List ℕ → Out
unfolding deliver record_fault ops extend chars
insert_call r t out = deliver (text_fault r t) (extend (ops r) (insert (chars t))) out

-- ---- "Apply needs as many characters as base (else 8)."; a text has no limit

unfoldable pub apply_call : List ℕ → List ℕ → List ℕ → Out
unfolding writing record_fault ops chars bytes
apply_call r t out = writing (base_text_fault r t) (bytes (apply (ops r) (chars t))) out

-- ---- "Refused (8) when the first's target isn't the second's base."

unfoldable pub compose_call : List ℕ → List ℕ → List ℕ → Out
unfolding deliver record_fault ops compose
compose_call a b out =
    deliver (or_else (records_fault a b) (needs (eqb (target_of a) (base_of b)) 8 0)) (compose (ops a) (ops b)) out

-- ---- "Refused (8) when the bases differ."; 9 and 10 where either side asks for it

unfoldable pub transform_call : List ℕ → List ℕ → List ℕ → List ℕ → Outs
unfolding writing_both record_fault ops transform order fits encode
transform_call a b x y =
    let s = transform order (ops a) (ops b) in
    writing_both
    (or_else (records_fault a b) (needs (eqb (base_of a) (base_of b)) 8 (needs (fits s.left && fits s.right) 9 0)))
    (encode s.left) (encode s.right) x y

-- ---- document 02, M-101: "Invert now tests that the text has base characters and answers 8 otherwise, after 3."

unfoldable pub invert_call : List ℕ → List ℕ → List ℕ → Out
unfolding deliver record_fault ops chars invert
invert_call r t out = deliver (base_text_fault r t) (invert (ops r) (chars t)) out
