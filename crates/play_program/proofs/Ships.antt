-- What ships: the program, given a session's log and then a text, writes what playing the session's history on the text gives.
use Rattle.std.specs.Prelude.{◌≡◌, ℕ, ◌+◌, ◌≤◌, Bool, true, false, ◌&&◌, T, eqb, leb, List, [], ◌∷◌, ◌++◌, length}
use native.Mathlib.Omega.{arith}
use mathlib.Core.Path.{refl, sym, ap, ◌∙◌}
use lib.Dec.{leb→le, le→leb}
use lib.ListN.{length-append}
use lib.Seq.{drop_at}
use Rattle.buffers.proofs.Tests.{both, holds}
use Rattle.characters.specs.Form.{is_well_formed}
use Rattle.characters.specs.Chars.{number_of_chars}
use Rattle.characters.specs.Text.{Char, chars, bytes}
use Rattle.characters.proofs.Texts.{bytes_chars}
use Rattle.edits.specs.Sequence.{Seq}
use Rattle.edits.specs.Apply.{apply}
use Rattle.answers.specs.Answer.{needs, or_else, unless_refused}
use Rattle.record.specs.Record.{encode}
use Rattle.record.proofs.Records.{encode_length}
use Rattle.record.proofs.Sequences.{apply_most}
use Rattle.session_log.specs.Log.{encode_all, readable}
use Rattle.session_log.proofs.Logs.{size_log, start_log, revisions_log, readable_log, log_length}
use Rattle.session.specs.Rows.{play_all, longest}
use Rattle.session.specs.Session.{played, play_fault}
use Rattle.session.specs.History.{History, fresh, log_in, history_play}
use Rattle.session.specs.Demand.{Fresh, Call, log_after, after}
use Rattle.session.proofs.Accepting.{SoundIn}
use Rattle.session.proofs.Demands.{session_log, session_sound}
use Rattle.session.proofs.Playing.{play_log}
use Rattle.play_program.specs.Program.{max_input, text_in, program_fault, program, complaint}

-- no text on the way has more bytes than the text and the log together, and the last is one of them
longest_most : (es : List Seq) (t : List Char) → longest es t ≤ length (bytes t) + length (encode_all es)
unfolding encode_all
longest_most [] t = omega arith
longest_most (e ∷ es) t =
    omega (
      arith,
      longest_most es (apply e t),
      apply_most e t,
      encode_length e,
      length-append (encode e) (encode_all es),
    )

last_most : (es : List Seq) (t : List Char) → length (bytes (play_all es t)) ≤ longest es t
last_most [] t = omega arith
last_most (e ∷ es) t = omega (arith, last_most es (apply e t))

-- the program's tests of room never decide: `d` and `e` hold wherever the input isn't too long and the text is well-formed
decided : (a b c d e : Bool) → (T a → T b → T d) → (T a → T b → T e)
    → needs a 10 (or_else (needs b 3 (needs true 6 (needs c 8 (needs d 10 0)))) (needs e 10 0)) ≡ needs a 10 (needs b 3 (needs c 8 0))
decided false b c d e f g = refl
decided true false c d e f g = refl
decided true true false d e f g = refl
decided true true true d e f g = rw (holds d (f tt tt), holds e (g tt tt))

module _ (h : History) (s : SoundIn h) (t : List ℕ) where
  abbrev input : List ℕ
  input = log_in h ++ t

  abbrev need : ℕ
  need = longest h.edits (chars t)

  text_behind : text_in input ≡ t
  unfolding text_in
  text_behind = drop_at (log_in h) t _ (sym (size_log h.start h.edits t))

  fits : T (leb (length input) max_input) → T (is_well_formed t) → need ≤ max_input
  fits a w =
      let l = leb→le (length input) max_input a in
      omega (
        arith,
        longest_most h.edits (chars t),
        ap length (bytes_chars t w),
        length-append (log_in h) t,
        log_length h.start h.edits,
      )

  -- 10 for an input over 65,536 bytes, then 3 and 8; a session's log is never unreadable, and there is always room
  pub program_log : program input ≡ unless_refused (needs (leb (length input) max_input) 10 (needs (is_well_formed t) 3 (needs (eqb (number_of_chars t) h.start) 8 0))) complaint (history_play h t)
  unfolding program program_fault play_fault history_play
  program_log =
      let reads : readable input ≡ true = holds (readable input) (readable_log h.start h.edits t s) in
      let p : played input (text_in input) ≡ bytes (play_all h.edits (chars t)) = ap (played input) text_behind ∙ play_log h t t in
      let a = leb (length input) max_input in
      (λ i. let u = text_behind i in
      let need = longest (revisions_log h.start h.edits t i) (chars u) in
      unless_refused
      (needs a 10
      (needs (reads i) 6
      (or_else (needs (is_well_formed u) 3 (needs (reads i) 6 (needs (eqb (number_of_chars u) (start_log h.start h.edits t i)) 8 (needs (leb need max_input && leb need max_input) 10 0))))
      (needs (leb (length (p i)) max_input) 10 0))))
      complaint (p i))
      ∙ ap (λ n. unless_refused n complaint (bytes (play_all h.edits (chars t))))
      (decided a (is_well_formed t) (eqb (number_of_chars t) h.start) (leb need max_input && leb need max_input) (leb (length (bytes (play_all h.edits (chars t)))) max_input)
      (λ x w. let l = le→leb need max_input (fits x w) in (both (leb need max_input) (leb need max_input)).1 (l, l))
      (λ x w. le→leb (length (bytes (play_all h.edits (chars t)))) max_input (omega (arith, fits x w, last_most h.edits (chars t)))))

-- after any list of calls on a fresh session
pub program_session : (n : ℕ) (log : List ℕ) (f : Fresh n log) (cs : List Call) (t : List ℕ) → let h = after (fresh n) cs in let input = log_after log cs ++ t in
    program input ≡ unless_refused (needs (leb (length input) max_input) 10 (needs (is_well_formed t) 3 (needs (eqb (number_of_chars t) h.start) 8 0))) complaint (history_play h t)
program_session n log f cs t = rw (session_log n log f cs) (program_log (after (fresh n) cs) (session_sound n log f cs) t)
