-- What the functions of `undo` promise each other. No entry's contract cites this.
use Rattle.std.specs.Prelude.{◌≡◌, ℕ, ◌-◌, ◌≤◌, T, List, length, drop, Result}
use Rattle.characters.specs.Form.{is_well_formed}
use Rattle.characters.specs.Chars.{number_of_chars}
use Rattle.characters.specs.Text.{chars}
use Rattle.edits.specs.Sequence.{Seq}
use Rattle.edits.specs.Invert.{invert}
use Rattle.answers.specs.Answer.{pair_of, needs, refused, unless_refused}
use Rattle.answers.specs.Output.{Outs}
use Rattle.record.specs.Record.{ops, encode, fits}
use Rattle.session_log.specs.declared.inner.Scan.{Scan}
use Rattle.session_log.specs.Log.{count_of, place_of, length_at}
use Rattle.session_log.specs.InnerScan.{Found}
use Rattle.session.specs.Session.{accept_call, undo_call}
use Rattle.answers.specs.declared.Refusal.{Refusal}

-- the record of revision k begins at `at`, and `here` is a text that it can be played on
pub record Before (log : List ℕ) (k : ℕ) (s : Scan) (at : ℕ) (here : List ℕ) : Type 0 where
  pub found : Found log k s
  pub some : 1 ≤ k
  pub rev : k ≤ count_of log
  pub place : at ≡ place_of (k - 1) log
  pub well : T (is_well_formed here)
  pub chars_are : number_of_chars here ≡ length_at (k - 1) log

-- the inverse of the record at `at` on the text `here`
unfoldable pub inverse_at : List ℕ → ℕ → List ℕ → Seq
unfolding invert ops chars
inverse_at log at here = invert (ops (drop at log)) (chars here)

-- a buffer has room for the record of e, if it has one
pub record RoomFor (e : Seq) (buffer : List ℕ) : Type 0 where
  pub room : T (fits e) → length (encode e) ≤ length buffer

-- 9 for the inverse, or what accepting it against k gives
unfoldable pub inverse_call : Seq → ℕ → List ℕ → List ℕ → Outs
unfolding fits encode accept_call
inverse_call e k log out =
    unless_refused (needs (fits e) 9 0) (λ n. record { answer = refused n; out_a = log; out_b = out }) (accept_call (encode e) k log out)

pub record AcceptsInverse (e : Seq) (k : ℕ) (log out : List ℕ) (x : Result (ℕ × ℕ) Refusal) (log' out' : List ℕ) : Type 0 where
  pub answer : pair_of x ≡ (inverse_call e k log out).answer
  pub log_is : log' ≡ (inverse_call e k log out).out_a
  pub out_is : out' ≡ (inverse_call e k log out).out_b

-- the answer, the log and the output are undo's
pub record Undoes (log : List ℕ) (k : ℕ) (text : List ℕ) (a b : ℕ) (out : List ℕ) (x : Result (ℕ × ℕ) Refusal) (log' out' : List ℕ) : Type 0 where
  pub answer : pair_of x ≡ (undo_call log k text a b out).answer
  pub log_is : log' ≡ (undo_call log k text a b out).out_a
  pub out_is : out' ≡ (undo_call log k text a b out).out_b
