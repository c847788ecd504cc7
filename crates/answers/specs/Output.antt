-- A call's answer and its outputs afterwards: document 01, "What a call gives back".
use Rattle.std.specs.Prelude.{ℕ, List, [], ◌∷◌, length, leb, ◌&&◌}
use Rattle.buffers.specs.Buffers.{put_at_front}
use Rattle.answers.specs.Answer.{Answer, success, refused, needs, or_else, unless_refused}

pub record Out : Type 0 where
  pub answer : Answer
  pub out : List ℕ

-- "Success gives the number of bytes written"; 10 where the output is too short; "A refusal gives its number and changes no
-- output"
unfoldable pub writing : ℕ → List ℕ → List ℕ → Out
unfolding put_at_front
writing fault result out =
    unless_refused (or_else fault (needs (leb (length result) (length out)) 10 0)) (λ n. record { answer = refused n; out = out })
    (record { answer = success (length result ∷ []); out = put_at_front result out })

-- two outputs: "one number for each buffer"
pub record Outs : Type 0 where
  pub answer : Answer
  pub out_a : List ℕ
  pub out_b : List ℕ

unfoldable pub writing_both : ℕ → List ℕ → List ℕ → List ℕ → List ℕ → Outs
unfolding put_at_front
writing_both fault p q x y =
    unless_refused (or_else fault (needs (leb (length p) (length x) && leb (length q) (length y)) 10 0))
    (λ n. record { answer = refused n; out_a = x; out_b = y })
    (record { answer = success (length p ∷ length q ∷ []); out_a = put_at_front p x; out_b = put_at_front q y })
