-- The answers of opening a log.
use Rattle.std.specs.Prelude.{◌≡◌, ℕ, ◌/◌, ◌%◌, ◌<◌, ◌≤◌, leb, List, [], ◌∷◌, length}
use native.Mathlib.Omega.{arith}
use mathlib.Core.Path.{ap, ◌∙◌}
use borrow.Author.Tests.{le-leb, lt-leb}
use Rattle.buffers.specs.Words.{words}
use Rattle.buffers.specs.InnerOver.{over, bytes16}
use Rattle.buffers.specs.Buffers.{put_at_front}
use Rattle.buffers.proofs.Over.{over_join, over_front}
use Rattle.answers.specs.Answer.{success, refused, needs}
use Rattle.answers.proofs.Outputs.{writing_stops, writing_short, writing_goes, untouched}
use Rattle.session_log.specs.Open.{open_call}
use Rattle.record.specs.Layout.{max_size}

module _ (n : ℕ) (l : List ℕ) where
  abbrev fault : ℕ
  fault = needs (leb n max_size) 9 0

  abbrev header : List ℕ
  header = words (0 ∷ n ∷ [])

  pub open_refused : (k : ℕ) → refused k ≡ (open_call n l).answer → (refused k ≡ (open_call n l).answer) × (l ≡ (open_call n l).out)
  unfolding open_call
  open_refused k h = (h, untouched fault header l k h)

  pub open_9 : max_size < n → refused 9 ≡ (open_call n l).answer
  unfolding open_call
  open_9 h = writing_stops fault header l 8 (rw (lt-leb n max_size h))

  module _ (h : n ≤ max_size) where
    pub open_10 : length l < 4 → refused 10 ≡ (open_call n l).answer
    unfolding open_call
    open_10 g = writing_short fault header l (rw (le-leb n max_size h)) g

    module _ (g : 4 ≤ length l) where
      whole : record { answer = success (4 ∷ []); out = put_at_front header l } ≡ open_call n l
      unfolding open_call
      whole = writing_goes fault header l (rw (le-leb n max_size h)) g

      pub open_answer : success (4 ∷ []) ≡ (open_call n l).answer
      open_answer = ap (λ o. o.answer) whole

      pub open_out : (a b : List ℕ) → a ≡ over 0 (bytes16 0) l → b ≡ over 2 (bytes16 n) a → b ≡ (open_call n l).out
      open_out a b p q =
          let z : ◌≡◌ {A = ℕ} (n / 256 % 256) (n / 256) = omega arith in
          q
          ∙ ap (over 2 (bytes16 n)) p
          ∙ over_join 0 (bytes16 0) (bytes16 n) l
          ∙ ap (λ i. over 0 (0 ∷ 0 ∷ n % 256 ∷ i ∷ []) l) z
          ∙ over_front header l g
          ∙ ap (λ o. o.out) whole
