-- From what the code finds to the answer of apply.
use Rattle.std.specs.Prelude.{◌≡◌, ℕ, zero, suc, ◌+◌, ◌<◌, ◌≤◌, T, List, [], ◌∷◌, ◌++◌, length, Result, Option, Ok, Err, Some, None}
use mathlib.Core.Path.{◌∙◌, ap, refl, sym}
use native.Mathlib.Omega.{arith}
use borrow.Author.Tests.{eq-eqb, ne_eqb}
use Rattle.buffers.specs.InnerOver.{over}
use Rattle.buffers.specs.Buffers.{put_at_front}
use Rattle.buffers.proofs.Over.{over_none, over_front}
use Rattle.buffers.proofs.Tests.{holds}
use Rattle.characters.specs.Chars.{number_of_chars}
use Rattle.characters.specs.Form.{is_well_formed}
use Rattle.characters.specs.InnerPassed.{form_of}
use Rattle.characters.proofs.Passed.{form_ill, form_well, form_num}
use Rattle.answers.specs.Answer.{refused, success, number, answer_of, unless_refused}
use Rattle.answers.specs.declared.Refusal.{Refusal}
use Rattle.answers.proofs.Outputs.{untouched, writing_short, writing_goes, writing_stops}
use Rattle.record.specs.Layout.{base_of, text_bytes_of}
use Rattle.record.specs.Record.{record_fault}
use Rattle.record.specs.Calls.{check_call}
use Rattle.record.proofs.Checked.{same_refusal, passed}
use Rattle.operational_transform.specs.Calls.{base_text_fault, apply_call}
use Rattle.apply_steps.specs.InnerSteps.{played}
use Rattle.apply_steps.proofs.Playing.{played_most}

-- ---- apply

-- the answer is a refusal, and the output is as it was
pub stopped : (r t o : List ℕ) {o₁ : List ℕ} (n : ℕ) → o₁ ≡ o → refused n ≡ (apply_call r t o).answer → (refused n ≡ (apply_call r t o).answer) × (o₁ ≡ (apply_call r t o).out)
unfolding apply_call played
stopped r t o n e h = (h, e ∙ untouched (base_text_fault r t) (played r t) o n h)

-- a run on no output leaves it
pub unchanged : (r t o e : List ℕ) → e ≡ over 0 (played r t) [] → e ++ o ≡ o
unchanged r t o e p = ap (λ l. l ++ o) (p ∙ over_none 0 (played r t))

-- after all checks but that of the room
module _ (r t o : List ℕ) (z : record_fault r ≡ 0) (w : T (is_well_formed t)) (a : number_of_chars t ≡ base_of r) where
  no_fault : base_text_fault r t ≡ 0
  no_fault = rw (z, holds (is_well_formed t) w, eq-eqb (number_of_chars t) (base_of r) a)

  -- there is room
  module _ (room : length (played r t) ≤ length o) where
    whole : record { answer = success (length (played r t) ∷ []); out = put_at_front (played r t) o } ≡ apply_call r t o
    unfolding apply_call played
    whole = writing_goes (base_text_fault r t) (played r t) o no_fault room

    gives_size : (k : ℕ) → k ≡ length (played r t) → success (k ∷ []) ≡ (apply_call r t o).answer
    gives_size k p = ap (λ i. success (i ∷ [])) p ∙ ap (λ x. x.answer) whole

    gives_out : (c : List ℕ) → c ≡ over 0 (played r t) o → c ≡ (apply_call r t o).out
    gives_out c p = p ∙ over_front (played r t) o room ∙ ap (λ x. x.out) whole

  -- room for the text before and all that is inserted
  module _ (m : ℕ) (pm : m ≡ text_bytes_of r) (l : length t + m ≤ length o) where
    ample : length (played r t) ≤ length o
    ample = omega (arith, played_most r t z w)

    pub once_0 : (k : ℕ) → k ≡ length (played r t) → success (k ∷ []) ≡ (apply_call r t o).answer
    once_0 = gives_size ample

    pub once_out : (c : List ℕ) → c ≡ over 0 (played r t) o → c ≡ (apply_call r t o).out
    once_out = gives_out ample

  -- the run on no output leaves e
  module _ (e : List ℕ) (pe : e ≡ over 0 (played r t) []) (size : ℕ) (ps : size ≡ length (played r t)) where
    same : e ++ o ≡ o
    same = unchanged r t o e pe

    pub apply_10 : length (e ++ o) < size → refused 10 ≡ (apply_call r t o).answer
    unfolding apply_call played
    apply_10 l = writing_short (base_text_fault r t) (played r t) o no_fault (omega (arith, ap length same))

    module _ (l : size ≤ length (e ++ o)) where
      room : length (played r t) ≤ length o
      room = omega (arith, ap length same)

      pub apply_0 : (k : ℕ) → k ≡ length (played r t) → success (k ∷ []) ≡ (apply_call r t o).answer
      apply_0 = gives_size room

      pub apply_out : (c : List ℕ) → c ≡ over 0 (played r t) (e ++ o) → c ≡ (apply_call r t o).out
      apply_out c p = gives_out room c (p ∙ ap (over 0 (played r t)) same)

-- what the checks find
module _ (r t o : List ℕ) (f : Result ℕ Refusal) (p : answer_of f ≡ check_call r) where
  pub apply_refused : (x : Refusal) → f ≡ Err x → refused (number x) ≡ (apply_call r t o).answer
  unfolding apply_call played
  apply_refused x q = go (record_fault r) refl (same_refusal r f p x (success []) q)
    where
      go : (k : ℕ) → record_fault r ≡ k → refused (number x) ≡ unless_refused k refused (success []) → refused (number x) ≡ (apply_call r t o).answer
      go zero z e = absurd (let y : ◌≡◌ {A = ℕ} 0 1 = cc e in omega arith)
      go (suc k) z e = e ∙ writing_stops (base_text_fault r t) (played r t) o k (rw z)

  module _ (s : ℕ) (q : f ≡ Ok s) (v : Option ℕ) (pv : v ≡ form_of t) where
    pub apply_3 : v ≡ None → refused 3 ≡ (apply_call r t o).answer
    unfolding apply_call played
    apply_3 h = writing_stops (base_text_fault r t) (played r t) o 2 (rw (passed r f p s q, sym (form_ill t v pv h)))

    pub apply_8 : (n b : ℕ) → v ≡ Some n → b ≡ base_of r → (n ≡ b → ⊥) → refused 8 ≡ (apply_call r t o).answer
    unfolding apply_call played
    apply_8 n b h pb d =
        writing_stops (base_text_fault r t) (played r t) o 7 (rw (passed r f p s q, sym (form_well t v pv h), ne_eqb (number_of_chars t) (base_of r) (λ z. d (form_num t v pv h ∙ z ∙ sym pb))))

pub agree : (r t : List ℕ) (v : Option ℕ) (n b : ℕ) → v ≡ form_of t → v ≡ Some n → b ≡ base_of r → n ≡ b → number_of_chars t ≡ base_of r
agree r t v n b pv h pb m = sym (form_num t v pv h) ∙ m ∙ pb
