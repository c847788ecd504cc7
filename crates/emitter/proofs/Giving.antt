-- The answers of a call that delivers a sequence, as the code finds them.
use Rattle.std.specs.Prelude.{◌≡◌, ℕ, zero, suc, false, T, List, [], length, Result, Ok, Err}
use mathlib.Core.Path.{sym, ap, ◌∙◌, refl}
use native.Mathlib.Omega.{arith}
use Rattle.buffers.proofs.Tests.{holds}
use Rattle.characters.specs.Form.{is_well_formed}
use Rattle.edits.specs.Sequence.{Seq}
use Rattle.answers.specs.Output.{Out}
use Rattle.answers.specs.Answer.{answer_of, number, refused, or_else}
use Rattle.answers.specs.InnerGiven.{Gives}
use Rattle.answers.specs.declared.Refusal.{Refusal}
use Rattle.answers.specs.declared.Refusal.TheVariants.{Utf8, Limit}
use Rattle.record.specs.Record.{encode, fits, record_fault}
use Rattle.record.specs.Calls.{check_call}
use Rattle.record.proofs.Checked.{stopped}
use Rattle.operational_transform.specs.Calls.{text_fault, deliver}
use Rattle.emitter.specs.declared.inner.Emitter.{Emitter}
use Rattle.emitter.specs.InnerEmit.{Done, Writes, limits_before_room}
use Rattle.emitter.proofs.Delivering.{answered, left_alone, delivered, writing_refused, deliver_refused}

-- an answer taken apart and handed on
pub handed_on : (c : Out) (v w : Result ℕ Refusal) (o : List ℕ) → Gives c v o → v ≡ w → Gives c w o
handed_on c v w o g p = record { answer = ap answer_of (sym p) ∙ g.answer; out = g.out }

module _ (s : Seq) (o : List ℕ) where
  -- a fault in front
  pub refuses : (k : ℕ) (x : Refusal) → number x ≡ suc k → Gives (deliver (suc k) s o) (Err x) o
  refuses k x n = rw (deliver_refused (suc k) s o (λ z. absurd (omega arith))) (record { answer = ap refused n; out = refl })

  -- 9
  pub gives_limit : fits s ≡ false → Gives (deliver 0 s o) (Err Limit) o
  unfolding deliver
  gives_limit p = rw p (rw (writing_refused 9 (encode s) o (λ z. absurd (omega arith))) (record { answer = refl; out = refl }))

  -- 9 and 10 as judged after a run that finds the sizes, and what is written then
  module _ (e : Emitter) {n : ℕ} (m q : List ℕ) (d : Done n s m e q) (v : Result ℕ Refusal) (j : v ≡ limits_before_room e (length o)) where
    pub gives_refused : (y : Refusal) → v ≡ Err y → Gives (deliver 0 s o) (Err y) o
    gives_refused y z = record { answer = ap answer_of (sym z) ∙ answered s e o d.sizes v j; out = left_alone s e o d.sizes v j y z }

    pub gives_written : (k : ℕ) (o' : List ℕ) → v ≡ Ok k → Writes e.ops s o o' → Gives (deliver 0 s o) (Ok k) o'
    gives_written k o' z u =
        record {
          answer = ap answer_of (sym z) ∙ answered s e o d.sizes v j;
          out = delivered s e o d.sizes v j k z e.ops u.emitter u.before o' u.done refl u.is;
        }

  -- a call that takes a record and a text
  module _ (r t : List ℕ) where
    pub text_refused : (f : Result ℕ Refusal) → answer_of f ≡ check_call r → (x : Refusal) → f ≡ Err x → Gives (deliver (text_fault r t) s o) (Err x) o
    text_refused f p x q = let v = stopped r f p x q in rw v.fault (refuses v.less x v.number_is)

    module _ (z : record_fault r ≡ 0) where
      pub text_ill : false ≡ is_well_formed t → Gives (deliver (text_fault r t) s o) (Err Utf8) o
      text_ill h = rw (z, sym h) (refuses 2 Utf8 refl)

      pub text_passed : T (is_well_formed t) → (w : Result ℕ Refusal) (o' : List ℕ) → Gives (deliver 0 s o) w o' → Gives (deliver (text_fault r t) s o) w o'
      text_passed h w o' g = rw (z, holds (is_well_formed t) h) g

  -- a call that takes a record alone takes no text
  pub no_text : (r : List ℕ) (w : Result ℕ Refusal) (o' : List ℕ) → Gives (deliver (text_fault r []) s o) w o' → Gives (deliver (record_fault r) s o) w o'
  no_text r w o' g = rw (first_none (record_fault r)) at g
    where
      first_none : (k : ℕ) → or_else k 0 ≡ k
      first_none zero = refl
      first_none (suc k) = refl
