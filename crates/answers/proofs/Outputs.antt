-- What a call that writes gives back, and what one that goes through has written.
use Prim.Native.Nat.{ℕ, zero, suc, ◌≤◌, ◌<◌}
use mathlib.Core.Path.{◌≡◌, refl, ap}
use mathlib.Core.Bool.{false, ◌&&◌}
use lib.Dec.{T, leb, leb→le}
use mathlib.Core.List.{List, [], ◌∷◌}
use lib.ListN.{length, take}
use lib.Seq.{take_at}
use native.Mathlib.Omega.{arith}
use borrow.Author.Tests.{le-leb, lt-leb}
use Rattle.buffers.specs.Buffers.{put_at_front}
use Rattle.buffers.proofs.Tests.{both}
use Rattle.answers.specs.Answer.{Answer, succeeds, unless_refused, success, refused, needs, or_else}
use Rattle.answers.specs.Output.{writing, Out, writing_both, Outs}
use Rattle.answers.proofs.Refusals.{needs_out, first_zero}

-- a call goes through only where no fault was found
no_faults : {A : Type 0} (answer : A → Answer) (f : ℕ) (stop : ℕ → A) (x : A) → ((n : ℕ) → succeeds (answer (stop n)) ≡ false) → T (succeeds (answer (unless_refused f stop x))) → f ≡ 0
no_faults answer zero stop x e g = refl
no_faults answer (suc f) stop x e g = absurd (rw (e (suc f)) at g)

pub record Wrote (fault : ℕ) (result out : List ℕ) : Type 0 where
  pub no_fault : fault ≡ 0
  pub room : length result ≤ length out
  pub is : writing fault result out ≡ record { answer = success (length result ∷ []); out = put_at_front result out }

pub wrote : (fault : ℕ) (result out : List ℕ) → T (succeeds (writing fault result out).answer) → Wrote fault result out
unfolding writing
wrote fault result out g =
    let x : Out = record { answer = success (length result ∷ []); out = put_at_front result out } in
    let y : ℕ → Out = λ n. record { answer = refused n; out = out } in
    let z = no_faults (λ (o : Out). o.answer) _ y x (λ n. refl) g in
    let (p, q) = first_zero fault _ z in
    record { no_fault = p; room = leb→le (length result) (length out) (needs_out (leb (length result) (length out)) 9 0 q).0; is = ap (λ f. unless_refused f y x) z }

pub record WroteBoth (fault : ℕ) (p q x y : List ℕ) : Type 0 where
  pub no_fault : fault ≡ 0
  pub room_a : length p ≤ length x
  pub room_b : length q ≤ length y
  pub is : writing_both fault p q x y ≡ record { answer = success (length p ∷ length q ∷ []); out_a = put_at_front p x; out_b = put_at_front q y }

pub wrote_both : (fault : ℕ) (p q x y : List ℕ) → T (succeeds (writing_both fault p q x y).answer) → WroteBoth fault p q x y
unfolding writing_both
wrote_both fault p q x y g =
    let w : Outs = record { answer = success (length p ∷ length q ∷ []); out_a = put_at_front p x; out_b = put_at_front q y } in
    let v : ℕ → Outs = λ n. record { answer = refused n; out_a = x; out_b = y } in
    let z = no_faults (λ (o : Outs). o.answer) _ v w (λ n. refl) g in
    let (e, h) = first_zero fault _ z in
    let (l, m) = (both (leb (length p) (length x)) (leb (length q) (length y))).0 (needs_out (leb (length p) (length x) && leb (length q) (length y)) 9 0 h).0 in
    record { no_fault = e; room_a = leb→le (length p) (length x) l; room_b = leb→le (length q) (length y) m; is = ap (λ f. unless_refused f v w) z }

pub at_front_take : (r out : List ℕ) → take (length r) (put_at_front r out) ≡ r
unfolding put_at_front
at_front_take r out = take_at r _ (length r) refl

-- ---- a result that is written unless there is a fault

module _ (fault : ℕ) (w o : List ℕ) where
  pub writing_stops : (n : ℕ) → fault ≡ suc n → refused (suc n) ≡ (writing fault w o).answer
  unfolding writing
  writing_stops n e = rw e

  pub writing_short : fault ≡ 0 → length o < length w → refused 10 ≡ (writing fault w o).answer
  unfolding writing
  writing_short e h = rw (e, lt-leb (length w) (length o) h)

  pub writing_goes : fault ≡ 0 → length w ≤ length o → record { answer = success (length w ∷ []); out = put_at_front w o } ≡ writing fault w o
  unfolding writing
  writing_goes e h = rw (e, le-leb (length w) (length o) h)

  abbrev result : ℕ → Out
  result k = unless_refused k (λ j. record { answer = refused j; out = o }) (record { answer = success (length w ∷ []); out = put_at_front w o })

  -- a refusal changes no output
  pub untouched : (n : ℕ) → refused n ≡ (writing fault w o).answer → o ≡ (writing fault w o).out
  unfolding writing
  untouched n = go (or_else fault (needs (leb (length w) (length o)) 10 0))
    where
      go : (k : ℕ) → refused n ≡ (result k).answer → o ≡ (result k).out
      go zero e = absurd (let z : ◌≡◌ {A = ℕ} 0 1 = cc e in omega arith)
      go (suc k) e = refl
