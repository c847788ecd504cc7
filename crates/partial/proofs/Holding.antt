-- A partial result, written to a buffer and read again.
use Rattle.std.specs.Prelude.{◌≡◌, ℕ, zero, suc, ◌-◌, ◌^◌, ◌≤◌, Bool, true, false, T, List, [], ◌∷◌, ◌++◌, map, length, take, drop, Result, Ok, Err}
use native.Mathlib.Omega.{arith}
use lib.ListN.{length-append, take-append-drop}
use mathlib.Core.Path.{ap, ap₂, ◌∙◌, sym, refl}
use native.Mathlib.Nat.{sub-zero}
use borrow.Author.Tests.{eq-eqb}
use Rattle.buffers.specs.Buffers.{put_at_front}
use Rattle.buffers.specs.InnerOver.{over}
use Rattle.buffers.proofs.Tests.{known}
use Rattle.buffers.proofs.Over.{over_front}
use Rattle.edits.specs.Built.{Built}
use Rattle.edits.specs.Sequence.{Seq}
use Rattle.edits.specs.Compose.{compose}
use Rattle.edits.specs.Build.{put, add, add_all, build}
use Rattle.edits.specs.Op.{retain}
use Rattle.edits.proofs.Claims.{compose_built}
use Rattle.edits.proofs.Building.{build_built}
use Rattle.answers.specs.declared.Refusal.{Refusal}
use Rattle.answers.specs.Answer.{number, success, refused, answer_of}
use Rattle.answers.specs.InnerGiven.{Gives}
use Rattle.answers.proofs.Outputs.{at_front_take, writing_goes}
use Rattle.record.specs.Record.{encode, fits, ops, record_fault, in_bytes, text}
use Rattle.record.specs.Layout.{base_of, target_of, max_record, max_size}
use Rattle.record.proofs.Records.{ops_encode, fault_encode, encode_small}
use Rattle.record.proofs.Sequences.{Limits, fits_limits}
use Rattle.operational_transform.specs.Calls.{deliver, compose_call}
use Rattle.places.specs.InnerOps.{one}
use Rattle.emitter.specs.InnerEmit.{Under, nothing, Retains, Done, Finishes, headed, size_in}
use Rattle.emitter.specs.declared.inner.Emitter.{Emitter}
use Rattle.emitter.proofs.Delivering.{writing_refused, builds, sized_length, written_front}
use Rattle.emitter.proofs.Adding.{under_start, under_more}
use Rattle.session.specs.Rows.{retain_whole}
use Rattle.session.proofs.Rows.{still_base, still_target}
use Rattle.partial.specs.InnerSumming.{Holds, Makes}

-- ---- what is held

front_length : (r o : List ℕ) → length r ≤ length (put_at_front r o)
unfolding put_at_front
front_length r o = omega (arith, length-append r (drop (length r) o))

holds_front : (s : Seq) (k : ℕ) (o b : List ℕ) → Built s → T (fits s) → k ≡ length (encode s) → b ≡ put_at_front (encode s) o → Holds s k b
holds_front s k o b g h e p =
    record {
      is_built = g;
      in_limits = h;
      size = e;
      room = omega (arith, front_length (encode s) o, ap length p);
      is = ap₂ take e p ∙ at_front_take (encode s) o;
    }

module _ (s : Seq) (k : ℕ) (b : List ℕ) (h : Holds s k b) where
  held_is : b ≡ encode s ++ drop k b
  held_is = sym (take-append-drop k b) ∙ ap (λ x. x ++ drop k b) h.is

  pub held_fault : record_fault b ≡ 0
  held_fault = rw held_is (fault_encode s (drop k b) (record { is_built = h.is_built; in_limits = h.in_limits }))

  pub held_ops : ops b ≡ s
  held_ops = ap ops held_is ∙ ops_encode s (drop k b)

-- ---- composed with a revision

module _ (a b o : List ℕ) (v : Result ℕ Refusal) (o' : List ℕ) (g : Gives (compose_call a b o) v o')
    (za : record_fault a ≡ 0) (zb : record_fault b ≡ 0) (e : target_of a ≡ base_of b) (r : max_record ≤ length o) where
  abbrev s : Seq
  s = compose (ops a) (ops b)

  goes_on : compose_call a b o ≡ deliver 0 s o
  unfolding compose_call
  goes_on = rw (za, zb, eq-eqb (target_of a) (base_of b) e)

  over_limit_refused : fits s ≡ false → compose_call a b o ≡ record { answer = refused 9; out = o }
  unfolding deliver
  over_limit_refused p = goes_on ∙ rw p (writing_refused 9 (encode s) o (λ z. absurd (omega arith)))

  in_limit : fits s ≡ true → compose_call a b o ≡ record { answer = success (length (encode s) ∷ []); out = put_at_front (encode s) o }
  unfolding deliver
  in_limit p = goes_on ∙ rw p (sym (writing_goes 0 (encode s) o refl (omega (arith, encode_small s (known p)))))

  pub step_refused : (x : Refusal) → v ≡ Err x → (c : List ℕ) → Makes s (Err x) c
  step_refused x q c = record { makes = go (fits s) refl }
    where
      go : (t : Bool) → fits s ≡ t → (number x ≡ 9) × (fits s ≡ false)
      go true p = absurd (let z : ◌≡◌ {A = ℕ} 0 1 = cc (ap answer_of (sym q) ∙ g.answer ∙ ap (λ y. y.answer) (in_limit p)) in omega arith)
      go false p = ((cc (ap answer_of (sym q) ∙ g.answer ∙ ap (λ y. y.answer) (over_limit_refused p))), p)

  -- the result stands in the second buffer
  record Stood (k : ℕ) : Type 0 where
    fit : fits s ≡ true
    size : k ≡ length (encode s)
    is : o' ≡ put_at_front (encode s) o

  module _ (k : ℕ) (q : v ≡ Ok k) where
    stood : Stood k
    stood = go (fits s) refl
      where
        go : (t : Bool) → fits s ≡ t → Stood k
        go true p =
            let w = in_limit p in
            record { fit = p; size = (cc (ap answer_of (sym q) ∙ g.answer ∙ ap (λ y. y.answer) w)); is = g.out ∙ ap (λ y. y.out) w }
        go false p = absurd (let z : ◌≡◌ {A = ℕ} 0 1 = cc (ap answer_of (sym q) ∙ g.answer ∙ ap (λ y. y.answer) (over_limit_refused p)) in omega arith)

    pub step_room : k ≤ length o'
    step_room = omega (arith, stood.size, ap length stood.is, front_length (encode s) o)

    pub step_written : (c c' : List ℕ) → c' ≡ over 0 (take (k - 0) (drop 0 o')) c → max_record ≤ length c → Makes s (Ok k) c'
    step_written c c' w h =
        let t = known stood.fit in
        let i : take (k - 0) o' ≡ encode s = ap₂ take (sub-zero k ∙ stood.size) stood.is ∙ at_front_take (encode s) o in
        let j : c' ≡ put_at_front (encode s) c = w ∙ ap (λ y. over 0 y c) i ∙ over_front (encode s) c (omega (arith, encode_small s t)) in
        record { makes = holds_front s k c c' (compose_built (ops a) (ops b)) t stood.size j }

-- ---- the sequence that retains the starting length

still_few : (n : ℕ) → one n ≡ length (retain_whole n)
unfolding retain_whole build add_all add put
still_few zero = refl
still_few (suc n) = refl

still_text : (n : ℕ) → length (text (map in_bytes (retain_whole n))) ≡ 0
unfolding retain_whole build add_all add put in_bytes
still_text zero = refl
still_text (suc n) = refl

one_small : (n : ℕ) → one n ≤ 1
one_small zero = omega arith
one_small (suc n) = omega arith

still_limits : (n : ℕ) → n ≤ max_size → Limits (retain_whole n)
still_limits n h =
    record {
      ops = omega (arith, still_few n, one_small n);
      text_bytes = omega (arith, still_text n);
      bases = omega (arith, still_base n);
      targets = omega (arith, still_target n);
    }

still_built : (n : ℕ) → Built (retain_whole n)
unfolding retain_whole
still_built n = build_built (retain n ∷ [])

pub still_start : (e : Emitter) → e ≡ nothing → Under (2 ^ 40) e
still_start e p = rw p (under_more _ (2 ^ 40) nothing (omega arith) under_start)

module _ (n : ℕ) (e f : Emitter) (p : e ≡ nothing) (a : Retains n e f) where
  pub still_under : Under (2 ^ 39) f
  still_under = under_more _ (2 ^ 39) f (omega arith) ((a.adds 0 []).under 0 (rw p under_start))

  module _ (m : ℕ) (o : List ℕ) (g : Emitter) (o₁ : List ℕ) (d : Finishes m f o g o₁) where
    still_done : Done m (retain_whole n) o g o₁
    unfolding retain_whole
    still_done = builds m o (retain n ∷ []) p (a.adds m o) d

    pub still_small : Under (2 ^ 40) g
    still_small = still_done.small

    pub still_holds : m ≡ one n → n ≤ max_size → max_record ≤ length o → (o₂ : List ℕ) → o₂ ≡ headed g o₁ → (k : ℕ) → k ≡ size_in g → Holds (retain_whole n) k o₂
    still_holds q h r o₂ w k z =
        let l = still_limits n h in
        let t = (fits_limits (retain_whole n)).1 l in
        holds_front (retain_whole n) k o o₂ (still_built n) t (z ∙ sized_length (retain_whole n) g still_done.sizes)
        (written_front (retain_whole n) m o g o₁ o₂ l (omega (arith, encode_small (retain_whole n) t)) still_done (q ∙ still_few n) w)
