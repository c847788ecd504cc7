-- The loop of compose, and its answers.
use Rattle.std.specs.Prelude.{◌≡◌, ℕ, suc, ◌^◌, Bool, false, eqb, List, length, Result, Ok, Err}
use native.Mathlib.Omega.{arith}
use mathlib.Core.Path.{sym, ◌∙◌, refl}
use borrow.Author.Tests.{ne_eqb, eq-eqb}
use Rattle.edits.specs.Op.{base, target}
use Rattle.edits.specs.Compose.{compose_turn, made, compose}
use Rattle.edits.specs.Sequence.{Seq}
use Rattle.edits.proofs.Theorems.{compose_base, compose_target}
use Rattle.answers.specs.Answer.{needs, or_else, number, answer_of}
use Rattle.answers.specs.declared.Refusal.{Refusal}
use Rattle.answers.specs.InnerGiven.{Gives}
use Rattle.answers.specs.declared.Refusal.TheVariants.{IncompatibleLengths}
use Rattle.record.specs.Layout.{base_of, target_of}
use Rattle.record.specs.Record.{ops, record_fault}
use Rattle.record.specs.Calls.{check_call}
use Rattle.record.proofs.Records.{ops_base, ops_target}
use Rattle.record.proofs.Checked.{stopped}
use Rattle.operational_transform.specs.Calls.{records_fault, compose_call, deliver}
use Rattle.emitter.specs.declared.inner.Emitter.{Emitter}
use Rattle.emitter.specs.InnerEmit.{Done, Finishes, Under, Writes, Staged, headed, limits_before_room}
use Rattle.emitter.proofs.Loops.{compose_runs}
use Rattle.emitter.proofs.Giving.{refuses, gives_refused, gives_written}
use Rattle.steps.specs.InnerSteps.{live_is}
use Rattle.steps.specs.declared.inner.State.{State}
use Rattle.steps.proofs.Going.{Going, going_all}
use Rattle.compose.specs.InnerSized.{between}
use Rattle.compose.specs.declared.inner.Sizes.{Sizes}

-- base and target of the result are those of the operands
module _ (n : ℕ) (a b out0 : List ℕ) (za : record_fault a ≡ 0) (zb : record_fault b ≡ 0) (h : target_of a ≡ base_of b) where
  meets : target (ops a) ≡ base (ops b)
  meets = ops_target a za ∙ h ∙ sym (ops_base b zb)

  done_between : (e : Emitter) (o : List ℕ) → Done n (compose (ops a) (ops b)) out0 e o → Done n (compose (ops a) (ops b)) out0 (between a b (record { ops = e.ops; text = e.text })) o
  done_between e o d =
      let p : base (compose (ops a) (ops b)) ≡ base_of a = compose_base (ops a) (ops b) meets ∙ ops_base a za in
      let q : target (compose (ops a) (ops b)) ≡ target_of b = compose_target (ops a) (ops b) meets ∙ ops_target b zb in
      record {
        small = record { ins = omega arith; del = omega arith; ret = omega arith; ops = d.small.ops; text = d.small.text; base = omega (arith, p, d.sizes.base_is, d.small.base); target = omega (arith, q, d.sizes.target_is, d.small.target) };
        sizes = record { ops = d.sizes.ops; text_bytes = d.sizes.text_bytes; base_is = sym p; target_is = sym q };
        wrote = d.wrote;
      }

  pub going_done : (s : State) (o : List ℕ) (v : Bool) (e : Emitter) (o' : List ℕ) → Going compose_turn made n a b out0 s o → v ≡ live_is s.x s.y → v ≡ false → Finishes n s.e o e o'
      → Done n (compose (ops a) (ops b)) out0 (between a b (record { ops = e.ops; text = e.text })) o'
  going_done s o v e o' g w l f =
      done_between e o' (rw (compose_runs (ops a) (ops b), ← going_all compose_turn made n a b out0 s o g (sym w ∙ l)) (f.done out0 g.acc g.rep))

-- all sizes, as they were found
module _ (a b : List ℕ) (z : Sizes) where
  pub sized_is : (p q : ℕ) → p ≡ base_of a → q ≡ target_of b → ◌≡◌ {A = Emitter} (record { ins = 0; del = 0; ret = 0; ops = z.ops; text = z.text; base = p; target = q }) (between a b z)
  sized_is p q e f = rw (e, f)

  module _ (n : ℕ) (s : Seq) (o o' : List ℕ) (e : Emitter) (d : Done n s o (between a b z) o') (p : e ≡ between a b z) where
    pub sized_done : Done n s o e o'
    sized_done = rw p d

    pub sized_under : Under (2 ^ 40) e
    sized_under = sized_done.small

    pub sized_staged : length o' ≡ length o → Staged n s e o'
    sized_staged l = record { before = o; done = sized_done; as_long = l }

    pub sized_writes : (w : List ℕ) → w ≡ headed e o' → Writes n s o w
    sized_writes w q = record { emitter = e; before = o'; done = sized_done; is = q }

-- ---- the answers

-- what stands in front of 9 and 10
abbrev faults : List ℕ → List ℕ → ℕ
faults a b = or_else (records_fault a b) (needs (eqb (target_of a) (base_of b)) 8 0)

fault_is : (a b o : List ℕ) (x : Refusal) (k : ℕ) → number x ≡ suc k → faults a b ≡ suc k → Gives (compose_call a b o) (Err x) o
unfolding compose_call
fault_is a b o x k n e = rw e (refuses (compose (ops a) (ops b)) o k x n)

module _ (a b o : List ℕ) (za : record_fault a ≡ 0) (zb : record_fault b ≡ 0) (t s : ℕ) (pt : t ≡ target_of a) (ps : s ≡ base_of b) where
  pub composes_lengths : (t ≡ s → ⊥) → Gives (compose_call a b o) (Err IncompatibleLengths) o
  composes_lengths h = fault_is a b o IncompatibleLengths 7 refl (rw (za, zb, ne_eqb (target_of a) (base_of b) (λ z. h (pt ∙ z ∙ sym ps))))

module _ (a b o : List ℕ) (za : record_fault a ≡ 0) (zb : record_fault b ≡ 0) (h : target_of a ≡ base_of b) (e : Emitter) {n : ℕ} (m q : List ℕ) (d : Done n (compose (ops a) (ops b)) m e q) (v : Result ℕ Refusal) (j : v ≡ limits_before_room e (length o)) where
  passes : (w : Result ℕ Refusal) (o' : List ℕ) → Gives (deliver 0 (compose (ops a) (ops b)) o) w o' → Gives (compose_call a b o) w o'
  unfolding compose_call
  passes w o' g = rw (za, zb, eq-eqb (target_of a) (base_of b) h) g

  pub composes_refused : (x : Refusal) → v ≡ Err x → Gives (compose_call a b o) (Err x) o
  composes_refused x z = passes (Err x) o (gives_refused (compose (ops a) (ops b)) o e m q d v j x z)

  pub composes_written : (k : ℕ) (o' : List ℕ) → v ≡ Ok k → Writes e.ops (compose (ops a) (ops b)) o o' → Gives (compose_call a b o) (Ok k) o'
  composes_written k o' z u = passes (Ok k) o' (gives_written (compose (ops a) (ops b)) o e m q d v j k o' z u)

module _ (a b o : List ℕ) (f : Result ℕ Refusal) where
  pub composes_second : record_fault a ≡ 0 → answer_of f ≡ check_call b → (x : Refusal) → f ≡ Err x → Gives (compose_call a b o) (Err x) o
  composes_second za p x q = let s = stopped b f p x q in fault_is a b o x s.less s.number_is (rw (za, s.fault))

  pub composes_first : answer_of f ≡ check_call a → (x : Refusal) → f ≡ Err x → Gives (compose_call a b o) (Err x) o
  composes_first p x q = let s = stopped a f p x q in fault_is a b o x s.less s.number_is (rw s.fault)
