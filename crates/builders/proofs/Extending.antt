-- The record of the operations and the one added, as it is written.
use Rattle.std.specs.Prelude.{◌≡◌, ℕ, ◌+◌, ◌<◌, ◌≤◌, Bool, true, false, T, List, [], ◌++◌, reverse, length, Result, Ok, Err}
use mathlib.Core.Path.{sym, ap, ◌∙◌, refl}
use native.Mathlib.Omega.{arith}
use mathlib.Core.List.{reverse-reverse}
use lib.ListN.{length-reverse, length-append}
use Rattle.buffers.specs.InnerOver.{over}
use Rattle.buffers.proofs.Over.{over_nil}
use Rattle.buffers.proofs.Tests.{known}
use Rattle.characters.specs.Text.{Char, bytes, chars}
use Rattle.characters.specs.Form.{is_well_formed}
use Rattle.characters.proofs.Texts.{bytes_chars}
use Rattle.edits.specs.Op.{Op, takes, retain, insert, delete}
use Rattle.edits.specs.Build.{add, extend}
use Rattle.edits.specs.Sequence.{Seq}
use Rattle.answers.specs.declared.Refusal.{Refusal}
use Rattle.answers.specs.InnerGiven.{Gives}
use Rattle.answers.specs.Answer.{answer_of}
use Rattle.answers.specs.declared.Refusal.TheVariants.{Limit}
use Rattle.record.specs.Record.{ops, record_fault, fits, in_bytes, inserted}
use Rattle.record.specs.Layout.{op_count_of, text_bytes_of, start_of_text, max_size}
use Rattle.record.specs.Calls.{check_call}
use Rattle.record.proofs.Faults.{limits, faultless}
use Rattle.record.proofs.Sequences.{fits_limits}
use Rattle.operational_transform.specs.Calls.{deliver}
use Rattle.emitter.specs.declared.inner.Emitter.{Emitter}
use Rattle.places.specs.InnerOps.{relocated}
use Rattle.emitter.specs.InnerEmit.{flushed, texts_of, laid, group, Done, headed, limits_before_room}
use Rattle.emitter.proofs.Emitting.{flushed_few, group_text, group_length, lay_group}
use Rattle.emitter.proofs.Delivering.{text_ahead}
use Rattle.emitter.proofs.Giving.{gives_refused, gives_written, text_refused, no_text, gives_limit}
use Rattle.emitter.proofs.Loops.{add_base}
use Rattle.extend.specs.InnerExtending.{closed_of, Grown}
use Rattle.extend.proofs.Growing.{add_texts}

-- ---- all that is written

module _ (r : List ℕ) (p : Op Char) (u : List ℕ) (f : Emitter) (a : Grown r p u f) where
  -- the buffer, all but the sizes
  abbrev laid_out : ℕ → List ℕ → List ℕ
  laid_out n o = flushed n f (over (start_of_text n + text_bytes_of r) u (relocated (op_count_of r) n f.ops (text_bytes_of r) r o))

  grown_done : (n : ℕ) (o : List ℕ) → Done n (extend (ops r) p) o (closed_of f) (laid_out n o)
  unfolding extend
  grown_done n o =
      let acc = add (reverse (ops r)) p in
      let full = group a.held f.del f.ret a.done in
      let t = group_text a.held f.del f.ret a.done in
      let twice : full ≡ reverse (reverse acc) = sym a.is ∙ sym (reverse-reverse acc) in
      record {
        small = omega (arith, flushed_few f, a.under);
        sizes = record {
          ops = sym (group_length f a.held a.done a.count_is a.ins) ∙ ap length (sym a.is) ∙ sym (length-reverse acc);
          text_bytes = a.texts ∙ ap length (sym t ∙ ap texts_of (sym a.is) ∙ sym (text_ahead acc));
          base_is = a.base_is;
          target_is = a.target_is;
        };
        wrote = λ w.
            lay_group f a.held a.done a.count_is a.ins n (texts_of a.done ++ bytes a.held) o _ w (a.wrote n o (omega arith))
            ∙ ap (λ t. laid n full t o) (sym t)
            ∙ ap (λ s. laid n s (texts_of s) o) twice;
      }

  module _ (g : Emitter) (e : g ≡ closed_of f) (o : List ℕ) (v : Result ℕ Refusal) (j : v ≡ limits_before_room g (length o)) where
    pub more_refused : (y : Refusal) → v ≡ Err y → Gives (deliver 0 (extend (ops r) p) o) (Err y) o
    more_refused y q = gives_refused (extend (ops r) p) o (closed_of f) o (laid_out 0 o) (grown_done 0 o) v (j ∙ ap (λ h. limits_before_room h (length o)) e) y q

    pub text_written : (k m t : ℕ) {o₁ o₂ : List ℕ} → v ≡ Ok k → m ≡ op_count_of r → t ≡ text_bytes_of r
        → o₁ ≡ over (start_of_text g.ops + t) u (relocated m g.ops f.ops t r o) → o₂ ≡ headed g (flushed g.ops f o₁)
        → Gives (deliver 0 (extend (ops r) p) o) (Ok k) o₂
    text_written k m t {o₁} {o₂} q mp tp p₁ p₂ =
        let n = g.ops in
        let same : o₁ ≡ over (start_of_text n + text_bytes_of r) u (relocated (op_count_of r) n f.ops (text_bytes_of r) r o) = p₁ ∙ (λ i. over (start_of_text n + tp i) u (relocated (mp i) n f.ops (tp i) r o)) in
        let d : Done n (extend (ops r) p) o g (laid_out n o) = rw e (grown_done (closed_of f).ops o) in
        gives_written (extend (ops r) p) o g o (laid_out n o) d v j k o₂ q (record { emitter = g; before = laid_out n o; done = d; is = p₂ ∙ ap (λ x. headed g (flushed n f x)) same })

-- where no text is put in
pub more_written : (r : List ℕ) (p : Op Char) (f : Emitter) (a : Grown r p [] f) (g : Emitter) (e : g ≡ closed_of f) (o : List ℕ) (v : Result ℕ Refusal) → v ≡ limits_before_room g (length o)
    → (k m t : ℕ) {o₁ o₂ : List ℕ} → v ≡ Ok k → m ≡ op_count_of r → t ≡ text_bytes_of r
    → o₁ ≡ relocated m g.ops f.ops t r o → o₂ ≡ headed g (flushed g.ops f o₁)
    → Gives (deliver 0 (extend (ops r) p) o) (Ok k) o₂
more_written r p f a g e o v j k m t q mp tp p₁ p₂ = text_written r p [] f a g e o v j k m t q mp tp (p₁ ∙ sym (over_nil _ _)) p₂

-- ---- what is needed to write it

-- a checked record has all its text
pub text_room : (r : List ℕ) (k t : ℕ) → record_fault r ≡ 0 → k ≡ op_count_of r → t ≡ text_bytes_of r → start_of_text k + t ≤ length r
text_room r k t z p q = omega (arith, (limits r).0 ((faultless r).0 z).in_limits)

pub before_few : (r : List ℕ) (p : Op Char) (u : List ℕ) (f : Emitter) → Grown r p u f → (k : ℕ) → k ≡ op_count_of r → f.ops ≤ k
before_few r p u f a k e = omega (arith, a.few)

-- ---- the entries

module _ (r : List ℕ) (s : Seq) (o : List ℕ) where
  pub record_refused : (f : Result ℕ Refusal) → answer_of f ≡ check_call r → (x : Refusal) → f ≡ Err x → Gives (deliver (record_fault r) s o) (Err x) o
  record_refused f p x q = no_text s o r (Err x) o (text_refused s o r [] f p x q)

  pub record_passed : record_fault r ≡ 0 → (w : Result ℕ Refusal) (o' : List ℕ) → Gives (deliver 0 s o) w o' → Gives (deliver (record_fault r) s o) w o'
  record_passed z w o' g = rw z g

-- ---- 9, where the operation alone passes a limit

-- the result takes and inserts at least as much as the operation
extend_takes : (s : Seq) (p : Op Char) → fits (extend s p) ≡ true → takes p ≤ max_size
unfolding extend
extend_takes s p h = omega (arith, ((fits_limits (reverse (add (reverse s) p))).0 (known h)).bases, add_base (reverse s) p)

extend_inserts : (s : Seq) (p : Op Char) → fits (extend s p) ≡ true → length (inserted (in_bytes p)) ≤ max_size
unfolding extend
extend_inserts s p h =
    let w = reverse s in
    let e = ap length (text_ahead (add w p) ∙ add_texts w p) in
    omega (arith, ((fits_limits (reverse (add w p))).0 (known h)).text_bytes, e, length-append (texts_of w) (inserted (in_bytes p)))

module _ (r o : List ℕ) where
  limit_passed : (p : Op Char) → (fits (extend (ops r) p) ≡ true → ⊥) → Gives (deliver 0 (extend (ops r) p) o) (Err Limit) o
  limit_passed p f = gives_limit (extend (ops r) p) o (go (fits (extend (ops r) p)) refl)
    where
      go : (b : Bool) → fits (extend (ops r) p) ≡ b → b ≡ false
      go true q = absurd (f q)
      go false q = refl

  pub retain_limit : (k : ℕ) → max_size < k → Gives (deliver 0 (extend (ops r) (retain k)) o) (Err Limit) o
  retain_limit k h = limit_passed (retain k) (λ q. omega (arith, extend_takes (ops r) (retain k) q))

  pub delete_limit : (k : ℕ) → max_size < k → Gives (deliver 0 (extend (ops r) (delete k)) o) (Err Limit) o
  delete_limit k h = limit_passed (delete k) (λ q. omega (arith, extend_takes (ops r) (delete k) q))

  pub insert_limit : (t : List ℕ) → T (is_well_formed t) → max_size < length t → Gives (deliver 0 (extend (ops r) (insert (chars t))) o) (Err Limit) o
  unfolding in_bytes
  insert_limit t w h = limit_passed (insert (chars t)) (λ q. omega (arith, extend_inserts (ops r) (insert (chars t)) q, ap length (bytes_chars t w)))
