-- The emitter's last steps, and what a whole call delivers.
use Rattle.std.specs.Prelude.{◌≡◌, ℕ, zero, suc, ◌+◌, ◌/◌, ◌%◌, ◌^◌, ◌<◌, ◌≤◌, max, Bool, true, false, cond, not, T, leb, ◌⊎◌, List, [], ◌∷◌, ◌++◌, map, reverse, length, Result, Ok, Err}
use mathlib.Core.List.{reverse_aux, append-nil, append_assoc, reverse-reverse}
use mathlib.Core.Path.{sym, ap, ◌∙◌, refl, ap₂}
use native.Mathlib.Omega.{arith}
use lib.ListN.{length-reverse, length-append}
use mathlib.Core.Logic.{inl, inr}
use lib.Dec.{leb→le}
use borrow.Author.Tests.{le-leb, lt-leb, not-true, not-false, leb-true}
use Rattle.buffers.specs.InnerOver.{bytes16, over}
use Rattle.buffers.specs.Words.{words}
use Rattle.buffers.specs.Buffers.{put_at_front}
use Rattle.buffers.proofs.Tests.{known, le_and}
use Rattle.buffers.proofs.Over.{over_join, over_swap, over_front}
use Rattle.characters.specs.Text.{Char}
use Rattle.edits.specs.Op.{size, Op, takes, gives as given, base, target, retain, insert, delete}
use Rattle.edits.specs.Sequence.{Seq}
use Rattle.edits.specs.Build.{add_all, build}
use Rattle.answers.specs.declared.Refusal.TheVariants.{Limit, Room}
use Rattle.answers.specs.declared.Refusal.{Refusal}
use Rattle.answers.specs.Answer.{number, success, refused, answer_of}
use Rattle.answers.specs.Output.{writing}
use Rattle.record.specs.Record.{in_bytes, code, inserted, text, encode, fits}
use Rattle.record.specs.Layout.{kinds_start, counts_start, start_of_text, max_ops, max_size}
use Rattle.record.proofs.Sequences.{Limits, fits_limits}
use Rattle.record.proofs.Records.{encode_length}
use Rattle.operational_transform.specs.Calls.{deliver}
use Rattle.places.specs.InnerOps.{one}
use Rattle.emitter.specs.InnerEmit.{kinds_of, counts_of, texts_of, flushed_ops, flushed, Under, laid, Finishes, nothing, Adds, Done, within_limits, size_in, limits_before_room, headed, Sizes}
use Rattle.emitter.specs.declared.inner.Emitter.{Emitter}
use Rattle.emitter.proofs.Growing.{total_reverse}
use Rattle.emitter.proofs.Adding.{full, full_length, full_text, full_wrote, rep_start}
use Rattle.emitter.proofs.Emitting.{flushed_few, flushed_none, length_kinds, length_counts}

-- ---- the parts of a sequence, from its last operation on and from its first

-- the counts in two bytes each
abbrev counts : Seq → List ℕ
counts [] = []
counts (o ∷ s) = bytes16 (size (in_bytes o)) ++ counts s

-- what a sequence has of each operation, in order: `back` from its last operation on, `ahead` from its first
module _ (f : Op Char → List ℕ) (back ahead : Seq → List ℕ) (none : back [] ≡ []) (behind : (o : Op Char) (r : Seq) → back (o ∷ r) ≡ back r ++ f o) (before : (o : Op Char) (s : Seq) → ahead (o ∷ s) ≡ f o ++ ahead s) where
  ahead_aux : (w s : Seq) → ahead (reverse_aux w s) ≡ back w ++ ahead s
  ahead_aux [] s = rw none
  ahead_aux (o ∷ w) s = ahead_aux w (o ∷ s) ∙ ap (λ l. back w ++ l) (before o s) ∙ sym (append_assoc (back w) (f o) (ahead s)) ∙ ap (λ l. l ++ ahead s) (sym (behind o w))

  ahead_back : ahead [] ≡ [] → (w : Seq) → ahead (reverse w) ≡ back w
  ahead_back e w = ahead_aux w [] ∙ ap (λ l. back w ++ l) e ∙ append-nil (back w)

module _ (w : Seq) where
  kinds_ahead : map code (map in_bytes (reverse w)) ≡ kinds_of w
  unfolding kinds_of
  kinds_ahead = ahead_back (λ o. code (in_bytes o) ∷ []) kinds_of (λ s. map code (map in_bytes s)) refl (λ o r. refl) (λ o s. refl) refl w

  counts_ahead : counts (reverse w) ≡ counts_of w
  unfolding counts_of
  counts_ahead = ahead_back (λ o. bytes16 (size (in_bytes o))) counts_of counts refl (λ o r. refl) (λ o s. refl) refl w

  pub text_ahead : text (map in_bytes (reverse w)) ≡ texts_of w
  unfolding texts_of
  text_ahead = ahead_back (λ o. inserted (in_bytes o)) texts_of (λ s. text (map in_bytes s)) refl (λ o r. refl) (λ o s. refl) refl w

-- ---- `finish`

pub finishes : (n : ℕ) (e : Emitter) (o : List ℕ) → Under (2 ^ 39) e → {r : ℕ} {o' : List ℕ} → r ≡ flushed_ops e → r ≤ e.ops + 3 → o' ≡ flushed n e o
    → Finishes n e o (record { ins = 0; del = 0; ret = 0; ops = r; text = e.text; base = e.base; target = e.target }) o'
finishes n e o u {r} {o'} re rl oe = record {
  done = λ out acc h.
      let twice : full h ≡ reverse (reverse acc) = sym h.is ∙ sym (reverse-reverse acc) in
      record {
        small = omega arith;
        sizes = record {
          ops = re ∙ sym (full_length h) ∙ ap length (sym h.is) ∙ sym (length-reverse acc);
          text_bytes = sym h.text ∙ ap length (sym (full_text h) ∙ ap texts_of (sym h.is) ∙ sym (text_ahead acc));
          base_is = sym h.base_is ∙ sym (total_reverse takes acc);
          target_is = sym h.target_is ∙ sym (total_reverse given acc);
        };
        wrote = λ w. oe ∙ full_wrote h (omega arith) ∙ ap (λ s. laid n s (texts_of s) out) twice;
      };
}

-- on a buffer of no bytes
pub closes : (e : Emitter) → Under (2 ^ 39) e → {a b c : ℕ} → a ≡ one e.ins → b ≡ one e.del → c ≡ one e.ret
    → Finishes 0 e [] (record { ins = 0; del = 0; ret = 0; ops = e.ops + a + b + c; text = e.text; base = e.base; target = e.target }) []
closes e u {a} {b} {c} pa pb pc =
    let r : e.ops + a + b + c ≡ flushed_ops e = omega arith in
    finishes 0 e [] u r (omega (arith, flushed_few e)) (sym (flushed_none 0 e))

-- a whole run: what was added is built
pub builds : (n : ℕ) (out : List ℕ) (xs : Seq) {e e₁ e₂ : Emitter} {o₁ o₂ : List ℕ} → e ≡ nothing → Adds n xs e out e₁ o₁ → Finishes n e₁ o₁ e₂ o₂ → Done n (build xs) out e₂ o₂
unfolding build
builds n out xs z a f = f.done out (add_all [] xs) (a.keeps out [] (rw z (rep_start n out)))

-- ---- `limits_then_room`

-- an emitter whose numbers keep the limits
pub record Inside (e : Emitter) : Type 0 where
  pub ops : e.ops ≤ max_ops
  pub text : e.text ≤ max_size
  pub base : e.base ≤ max_size
  pub target : e.target ≤ max_size

module _ (e : Emitter) where
  pub within_inside : T (within_limits e) → Inside e
  within_inside h =
      let (a, h₁) = (le_and e.ops max_ops _).0 h in
      let (b, h₂) = (le_and e.text max_size _).0 h₁ in
      let (c, d) = (le_and e.base max_size _).0 h₂ in
      record { ops = a; text = b; base = c; target = leb→le e.target max_size d }

  pub limits_no : (max_ops < e.ops) ⊎ ((max_size < e.text) ⊎ (max_size < e.base)) → false ≡ within_limits e
  limits_no f = go (within_limits e) refl f
    where
      go : (t : Bool) → within_limits e ≡ t → (max_ops < e.ops) ⊎ ((max_size < e.text) ⊎ (max_size < e.base)) → false ≡ t
      go true p (inl h) = absurd (omega (arith, within_inside (known p)))
      go true p (inr (inl h)) = absurd (omega (arith, within_inside (known p)))
      go true p (inr (inr h)) = absurd (omega (arith, within_inside (known p)))
      go false p h = refl

  pub limits_records : max_ops < e.ops → false ≡ within_limits e
  limits_records h = limits_no (inl h)

  pub limits_text : max_size < e.text → false ≡ within_limits e
  limits_text h = limits_no (inr (inl h))

  pub limits_base : max_size < e.base → false ≡ within_limits e
  limits_base h = limits_no (inr (inr h))

  pub limits_last : e.ops ≤ max_ops → e.text ≤ max_size → e.base ≤ max_size → leb e.target max_size ≡ within_limits e
  limits_last a b c = rw (le-leb e.ops max_ops a, le-leb e.text max_size b, le-leb e.base max_size c)

  module _ (room : ℕ) (v : Bool) (p : v ≡ within_limits e) where
    pub judge_limit : not v ≡ true → Err Limit ≡ limits_before_room e room
    unfolding limits_before_room
    judge_limit h = rw (sym p ∙ not-true v h)

    pub judge_room : (k : ℕ) → not v ≡ false → k ≡ size_in e → room < k → Err Room ≡ limits_before_room e room
    unfolding limits_before_room
    judge_room k h z l = rw (sym p ∙ not-false v h, lt-leb (size_in e) room (omega arith))

    pub judge_bytes : (k : ℕ) → not v ≡ false → k ≡ size_in e → k ≤ room → Ok k ≡ limits_before_room e room
    unfolding limits_before_room
    judge_bytes k h z l = rw (sym p ∙ not-false v h, le-leb (size_in e) room (omega arith), z)

-- ---- the sizes and the parts together are the record

-- two bytes hold a number below 65536 whole
bytes16_word : (v : ℕ) → v < 65536 → bytes16 v ≡ words (v ∷ [])
bytes16_word v h = let q : v / 256 % 256 ≡ v / 256 = omega arith in ap (λ k. v % 256 ∷ k ∷ []) q

-- an operation's count is what it takes or the bytes it inserts, whichever it has
count_is : (o : Op Char) → size (in_bytes o) ≡ max (takes o) (length (inserted (in_bytes o)))
unfolding in_bytes
count_is (retain n) = omega arith
count_is (insert x) = omega arith
count_is (delete n) = omega arith

counts_words : (s : Seq) → base s ≤ max_size → length (text (map in_bytes s)) ≤ max_size → counts s ≡ words (map size (map in_bytes s))
counts_words [] b t = refl
counts_words (o ∷ s) b t =
    let l = length-append (inserted (in_bytes o)) (text (map in_bytes s)) in
    ap₂ ◌++◌ (bytes16_word (size (in_bytes o)) (omega (arith, count_is o))) (counts_words s (omega arith) (omega arith))

-- the three parts at their places are one run
laid_run : (n : ℕ) (w : Seq) (out : List ℕ) → n ≡ length w → laid n w (texts_of w) out ≡ over kinds_start (kinds_of w ++ (counts_of w ++ texts_of w)) out
unfolding laid
laid_run n w out e =
    let k = kinds_of w in
    let c = counts_of w in
    let t = texts_of w in
    let lk : kinds_start + length k ≡ counts_start n = omega (arith, length_kinds w) in
    let lc : counts_start n + length c ≡ start_of_text n = omega (arith, length_counts w) in
    let ct : over (counts_start n) c (over (start_of_text n) t out) ≡ over (counts_start n) (c ++ t) out =
    sym (over_swap (counts_start n) (start_of_text n) c t out (omega arith)) ∙ ap (λ q. over q t (over (counts_start n) c out)) (sym lc) ∙ over_join (counts_start n) c t out in
    ap (over kinds_start k) ct
    ∙ sym (over_swap kinds_start (counts_start n) k (c ++ t) out (omega arith))
    ∙ ap (λ q. over q (c ++ t) (over kinds_start k out)) (sym lk)
    ∙ over_join kinds_start k (c ++ t) out

-- the sizes, as `header` writes them
headed_run : (e : Emitter) (o : List ℕ) → headed e o ≡ over 0 (bytes16 e.ops ++ (bytes16 e.text ++ (bytes16 e.base ++ bytes16 e.target))) o
headed_run e o =
    let n = bytes16 e.ops in
    let t = bytes16 e.text in
    let b = bytes16 e.base in
    let g = bytes16 e.target in
    ap (λ x. over 6 g (over 4 b x)) (over_join 0 n t o) ∙ ap (over 6 g) (over_join 0 (n ++ t) b o) ∙ over_join 0 (n ++ (t ++ b)) g o

module _ (s : Seq) (l : Limits s) where
  abbrev sizes : List ℕ
  sizes = words (length s ∷ length (text (map in_bytes s)) ∷ base s ∷ target s ∷ [])

  headed_sizes : (e : Emitter) (o : List ℕ) → Sizes s e → headed e o ≡ over 0 sizes o
  headed_sizes e o z =
      headed_run e o
      ∙ ap (λ x. over 0 x o)
      (ap₂ ◌++◌ (word e.ops (length s) z.ops (omega (arith, l.ops)))
      (ap₂ ◌++◌ (word e.text (length (text (map in_bytes s))) z.text_bytes (omega (arith, l.text_bytes)))
      (ap₂ ◌++◌ (word e.base (base s) z.base_is (omega (arith, l.bases))) (word e.target (target s) z.target_is (omega (arith, l.targets))))))
    where
      word : (v k : ℕ) → v ≡ k → k < 65536 → bytes16 v ≡ words (k ∷ [])
      word v k e h = ap bytes16 e ∙ bytes16_word k h

  laid_encode : (out : List ℕ) → over 0 sizes (laid (length s) (reverse s) (texts_of (reverse s)) out) ≡ over 0 (encode s) out
  unfolding encode
  laid_encode out =
      let w = reverse s in
      let r = map in_bytes s in
      let z = map code r ++ (words (map size r) ++ text r) in
      let k : kinds_of w ≡ map code r = sym (kinds_ahead w) ∙ ap (λ u. map code (map in_bytes u)) (reverse-reverse s) in
      let c : counts_of w ≡ words (map size r) = sym (counts_ahead w) ∙ ap counts (reverse-reverse s) ∙ counts_words s l.bases l.text_bytes in
      let t : texts_of w ≡ text r = sym (text_ahead w) ∙ ap (λ u. text (map in_bytes u)) (reverse-reverse s) in
      ap (over 0 sizes) (laid_run (length s) w out (sym (length-reverse s)) ∙ ap (λ x. over 8 x out) (ap₂ ◌++◌ k (ap₂ ◌++◌ c t)))
      ∙ sym (over_swap 0 8 sizes z out (omega arith))
      ∙ over_join 0 sizes z out

module _ (s : Seq) (e : Emitter) (z : Sizes s e) where
  pub sized_fits : within_limits e ≡ fits s
  unfolding fits
  sized_fits = rw (z.ops, z.text_bytes, z.base_is, z.target_is)

  pub sized_length : size_in e ≡ length (encode s)
  sized_length = rw (encode_length s, z.ops, z.text_bytes)

-- what the writing run leaves, with the sizes in front, is the record at the front of the buffer
pub written_front : (s : Seq) (n : ℕ) (out : List ℕ) (e : Emitter) (o o' : List ℕ) → Limits s → length (encode s) ≤ length out → Done n s out e o → n ≡ length s → o' ≡ headed e o → o' ≡ put_at_front (encode s) out
written_front s n out e o o' l r d m w =
    w
    ∙ headed_sizes s l e o d.sizes
    ∙ ap (over 0 (sizes s l)) (d.wrote (omega (arith, d.sizes.ops)) ∙ ap (λ k. laid k (reverse s) (texts_of (reverse s)) out) m)
    ∙ laid_encode s l out
    ∙ over_front (encode s) out r

-- ---- a whole call

module _ (s : Seq) (e : Emitter) (out : List ℕ) (z : Sizes s e) where
  -- a call is refused, or there is room for the record and it is written
  data Outcome : Type 0 where
    refuses : (x : Refusal) → limits_before_room e (length out) ≡ Err x → deliver 0 s out ≡ record { answer = refused (number x); out = out } → Outcome
    writes : Limits s → length (encode s) ≤ length out → limits_before_room e (length out) ≡ Ok (length (encode s))
        → deliver 0 s out ≡ record { answer = success (length (encode s) ∷ []); out = put_at_front (encode s) out } → Outcome

  judged_is : limits_before_room e (length out) ≡ cond (fits s) (cond (leb (length (encode s)) (length out)) (Ok (length (encode s))) (Err Room)) (Err Limit)
  unfolding limits_before_room fits
  judged_is = rw (encode_length s, z.ops, z.text_bytes, z.base_is, z.target_is)

  outcome : Outcome
  unfolding deliver writing
  outcome = go (fits s) (leb (length (encode s)) (length out)) refl refl
    where
      go : (a b : Bool) → fits s ≡ a → leb (length (encode s)) (length out) ≡ b → Outcome
      go true true p q = writes ((fits_limits s).0 (known p)) (leb-true (length (encode s)) (length out) q) (judged_is ∙ rw (p, q)) (rw (p, q))
      go true false p q = refuses Room (judged_is ∙ rw (p, q)) (rw (p, q))
      go false b p q = refuses Limit (judged_is ∙ rw p) (rw p)

  pub judged_answer : answer_of (limits_before_room e (length out)) ≡ (deliver 0 s out).answer
  judged_answer = go outcome
    where
      go : Outcome → answer_of (limits_before_room e (length out)) ≡ (deliver 0 s out).answer
      go (refuses x p q) = ap answer_of p ∙ sym (ap (λ o. o.answer) q)
      go (writes l r p q) = ap answer_of p ∙ sym (ap (λ o. o.answer) q)

  pub judged_refused : (x : Refusal) → limits_before_room e (length out) ≡ Err x → (deliver 0 s out).out ≡ out
  judged_refused x h = go outcome
    where
      go : Outcome → (deliver 0 s out).out ≡ out
      go (refuses y p q) = ap (λ o. o.out) q
      go (writes l r p q) = let z : ◌≡◌ {A = ℕ} 0 1 = cc in absurd (omega arith)

  -- `e` is the emitter of the run that finds the sizes, `e'` that of the run that writes
  pub judged_written : (k : ℕ) → limits_before_room e (length out) ≡ Ok k → (n : ℕ) (e' : Emitter) (o' o'' : List ℕ) → Done n s out e' o' → n ≡ e.ops → o'' ≡ headed e' o' → o'' ≡ (deliver 0 s out).out
  judged_written k h n e' o' o'' d ne w = go outcome
    where
      go : Outcome → o'' ≡ (deliver 0 s out).out
      go (refuses x p q) = let z : ◌≡◌ {A = ℕ} 0 1 = cc in absurd (omega arith)
      go (writes l r p q) = written_front s n out e' o' o'' l r d (ne ∙ z.ops) w ∙ sym (ap (λ o. o.out) q)

-- the same, of the answer `v` as the code finds it
module _ (s : Seq) (e : Emitter) (out : List ℕ) (z : Sizes s e) (v : Result ℕ Refusal) (j : v ≡ limits_before_room e (length out)) where
  pub answered : answer_of v ≡ (deliver 0 s out).answer
  answered = ap answer_of j ∙ judged_answer s e out z

  pub left_alone : (x : Refusal) → v ≡ Err x → out ≡ (deliver 0 s out).out
  left_alone x p = sym (judged_refused s e out z x (sym j ∙ p))

  pub delivered : (k : ℕ) → v ≡ Ok k → (n : ℕ) (e' : Emitter) (o' o'' : List ℕ) → Done n s out e' o' → n ≡ e.ops → o'' ≡ headed e' o' → o'' ≡ (deliver 0 s out).out
  delivered k p n e' o' o'' d ne w = judged_written s e out z k (sym j ∙ p) n e' o' o'' d ne w

-- a fault in front refuses the call
pub writing_refused : (fault : ℕ) (result out : List ℕ) → (fault ≡ 0 → ⊥) → writing fault result out ≡ record { answer = refused fault; out = out }
unfolding writing
writing_refused zero result out h = absurd (h refl)
writing_refused (suc f) result out h = refl

pub deliver_refused : (fault : ℕ) (s : Seq) (out : List ℕ) → (fault ≡ 0 → ⊥) → deliver fault s out ≡ record { answer = refused fault; out = out }
unfolding deliver
deliver_refused zero s out h = absurd (h refl)
deliver_refused (suc f) s out h = writing_refused (suc f) (encode s) out h
