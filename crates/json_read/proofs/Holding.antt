-- An emitter that takes operations only as long as no limit is passed.
use Rattle.std.specs.Prelude.{◌≡◌, ℕ, ◌+◌, ◌-◌, ◌*◌, ◌^◌, ◌<◌, ◌≤◌, Bool, true, false, not, T, ◌⊎◌, List, [], ◌∷◌, ◌++◌, map, reverse, length, take, drop}
use native.Mathlib.Nat.{le_refl}
use native.Mathlib.Omega.{arith}
use mathlib.Core.Path.{refl, sym, ap, ◌∙◌}
use mathlib.Core.Bool.{true≢false}
use mathlib.Core.Logic.{inl, inr}
use mathlib.Core.List.{reverse_aux}
use lib.Seq.{take_all}
use lib.ListN.{length-append, length-reverse}
use borrow.Author.Tests.{not-true, not-false, le-leb}
use Rattle.buffers.proofs.Tests.{holds, known}
use Rattle.buffers.specs.InnerOver.{over}
use Rattle.buffers.proofs.Over.{over_behind}
use Rattle.characters.specs.Form.{is_well_formed}
use Rattle.characters.specs.Chars.{number_of_chars}
use Rattle.characters.specs.Text.{Char, bytes, chars}
use Rattle.characters.proofs.Texts.{bytes_chars}
use Rattle.edits.specs.Op.{Op, retain, insert, delete, takes, gives, base, target, size}
use Rattle.edits.specs.Build.{add, add_all}
use Rattle.edits.specs.Sequence.{Seq}
use Rattle.edits.proofs.Meaning.{if_zero_elim}
use Rattle.record.specs.Layout.{max_ops, max_size, start_of_text}
use Rattle.record.specs.Record.{in_bytes, text, fits}
use Rattle.record.proofs.Sequences.{fits_limits}
use Rattle.emitter.specs.declared.inner.Emitter.{Emitter}
use Rattle.emitter.specs.InnerEmit.{Under, Rep, Adds, Retains, kept, group, texts_of, flushed_ops, inserted_by, flushed_if_closed, within_limits}
use Rattle.emitter.proofs.Adding.{full_length, full_text, under_more, adds_inserts}
use Rattle.emitter.proofs.Delivering.{within_inside, text_ahead, limits_text}
use Rattle.emitter.proofs.Growing.{fits_early, total_reverse}
use Rattle.emitter.proofs.Loops.{add_text, add_bytes}
use Rattle.json_read.specs.InnerReading.{Held, Feeds, FeedsRetain, FeedsText, over_text}

-- ---- an emitter's numbers and its sequence's limits

-- an operation that is left out takes nothing
kept_base : (o : Op Char) (s : Seq) → (size o ≡ 0 → takes o ≡ 0) → base (kept o s) ≡ takes o + base s
kept_base o s f = if_zero_elim (λ q. base q ≡ takes o + base s) (size o) (λ e. omega (arith, f e)) (λ _. refl)

group_base : (x : List Char) (d r : ℕ) (s : Seq) → base (group x d r s) ≡ r + (d + base s)
group_base x d r s =
    let a = kept_base (retain r) (kept (delete d) (kept (insert x) s)) (λ e. e) in
    let b = kept_base (delete d) (kept (insert x) s) (λ e. e) in
    let c = kept_base (insert x) s (λ _. refl) in
    omega (arith, a, b, c)

module _ {n : ℕ} {out0 : List ℕ} {acc : Seq} {e : Emitter} {o : List ℕ} (h : Rep n out0 acc e o) where
  -- where the sequence keeps the limits, so do the numbers
  rep_within : T (fits (reverse acc)) → T (within_limits e)
  rep_within f =
      let l = (fits_limits (reverse acc)).0 f in
      let k : length acc ≡ flushed_ops e = ap length h.is ∙ full_length h in
      let u : length (text (map in_bytes (reverse acc))) ≡ e.text = ap length (text_ahead acc ∙ ap texts_of h.is ∙ full_text h) ∙ h.text in
      let b = total_reverse takes acc in
      let g = total_reverse gives acc in
      rw (le-leb e.ops max_ops (omega (arith, l.ops, length-reverse acc)), le-leb e.text max_size (omega (arith, l.text_bytes)), le-leb e.base max_size (omega (arith, l.bases, h.base_is)), le-leb e.target max_size (omega (arith, l.targets, h.target_is))) tt

  -- and no number of the pending group is more
  rep_under : T (within_limits e) → Under max_size e
  rep_under w =
      let i = within_inside e w in
      let t = length-append (texts_of h.done) (bytes h.held) in
      let b : e.base ≡ e.ret + (e.del + base h.done) = sym h.base_is ∙ ap base h.is ∙ group_base h.held e.del e.ret h.done in
      record {
        ins = omega (arith, i.text, h.ins, h.text);
        del = omega (arith, i.base);
        ret = omega (arith, i.base);
        ops = omega (arith, i.ops);
        text = i.text;
        base = i.base;
        target = i.target;
      }

module _ (n : ℕ) (out0 : List ℕ) (acc : Seq) (e : Emitter) (o : List ℕ) (h : Held n out0 acc e o) where
  pub over_is : within_limits e ≡ false → fits (reverse acc) ≡ false
  over_is w = go h.is
    where
      no : (b : Bool) → fits (reverse acc) ≡ b → Rep n out0 acc e o → b ≡ false
      no true p r = absurd (true≢false (sym (holds (within_limits e) (rep_within r (known p))) ∙ w))
      no false p r = refl

      go : Rep n out0 acc e o ⊎ ((fits (reverse acc) ≡ false) × (within_limits e ≡ false)) → fits (reverse acc) ≡ false
      go (inl r) = no (fits (reverse acc)) refl r
      go (inr x) = x.0

-- what passes a limit goes on to
stays_over : (acc : Seq) (p : Op Char) → fits (reverse acc) ≡ false → fits (reverse (add acc p)) ≡ false
unfolding add_all
stays_over acc p f = go (fits (reverse (add acc p))) refl
  where
    go : (b : Bool) → fits (reverse (add acc p)) ≡ b → b ≡ false
    go true q = absurd (true≢false (sym (holds (fits (reverse acc)) (fits_early acc (p ∷ []) (known q))) ∙ f))
    go false q = refl

module _ (n : ℕ) (p : Op Char) (e : Emitter) (o : List ℕ) {v : Bool} (j : v ≡ within_limits e) where
  -- nothing is emitted any more
  skips : not v ≡ true → Feeds n p e o e o
  skips q =
      let w : within_limits e ≡ false = sym j ∙ not-true v q in
      record { keeps = λ out0 acc h. record { small = h.small; is = inr (stays_over acc p (over_is n out0 acc e o h w), w) } }

  -- the operation is
  takes_on : not v ≡ false → {e' : Emitter} {o' : List ℕ} → Adds n (p ∷ []) e o e' o' → Feeds n p e o e' o'
  unfolding add_all
  takes_on q {e'} {o'} a = record { keeps = λ out0 acc h. go out0 acc h.is }
    where
      w : within_limits e ≡ true
      w = sym j ∙ not-false v q

      go : (out0 : List ℕ) (acc : Seq) → Rep n out0 acc e o ⊎ ((fits (reverse acc) ≡ false) × (within_limits e ≡ false)) → Held n out0 (add acc p) e' o'
      go out0 acc (inl r) = record { small = under_more (max_size + 270000 * 1) (2 ^ 20) e' (omega arith) (a.under max_size (rep_under r (known w))); is = inl (a.keeps out0 acc r) }
      go out0 acc (inr x) = absurd (true≢false (sym w ∙ x.1))

-- ---- `add_retain`, `add_delete`

module _ (k : ℕ) (e : Emitter) {v : Bool} (j : v ≡ within_limits e) where
  pub retain_skips : not v ≡ true → FeedsRetain k e e
  retain_skips q = record { feeds = λ n o. skips n (retain k) e o j q }

  pub retain_feeds : not v ≡ false → {e' : Emitter} → Retains k e e' → FeedsRetain k e e'
  retain_feeds q r = record { feeds = λ n o. takes_on n (retain k) e o j q (r.adds n o) }

module _ (n k : ℕ) (e : Emitter) (o : List ℕ) {v : Bool} (j : v ≡ within_limits e) where
  pub delete_skips : not v ≡ true → Feeds n (delete k) e o e o
  delete_skips q = skips n (delete k) e o j q

  pub delete_feeds : not v ≡ false → {e' : Emitter} {o' : List ℕ} → Adds n (delete k ∷ []) e o e' o' → Feeds n (delete k) e o e' o'
  delete_feeds q a = takes_on n (delete k) e o j q a

-- ---- `add_insert`

pub in_bytes_reverse : (s u : Seq) → map in_bytes (reverse_aux s u) ≡ reverse_aux (map in_bytes s) (map in_bytes u)
in_bytes_reverse [] u = refl
in_bytes_reverse (o ∷ s) u = in_bytes_reverse s (o ∷ u)

module _ (n num_bytes num_chars : ℕ) (e : Emitter) (o : List ℕ) where
  -- the empty text changes nothing
  pub text_empty : num_bytes ≡ 0 → FeedsText n num_bytes num_chars e o e o
  unfolding add chars
  text_empty z = record { feeds = λ t w b c. go t (sym b ∙ z) }
    where
      go : (t : List ℕ) → length t ≡ 0 → Feeds n (insert (chars t)) e o e o
      go [] y = record { keeps = λ out0 acc h. h }
      go (b ∷ t) y = absurd (omega arith)

  module _ (some : num_bytes ≡ 0 → ⊥) {v : Bool} (j : v ≡ within_limits e) where
    pub text_skips : not v ≡ true → FeedsText n num_bytes num_chars e o e o
    text_skips q = record { feeds = λ t w b c. skips n (insert (chars t)) e o j q }

    -- a text over the limit
    more_text : (t : List ℕ) → T (is_well_formed t) → max_size < length t → (acc : Seq) → fits (reverse (add acc (insert (chars t)))) ≡ false
    unfolding in_bytes
    more_text t w l acc = go (fits (reverse (add acc (insert (chars t))))) refl
      where
        s : Seq
        s = add acc (insert (chars t))

        has : text (reverse (map in_bytes s)) ≡ text (reverse (map in_bytes acc)) ++ bytes (chars t)
        has = ap (λ r. text (reverse r)) (add_bytes acc (insert (chars t))) ∙ add_text (map in_bytes acc) (insert (bytes (chars t)))

        go : (b : Bool) → fits (reverse s) ≡ b → b ≡ false
        go true p =
            let m = ((fits_limits (reverse s)).0 (known p)).text_bytes in
            let u = ap length (ap text (in_bytes_reverse s []) ∙ has) in
            let d = length-append (text (reverse (map in_bytes acc))) (bytes (chars t)) in
            let k = ap length (bytes_chars t w) in
            absurd (omega arith)
        go false p = refl

    pub text_over : not v ≡ false → max_size < num_bytes → {e' : Emitter} → e' ≡ over_text e → FeedsText n num_bytes num_chars e o e' o
    text_over q l {e'} z = record {
      feeds = λ t w b c. record {
        keeps = λ out0 acc h. record {
          small = rw z (over_small h.small);
          is = inr (more_text t w (omega arith) acc, rw z (sym (limits_text (over_text e) (omega arith))));
        };
      };
    }
      where
        over_small : Under (2 ^ 20) e → Under (2 ^ 20) (over_text e)
        over_small u = omega arith

    pub text_feeds : not v ≡ false → num_bytes ≤ max_size → length o ≤ start_of_text n → {e' : Emitter} {o' : List ℕ} → e' ≡ inserted_by num_bytes num_chars e → o' ≡ flushed_if_closed n e o → length o' ≡ length o → FeedsText n num_bytes num_chars e o e' o'
    text_feeds q l m {e'} {o'} z y k = record { feeds = λ t w b c. takes_on n (insert (chars t)) e o j q (adds t w b c) }
      where
        adds : (t : List ℕ) → T (is_well_formed t) → num_bytes ≡ length t → num_chars ≡ number_of_chars t → Adds n (insert (chars t) ∷ []) e o e' o'
        adds t w b c =
            let a : length t - 0 ≡ length t = omega arith in
            let r : take (length t - 0) (drop 0 t) ≡ t = ap (λ i. take i t) a ∙ take_all (length t) t (le_refl (length t)) in
            let s : length t - 0 ≡ num_bytes = omega arith in
            let f : e' ≡ inserted_by (length t - 0) num_chars e = z ∙ ap (λ i. inserted_by i num_chars e) (sym s) in
            let g : o' ≡ over (start_of_text n + e.text) (take (length t - 0) (drop 0 t)) o' = over_behind (start_of_text n + e.text) (take (length t - 0) (drop 0 t)) o' (omega arith) in
            rw r at
            (adds_inserts t 0 (length t) num_chars (le_refl (length t)) (rw r w) (rw r c) n e o (omega arith) (λ d. absurd (some (omega arith))) {at = start_of_text n} {r = e'} {o₁ = o'} {o' = o'} f refl y g)
