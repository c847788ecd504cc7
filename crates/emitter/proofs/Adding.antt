-- The emitter takes operations as the builders do.
use Rattle.std.specs.Prelude.{◌≡◌, ℕ, zero, suc, ◌+◌, ◌-◌, ◌^◌, ◌<◌, ◌≤◌, Bool, true, false, T, leb, List, [], ◌∷◌, ◌++◌, length, take, drop}
use mathlib.Core.Path.{refl, sym, ◌∙◌, ap, ap₂}
use mathlib.Core.List.{append-nil, append_assoc}
use native.Mathlib.Omega.{arith}
use lib.ListN.{length-append, length-drop}
use native.Mathlib.Nat.{add-zero, zero-add, suc-add}
use borrow.Author.Tests.{leb-true, leb-false}
use lib.Seq.{length-take-le, take_all}
use Rattle.buffers.specs.InnerOver.{over}
use Rattle.buffers.proofs.Over.{over_nil, over_behind}
use Rattle.characters.specs.Text.{bytes, Char, chars}
use Rattle.characters.specs.Form.{is_well_formed}
use Rattle.characters.specs.Chars.{number_of_chars}
use Rattle.characters.proofs.Texts.{bytes_append, bytes_length, chars_length, bytes_chars, chars_bytes, bytes_well}
use Rattle.characters.proofs.Widths.{bytes_most}
use Rattle.edits.specs.Build.{add_all, put, add}
use Rattle.edits.specs.Sequence.{Seq}
use Rattle.edits.specs.Op.{retain, delete, insert, Op, takes, base, gives, target, size, cut}
use Rattle.edits.proofs.Building.{add_all_append}
use Rattle.record.specs.Layout.{start_of_text}
use Rattle.record.specs.Record.{in_bytes, inserted}
use Rattle.record.specs.declared.inner.Front.{Front}
use Rattle.record.specs.InnerFront.{front_text, front_op, Stands, Cut}
use Rattle.reader.proofs.Fronts.{op_retain, op_insert, op_delete, Kinds, retains, inserts, deletes, kinds}
use Rattle.emitter.specs.InnerEmit.{nothing, texts_of, laid, first, Rep, Under, Adds, group, Fresh, later_insert, later_delete, flushed_ops, flushed, opens, flushed_if_closed, deleted_by, inserted_by, Retains}
use Rattle.emitter.specs.declared.inner.Emitter.{Emitter}
use Rattle.emitter.proofs.Growing.{total_reverse}
use Rattle.emitter.proofs.Loops.{add_base, add_target}
use Rattle.emitter.proofs.Emitting.{group_text, group_length, lay_group, flushed_few, opens_same, opens_again, spilled_same, spilled_again, lay_text}

-- ---- a run of builders

pub rep_start : (n : ℕ) (out : List ℕ) → Rep n out [] nothing out
unfolding laid texts_of bytes
rep_start n out = record {
  done = [];
  held = [];
  fresh = first;
  is = refl;
  ins = refl;
  ops = refl;
  text = refl;
  base_is = refl;
  target_is = refl;
  wrote = λ _. sym (simp over_nil);
}

pub under_more : (k m : ℕ) (e : Emitter) → k ≤ m → Under k e → Under m e
under_more k m e h u = omega arith

pub under_start : Under 0 nothing
under_start = omega arith

pub adds_nil : (n : ℕ) (e : Emitter) (o : List ℕ) → Adds n [] e o e o
unfolding add_all
adds_nil n e o = record { keeps = λ out acc h. h; under = λ k u. omega arith }

pub adds_append : (n : ℕ) {xs ys : Seq} {e e₁ e₂ : Emitter} {o o₁ o₂ : List ℕ} → Adds n xs e o e₁ o₁ → Adds n ys e₁ o₁ e₂ o₂ → Adds n (xs ++ ys) e o e₂ o₂
adds_append n {xs} {ys} a b = record {
  keeps = λ out acc h. rw (add_all_append acc xs ys) (b.keeps out (add_all acc xs) (a.keeps out acc h));
  under = λ k u. let v = b.under _ (a.under k u) in let l = length-append xs ys in omega arith;
}

-- ---- a builder on the pending group

retain_new : {x : List Char} {d : ℕ} {s : Seq} → Fresh x d s → (k : ℕ) → add (group x d 0 s) (retain (suc k)) ≡ retain (suc k) ∷ group x d 0 s
unfolding add put
retain_new (first {x = []} {d = zero}) k = refl
retain_new (first {x = c ∷ x} {d = zero}) k = refl
retain_new (first {x = []} {d = suc d}) k = refl
retain_new (first {x = c ∷ x} {d = suc d}) k = refl
retain_new (later_insert {d = zero}) k = refl
retain_new (later_insert {d = suc d}) k = refl
retain_new later_delete k = refl

group_retain : {x : List Char} {d : ℕ} {s : Seq} → Fresh x d s → (k r : ℕ) → add (group x d r s) (retain k) ≡ group x d (r + k) s
unfolding add put
group_retain f zero r = rw add-zero
group_retain f (suc k) zero = retain_new f k ∙ rw (zero-add (suc k))
group_retain f (suc k) (suc r) = rw (suc-add r (suc k))

delete_new : {x : List Char} {s : Seq} → Fresh x 0 s → (k : ℕ) → add (group x 0 0 s) (delete (suc k)) ≡ delete (suc k) ∷ group x 0 0 s
unfolding add put
delete_new (first {x = []}) k = refl
delete_new (first {x = c ∷ x}) k = refl
delete_new later_insert k = refl

group_delete : {x : List Char} {d : ℕ} {s : Seq} → Fresh x d s → (k : ℕ) → add (group x d 0 s) (delete k) ≡ group x (d + k) 0 s
unfolding add put
group_delete {d = d} f zero = rw (add-zero d)
group_delete {d = zero} f (suc k) = delete_new f k ∙ rw (zero-add (suc k))
group_delete {d = suc d} f (suc k) = rw (suc-add d (suc k))

group_insert : {x : List Char} {d : ℕ} {s : Seq} → Fresh x d s → (y : List Char) → add (group x d 0 s) (insert y) ≡ group (x ++ y) d 0 s
unfolding add put
group_insert {x} f [] = rw (append-nil x)
group_insert (first {x = []} {d = zero}) (b ∷ y) = refl
group_insert (first {x = c ∷ x} {d = zero}) (b ∷ y) = refl
group_insert (first {x = []} {d = suc d}) (b ∷ y) = refl
group_insert (first {x = c ∷ x} {d = suc d}) (b ∷ y) = refl
group_insert (later_insert {d = zero}) (b ∷ y) = refl
group_insert (later_insert {d = suc d}) (b ∷ y) = refl
group_insert (later_delete {x = []}) (b ∷ y) = refl
group_insert (later_delete {x = c ∷ x}) (b ∷ y) = refl

fresh_delete : {x : List Char} {d : ℕ} {s : Seq} → Fresh x d s → (k : ℕ) → Fresh x (d + k) s
fresh_delete first k = first
fresh_delete later_insert k = later_insert
fresh_delete (later_delete {d = d}) k = rw (suc-add d k) later_delete

fresh_insert : {x : List Char} {d : ℕ} {s : Seq} → Fresh x d s → (y : List Char) → Fresh (x ++ y) d s
fresh_insert first y = first
fresh_insert later_insert y = later_insert
fresh_insert later_delete y = later_delete

-- behind a pending retain a new group begins
module _ (x : List Char) (d r : ℕ) (s : Seq) (h : 0 < r) where
  delete_goes_behind : (k : ℕ) → 0 < k → (add (group x d r s) (delete k) ≡ group [] k 0 (group x d r s)) × Fresh [] k (group x d r s)
  unfolding add put
  delete_goes_behind = go r h
    where
      go : (r : ℕ) → 0 < r → (k : ℕ) → 0 < k → (add (group x d r s) (delete k) ≡ group [] k 0 (group x d r s)) × Fresh [] k (group x d r s)
      go zero h k g = absurd (omega arith)
      go (suc r) h zero g = absurd (omega arith)
      go (suc r) h (suc k) g = (refl, later_delete)

  insert_behind : (y : List Char) → 0 < length y → (add (group x d r s) (insert y) ≡ group y 0 0 (group x d r s)) × Fresh y 0 (group x d r s)
  unfolding add put
  insert_behind = go r h
    where
      go : (r : ℕ) → 0 < r → (y : List Char) → 0 < length y → (add (group x d r s) (insert y) ≡ group y 0 0 (group x d r s)) × Fresh y 0 (group x d r s)
      go zero h y g = absurd (omega arith)
      go (suc r) h [] g = absurd (omega arith)
      go (suc r) h (c ∷ y) g = (refl, later_insert)

-- ---- base and target, of what is held last operation first

base_add : (r : Seq) (o : Op Char) → base (add r o) ≡ base r + takes o
base_add r o = sym (total_reverse takes (add r o)) ∙ add_base r o ∙ ap (λ k. k + takes o) (total_reverse takes r)

target_add : (r : Seq) (o : Op Char) → target (add r o) ≡ target r + gives o
target_add r o = sym (total_reverse gives (add r o)) ∙ add_target r o ∙ ap (λ k. k + gives o) (total_reverse gives r)

-- ---- `retain`, `delete`

-- an empty operation
adds_none : (n : ℕ) (p : Op Char) (e : Emitter) (o : List ℕ) → size p ≡ 0 → Adds n (p ∷ []) e o e o
unfolding add add_all
adds_none n p e o z = record { keeps = λ out acc h. rw z h; under = λ m u. omega arith }

pub adds_retain : (n k : ℕ) (e : Emitter) (o : List ℕ) → k ≤ 65536
    → Adds n (retain k ∷ []) e o (record { ins = e.ins; del = e.del; ret = e.ret + k; ops = e.ops; text = e.text; base = e.base + k; target = e.target + k }) o
unfolding add_all
adds_retain n k e o kl = record {
  keeps = λ out acc h. record {
    done = h.done;
    held = h.held;
    fresh = h.fresh;
    is = ap (λ s. add s (retain k)) h.is ∙ group_retain h.fresh k e.ret;
    ins = h.ins;
    ops = h.ops;
    text = h.text;
    base_is = omega (arith, base_add acc (retain k), h.base_is);
    target_is = omega (arith, target_add acc (retain k), h.target_is);
    wrote = h.wrote;
  };
  under = λ m u. omega arith;
}

pub adds_delete_none : (n k : ℕ) (e : Emitter) (o : List ℕ) → k ≡ 0 → Adds n (delete k ∷ []) e o e o
adds_delete_none n k e o z = adds_none n (delete k) e o z

adds_delete : (n k : ℕ) (e : Emitter) (o : List ℕ) → k ≤ 65536 → e.ret ≤ 0
    → Adds n (delete k ∷ []) e o (record { ins = e.ins; del = e.del + k; ret = e.ret; ops = e.ops; text = e.text; base = e.base + k; target = e.target }) o
unfolding add_all
adds_delete n k e o kl z =
    let z₀ : e.ret ≡ 0 = omega arith in
    record {
      keeps = λ out acc h. record {
        done = h.done;
        held = h.held;
        fresh = fresh_delete h.fresh k;
        is = ap (λ s. add s (delete k)) (rw z₀ at h.is) ∙ rw z₀ (group_delete h.fresh k);
        ins = h.ins;
        ops = h.ops;
        text = h.text;
        base_is = omega (arith, base_add acc (delete k), h.base_is);
        target_is = omega (arith, target_add acc (delete k), h.target_is);
        wrote = h.wrote;
      };
      under = λ m u. omega arith;
    }

-- the pending group, once it is flushed
module _ {n : ℕ} {out : List ℕ} {acc : Seq} {e : Emitter} {o : List ℕ} (h : Rep n out acc e o) where
  abbrev pub full : Seq
  full = group h.held e.del e.ret h.done

  pub full_length : length full ≡ flushed_ops e
  full_length = group_length e h.held h.done h.ops h.ins

  pub full_text : texts_of full ≡ texts_of h.done ++ bytes h.held
  full_text = group_text h.held e.del e.ret h.done

  pub full_wrote : flushed_ops e ≤ n → flushed n e o ≡ laid n full (texts_of full) out
  full_wrote r =
      lay_group e h.held h.done h.ops h.ins n (texts_of h.done ++ bytes h.held) out o r (h.wrote (omega arith))
      ∙ ap (λ t. laid n full t out) (sym full_text)

adds_delete_new : (n k : ℕ) (e : Emitter) (o : List ℕ) → k ≤ 65536 → (k ≡ 0 → ⊥) → 0 < e.ret
    → Adds n (delete k ∷ []) e o (record { ins = 0; del = k; ret = 0; ops = flushed_ops e; text = e.text; base = e.base + k; target = e.target }) (flushed n e o)
unfolding add_all bytes
adds_delete_new n k e o kl z p = record {
  keeps = λ out acc h.
      let b = delete_goes_behind h.held e.del e.ret h.done p k (omega arith) in
      let t = append-nil (texts_of (full h)) in
      record {
        done = full h;
        held = [];
        fresh = b.1;
        is = ap (λ s. add s (delete k)) h.is ∙ b.0;
        ins = refl;
        ops = full_length h;
        text = ap length (t ∙ full_text h) ∙ h.text;
        base_is = omega (arith, base_add acc (delete k), h.base_is);
        target_is = omega (arith, target_add acc (delete k), h.target_is);
        wrote = λ w. full_wrote h (omega arith) ∙ ap (λ t. laid n (full h) t out) (sym t);
      };
  under = λ m u. omega (arith, flushed_few e);
}

-- the numbers where no retain is pending, and behind one
opened_same : (e : Emitter) → e.ret ≤ 0 → opens e ≡ e
opened_same e h = sym (opens_same e (omega arith))

opened_again : (e : Emitter) → 0 < e.ret → opens e ≡ record { ins = 0; del = 0; ret = 0; ops = flushed_ops e; text = e.text; base = e.base; target = e.target }
opened_again e h = sym (opens_again e (λ z. absurd (omega arith)) refl refl refl)

pub adds_deletes : (n k : ℕ) (e : Emitter) (o : List ℕ) {r : Emitter} {o' : List ℕ} → k ≤ 65536 → (k ≡ 0 → ⊥) → r ≡ deleted_by k e → o' ≡ flushed_if_closed n e o → Adds n (delete k ∷ []) e o r o'
adds_deletes n k e o {r} {o'} kl z q p = rw q (go (leb e.ret 0) refl)
  where
    go : (b : Bool) → leb e.ret 0 ≡ b → Adds n (delete k ∷ []) e o (deleted_by k e) o'
    go true b = let h = leb-true e.ret 0 b in rw (opened_same e h, p ∙ sym (spilled_same e n o h)) (adds_delete n k e o kl h)
    go false b =
        let h = leb-false e.ret 0 b in
        rw (opened_again e h, zero-add k, p ∙ sym (spilled_again e n o h refl)) (adds_delete_new n k e o kl z h)

-- ---- `deleted`, `inserted`

module _ (e g : Emitter) (p : g ≡ opens e) where
  pub deletes_from : (k : ℕ) → record { ins = g.ins; del = g.del + k; ret = g.ret; ops = g.ops; text = e.text; base = e.base + k; target = e.target } ≡ deleted_by k e
  deletes_from k = rw p

  pub inserts_from : (len num : ℕ)
      → record { ins = g.ins + len; del = g.del; ret = g.ret; ops = g.ops; text = e.text + len; base = e.base; target = e.target + num } ≡ inserted_by len num e
  inserts_from len num = rw p

-- ---- `insert`

some_chars : (y : List Char) → 0 < length (bytes y) → 0 < length y
unfolding bytes
some_chars [] h = absurd (omega arith)
some_chars (c ∷ y) h = omega arith

-- a text of k bytes and j characters
module _ (n : ℕ) (y : List Char) (e : Emitter) (o : List ℕ) (k j : ℕ) (kl : k ≤ 2 ^ 18) (yk : length (bytes y) ≡ k) (yj : length y ≡ j) where
  few : j ≤ 2 ^ 18
  few = omega (arith, bytes_length y)

  insert_on : e.ret ≤ 0 → (o' : List ℕ) → o' ≡ over (start_of_text n + e.text) (bytes y) o
      → Adds n (insert y ∷ []) e o (record { ins = e.ins + k; del = e.del; ret = e.ret; ops = e.ops; text = e.text + k; base = e.base; target = e.target + j }) o'
  unfolding add_all
  insert_on z o' oe =
      let z₀ : e.ret ≡ 0 = omega arith in
      record {
        keeps = λ out acc h.
            let t = texts_of h.done ++ bytes h.held in
            let more : texts_of h.done ++ bytes (h.held ++ y) ≡ t ++ bytes y =
            ap (λ u. texts_of h.done ++ u) (bytes_append h.held y) ∙ sym (append_assoc (texts_of h.done) (bytes h.held) (bytes y)) in
            record {
              done = h.done;
              held = h.held ++ y;
              fresh = fresh_insert h.fresh y;
              is = ap (λ s. add s (insert y)) (rw z₀ at h.is) ∙ rw z₀ (group_insert h.fresh y);
              ins = ap length (bytes_append h.held y) ∙ length-append (bytes h.held) (bytes y) ∙ rw (h.ins, yk);
              ops = h.ops;
              text = ap length more ∙ length-append t (bytes y) ∙ rw (h.text, yk);
              base_is = omega (arith, base_add acc (insert y), h.base_is);
              target_is = omega (arith, target_add acc (insert y), h.target_is);
              wrote = λ w. oe ∙ rw (h.wrote w, ← h.text) (lay_text n h.done t out (bytes y) (omega (arith, h.ops))) ∙ ap (λ u. laid n h.done u out) (sym more);
            };
        under = λ m u. omega (arith, few);
      }

  insert_new : (k ≡ 0 → ⊥) → 0 < e.ret → (o' : List ℕ) → o' ≡ over (start_of_text n + e.text) (bytes y) (flushed n e o)
      → Adds n (insert y ∷ []) e o (record { ins = k; del = 0; ret = 0; ops = flushed_ops e; text = e.text + k; base = e.base; target = e.target + j }) o'
  unfolding add_all
  insert_new kz p o' oe = record {
    keeps = λ out acc h.
        let b = insert_behind h.held e.del e.ret h.done p y (some_chars y (omega arith)) in
        let l : length (texts_of (full h)) ≡ e.text = ap length (full_text h) ∙ h.text in
        record {
          done = full h;
          held = y;
          fresh = b.1;
          is = ap (λ s. add s (insert y)) h.is ∙ b.0;
          ins = yk;
          ops = full_length h;
          text = length-append (texts_of (full h)) (bytes y) ∙ rw (l, yk);
          base_is = omega (arith, base_add acc (insert y), h.base_is);
          target_is = omega (arith, target_add acc (insert y), h.target_is);
          wrote = λ w. oe ∙ rw (full_wrote h (omega arith), ← l) (lay_text n (full h) (texts_of (full h)) out (bytes y) (omega (arith, full_length h)));
        };
    under = λ m u. omega (arith, few, flushed_few e);
  }

  insert_all : (k ≡ 0 → ⊥) → (o' : List ℕ) → o' ≡ over (start_of_text n + e.text) (bytes y) (flushed_if_closed n e o) → Adds n (insert y ∷ []) e o (inserted_by k j e) o'
  insert_all kz o' oe = go (leb e.ret 0) refl
    where
      go : (b : Bool) → leb e.ret 0 ≡ b → Adds n (insert y ∷ []) e o (inserted_by k j e) o'
      go true b = let h = leb-true e.ret 0 b in rw (opened_same e h) (insert_on h o' (rw (← spilled_same e n o h) at oe))
      go false b = let h = leb-false e.ret 0 b in rw (opened_again e h, zero-add k) (insert_new kz h o' (rw (← spilled_again e n o h refl) at oe))

-- the text src[from..to]
module _ (src : List ℕ) (from to num : ℕ) (room : to ≤ length src) (well : T (is_well_formed (take (to - from) (drop from src)))) (ch : num ≡ number_of_chars (take (to - from) (drop from src))) where
  abbrev part : List ℕ
  part = take (to - from) (drop from src)

  part_bytes : length (bytes (chars part)) ≡ to - from
  part_bytes = ap length (bytes_chars part well) ∙ length-take-le (to - from) (drop from src) (omega (arith, length-drop from src))

  part_chars : length (chars part) ≡ num
  part_chars = chars_length part well ∙ sym ch

  pub few_chars : to - from ≤ 2 ^ 18 → num ≤ 2 ^ 18
  few_chars h = omega (arith, part_chars, part_bytes, bytes_length (chars part))

  module _ (n : ℕ) (e : Emitter) (o : List ℕ) where
    placed : (x : List ℕ) {at : ℕ} {x' : List ℕ} → at ≡ start_of_text n → x' ≡ over (at + e.text) part x → x' ≡ over (start_of_text n + e.text) (bytes (chars part)) x
    placed x a p = p ∙ ap₂ (λ k l. over (k + e.text) l x) a (sym (bytes_chars part well))

    pub adds_insert_none : to - from ≡ 0 → Adds n (insert (chars (take (to - from) (drop from src))) ∷ []) e o e o
    adds_insert_none z = adds_none n (insert (chars part)) e o (omega (arith, part_bytes, bytes_length (chars part)))

    pub adds_inserts : to - from ≤ 2 ^ 18 → (to - from ≡ 0 → ⊥) → {at : ℕ} {r : Emitter} {o₁ o' : List ℕ} → r ≡ inserted_by (to - from) num e → at ≡ start_of_text n → o₁ ≡ flushed_if_closed n e o → o' ≡ over (at + e.text) (take (to - from) (drop from src)) o₁
        → Adds n (insert (chars (take (to - from) (drop from src))) ∷ []) e o r o'
    adds_inserts lw z {at} {r} {o₁} {o'} q a p oe =
        rw q
        (insert_all n (chars part) e o (to - from) num lw part_bytes part_chars z o' (placed o₁ a oe ∙ ap (over (start_of_text n + e.text) (bytes (chars part))) p))

-- ---- `push`

-- the first k characters of a front's operation
module _ (r : List ℕ) (f : Front) (k mid : ℕ) (s : Stands r f) (h : k ≤ f.left) (c : Cut r f k mid) where
  part_text : f.kind ≡ 2 → take (mid - f.from) (drop f.from r) ≡ bytes (take k (chars (front_text r f)))
  unfolding in_bytes
  part_text e = c.first ∙ ap (λ o. inserted (in_bytes (cut k o))) (op_insert r f e)

  part_length : f.kind ≡ 2 → length (take k (chars (front_text r f))) ≡ k
  part_length e = let (w, l) = s.text e in length-take-le k (chars (front_text r f)) (omega (arith, chars_length (front_text r f) w))

  pub part_room : mid ≤ length r
  part_room = omega (arith, c.below, s.place.room)

  pub part_well : f.kind ≡ 2 → T (is_well_formed (take (mid - f.from) (drop f.from r)))
  part_well e = rw (part_text e) (bytes_well (take k (chars (front_text r f))))

  pub part_count : f.kind ≡ 2 → k ≡ number_of_chars (take (mid - f.from) (drop f.from r))
  part_count e = sym (ap number_of_chars (part_text e) ∙ sym (chars_length _ (bytes_well _)) ∙ ap length (chars_bytes _) ∙ part_length e)

  part_wide : length (take (mid - f.from) (drop f.from r)) ≡ mid - f.from
  part_wide = length-take-le (mid - f.from) (drop f.from r) (omega (arith, part_room, length-drop f.from r))

  pub part_small : f.kind ≡ 2 → mid - f.from ≤ 2 ^ 18
  part_small e = let x = take k (chars (front_text r f)) in omega (arith, part_wide, ap length (part_text e), bytes_most x, part_length e, s.small)

  pub part_few : f.kind ≡ 2 → k ≤ 2 ^ 18
  part_few e = omega (arith, s.small)

  part_some : 0 < k → f.kind ≡ 2 → mid - f.from ≡ 0 → ⊥
  part_some l e z =
      let x = take k (chars (front_text r f)) in
      absurd (omega (arith, part_wide, ap length (part_text e), bytes_length x, part_length e))

  module _ (n : ℕ) (e e' : Emitter) (o o' : List ℕ) where
    pub part_retain : f.kind ≡ 1 → Retains k e e' → Adds n (cut k (front_op r f) ∷ []) e o e' o
    part_retain z a = rw (op_retain r f z) (a.adds n o)

    pub part_inserts : 0 < k → f.kind ≡ 2 → {at : ℕ} {o₁ : List ℕ} → e' ≡ inserted_by (mid - f.from) k e → at ≡ start_of_text n → o₁ ≡ flushed_if_closed n e o
        → o' ≡ over (at + e.text) (take (mid - f.from) (drop f.from r)) o₁ → Adds n (cut k (front_op r f) ∷ []) e o e' o'
    part_inserts l z w a p q =
        rw (op_insert r f z)
        (rw (part_text z, chars_bytes) at (adds_inserts r f.from mid k part_room (part_well z) (part_count z) n e o (part_small z) (part_some l z) w a p q))

    pub part_deletes : 0 < k → (f.kind ≡ 1 → ⊥) → (f.kind ≡ 2 → ⊥) → e' ≡ deleted_by k e → o' ≡ flushed_if_closed n e o → Adds n (cut k (front_op r f) ∷ []) e o e' o'
    part_deletes l y z w p = rw (op_delete r f y z) (adds_deletes n k e o (omega (arith, s.small)) (λ v. absurd (omega arith)) w p)

    -- where there is no place for text
    pub mark_inserts : 0 < k → f.kind ≡ 2 → length o ≤ start_of_text n → e' ≡ inserted_by (mid - f.from) k e → o' ≡ flushed_if_closed n e o → length o' ≡ length o → Adds n (cut k (front_op r f) ∷ []) e o e' o'
    mark_inserts l z m w p q = part_inserts l z w refl p (over_behind (start_of_text n + e.text) (take (mid - f.from) (drop f.from r)) o' (omega arith))

-- cut behind its last character, it is whole
pub whole_op : (r : List ℕ) (f : Front) → Stands r f → cut f.left (front_op r f) ≡ front_op r f
whole_op r f s = go (kinds r f)
  where
    go : Kinds r f → cut f.left (front_op r f) ≡ front_op r f
    go (retains e p) = rw p
    go (inserts e p) = let (w, l) = s.text e in rw p (ap insert (take_all f.left (chars (front_text r f)) (omega (arith, chars_length (front_text r f) w))))
    go (deletes d e p) = rw p

-- a text has no more characters than bytes
pub few_counted : (t : List ℕ) (num : ℕ) → T (is_well_formed t) → num ≡ number_of_chars t → length t ≤ 2 ^ 18 → num ≤ 2 ^ 18
few_counted t num well ch h = omega (arith, chars_length t well, ap length (bytes_chars t well), bytes_length (chars t))
