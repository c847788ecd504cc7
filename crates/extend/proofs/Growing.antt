-- A record's last operations, and the operation that is added to them.
use Rattle.std.specs.Prelude.{◌≡◌, ℕ, zero, suc, ◌+◌, ◌-◌, ◌^◌, ◌<◌, ◌≤◌, ◌≢◌, Bool, true, false, cond, not, T, eqb, List, [], ◌∷◌, ◌++◌, map, reverse, length}
use mathlib.Core.List.{append-nil, reverse_aux, reverse-reverse}
use lib.Dec.{eqb→eq}
use native.Mathlib.Omega.{arith}
use mathlib.Core.Path.{refl, ap₂, sym, ap, ◌∙◌}
use native.Mathlib.Nat.{add-zero, zero-add, suc-add}
use lib.ListN.{length-append}
use borrow.Author.Tests.{eq-eqb}
use Rattle.buffers.specs.InnerOver.{over}
use Rattle.buffers.proofs.Tests.{known}
use Rattle.characters.specs.Text.{Char, bytes, chars}
use Rattle.characters.specs.Form.{is_well_formed}
use Rattle.characters.specs.Chars.{number_of_chars}
use Rattle.characters.proofs.Texts.{bytes_chars, chars_length, bytes_append, bytes_length}
use Rattle.edits.specs.Op.{size, retain, insert, delete, Op, takes, gives, base, target}
use Rattle.edits.specs.Sequence.{Seq}
use Rattle.edits.specs.Build.{put, add, extend}
use Rattle.edits.proofs.Building.{Back}
use Rattle.record.specs.Record.{in_bytes, code, record_fault, inserted, text, text_of, ops}
use denote.Enum.Bare.{sameb}
use Rattle.record.specs.contracts.inner.Kind.{the_type}
use Rattle.record.specs.declared.inner.Kind.{Kind}
use Rattle.record.specs.declared.inner.Kind.TheVariants.{Retain, Insert, Delete}
use Rattle.record.specs.Kinds.{number_of}
use Rattle.record.specs.Layout.{kind_at, count_at, op_count_of, text_bytes_of, base_of, target_of, kinds_start, counts_start, start_of_text, max_size}
use Rattle.record.proofs.Sequences.{in_bytes_size}
use Rattle.record.proofs.Records.{Bytes, ops_base, ops_target}
use Rattle.record.proofs.Faults.{limits, faultless}
use Rattle.places.specs.InnerOps.{one, relocated}
use Rattle.emitter.specs.InnerEmit.{group, texts_of, laid}
use Rattle.places.proofs.Writing.{some_is}
use Rattle.emitter.proofs.Emitting.{group_text, lay_text}
use Rattle.emitter.proofs.Parts.{At, at_before, kind_last, count_last, at_the_end, text_at, text_long, kinds_at, counts_at}
use Rattle.emitter.proofs.Loops.{add_text, add_bytes, add_base, add_target}
use Rattle.emitter.proofs.Delivering.{text_ahead}
use Rattle.extend.specs.InnerExtending.{last_count, Grown}

-- ---- a last operation of a kind, taken off

abbrev ends : ℕ → Seq → ℕ
ends kind [] = 0
ends kind (o ∷ w) = cond (eqb (code (in_bytes o)) kind) (size (in_bytes o)) 0

abbrev off : ℕ → Seq → Seq
off kind [] = []
off kind (o ∷ w) = cond (eqb (code (in_bytes o)) kind) w (o ∷ w)

at_off : (r : List ℕ) (k : ℕ) (w : Seq) (kind j : ℕ) → At r k w → j + one (ends kind w) ≡ k → At r j (off kind w)
at_off r k [] kind j a e = let p : j ≡ k = omega arith in rw p a
at_off r k (o ∷ w) kind j a h = go (eqb (code (in_bytes o)) kind) h
  where
    go : (t : Bool) → j + one (cond t (size (in_bytes o)) 0) ≡ k → At r j (cond t w (o ∷ w))
    go true e =
        let s = in_bytes_size o a.links.0 in
        let p : k ≡ suc j = omega (arith, some_is (size (in_bytes o)) (λ z. omega arith)) in
        at_before r j o w (rw p at a)
    go false e = let p : j ≡ k = omega arith in rw p a

at_ends : (r : List ℕ) → record_fault r ≡ 0 → Bytes r → (k : ℕ) (w : Seq) (kind : ℕ) → At r k w → last_count r k kind ≡ ends kind w
unfolding last_count
at_ends r z b zero [] kind a = refl
at_ends r z b (suc k) [] kind a = absurd (omega (arith, a.long))
at_ends r z b zero (o ∷ w) kind a = absurd (omega (arith, a.long))
at_ends r z b (suc k) (o ∷ w) kind a = ap₂ (λ x y. cond (eqb x kind) y 0) (kind_last r z b k o w a) (count_last r z b k o w a)

-- ---- an operation added to the last ones

retain_grows : (w : Seq) (k : ℕ) → Back w → add w (retain k) ≡ group [] 0 (ends 1 w + k) (off 1 w)
unfolding add put in_bytes
retain_grows [] zero b = refl
retain_grows [] (suc k) b = rw (zero-add (suc k))
retain_grows (retain zero ∷ w) k b = absurd (omega (arith, b.0))
retain_grows (retain (suc m) ∷ w) zero b = rw (add-zero (suc m))
retain_grows (retain (suc m) ∷ w) (suc k) b = rw (suc-add m (suc k))
retain_grows (insert x ∷ w) zero b = refl
retain_grows (insert x ∷ w) (suc k) b = rw (zero-add (suc k))
retain_grows (delete d ∷ w) zero b = refl
retain_grows (delete d ∷ w) (suc k) b = rw (zero-add (suc k))

delete_grows : (w : Seq) (k : ℕ) → Back w → add w (delete k) ≡ group [] (ends 3 w + k) 0 (off 3 w)
unfolding add put in_bytes
delete_grows [] zero b = refl
delete_grows [] (suc k) b = rw (zero-add (suc k))
delete_grows (delete zero ∷ w) k b = absurd (omega (arith, b.0))
delete_grows (delete (suc m) ∷ w) zero b = rw (add-zero (suc m))
delete_grows (delete (suc m) ∷ w) (suc k) b = rw (suc-add m (suc k))
delete_grows (insert x ∷ w) zero b = refl
delete_grows (insert x ∷ w) (suc k) b = rw (zero-add (suc k))
delete_grows (retain d ∷ w) zero b = refl
delete_grows (retain d ∷ w) (suc k) b = rw (zero-add (suc k))

-- the characters of a last insert
abbrev held_by : Seq → List Char
held_by [] = []
held_by (retain n ∷ w) = []
held_by (insert x ∷ w) = x
held_by (delete n ∷ w) = []

held_bytes : (w : Seq) → length (bytes (held_by w)) ≡ ends 2 w
unfolding in_bytes bytes
held_bytes [] = refl
held_bytes (retain n ∷ w) = refl
held_bytes (insert x ∷ w) = refl
held_bytes (delete n ∷ w) = refl

insert_grows : (w : Seq) (y : List Char) → Back w → add w (insert y) ≡ group (held_by (off 3 w) ++ y) (ends 3 w) 0 (off 2 (off 3 w))
unfolding add put in_bytes
insert_grows [] [] b = refl
insert_grows [] (c ∷ y) b = refl
insert_grows (retain m ∷ w) [] b = refl
insert_grows (retain m ∷ w) (c ∷ y) b = refl
insert_grows (insert [] ∷ w) y b = absurd (omega (arith, b.0))
insert_grows (insert (a ∷ x) ∷ w) [] b = rw (append-nil x)
insert_grows (insert (a ∷ x) ∷ w) (c ∷ y) b = refl
insert_grows (delete zero ∷ w) y b = absurd (omega (arith, b.0))
insert_grows (delete (suc d) ∷ []) [] b = refl
insert_grows (delete (suc d) ∷ []) (c ∷ y) b = refl
insert_grows (delete (suc d) ∷ retain m ∷ w) [] b = refl
insert_grows (delete (suc d) ∷ retain m ∷ w) (c ∷ y) b = refl
insert_grows (delete (suc d) ∷ insert [] ∷ w) y b = absurd (omega (arith, b.2.0))
insert_grows (delete (suc d) ∷ insert (a ∷ x) ∷ w) [] b = rw (append-nil x)
insert_grows (delete (suc d) ∷ insert (a ∷ x) ∷ w) (c ∷ y) b = refl
insert_grows (delete (suc d) ∷ delete m ∷ w) y b = absurd b.1

-- ---- `ending`, `before`

-- kinds are compared as their numbers are
pub kinds_same : (a b : Kind) (v : Bool) → v ≡ not (sameb the_type a b) → v ≡ false → number_of a ≡ number_of b
kinds_same Retain Retain v p q = refl
kinds_same Retain Insert v p q = let z : false ≡ true = sym q ∙ p in cc
kinds_same Retain Delete v p q = let z : false ≡ true = sym q ∙ p in cc
kinds_same Insert Retain v p q = let z : false ≡ true = sym q ∙ p in cc
kinds_same Insert Insert v p q = refl
kinds_same Insert Delete v p q = let z : false ≡ true = sym q ∙ p in cc
kinds_same Delete Retain v p q = let z : false ≡ true = sym q ∙ p in cc
kinds_same Delete Insert v p q = let z : false ≡ true = sym q ∙ p in cc
kinds_same Delete Delete v p q = refl

pub kinds_differ : (a b : Kind) (v : Bool) → v ≡ not (sameb the_type a b) → v ≡ true → number_of a ≢ number_of b
kinds_differ Retain Retain v p q e = let z : true ≡ false = sym q ∙ p in cc
kinds_differ Retain Insert v p q e = cc
kinds_differ Retain Delete v p q e = cc
kinds_differ Insert Retain v p q e = cc
kinds_differ Insert Insert v p q e = let z : true ≡ false = sym q ∙ p in cc
kinds_differ Insert Delete v p q e = cc
kinds_differ Delete Retain v p q e = cc
kinds_differ Delete Insert v p q e = cc
kinds_differ Delete Delete v p q e = let z : true ≡ false = sym q ∙ p in cc

module _ (r : List ℕ) (k kind : ℕ) where
  pub last_none : k ≡ 0 → 0 ≡ last_count r k kind
  unfolding last_count
  last_none e = rw e

  pub last_room : (c : ℕ) → c ≡ last_count r k kind → one c ≤ k
  unfolding last_count
  last_room c e = rw e (go k)
    where
      few : (c : ℕ) → one c ≤ 1
      few zero = omega arith
      few (suc c) = omega arith

      go : (k : ℕ) → one (last_count r k kind) ≤ k
      go zero = omega arith
      go (suc k) = omega (arith, few (last_count r (suc k) kind))

  module _ (h : k ≡ 0 → ⊥) (x : ℕ) (p : x ≡ kind_at r (k - 1)) where
    last_is : last_count r k kind ≡ cond (eqb x kind) (count_at r (k - 1)) 0
    unfolding last_count
    last_is =
        let q : k ≡ suc (k - 1) = omega arith in
        ap (λ i. last_count r i kind) q ∙ ap (λ y. cond (eqb y kind) (count_at r (k - 1)) 0) (sym p)

    pub last_other : (x ≡ kind → ⊥) → 0 ≡ last_count r k kind
    last_other f = sym (last_is ∙ ap (λ t. cond t (count_at r (k - 1)) 0) (apart (eqb x kind) refl))
      where
        apart : (t : Bool) → eqb x kind ≡ t → t ≡ false
        apart true e = absurd (f (eqb→eq x kind (known e)))
        apart false e = refl

    pub last_count_is : x ≡ kind → (c : ℕ) → c ≡ count_at r (k - 1) → c ≡ last_count r k kind
    last_count_is f c e = e ∙ sym (last_is ∙ ap (λ t. cond t (count_at r (k - 1)) 0) (eq-eqb x kind f))

module _ (k c : ℕ) where
  pub before_none : c ≡ 0 → k + one c ≡ k
  before_none e = omega (arith, ap one e)

  module _ (h : c ≡ 0 → ⊥) (l : one c ≤ k) where
    pub before_room : 1 ≤ k
    before_room = omega (arith, some_is c h)

    pub before_some : k - 1 + one c ≡ k
    before_some = omega (arith, some_is c h)

-- ---- `retain_more`, `delete_more`, `insert_more`

map_reverse : {A B : Type 0} (f : A → B) (l m : List A) → map f (reverse_aux l m) ≡ reverse_aux (map f l) (map f m)
map_reverse f [] m = refl
map_reverse f (x ∷ l) m = map_reverse f l (x ∷ m)

-- its text is put in at the end
pub add_texts : (w : Seq) (p : Op Char) → texts_of (add w p) ≡ texts_of w ++ inserted (in_bytes p)
add_texts w p =
    sym (text_ahead (add w p))
    ∙ ap text (map_reverse in_bytes (add w p) [] ∙ ap reverse (add_bytes w p))
    ∙ add_text (map in_bytes w) (in_bytes p)
    ∙ ap (λ s. text s ++ inserted (in_bytes p)) (sym (map_reverse in_bytes w []))
    ∙ ap (λ t. t ++ inserted (in_bytes p)) (text_ahead w)

module _ (r : List ℕ) (b : Bytes r) (z : record_fault r ≡ 0) where
  abbrev back : Seq
  back = reverse (ops r)

  grows : (p : Op Char) (u : List ℕ) (j : ℕ) (done : Seq) (held : List Char) (ins del ret t g h : ℕ) → u ≡ inserted (in_bytes p) → j ≤ op_count_of r → At r j done
      → add back p ≡ group held del ret done → length (bytes held) ≡ ins
      → ins ≤ 2 ^ 38 → del ≤ 2 ^ 38 → ret ≤ 2 ^ 38 → t ≤ 2 ^ 38 → g ≤ 2 ^ 38 → h ≤ 2 ^ 38
      → t ≡ text_bytes_of r + length u → g ≡ base_of r + takes p → h ≡ target_of r + gives p
      → Grown r p u (record { ins = ins; del = del; ret = ret; ops = j; text = t; base = g; target = h })
  unfolding relocated laid text_of extend
  grows p u j done held ins del ret t g h up jl a is ip il dl rl tl gl hl tp gp hp =
      let l = (limits r).0 ((faultless r).0 z).in_limits in
      let e : texts_of back ++ u ≡ texts_of done ++ bytes held =
      ap (λ x. texts_of back ++ x) up ∙ sym (add_texts back p) ∙ ap texts_of is ∙ group_text held del ret done in
      let m = text_long r z in
      record {
        few = jl;
        under = omega (arith, l);
        done = done;
        held = held;
        is = is;
        ins = ip;
        count_is = a.long;
        text_is = tp;
        texts = omega (arith, m, length-append (texts_of back) u, ap length e);
        base_is = gp ∙ sym (add_base back p ∙ ap (λ s. base s + takes p) (reverse-reverse (ops r)) ∙ ap (λ k. k + takes p) (ops_base r z));
        target_is = hp ∙ sym (add_target back p ∙ ap (λ s. target s + gives p) (reverse-reverse (ops r)) ∙ ap (λ k. k + gives p) (ops_target r z));
        wrote = λ n o few.
            let s : relocated (op_count_of r) n j (text_bytes_of r) r o ≡ laid n done (texts_of back) o =
            λ i. over kinds_start (kinds_at r z b j done a i) (over (counts_start n) (counts_at r z b j done a i) (over (start_of_text n) (text_at r z i) o)) in
            ap (over (start_of_text n + text_bytes_of r) u) s
            ∙ ap (λ k. over (start_of_text n + k) u (laid n done (texts_of back) o)) (sym m)
            ∙ lay_text n done (texts_of back) o u (omega (arith, a.long))
            ∙ ap (λ x. laid n done x o) e;
      }

  module _ (k : ℕ) (kp : k ≡ op_count_of r) where
    pub retains_more : (c ret j t g h : ℕ) → c ≤ max_size → ret ≡ last_count r k 1 → ret < 65536 → j + one ret ≡ k → t ≡ text_bytes_of r → g ≡ base_of r → h ≡ target_of r
        → Grown r (retain c) [] (record { ins = 0; del = 0; ret = ret + c; ops = j; text = t; base = g + c; target = h + c })
    unfolding in_bytes bytes
    retains_more c ret j t g h cl rp rl jp tp gp hp =
        let l = (limits r).0 ((faultless r).0 z).in_limits in
        let a = at_the_end r z k kp in
        let q : ret ≡ ends 1 back = rp ∙ at_ends r z b k back 1 a in
        let a₁ : At r j (off 1 back) = at_off r k back 1 j a (ap (λ x. j + one x) (sym q) ∙ jp) in
        grows (retain c) [] j (off 1 back) [] 0 0 (ret + c) t (g + c) (h + c) refl (omega arith) a₁
        (retain_grows back c a.links ∙ ap (λ x. group [] 0 (x + c) (off 1 back)) (sym q)) refl
        (omega arith) (omega arith) (omega arith) (omega (arith, l)) (omega (arith, l)) (omega (arith, l))
        (omega arith) (omega arith) (omega arith)

    pub deletes_more : (c del j t g h : ℕ) → c ≤ max_size → del ≡ last_count r k 3 → del < 65536 → j + one del ≡ k → t ≡ text_bytes_of r → g ≡ base_of r → h ≡ target_of r
        → Grown r (delete c) [] (record { ins = 0; del = del + c; ret = 0; ops = j; text = t; base = g + c; target = h })
    unfolding in_bytes bytes
    deletes_more c del j t g h cl dp dl jp tp gp hp =
        let l = (limits r).0 ((faultless r).0 z).in_limits in
        let a = at_the_end r z k kp in
        let q : del ≡ ends 3 back = dp ∙ at_ends r z b k back 3 a in
        let a₁ : At r j (off 3 back) = at_off r k back 3 j a (ap (λ x. j + one x) (sym q) ∙ jp) in
        grows (delete c) [] j (off 3 back) [] 0 (del + c) 0 t (g + c) h refl (omega arith) a₁
        (delete_grows back c a.links ∙ ap (λ x. group [] (x + c) 0 (off 3 back)) (sym q)) refl
        (omega arith) (omega arith) (omega arith) (omega (arith, l)) (omega (arith, l)) (omega (arith, l))
        (omega arith) (omega arith) (omega arith)

    pub inserts_more : (u : List ℕ) (num del x ins j t g h : ℕ) → T (is_well_formed u) → num ≡ number_of_chars u → length u ≤ max_size
        → del ≡ last_count r k 3 → del < 65536 → x + one del ≡ k → ins ≡ last_count r x 2 → ins < 65536 → j + one ins ≡ x
        → t ≡ text_bytes_of r → g ≡ base_of r → h ≡ target_of r
        → Grown r (insert (chars u)) u (record { ins = ins + length u; del = del; ret = 0; ops = j; text = t + length u; base = g; target = h + num })
    unfolding in_bytes
    inserts_more u num del x ins j t g h well np ul dp dl xp ip il jp tp gp hp =
        let l = (limits r).0 ((faultless r).0 z).in_limits in
        let y = chars u in
        let yb : bytes y ≡ u = bytes_chars u well in
        let yl = chars_length u well in
        let a = at_the_end r z k kp in
        let q : del ≡ ends 3 back = dp ∙ at_ends r z b k back 3 a in
        let a₁ : At r x (off 3 back) = at_off r k back 3 x a (ap (λ c. x + one c) (sym q) ∙ xp) in
        let q₁ : ins ≡ ends 2 (off 3 back) = ip ∙ at_ends r z b x (off 3 back) 2 a₁ in
        let a₂ : At r j (off 2 (off 3 back)) = at_off r x (off 3 back) 2 j a₁ (ap (λ c. j + one c) (sym q₁) ∙ jp) in
        let held = held_by (off 3 back) ++ y in
        let hb : length (bytes held) ≡ ins + length u =
        ap length (bytes_append (held_by (off 3 back)) y) ∙ length-append (bytes (held_by (off 3 back))) (bytes y) ∙ ap₂ ◌+◌ (held_bytes (off 3 back) ∙ sym q₁) (ap length yb) in
        grows (insert y) u j (off 2 (off 3 back)) held (ins + length u) del 0 (t + length u) g (h + num) (sym yb) (omega arith) a₂
        (insert_grows back y a.links ∙ ap (λ d. group held d 0 (off 2 (off 3 back))) (sym q)) hb
        (omega arith) (omega arith) (omega arith) (omega (arith, l)) (omega (arith, l)) (omega (arith, l, yl, bytes_length y, ap length yb))
        (omega arith) (omega arith) (omega (arith, yl))
