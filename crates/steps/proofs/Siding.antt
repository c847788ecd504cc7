-- The steps of transform on fronts: whose turn it is, and what the first becomes.
use Rattle.std.specs.Prelude.{◌≡◌, ℕ, ◌^◌, ◌<◌, ◌≤◌, min, Bool, true, false, cond, not, eqb, List, [], ◌∷◌, length, take}
use mathlib.Core.Path.{refl, sym, ap, ap₂, ◌∙◌}
use native.Mathlib.Omega.{arith}
use mathlib.Core.Logic.{inl, inr}
use mathlib.Core.Bool.{false≢true}
use borrow.Author.Tests.{eq-eqb, eqb-false, ne_eqb, eqb-true}
use lib.Seq.{length-take-le}
use Rattle.characters.specs.Text.{Char, chars}
use Rattle.characters.specs.Order.{order, byte_order}
use Rattle.std.specs.declared.cmp.Ordering.{Ordering}
use Rattle.std.specs.declared.cmp.Ordering.TheVariants.{Less, Equal, Greater}
use Rattle.characters.proofs.Texts.{order_chars, chars_length, order_equal}
use Rattle.characters.proofs.Leads.{within_bounds}
use Rattle.edits.specs.Op.{Op, retain, delete, gives, insert, cut}
use Rattle.edits.specs.Align as align
use Rattle.edits.specs.Transform.{transform_turn, lesser, keep_both, past, lefts}
use Rattle.edits.specs.Sequence.{Seq}
use Rattle.edits.specs.Build.{add_all}
use Rattle.record.specs.declared.inner.Front.{Front}
use Rattle.record.specs.InnerFront.{front_op, front_text, Stands, Cut, Leaves, ahead}
use Rattle.reader.proofs.Fronts.{Kinds, retains, inserts, deletes, kinds, op_insert, op_retain, op_delete, cut_all, cut_none}
use Rattle.emitter.specs.declared.inner.Emitter.{Emitter}
use Rattle.emitter.specs.InnerEmit.{Adds, Retains, Under}
use Rattle.emitter.proofs.Adding.{adds_nil, adds_append, under_more, whole_op}
use Rattle.steps.specs.declared.inner.Turn.TheVariants.{First, Second, Together}
use Rattle.steps.specs.InnerSteps.{live_is, Chooses, step_of, remaining, Went}
use Rattle.steps.specs.InnerSides.{gives_of, FirstWent, SecondWent, BothWent}
use Rattle.steps.specs.declared.inner.State.{State}
use Rattle.steps.specs.declared.inner.Turn.{Turn}
use Rattle.steps.proofs.Turning.{Moves, moves_first, moves_second, moves_together}

-- ---- whose turn it is

abbrev turn_rule : Op Char → Op Char → align.Turn
turn_rule = transform_turn order

-- no insert: a retain or a delete
data NoInsert (r : List ℕ) (f : Front) : Type 0 where
  keeps : front_op r f ≡ retain f.left → NoInsert r f
  drops : front_op r f ≡ delete f.left → NoInsert r f

no_insert : (r : List ℕ) (f : Front) → (f.kind ≡ 2 → ⊥) → NoInsert r f
no_insert r f z = go (kinds r f)
  where
    go : Kinds r f → NoInsert r f
    go (retains e p) = keeps p
    go (inserts e p) = absurd (z e)
    go (deletes d e p) = drops p

module _ (a b : List ℕ) (x y : Front) where
  pub chosen_ended : live_is x y ≡ true → x.kind ≡ 0 → Chooses (transform_turn order) a b x y Second
  chosen_ended l e = record { chosen = (go (eqb y.kind 0) refl (rw (eq-eqb x.kind 0 e) at l), inl e) }
    where
      go : (t : Bool) → eqb y.kind 0 ≡ t → not t ≡ true → 0 < y.kind
      go true p h = absurd (false≢true h)
      go false p h = let n = eqb-false y.kind 0 p in omega arith

  module _ (p : x.kind ≡ 0 → ⊥) where
    pub chosen_other : y.kind ≡ 0 → Chooses (transform_turn order) a b x y First
    chosen_other e = record { chosen = (omega arith, inl e) }

    pub chosen_both : (y.kind ≡ 0 → ⊥) → (x.kind ≡ 2 → ⊥) → (y.kind ≡ 2 → ⊥) → Chooses (transform_turn order) a b x y Together
    chosen_both q z w = record { chosen = (omega arith, (omega arith, go (no_insert a x z) (no_insert b y w))) }
      where
        go : NoInsert a x → NoInsert b y → turn_rule (front_op a x) (front_op b y) ≡ align.together
        go (keeps u) (keeps v) = ap₂ turn_rule u v
        go (keeps u) (drops v) = ap₂ turn_rule u v
        go (drops u) (keeps v) = ap₂ turn_rule u v
        go (drops u) (drops v) = ap₂ turn_rule u v

  pub chosen_first : x.kind ≡ 2 → (y.kind ≡ 2 → ⊥) → Chooses (transform_turn order) a b x y First
  chosen_first e z = record { chosen = (omega arith, inr (go (no_insert b y z))) }
    where
      go : NoInsert b y → turn_rule (front_op a x) (front_op b y) ≡ align.first
      go (keeps w) = ap₂ turn_rule (op_insert a x e) w
      go (drops w) = ap₂ turn_rule (op_insert a x e) w

  pub chosen_second : (x.kind ≡ 2 → ⊥) → y.kind ≡ 2 → Chooses (transform_turn order) a b x y Second
  chosen_second z e = record { chosen = (omega arith, inr (go (no_insert a x z))) }
    where
      go : NoInsert a x → turn_rule (front_op a x) (front_op b y) ≡ align.second
      go (keeps w) = ap₂ turn_rule w (op_insert b y e)
      go (drops w) = ap₂ turn_rule w (op_insert b y e)

  -- two inserts
  module _ (sx : Stands a x) (sy : Stands b y) (e : x.kind ≡ 2) (f : y.kind ≡ 2) (w : Ordering) (h : w ≡ byte_order (front_text a x) (front_text b y)) where
    ranked : (u : Ordering) → w ≡ u → turn_rule (front_op a x) (front_op b y) ≡ lesser u
    ranked u z = ap₂ turn_rule (op_insert a x e) (op_insert b y f) ∙ ap lesser (order_chars (front_text a x) (front_text b y) (sx.text e).0 (sy.text f).0 ∙ sym h ∙ z)

    pub chosen_less : w ≡ Less → Chooses (transform_turn order) a b x y First
    chosen_less z = record { chosen = (omega arith, inr (ranked Less z)) }

    pub chosen_equal : w ≡ Equal → Chooses (transform_turn order) a b x y Together
    chosen_equal z = record { chosen = (omega arith, (omega arith, ranked Equal z)) }

    pub chosen_greater : w ≡ Greater → Chooses (transform_turn order) a b x y Second
    chosen_greater z = record { chosen = (omega arith, inr (ranked Greater z)) }

-- ---- what a front's operation gives

pub gives_none : (f : Front) → f.kind ≡ 3 → 0 ≡ gives_of f
gives_none f e = rw (eq-eqb f.kind 3 e)

pub gives_all : (f : Front) → (f.kind ≡ 3 → ⊥) → f.left ≡ gives_of f
gives_all f e = rw (ne_eqb f.kind 3 e)

gives_is : (r : List ℕ) (f : Front) → Stands r f → gives_of f ≡ gives (front_op r f)
gives_is r f s = go (kinds r f)
  where
    not_three : {k : ℕ} → k ≡ f.kind → (k ≡ 3 → ⊥) → gives_of f ≡ f.left
    not_three p z = sym (gives_all f (λ e. z (p ∙ e)))

    go : Kinds r f → gives_of f ≡ gives (front_op r f)
    go (retains e p) = not_three refl (λ z. absurd (omega arith)) ∙ sym (ap gives p)
    go (inserts e p) = not_three refl (λ z. absurd (omega arith)) ∙ sym (ap gives p ∙ chars_length (front_text r f) (s.text e).0 ∙ sym (s.text e).1)
    go (deletes d e p) = three (eqb f.kind 3) refl ∙ sym (ap gives p)
      where
        three : (t : Bool) → eqb f.kind 3 ≡ t → cond t 0 f.left ≡ 0
        three true u = refl
        three false u = s.ended (let n = eqb-false f.kind 3 u in omega (arith, within_bounds 0 3 f.kind s.known))

-- ---- as many characters of both

module _ (n : ℕ) (mine theirs : List ℕ) (f g : Front) (k : ℕ) (e : Emitter) (o : List ℕ) where
  pub past_retain : (r : Emitter) (o' : List ℕ) → g.kind ≡ 1 → Adds n (cut k (front_op mine f) ∷ []) e o r o' → Adds n (past keep_both (cut k (front_op theirs g)) (cut k (front_op mine f))) e o r o'
  past_retain r o' z h = rw (op_retain theirs g z) h

  pub past_insert : (d r : Emitter) (o' : List ℕ) → g.kind ≡ 2 → Stands theirs g → k ≤ g.left → Adds n (cut k (front_op theirs g) ∷ []) e o d o' → Retains k d r
      → Adds n (past keep_both (cut k (front_op theirs g)) (cut k (front_op mine f))) e o r o'
  past_insert d r o' z s l h q =
      let x = chars (front_text theirs g) in
      let c : length (take k x) ≡ k = length-take-le k x (omega (arith, chars_length (front_text theirs g) (s.text z).0, (s.text z).1)) in
      let h' : Adds n (cut k (insert x) ∷ []) e o d o' = rw (op_insert theirs g z) at h in
      let w : Adds n (insert (take k x) ∷ retain (length (take k x)) ∷ []) e o r o' = rw c (adds_append n h' (q.adds n o')) in
      rw (op_insert theirs g z) w

  pub past_delete : (g.kind ≡ 1 → ⊥) → (g.kind ≡ 2 → ⊥) → Adds n (past keep_both (cut k (front_op theirs g)) (cut k (front_op mine f))) e o e o
  past_delete z w = rw (op_delete theirs g z w) (adds_nil n e o)

pub under_part : (n : ℕ) (p : Op Char) (e : Emitter) (o : List ℕ) (d : Emitter) (o' : List ℕ) → Under (2 ^ 38) e → Adds n (p ∷ []) e o d o' → Under (2 ^ 40) d
under_part n p e o d o' u h = under_more _ (2 ^ 40) d (omega arith) (h.under (2 ^ 38) u)

-- ---- a step

-- of two operations that go together no insert is cut
module _ (a b : List ℕ) (x y : Front) (sx : Stands a x) (sy : Stands b y) (c : Chooses (transform_turn order) a b x y Together) (k : ℕ) (h : k ≡ min x.left y.left) where
  goes : turn_rule (front_op a x) (front_op b y) ≡ align.together
  goes = c.chosen.1.1

  -- two inserts that go together have as many characters
  equal_left : x.kind ≡ 2 → y.kind ≡ 2 → x.left ≡ y.left
  equal_left e f =
      let s = chars (front_text a x) in
      let t = chars (front_text b y) in
      let q : s ≡ t = order_equal s t (equal (order s t) (sym (ap₂ turn_rule (op_insert a x e) (op_insert b y f)) ∙ goes)) in
      (sx.text e).1 ∙ sym (chars_length (front_text a x) (sx.text e).0) ∙ ap length q ∙ chars_length (front_text b y) (sy.text f).0 ∙ sym (sy.text f).1
    where
      equal : (u : Ordering) → lesser u ≡ align.together → u ≡ Equal
      equal Less p = absurd (let z : ◌≡◌ {A = ℕ} 0 1 = cc p in omega arith)
      equal Equal p = refl
      equal Greater p = absurd (let z : ◌≡◌ {A = ℕ} 0 1 = cc p in omega arith)

  pub insert_both : x.kind ≡ 2 → y.kind ≡ 2
  insert_both e = go (eqb y.kind 2) refl
    where
      first_not : {w : Op Char} → front_op b y ≡ w → transform_turn order (insert (chars (front_text a x))) w ≡ align.first → align.first ≡ align.together
      first_not p q = sym q ∙ sym (ap₂ turn_rule (op_insert a x e) p) ∙ goes

      go : (t : Bool) → eqb y.kind 2 ≡ t → y.kind ≡ 2
      go true t = eqb-true y.kind 2 t
      go false t = no (no_insert b y (eqb-false y.kind 2 t))
        where
          no : NoInsert b y → y.kind ≡ 2
          no (keeps w) = absurd (let z : ◌≡◌ {A = ℕ} 0 1 = cc (first_not w refl) in omega arith)
          no (drops w) = absurd (let z : ◌≡◌ {A = ℕ} 0 1 = cc (first_not w refl) in omega arith)

  pub both_insert : y.kind ≡ 2 → x.kind ≡ 2
  both_insert e = go (eqb x.kind 2) refl
    where
      second_not : {w : Op Char} → front_op a x ≡ w → transform_turn order w (insert (chars (front_text b y))) ≡ align.second → align.second ≡ align.together
      second_not p q = sym q ∙ sym (ap₂ turn_rule p (op_insert b y e)) ∙ goes

      go : (t : Bool) → eqb x.kind 2 ≡ t → x.kind ≡ 2
      go true t = eqb-true x.kind 2 t
      go false t = no (no_insert a x (eqb-false x.kind 2 t))
        where
          no : NoInsert a x → x.kind ≡ 2
          no (keeps w) = absurd (let z : ◌≡◌ {A = ℕ} 0 1 = cc (second_not w refl) in omega arith)
          no (drops w) = absurd (let z : ◌≡◌ {A = ℕ} 0 1 = cc (second_not w refl) in omega arith)

  pub uncut_x : Cut a x k x.to
  uncut_x = go (eqb x.kind 2) refl
    where
      go : (t : Bool) → eqb x.kind 2 ≡ t → Cut a x k x.to
      go true t = let e = eqb-true x.kind 2 t in cut_all a x sx k (omega (arith, equal_left e (insert_both e)))
      go false t = cut_none a x sx k (sx.none (eqb-false x.kind 2 t))

  pub uncut_y : Cut b y k y.to
  uncut_y = go (eqb y.kind 2) refl
    where
      go : (t : Bool) → eqb y.kind 2 ≡ t → Cut b y k y.to
      go true t = let e = eqb-true y.kind 2 t in cut_all b y sy k (omega (arith, equal_left (both_insert e) e))
      go false t = cut_none b y sy k (sy.none (eqb-false y.kind 2 t))

  pub both_some : 0 < k
  both_some = omega (arith, sx.some c.chosen.0, sy.some c.chosen.1.0)

-- equal inserts are used up whole
pub equal_least : (a b : List ℕ) (x y : Front) → Stands a x → Stands b y → Chooses (transform_turn order) a b x y Together → x.kind ≡ 2 → y.kind ≡ 2 → x.left ≡ min x.left y.left
equal_least a b x y sx sy c e f = omega (arith, equal_left a b x y sx sy c (min x.left y.left) refl e f)

pub whole_cut : (r : List ℕ) (f : Front) → Stands r f → Cut r f f.left f.to
whole_cut r f s = cut_all r f s f.left refl

pub first_went : (n : ℕ) (a : List ℕ) (s : State) (o : List ℕ) (g : Front) (e : Emitter) (o' : List ℕ) → Stands a s.x → Leaves a s.x s.x.left g
    → Adds n (cut s.x.left (front_op a s.x) ∷ []) s.e o e o' → FirstWent n a s o (record { x = g; y = s.y; e = e }) o'
first_went n a s o g e o' h l q = record { x = l; y = refl; adds = rw (whole_op a s.x h) at q }

pub second_went : (b : List ℕ) (s : State) (h : Front) (e : Emitter) (k : ℕ) → Stands b s.y → Leaves b s.y s.y.left h → k ≡ gives_of s.y → Retains k s.e e
    → SecondWent b s (record { x = s.x; y = h; e = e })
second_went b s h e k t l p q = record { x = refl; y = l; retains = rw (p ∙ gives_is b s.y t) at q }

pub both_went : (n : ℕ) (a b : List ℕ) (s : State) (o : List ℕ) (k : ℕ) (g h : Front) (e : Emitter) (o' : List ℕ) → k ≡ min s.x.left s.y.left → Leaves a s.x k g → Leaves b s.y k h
    → Adds n (past keep_both (cut k (front_op b s.y)) (cut k (front_op a s.x))) s.e o e o' → BothWent n a b s o (record { x = g; y = h; e = e }) o'
both_went n a b s o k g h e o' p l m q = record { k = k; lesser = p; x = l; y = m; adds = q }

past_few : (p q : Op Char) → length (past keep_both p q) ≤ 2
past_few (retain m) q = omega arith
past_few (insert s) q = omega arith
past_few (delete m) q = omega arith

module _ (n : ℕ) (a b : List ℕ) (s : State) (o : List ℕ) (t : Turn) (c : Chooses (transform_turn order) a b s.x s.y t) (sx : Stands a s.x) (sy : Stands b s.y) (r : State) where
  chosen_as : (u : Turn) → t ≡ u → Chooses (transform_turn order) a b s.x s.y u
  chosen_as u e = rw e at c

  went : (u : Turn) (k : ℕ) → Moves turn_rule a b s.x s.y u k r.x r.y → (given : Seq) → lefts keep_both (step_of a b s.x s.y u k) ≡ given → length given ≤ 2 → (o' : List ℕ)
      → Adds n given s.e o r.e o' → Went (transform_turn order) (lefts keep_both) n a b s o r o'
  went u k m given e few o' h =
      record {
        stands_x = m.stands_x;
        stands_y = m.stands_y;
        given = given;
        adds = h;
        few = few;
        goes = λ acc. m.goes (lefts keep_both) acc ∙ ap (λ w. remaining turn_rule (lefts keep_both) (add_all acc w) (ahead a r.x) (ahead b r.y)) e;
        less = m.less;
      }

  pub went_first : t ≡ First → (o' : List ℕ) → FirstWent n a s o r o' → Went (transform_turn order) (lefts keep_both) n a b s o r o'
  went_first e o' h =
      went First s.x.left (moves_first turn_rule a b s.x s.y sx sy r.x r.y (chosen_as First e).chosen h.x h.y) (front_op a s.x ∷ []) refl (omega arith) o' h.adds

  pub went_second : t ≡ Second → SecondWent b s r → Went (transform_turn order) (lefts keep_both) n a b s o r o
  went_second e h =
      went Second s.y.left (moves_second turn_rule a b s.x s.y sx sy r.x r.y (chosen_as Second e).chosen h.x h.y) (retain (gives (front_op b s.y)) ∷ []) refl (omega arith) o (h.retains.adds n o)

  pub went_together : t ≡ Together → (o' : List ℕ) → BothWent n a b s o r o' → Went (transform_turn order) (lefts keep_both) n a b s o r o'
  went_together e o' h =
      let m : Moves turn_rule a b s.x s.y Together h.k r.x r.y = moves_together turn_rule a b s.x s.y sx sy r.x r.y h.k (chosen_as Together e).chosen h.lesser h.x h.y in
      went Together h.k m (past keep_both (cut h.k (front_op b s.y)) (cut h.k (front_op a s.x))) refl (past_few (cut h.k (front_op b s.y)) (cut h.k (front_op a s.x))) o' h.adds

pub together_as : (a b : List ℕ) (x y : Front) (t : Turn) → t ≡ Together → Chooses (transform_turn order) a b x y t → Chooses (transform_turn order) a b x y Together
together_as a b x y t e c = rw e at c

pub first_live : (a b : List ℕ) (x y : Front) (t : Turn) → t ≡ First → Chooses (transform_turn order) a b x y t → 0 < x.kind
first_live a b x y t e c = (rw e at c).chosen.0

pub left_live : (r : List ℕ) (f : Front) → Stands r f → 0 < f.kind → 0 < f.left
left_live r f s h = s.some h
