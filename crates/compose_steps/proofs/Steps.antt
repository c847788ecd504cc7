-- The steps of compose on fronts: whose turn it is, and what is given.
use Rattle.std.specs.Prelude.{◌≡◌, ℕ, ◌<◌, ◌≤◌, min, Bool, true, false, eqb, ◌⊎◌, List, [], ◌∷◌, length}
use native.Mathlib.Omega.{arith}
use mathlib.Core.Path.{refl, ap, ap₂, sym, ◌∙◌}
use mathlib.Core.Logic.{inl, inr}
use mathlib.Core.Bool.{false≢true}
use borrow.Author.Tests.{eqb-true, eqb-false, eq-eqb}
use Rattle.characters.specs.Text.{chars, Char}
use Rattle.characters.proofs.Leads.{within_bounds}
use Rattle.edits.specs.Align as align
use Rattle.edits.specs.Compose.{compose_turn, made}
use Rattle.edits.specs.Op.{insert, cut, retain, delete}
use Rattle.edits.specs.Align.{Step, one, two, both}
use Rattle.record.specs.declared.inner.Front.{Front}
use Rattle.record.specs.InnerFront.{Stands, front_op, front_text, Cut, Leaves}
use Rattle.reader.proofs.Fronts.{op_retain, op_insert, op_delete, cut_all, cut_none}
use Rattle.emitter.specs.declared.inner.Emitter.{Emitter}
use Rattle.emitter.specs.InnerEmit.{Adds}
use Rattle.emitter.proofs.Adding.{adds_nil, whole_op}
use Rattle.steps.specs.declared.inner.Turn.TheVariants.{First, Second, Together}
use Rattle.steps.specs.InnerSteps.{live_is, Chooses, step_of, Went}
use Rattle.steps.specs.declared.inner.Turn.{Turn}
use Rattle.steps.specs.declared.inner.State.{State}
use Rattle.steps.proofs.Turning.{Moves, moves_first, moves_second, moves_together}

one_or_two : (r : List ℕ) (f : Front) → Stands r f → (f.kind ≡ 0 → ⊥) → (f.kind ≡ 3 → ⊥) → (f.kind ≡ 1) ⊎ (f.kind ≡ 2)
one_or_two r f s p q = go (eqb f.kind 1) refl
  where
    go : (t : Bool) → eqb f.kind 1 ≡ t → (f.kind ≡ 1) ⊎ (f.kind ≡ 2)
    go true e = inl (eqb-true f.kind 1 e)
    go false e = let n = eqb-false f.kind 1 e in inr (omega (arith, within_bounds 0 3 f.kind s.known))

-- ---- whose turn it is

module _ (a b : List ℕ) (x y : Front) where
  pub choose_delete : x.kind ≡ 3 → Chooses compose_turn a b x y First
  choose_delete e =
      record { chosen = (omega arith, inr (ap (λ o. compose_turn o (front_op b y)) (op_delete a x (λ z. absurd (omega arith)) (λ z. absurd (omega arith))))) }

  pub choose_insert : Stands a x → (x.kind ≡ 3 → ⊥) → y.kind ≡ 2 → Chooses compose_turn a b x y Second
  choose_insert s r e = record { chosen = (omega arith, go (eqb x.kind 0) refl) }
    where
      second : (x.kind ≡ 1) ⊎ (x.kind ≡ 2) → compose_turn (front_op a x) (front_op b y) ≡ align.second
      second (inl z) = ap₂ compose_turn (op_retain a x z) (op_insert b y e)
      second (inr z) = ap₂ compose_turn (op_insert a x z) (op_insert b y e)

      go : (t : Bool) → eqb x.kind 0 ≡ t → (x.kind ≡ 0) ⊎ (compose_turn (front_op a x) (front_op b y) ≡ align.second)
      go true t = inl (eqb-true x.kind 0 t)
      go false t = inr (second (one_or_two a x s (eqb-false x.kind 0 t) r))

  pub choose_second : live_is x y ≡ true → x.kind ≡ 0 → Chooses compose_turn a b x y Second
  choose_second l e = record { chosen = (go (eqb y.kind 0) refl, inl e) }
    where
      go : (t : Bool) → eqb y.kind 0 ≡ t → 0 < y.kind
      go true t = absurd (false≢true (rw (eq-eqb x.kind 0 e, t) at l))
      go false t = let n = eqb-false y.kind 0 t in omega arith

  module _ (p : x.kind ≡ 0 → ⊥) where
    pub choose_first : y.kind ≡ 0 → Chooses compose_turn a b x y First
    choose_first e = record { chosen = (omega arith, inl e) }

    pub choose_both : Stands a x → (x.kind ≡ 3 → ⊥) → (y.kind ≡ 2 → ⊥) → (y.kind ≡ 0 → ⊥) → Chooses compose_turn a b x y Together
    choose_both s r u q = record { chosen = (omega arith, (omega arith, together (one_or_two a x s p r) (eqb y.kind 1) refl)) }
      where
        together : (x.kind ≡ 1) ⊎ (x.kind ≡ 2) → (t : Bool) → eqb y.kind 1 ≡ t → compose_turn (front_op a x) (front_op b y) ≡ align.together
        together (inl z) true t = ap₂ compose_turn (op_retain a x z) (op_retain b y (eqb-true y.kind 1 t))
        together (inl z) false t = ap₂ compose_turn (op_retain a x z) (op_delete b y (eqb-false y.kind 1 t) u)
        together (inr z) true t = ap₂ compose_turn (op_insert a x z) (op_retain b y (eqb-true y.kind 1 t))
        together (inr z) false t = ap₂ compose_turn (op_insert a x z) (op_delete b y (eqb-false y.kind 1 t) u)

pub ruleset Choose = (choose_delete, choose_insert, choose_second, choose_first, choose_both)

-- ---- what is given

first_not_together : align.first ≡ align.together → ⊥
first_not_together e = let z : ◌≡◌ {A = ℕ} 0 1 = cc e in omega arith

second_not_together : align.second ≡ align.together → ⊥
second_not_together e = let z : ◌≡◌ {A = ℕ} 0 1 = cc e in omega arith

module _ (a b : List ℕ) (x y : Front) (c : Chooses compose_turn a b x y Together) where
  turn_is : compose_turn (front_op a x) (front_op b y) ≡ align.together
  turn_is = c.chosen.1.1

  first_inserts : (x.kind ≡ 1 → ⊥) → x.kind ≡ 2
  first_inserts z = go (eqb x.kind 2) refl
    where
      go : (t : Bool) → eqb x.kind 2 ≡ t → x.kind ≡ 2
      go true e = eqb-true x.kind 2 e
      go false e = absurd (first_not_together (sym (ap (λ o. compose_turn o (front_op b y)) (op_delete a x z (eqb-false x.kind 2 e))) ∙ turn_is))

  pub first_retains : (x.kind ≡ 2 → ⊥) → x.kind ≡ 1
  first_retains z = go (eqb x.kind 1) refl
    where
      go : (t : Bool) → eqb x.kind 1 ≡ t → x.kind ≡ 1
      go true e = eqb-true x.kind 1 e
      go false e = absurd (z (first_inserts (eqb-false x.kind 1 e)))

  -- what goes together with the first's is no insert
  second_keeps : y.kind ≡ 2 → ⊥
  second_keeps e = go (eqb x.kind 1) refl
    where
      go : (t : Bool) → eqb x.kind 1 ≡ t → ⊥
      go true t = second_not_together (sym (ap₂ compose_turn (op_retain a x (eqb-true x.kind 1 t)) (op_insert b y e)) ∙ turn_is)
      go false t = second_not_together (sym (ap₂ compose_turn (op_insert a x (first_inserts (eqb-false x.kind 1 t))) (op_insert b y e)) ∙ turn_is)

  pub second_deletes : Stands b y → (y.kind ≡ 1 → ⊥) → y.kind ≡ 3
  second_deletes s z = let n = second_keeps in omega (arith, within_bounds 0 3 y.kind s.known, c.chosen.1.0)

module _ (n : ℕ) (a b : List ℕ) (x y : Front) (k : ℕ) (e : Emitter) (o : List ℕ) where
  pub meet_retain : (r : Emitter) (o' : List ℕ) → x.kind ≡ 1 → Adds n (cut k (front_op b y) ∷ []) e o r o' → Adds n (made (step_of a b x y Together k)) e o r o'
  meet_retain r o' z h = rw (op_retain a x z) h

  pub meet_insert : (r : Emitter) (o' : List ℕ) → Chooses compose_turn a b x y Together → (x.kind ≡ 1 → ⊥) → y.kind ≡ 1
      → Adds n (cut k (front_op a x) ∷ []) e o r o' → Adds n (made (step_of a b x y Together k)) e o r o'
  meet_insert r o' c z w h =
      let i = op_insert a x (first_inserts a b x y c z) in
      let p : Adds n (cut k (insert (chars (front_text a x))) ∷ []) e o r o' = rw i at h in
      rw (i, op_retain b y w) p

  pub meet_nothing : Chooses compose_turn a b x y Together → (x.kind ≡ 1 → ⊥) → (y.kind ≡ 1 → ⊥) → Adds n (made (step_of a b x y Together k)) e o e o
  meet_nothing c z w = rw (op_insert a x (first_inserts a b x y c z), op_delete b y w (second_keeps a b x y c)) (adds_nil n e o)

made_few : (w : Step Char) → length (made w) ≤ 2
made_few (one o) = omega arith
made_few (two p) = omega arith
made_few (both (retain n) p) = omega arith
made_few (both (insert s) (retain m)) = omega arith
made_few (both (insert s) (insert t)) = omega arith
made_few (both (insert s) (delete m)) = omega arith
made_few (both (delete n) p) = omega arith

-- ---- where a front is cut, and that the step uses some characters

pub whole_cut : (r : List ℕ) (f : Front) → Stands r f → Cut r f f.left f.to
whole_cut r f s = cut_all r f s f.left refl

pub retain_cut : (r : List ℕ) (f : Front) (k : ℕ) → Stands r f → f.kind ≡ 1 → Cut r f k f.to
retain_cut r f k s e = cut_none r f s k (s.none (λ z. absurd (omega arith)))

module _ (a b : List ℕ) (x y : Front) where
  pub second_cut : (k : ℕ) → Chooses compose_turn a b x y Together → Stands b y → Cut b y k y.to
  second_cut k c s = cut_none b y s k (s.none (second_keeps a b x y c))

  pub first_some : Chooses compose_turn a b x y First → Stands a x → 0 < x.left
  first_some c s = s.some c.chosen.0

  pub second_some : Chooses compose_turn a b x y Second → Stands b y → 0 < y.left
  second_some c s = s.some c.chosen.0

  pub both_first : Chooses compose_turn a b x y Together → Stands a x → 0 < x.left
  both_first c s = s.some c.chosen.0

  pub both_second : Chooses compose_turn a b x y Together → Stands b y → 0 < y.left
  both_second c s = s.some c.chosen.1.0

  pub both_some : (k : ℕ) → Chooses compose_turn a b x y Together → Stands a x → Stands b y → k ≡ min x.left y.left → 0 < k
  both_some k c s t e = omega (arith, both_first c s, both_second c t)

pub ruleset Cuts = (whole_cut, retain_cut, second_cut, first_some, second_some, both_some)

-- ---- the step

module _ (n : ℕ) (a b : List ℕ) (s : State) (o : List ℕ) (f : Emitter) (o' : List ℕ) (sx : Stands a s.x) (sy : Stands b s.y) where
  went : (t : Turn) (k : ℕ) (g h : Front) → Moves compose_turn a b s.x s.y t k g h → Adds n (made (step_of a b s.x s.y t k)) s.e o f o'
      → Went compose_turn made n a b s o (record { x = g; y = h; e = f }) o'
  went t k g h m u =
      record {
        stands_x = m.stands_x;
        stands_y = m.stands_y;
        given = made (step_of a b s.x s.y t k);
        adds = u;
        few = made_few (step_of a b s.x s.y t k);
        goes = λ acc. m.goes made acc;
        less = m.less;
      }

  pub went_first : (g : Front) → Chooses compose_turn a b s.x s.y First → Adds n (cut s.x.left (front_op a s.x) ∷ []) s.e o f o' → Leaves a s.x s.x.left g
      → Went compose_turn made n a b s o (record { x = g; y = s.y; e = f }) o'
  went_first g c u l =
      went First s.x.left g s.y (moves_first compose_turn a b s.x s.y sx sy g s.y c.chosen l refl) (rw (whole_op a s.x sx) at u)

  pub went_second : (h : Front) → Chooses compose_turn a b s.x s.y Second → Adds n (cut s.y.left (front_op b s.y) ∷ []) s.e o f o' → Leaves b s.y s.y.left h
      → Went compose_turn made n a b s o (record { x = s.x; y = h; e = f }) o'
  went_second h c u l =
      went Second s.y.left s.x h (moves_second compose_turn a b s.x s.y sx sy s.x h c.chosen refl l) (rw (whole_op b s.y sy) at u)

  module _ (g h : Front) (c : Chooses compose_turn a b s.x s.y Together) where
    went_both : (k : ℕ) → k ≡ min s.x.left s.y.left → Leaves a s.x k g → Leaves b s.y k h → Adds n (made (step_of a b s.x s.y Together k)) s.e o f o'
        → Went compose_turn made n a b s o (record { x = g; y = h; e = f }) o'
    went_both k e l m u = went Together k g h (moves_together compose_turn a b s.x s.y sx sy g h k c.chosen e l m) u

    module _ (k : ℕ) (e : k ≡ min s.x.left s.y.left) where
      -- what the first retains
      pub went_retained : s.x.kind ≡ 1 → Adds n (cut k (front_op b s.y) ∷ []) s.e o f o' → Leaves a s.x k g → Leaves b s.y k h
          → Went compose_turn made n a b s o (record { x = g; y = h; e = f }) o'
      went_retained z u l m = went_both k e l m (meet_retain n a b s.x s.y k s.e o f o' z u)

      -- what it inserts, and the second retains
      pub went_inserted : s.x.kind ≡ 2 → s.y.kind ≡ 1 → Adds n (cut k (front_op a s.x) ∷ []) s.e o f o' → Leaves a s.x k g → Leaves b s.y k h
          → Went compose_turn made n a b s o (record { x = g; y = h; e = f }) o'
      went_inserted z v u l m = went_both k e l m (meet_insert n a b s.x s.y k s.e o f o' c (λ q. absurd (omega arith)) v u)

-- what it inserts, and the second deletes
pub went_dropped : (n : ℕ) (a b : List ℕ) (s : State) (o : List ℕ) → Stands a s.x → Stands b s.y → (g h : Front) → Chooses compose_turn a b s.x s.y Together
    → (k : ℕ) → k ≡ min s.x.left s.y.left → s.x.kind ≡ 2 → s.y.kind ≡ 3 → Leaves a s.x k g → Leaves b s.y k h
    → Went compose_turn made n a b s o (record { x = g; y = h; e = s.e }) o
went_dropped n a b s o sx sy g h c k e z v l m =
    went_both n a b s o s.e o sx sy g h c k e l m (meet_nothing n a b s.x s.y k s.e o c (λ q. absurd (omega arith)) (λ q. absurd (omega arith)))
