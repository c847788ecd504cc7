-- A step over the two fronts is a step of the definition.
use Rattle.std.specs.Prelude.{◌≡◌, ℕ, zero, suc, ◌+◌, ◌-◌, ◌<◌, ◌≤◌, min, Bool, true, false, not, ◌&&◌, eqb, leb, ◌⊎◌, List, ◌∷◌, length}
use mathlib.Core.Path.{refl, sym, ◌∙◌, ap, ap₂}
use mathlib.Core.Bool.{false≢true}
use borrow.Author.Tests.{eq-eqb, ne_eqb, eqb-true, eqb-false, leb-true, leb-false}
use native.Mathlib.Omega.{arith}
use mathlib.Core.Logic.{inl, inr}
use Rattle.characters.specs.Text.{Char}
use Rattle.edits.specs.Sequence.{Seq}
use Rattle.edits.specs.Op.{if_zero, size, rest, Op, front, cut}
use Rattle.edits.specs.Build.{add_all}
use Rattle.edits.specs.Align.{Step, one, two, both, step}
use Rattle.edits.specs.Align as align
use Rattle.record.specs.declared.inner.Front.{Front}
use Rattle.record.specs.InnerFront.{ops_left, front_op, ahead, Stands, Leaves}
use Rattle.reader.proofs.Fronts.{some_ahead, front_size, size_rest, ended_ahead}
use Rattle.emitter.proofs.Loops.{running, run_both, run_one, run_two}
use Rattle.steps.specs.InnerSteps.{live_is, step_of, Chosen}
use Rattle.steps.specs.declared.inner.Turn.{Turn}
use Rattle.steps.specs.declared.inner.Turn.TheVariants.{First, Second, Together}

-- ---- as the code finds it

module _ (x y : Front) where
  pub live_other : x.kind ≡ 0 → not (eqb y.kind 0) ≡ live_is x y
  live_other e = rw (eq-eqb x.kind 0 e)

  pub live_first : (x.kind ≡ 0 → ⊥) → true ≡ live_is x y
  live_first e = rw (ne_eqb x.kind 0 e)

  pub live_is_same : (r v : Bool) → r ≡ live_is x y → r ≡ v → live_is x y ≡ v
  live_is_same r v p q = sym p ∙ q

  pub both_ended : live_is x y ≡ false → (x.kind ≡ 0) × (y.kind ≡ 0)
  both_ended h = go (eqb x.kind 0) (eqb y.kind 0) refl refl h
    where
      go : (p q : Bool) → eqb x.kind 0 ≡ p → eqb y.kind 0 ≡ q → not (p && q) ≡ false → (x.kind ≡ 0) × (y.kind ≡ 0)
      go true true e f h = (eqb-true x.kind 0 e, eqb-true y.kind 0 f)
      go true false e f h = absurd (false≢true (sym h))
      go false q e f h = absurd (false≢true (sym h))

-- ---- fronts and what lies ahead

-- what lies behind a front's operation
abbrev behind : List ℕ → Front → Seq
behind r f = ops_left r f.next f.to

module _ (r : List ℕ) (f : Front) (s : Stands r f) where
  pub live_ahead : 0 < f.kind → ahead r f ≡ front_op r f ∷ behind r f
  live_ahead h = some_ahead r f (s.some h)

  -- a front that is used up whole leaves what lies behind it
  pub used_up : (k : ℕ) (g : Front) → k ≡ f.left → Leaves r f k g → ahead r g ≡ behind r f
  used_up k g e l =
      let z : size (rest k (front_op r f)) ≡ 0 = size_rest k (front_op r f) ∙ omega (arith, front_size r f s) in
      l.has ∙ ap (λ n. if_zero n (behind r f) (rest k (front_op r f) ∷ behind r f)) z

front_length : {C : Type 0} (o : Op C) (s : List (Op C)) → (length (front o s) ≤ suc (length s)) × (size o ≡ 0 → length (front o s) ≡ length s)
front_length o s = go (size o)
  where
    go : (n : ℕ) → (length (if_zero n s (o ∷ s)) ≤ suc (length s)) × (n ≡ 0 → length (if_zero n s (o ∷ s)) ≡ length s)
    go zero = (omega arith, λ e. refl)
    go (suc n) = (omega arith, λ e. absurd (omega arith))

-- ---- a step by a rule `turn`: what it leaves in front

pub record Moves (turn : Op Char → Op Char → align.Turn) (a b : List ℕ) (x y : Front) (t : Turn) (k : ℕ) (x' y' : Front) : Type 0 where
  pub stands_x : Stands a x'
  pub stands_y : Stands b y'
  pub goes : (g : Step Char → Seq) (acc : Seq) → running turn g acc (ahead a x) (ahead b y) ≡ running turn g (add_all acc (g (step_of a b x y t k))) (ahead a x') (ahead b y')
  pub less : length (ahead a x') + length (ahead b y') < length (ahead a x) + length (ahead b y)

module _ (turn : Op Char → Op Char → align.Turn) (a b : List ℕ) (x y : Front) (sx : Stands a x) (sy : Stands b y) (x' y' : Front) where
  pub moves_first : Chosen turn a b x y First → Leaves a x x.left x' → y' ≡ y → Moves turn a b x y First x.left x' y'
  unfolding step
  moves_first (h, c) l e =
      let u = live_ahead a x sx h in
      let v = used_up a x sx x.left x' refl l in
      record {
        stands_x = l.stands;
        stands_y = rw e sy;
        goes = λ g acc.
            let w : running turn g acc (front_op a x ∷ behind a x) (ahead b y) ≡ running turn g (add_all acc (g (one (front_op a x)))) (behind a x) (ahead b y) = goes g acc in
            ap (λ s. running turn g acc s (ahead b y)) u ∙ w ∙ ap₂ (running turn g (add_all acc (g (one (front_op a x))))) (sym v) (ap (ahead b) (sym e));
        less = omega (arith, ap length u, ap length v, ap (λ f. length (ahead b f)) e);
      }
    where
      goes : (g : Step Char → Seq) (acc : Seq) → running turn g acc (front_op a x ∷ behind a x) (ahead b y) ≡ running turn g (add_all acc (g (one (front_op a x)))) (behind a x) (ahead b y)
      goes g acc = go (eqb y.kind 0) refl c
        where
          go : (z : Bool) → eqb y.kind 0 ≡ z → ((y.kind ≡ 0) ⊎ (turn (front_op a x) (front_op b y) ≡ align.first))
              → running turn g acc (front_op a x ∷ behind a x) (ahead b y) ≡ running turn g (add_all acc (g (one (front_op a x)))) (behind a x) (ahead b y)
          go true z d = rw (ended_ahead b y sy (eqb-true y.kind 0 z)) (run_one turn g acc (front_op a x) (behind a x))
          go false z (inl d) = absurd (eqb-false y.kind 0 z d)
          go false z (inr d) =
              let ne = eqb-false y.kind 0 z in
              rw (live_ahead b y sy (omega arith))
              (run_both turn g acc (front_op a x) (front_op b y) (behind a x) (behind b y) ∙ ap (λ w. let s = step w (front_op a x) (front_op b y) (behind a x) (behind b y) in running turn g (add_all acc (g s.0)) s.1 s.2) d)

  pub moves_second : Chosen turn a b x y Second → x' ≡ x → Leaves b y y.left y' → Moves turn a b x y Second y.left x' y'
  unfolding step
  moves_second (h, c) e l =
      let u = live_ahead b y sy h in
      let v = used_up b y sy y.left y' refl l in
      record {
        stands_x = rw e sx;
        stands_y = l.stands;
        goes = λ g acc. ap (running turn g acc (ahead a x)) u ∙ goes g acc ∙ ap₂ (running turn g (add_all acc (g (two (front_op b y))))) (ap (ahead a) (sym e)) (sym v);
        less = omega (arith, ap length u, ap length v, ap (λ f. length (ahead a f)) e);
      }
    where
      goes : (g : Step Char → Seq) (acc : Seq) → running turn g acc (ahead a x) (front_op b y ∷ behind b y) ≡ running turn g (add_all acc (g (two (front_op b y)))) (ahead a x) (behind b y)
      goes g acc = go (eqb x.kind 0) refl c
        where
          go : (z : Bool) → eqb x.kind 0 ≡ z → ((x.kind ≡ 0) ⊎ (turn (front_op a x) (front_op b y) ≡ align.second))
              → running turn g acc (ahead a x) (front_op b y ∷ behind b y) ≡ running turn g (add_all acc (g (two (front_op b y)))) (ahead a x) (behind b y)
          go true z d = rw (ended_ahead a x sx (eqb-true x.kind 0 z)) (run_two turn g acc (front_op b y) (behind b y))
          go false z (inl d) = absurd (eqb-false x.kind 0 z d)
          go false z (inr d) =
              let ne = eqb-false x.kind 0 z in
              rw (live_ahead a x sx (omega arith))
              (run_both turn g acc (front_op a x) (front_op b y) (behind a x) (behind b y) ∙ ap (λ w. let s = step w (front_op a x) (front_op b y) (behind a x) (behind b y) in running turn g (add_all acc (g s.0)) s.1 s.2) d)

  pub moves_together : (k : ℕ) → Chosen turn a b x y Together → k ≡ min x.left y.left → Leaves a x k x' → Leaves b y k y' → Moves turn a b x y Together k x' y'
  unfolding step
  moves_together k (h, (i, c)) q l m =
      let o = front_op a x in
      let w = front_op b y in
      let u = live_ahead a x sx h in
      let v = live_ahead b y sy i in
      let j : min (size o) (size w) ≡ k = ap₂ min (front_size a x sx) (front_size b y sy) ∙ sym q in
      let zo : size (rest k o) ≡ x.left - k = size_rest k o ∙ ap (λ n. n - k) (front_size a x sx) in
      let zw : size (rest k w) ≡ y.left - k = size_rest k w ∙ ap (λ n. n - k) (front_size b y sy) in
      record {
        stands_x = l.stands;
        stands_y = m.stands;
        goes = λ g acc.
            ap₂ (running turn g acc) u v
            ∙ run_both turn g acc o w (behind a x) (behind b y)
            ∙ ap (λ t. let s = step t o w (behind a x) (behind b y) in running turn g (add_all acc (g s.0)) s.1 s.2) c
            ∙ ap (λ n. running turn g (add_all acc (g (both (cut n o) (cut n w)))) (front (rest n o) (behind a x)) (front (rest n w) (behind b y))) j
            ∙ ap₂ (running turn g (add_all acc (g (both (cut k o) (cut k w))))) (sym l.has) (sym m.has);
        less = go (leb x.left y.left) refl zo zw u v;
      }
    where
      go : (t : Bool) → leb x.left y.left ≡ t → size (rest k (front_op a x)) ≡ x.left - k → size (rest k (front_op b y)) ≡ y.left - k
          → ahead a x ≡ front_op a x ∷ behind a x → ahead b y ≡ front_op b y ∷ behind b y
          → length (ahead a x') + length (ahead b y') < length (ahead a x) + length (ahead b y)
      go true t zo zw u v =
          let z = (front_length (rest k (front_op a x)) (behind a x)).1 (zo ∙ omega (arith, leb-true x.left y.left t)) in
          let n = (front_length (rest k (front_op b y)) (behind b y)).0 in
          omega (arith, ap length u, ap length v, ap length l.has, ap length m.has, z, n)
      go false t zo zw u v =
          let z = (front_length (rest k (front_op b y)) (behind b y)).1 (zw ∙ omega (arith, leb-false x.left y.left t)) in
          let n = (front_length (rest k (front_op a x)) (behind a x)).0 in
          omega (arith, ap length u, ap length v, ap length l.has, ap length m.has, z, n)
