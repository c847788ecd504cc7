-- A step over the two fronts for both sides at once: the second's side is the first's with the two exchanged.
use Rattle.std.specs.Prelude.{◌≡◌, ℕ, ◌<◌, ◌≤◌, min, true, ◌⊎◌, List, [], ◌∷◌}
use mathlib.Core.Path.{refl, ap, ◌∙◌}
use mathlib.Core.Logic.{inl, inr}
use native.Mathlib.Nat.{min_comm}
use native.Mathlib.Omega.{arith}
use Rattle.characters.specs.Order.{order}
use Rattle.edits.specs.Align as align
use Rattle.edits.specs.Transform.{transform_turn}
use Rattle.edits.specs.Op.{cut}
use Rattle.edits.proofs.Symmetry.{other, turns_flip, order_flips}
use Rattle.record.specs.declared.inner.Front.{Front}
use Rattle.record.specs.InnerFront.{front_op, Stands, Leaves}
use Rattle.emitter.specs.declared.inner.Emitter.{Emitter}
use Rattle.emitter.specs.InnerEmit.{Adds, Retains}
use Rattle.steps.specs.declared.inner.Turn.TheVariants.{First, Second, Together}
use Rattle.steps.specs.InnerSteps.{Chooses, live_is}
use Rattle.steps.specs.InnerSides.{gives_of}
use Rattle.steps.specs.declared.inner.Both.{Both}
use Rattle.steps.specs.InnerBoth.{mine, theirs, FirstBoth, SecondBoth, Meets, TogetherBoth, WentBoth}
use Rattle.steps.specs.declared.inner.Pair.{Pair}
use Rattle.steps.specs.declared.inner.Turn.{Turn}
use Rattle.steps.proofs.Siding.{insert_both, both_insert, first_went, second_went, past_retain, past_insert, past_delete, both_went, went_first, went_second, went_together, chosen_ended}

-- whose turn it is, from the other side
module _ (a b : List ℕ) (x y : Front) where
  flips : (u v : align.Turn) → transform_turn order (front_op a x) (front_op b y) ≡ u → other u ≡ v → transform_turn order (front_op b y) (front_op a x) ≡ v
  flips u v p q = turns_flip order order_flips (front_op a x) (front_op b y) ∙ ap other p ∙ q

  first_flips : Chooses (transform_turn order) a b x y First → Chooses (transform_turn order) b a y x Second
  first_flips c = record { chosen = (c.chosen.0, go c.chosen.1) }
    where
      go : (y.kind ≡ 0) ⊎ (transform_turn order (front_op a x) (front_op b y) ≡ align.first) → (y.kind ≡ 0) ⊎ (transform_turn order (front_op b y) (front_op a x) ≡ align.second)
      go (inl e) = inl e
      go (inr p) = inr (flips align.first align.second p refl)

  second_flips : Chooses (transform_turn order) a b x y Second → Chooses (transform_turn order) b a y x First
  second_flips c = record { chosen = (c.chosen.0, go c.chosen.1) }
    where
      go : (x.kind ≡ 0) ⊎ (transform_turn order (front_op a x) (front_op b y) ≡ align.second) → (x.kind ≡ 0) ⊎ (transform_turn order (front_op b y) (front_op a x) ≡ align.first)
      go (inl e) = inl e
      go (inr p) = inr (flips align.second align.first p refl)

  together_flips : Chooses (transform_turn order) a b x y Together → Chooses (transform_turn order) b a y x Together
  together_flips c = record { chosen = (c.chosen.1.0, (c.chosen.0, flips align.together align.together c.chosen.1.1 refl)) }

  -- of two that go together both insert, or neither
  module _ (sx : Stands a x) (sy : Stands b y) (c : Chooses (transform_turn order) a b x y Together) where
    insert_too : y.kind ≡ 2 → x.kind ≡ 2
    insert_too = both_insert a b x y sx sy c (min x.left y.left) refl

    neither_inserts : (y.kind ≡ 2 → ⊥) → x.kind ≡ 2 → ⊥
    neither_inserts n e = n (insert_both a b x y sx sy c (min x.left y.left) refl e)

-- ---- the step of both

module _ (n : ℕ) (r : List ℕ) (s : Both) (o : List ℕ) (g : Front) (e f : Emitter) (k : ℕ) (o' : List ℕ) where
  pub first_both : Stands r s.x → Leaves r s.x s.x.left g → Adds n (cut s.x.left (front_op r s.x) ∷ []) s.e o e o' → k ≡ gives_of s.x → Retains k s.f f
      → FirstBoth n r s o (record { x = g; y = s.y; e = e; f = f }) o'
  first_both h l a p q = record { left = first_went n r (mine s) o g e o' h l a; right = second_went r (theirs s) g f k h l p q }

  pub second_both : Stands r s.y → Leaves r s.y s.y.left g → Adds n (cut s.y.left (front_op r s.y) ∷ []) s.f o f o' → k ≡ gives_of s.y → Retains k s.e e
      → SecondBoth n r s o (record { x = s.x; y = g; e = e; f = f }) o'
  second_both h l a p q = record { left = second_went r (mine s) g e k h l p q; right = first_went n r (theirs s) o g f o' h l a }

-- as many characters of both
module _ (m n : ℕ) (a b : List ℕ) (s : Both) (k : ℕ) (o w : List ℕ) where
  module _ (sx : Stands a s.x) (sy : Stands b s.y) (c : Chooses (transform_turn order) a b s.x s.y Together) where
    pub meets_insert : s.y.kind ≡ 2 → k ≤ s.x.left → k ≤ s.y.left → (d e : Emitter) (o' : List ℕ) → Adds m (cut k (front_op b s.y) ∷ []) s.e o d o' → Retains k d e
        → (h f : Emitter) (w' : List ℕ) → Adds n (cut k (front_op a s.x) ∷ []) s.f w h w' → Retains k h f → Meets m n a b s k o w (record { e = e; f = f }) o' w'
    meets_insert z kx ky d e o' p q h f w' u v =
        record { left = past_insert m a b s.x s.y k s.e o d e o' z sy ky p q; right = past_insert n b a s.y s.x k s.f w h f w' (insert_too a b s.x s.y sx sy c z) sx kx u v }

    pub meets_retain : s.y.kind ≡ 1 → s.x.kind ≡ 1 → (e : Emitter) (o' : List ℕ) → Adds m (cut k (front_op a s.x) ∷ []) s.e o e o' → (f : Emitter) (w' : List ℕ) → Adds n (cut k (front_op b s.y) ∷ []) s.f w f w'
        → Meets m n a b s k o w (record { e = e; f = f }) o' w'
    meets_retain z u e o' p f w' q = record { left = past_retain m a b s.x s.y k s.e o e o' z p; right = past_retain n b a s.y s.x k s.f w f w' u q }

    pub meets_first : (s.y.kind ≡ 2 → ⊥) → s.y.kind ≡ 1 → (s.x.kind ≡ 1 → ⊥) → (e : Emitter) (o' : List ℕ) → Adds m (cut k (front_op a s.x) ∷ []) s.e o e o' → Meets m n a b s k o w (record { e = e; f = s.f }) o' w
    meets_first y2 z u e o' p =
        record { left = past_retain m a b s.x s.y k s.e o e o' z p; right = past_delete n b a s.y s.x k s.f w u (neither_inserts a b s.x s.y sx sy c y2) }

    pub meets_second : (s.y.kind ≡ 2 → ⊥) → (s.y.kind ≡ 1 → ⊥) → s.x.kind ≡ 1 → (f : Emitter) (w' : List ℕ) → Adds n (cut k (front_op b s.y) ∷ []) s.f w f w' → Meets m n a b s k o w (record { e = s.e; f = f }) o w'
    meets_second y2 z u f w' q = record { left = past_delete m a b s.x s.y k s.e o z y2; right = past_retain n b a s.y s.x k s.f w f w' u q }

    pub meets_delete : (s.y.kind ≡ 2 → ⊥) → (s.y.kind ≡ 1 → ⊥) → (s.x.kind ≡ 1 → ⊥) → Meets m n a b s k o w (record { e = s.e; f = s.f }) o w
    meets_delete y2 z u =
        record { left = past_delete m a b s.x s.y k s.e o z y2; right = past_delete n b a s.y s.x k s.f w u (neither_inserts a b s.x s.y sx sy c y2) }

  pub together_both : (p : Pair) (o' w' : List ℕ) (g h : Front) → Meets m n a b s k o w p o' w' → k ≡ min s.x.left s.y.left → Leaves a s.x k g → Leaves b s.y k h
      → TogetherBoth m n a b s o w (record { x = g; y = h; e = p.e; f = p.f }) o' w'
  together_both p o' w' g h u q l r =
      record { left = both_went m a b (mine s) o k g h p.e o' q l r u.left; right = both_went n b a (theirs s) w k h g p.f w' (q ∙ min_comm s.x.left s.y.left) r l u.right }

module _ (m n : ℕ) (a b : List ℕ) (s : Both) (o w : List ℕ) (t : Turn) (c : Chooses (transform_turn order) a b s.x s.y t) (sx : Stands a s.x) (sy : Stands b s.y) (r : Both) where
  chose : (u : Turn) → t ≡ u → Chooses (transform_turn order) a b s.x s.y u
  chose u e = rw e at c

  pub turned_first : t ≡ First → (o' : List ℕ) → FirstBoth m a s o r o' → WentBoth m n a b s o w r o' w
  turned_first e o' f =
      record {
        left = went_first m a b (mine s) o t c sx sy (mine r) e o' f.left;
        right = went_second n b a (theirs s) w Second (first_flips a b s.x s.y (chose First e)) sy sx (theirs r) refl f.right;
      }

  pub turned_second : t ≡ Second → (w' : List ℕ) → SecondBoth n b s w r w' → WentBoth m n a b s o w r o w'
  turned_second e w' f =
      record {
        left = went_second m a b (mine s) o t c sx sy (mine r) e f.left;
        right = went_first n b a (theirs s) w First (second_flips a b s.x s.y (chose Second e)) sy sx (theirs r) refl w' f.right;
      }

  pub turned_together : t ≡ Together → (o' w' : List ℕ) → TogetherBoth m n a b s o w r o' w' → WentBoth m n a b s o w r o' w'
  turned_together e o' w' f =
      record {
        left = went_together m a b (mine s) o t c sx sy (mine r) e o' f.left;
        right = went_together n b a (theirs s) w Together (together_flips a b s.x s.y (chose Together e)) sy sx (theirs r) refl w' f.right;
      }

pub second_live : (a b : List ℕ) (x y : Front) (t : Turn) → t ≡ Second → Chooses (transform_turn order) a b x y t → 0 < y.kind
second_live a b x y t e c = (rw e at c).chosen.0

-- as the kinds choose it
module _ (m n : ℕ) (a b : List ℕ) (s : Both) (o w : List ℕ) (sx : Stands a s.x) (sy : Stands b s.y) (r : Both) where
  pub alone_first : (o' : List ℕ) → Chooses (transform_turn order) a b s.x s.y First → FirstBoth m a s o r o' → WentBoth m n a b s o w r o' w
  alone_first o' c f = turned_first m n a b s o w First c sx sy r refl o' f

  pub alone_second : (w' : List ℕ) → Chooses (transform_turn order) a b s.x s.y Second → SecondBoth n b s w r w' → WentBoth m n a b s o w r o w'
  alone_second w' c f = turned_second m n a b s o w Second c sx sy r refl w' f

  pub both_together : (o' w' : List ℕ) → Chooses (transform_turn order) a b s.x s.y Together → TogetherBoth m n a b s o w r o' w' → WentBoth m n a b s o w r o' w'
  both_together o' w' c f = turned_together m n a b s o w Together c sx sy r refl o' w' f

pub ended_live : (a b : List ℕ) (x y : Front) → live_is x y ≡ true → x.kind ≡ 0 → 0 < y.kind
ended_live a b x y l e = (chosen_ended a b x y l e).chosen.0

pub other_live : (x : Front) → (x.kind ≡ 0 → ⊥) → 0 < x.kind
other_live x p = omega arith
