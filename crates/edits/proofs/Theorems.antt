-- The main promises, on sequences of characters. What the calls leave in their outputs is in operational_transform's `Results`, and that no
-- call of transform favours a side in its `Exchange`.
use mathlib.Core.List.{List, [], ◌∷◌, ◌++◌}
use mathlib.Core.Path.{◌≡◌, ap, sym, ◌∙◌}
use lib.ListN.{length}
use native.Mathlib.Omega.{arith}
use mathlib.Core.Bool.{true}
use Rattle.characters.specs.Text.{Char}
use Rattle.characters.specs.Order.{order}
use Rattle.characters.proofs.Texts.{letter_a, letter_b, a_not_b, order_equal}
use Rattle.edits.specs.Op.{Op, base, target}
use Rattle.edits.specs.Sequence.{Seq}
use Rattle.edits.specs.Build.{extend}
use Rattle.edits.specs.Apply.{apply}
use Rattle.edits.specs.Built.{Built}
use Rattle.edits.specs.Compose.{compose}
use Rattle.edits.specs.Transform.{transform, keep_both}
use Rattle.edits.specs.Trace.{stays, carry, typed}
use Rattle.edits.specs.Invert.{invert}
use Rattle.edits.proofs.Claims as claims
use Rattle.edits.proofs.Unique.{unique}
use Rattle.edits.proofs.Effects as effects
use Rattle.edits.proofs.Together as together
use Rattle.edits.proofs.Traces as traces
use Rattle.edits.proofs.Kept as kept
use Rattle.edits.proofs.Symmetry as symmetry

abbrev pub Text : Type 0
Text = List Char

-- ---- builders

-- an operation more does what it would do at the end, and a built sequence stays built
pub extend_effect : (s : Seq) (o : Op Char) (t : Text) → apply (extend s o) t ≡ apply (s ++ (o ∷ [])) t
extend_effect s o t = ap (λ m. m.text t) (claims.extend_mean s o)

pub extend_built : (s : Seq) (o : Op Char) → Built s → Built (extend s o)
extend_built = claims.extend_built

-- ---- apply

pub apply_length : (s : Seq) (t : Text) → length t ≡ base s → length (apply s t) ≡ target s
apply_length = claims.apply_length

-- ---- compose: "the built sequence whose effect is the first, then the second"
module _ (a b : Seq) (agree : target a ≡ base b) where
  pub compose_effect : (t : Text) → length t ≡ base a → apply (compose a b) t ≡ apply b (apply a t)
  compose_effect = claims.compose_apply a b agree

  pub compose_base : base (compose a b) ≡ base a
  compose_base = claims.compose_base a b agree

  pub compose_target : target (compose a b) ≡ target b
  compose_target = claims.compose_target a b agree

pub compose_built : (a b : Seq) → Built (compose a b)
compose_built = claims.compose_built

-- and it is the only one
pub compose_only : (a b c : Seq) → target a ≡ base b → Built c → base c ≡ base a
    → ((t : Text) → length t ≡ base a → apply c t ≡ apply b (apply a t)) → c ≡ compose a b
compose_only a b c e h p f =
    unique letter_a letter_b a_not_b c (compose a b) h (compose_built a b) (p ∙ sym (compose_base a b e))
    (λ t l. f t (l ∙ p) ∙ sym (compose_effect a b e t (l ∙ p)))

pub compose_assoc : (a b c : Seq) → target a ≡ base b → target b ≡ base c → compose (compose a b) c ≡ compose a (compose b c)
compose_assoc = claims.compose_assoc letter_a letter_b a_not_b

-- ---- transform

-- A' and B'
abbrev pub A' : Seq → Seq → Seq
A' a b = (transform order a b).left

abbrev pub B' : Seq → Seq → Seq
B' a b = (transform order a b).right

module _ (a b : Seq) (agree : base a ≡ base b) where
  abbrev facts : effects.Transforms a b (transform order a b)
  facts = claims.transform_tp1 order order_equal a b agree

  -- "A then B' equals B then A' on every text of base characters"
  pub tp1 : (t : Text) → length t ≡ base a → apply (B' a b) (apply a t) ≡ apply (A' a b) (apply b t)
  tp1 t l = facts.tp1 t (omega arith)

  pub base_left : base (A' a b) ≡ target b
  base_left = facts.base_left

  pub base_right : base (B' a b) ≡ target a
  base_right = facts.base_right

  pub targets_agree : target (A' a b) ≡ target (B' a b)
  targets_agree = facts.targets

  -- all that either side typed is there, in its order, and of the text just what both keep
  pub nothing_lost : (t : Text) → length t ≡ base a → together.Holds a b t (apply (B' a b) (apply a t))
  nothing_lost t l = together.transform_holds order order_equal a b t agree l

  -- of the text that B leaves, A' deletes just what A deletes: nothing that B typed, and all else that still stands there
  pub stays_left : stays (A' a b) ≡ carry true b (stays a)
  unfolding transform
  stays_left = (traces.transform_moves keep_both traces.keep_both_stays order order_equal a b agree).left

  pub stays_right : stays (B' a b) ≡ carry true a (stays b)
  unfolding transform
  stays_right = (traces.transform_moves keep_both traces.keep_both_stays order order_equal a b agree).right

pub transform_built : (a b : Seq) → Built (A' a b) × Built (B' a b)
unfolding transform
transform_built = claims.transform_built keep_both order

-- A' types what A types, and B' what B types
pub typed_left : (a b : Seq) → typed (A' a b) ≡ typed a
typed_left = kept.typed_left order order_equal

pub typed_right : (a b : Seq) → typed (B' a b) ≡ typed b
typed_right = kept.typed_right order order_equal

-- no side is favoured
pub transform_swaps : (a b : Seq) → transform order b a ≡ symmetry.swapped (transform order a b)
unfolding transform
transform_swaps = symmetry.transform_swaps order symmetry.order_flips keep_both

-- ---- invert undoes an edit on a text of base characters

pub invert_undoes : (s : Seq) (t : Text) → length t ≡ base s → apply (invert s t) (apply s t) ≡ t
invert_undoes = effects.invert_apply

pub invert_built : (s : Seq) (t : Text) → Built (invert s t)
invert_built = claims.invert_built

-- ---- built sequences of one base are told apart by what they do to texts of that length

pub same_effect : (a b : Seq) → Built a → Built b → base a ≡ base b → ((t : Text) → length t ≡ base a → apply a t ≡ apply b t) → a ≡ b
same_effect = unique letter_a letter_b a_not_b
