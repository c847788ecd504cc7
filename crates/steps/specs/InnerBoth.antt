-- What the functions below `transform` and `rebase` promise each other of both sides, which one run writes: one with places for m
-- operations, the other for n. No entry's contract cites this.
use Rattle.std.specs.Prelude.{◌≡◌, ℕ, ◌^◌, ◌<◌, ◌≤◌, List, length}
use Rattle.characters.specs.Order.{order}
use Rattle.characters.specs.Text.{Char}
use Rattle.edits.specs.Op.{target, cut}
use Rattle.edits.specs.Transform.{past, keep_both, transform_turn, lefts, Sides}
use Rattle.record.specs.declared.inner.Front.{Front}
use Rattle.record.specs.Layout.{op_count_of, start_of_text}
use Rattle.record.specs.InnerFront.{front_op, Stands}
use Rattle.emitter.specs.declared.inner.Emitter.{Emitter}
use Rattle.emitter.specs.InnerEmit.{Finishes, Adds, Done, Writes, Marked, Under, Sizes}
use Rattle.steps.specs.declared.inner.Both.{Both}
use Rattle.steps.specs.declared.inner.Counts.{Counts}
use Rattle.steps.specs.declared.inner.State.{State}
use Rattle.steps.specs.InnerSteps.{Begun, Went}
use Rattle.steps.specs.InnerSides.{FirstWent, SecondWent, BothWent}
use Rattle.steps.specs.declared.inner.Pair.{Pair}

-- ---- what a step may take for granted

-- of one record, whose front goes by itself: its number of operations, places for m operations in the output, sizes that can grow, and
-- a front that stands in the record and isn't its end
pub record Fed (na m : ℕ) (a : List ℕ) (x : Front) (s : Both) (o : List ℕ) : Type 0 where
  pub count : na ≡ op_count_of a
  pub slots_few : m ≤ 2 ^ 40
  pub under_e : Under (2 ^ 38) s.e
  pub under_f : Under (2 ^ 38) s.f
  pub stands : Stands a x
  pub live : 0 < x.kind
  pub room : length o ≤ start_of_text m

-- of both records
pub record ReadyBoth (m n : ℕ) (a b : List ℕ) (s : Both) (o w : List ℕ) : Type 0 where
  pub slots_left : m ≤ 2 ^ 40
  pub slots_right : n ≤ 2 ^ 40
  pub under_e : Under (2 ^ 38) s.e
  pub under_f : Under (2 ^ 38) s.f
  pub stands_x : Stands a s.x
  pub stands_y : Stands b s.y
  pub room_left : length o ≤ start_of_text m
  pub room_right : length w ≤ start_of_text n

-- ---- past one revision

-- what was emitted of both sides is finished, and counted
pub record Ends (slots : ℕ) (b : Both) (next side : List ℕ) (c : Counts) (next' side' : List ℕ) : Type 0 where
  pub e : Emitter
  pub f : Emitter
  pub left : Finishes slots b.e next e next'
  pub right : Finishes slots b.f side f side'
  pub counts : c ≡ record { left = e.ops; right = f.ops; target = e.target }

-- the first past the second, and the second past the first
abbrev pub mine : Both → State
mine s = record { x = s.x; y = s.y; e = s.e }

abbrev pub theirs : Both → State
theirs s = record { x = s.y; y = s.x; e = s.f }

pub record BegunBoth (a b : List ℕ) (s : Both) : Type 0 where
  pub left : Begun a b (mine s)
  pub right : Begun b a (theirs s)

-- ---- a step

-- the first's operation went by itself, or the second's
pub record FirstBoth (m : ℕ) (a : List ℕ) (s : Both) (o : List ℕ) (r : Both) (o' : List ℕ) : Type 0 where
  pub left : FirstWent m a (mine s) o (mine r) o'
  pub right : SecondWent a (theirs s) (theirs r)

pub record SecondBoth (n : ℕ) (b : List ℕ) (s : Both) (w : List ℕ) (r : Both) (w' : List ℕ) : Type 0 where
  pub left : SecondWent b (mine s) (mine r)
  pub right : FirstWent n b (theirs s) w (theirs r) w'

-- what stays of k characters of both
pub record Meets (m n : ℕ) (a b : List ℕ) (s : Both) (k : ℕ) (o w : List ℕ) (p : Pair) (o' w' : List ℕ) : Type 0 where
  pub left : Adds m (past keep_both (cut k (front_op b s.y)) (cut k (front_op a s.x))) s.e o p.e o'
  pub right : Adds n (past keep_both (cut k (front_op a s.x)) (cut k (front_op b s.y))) s.f w p.f w'

pub record TogetherBoth (m n : ℕ) (a b : List ℕ) (s : Both) (o w : List ℕ) (r : Both) (o' w' : List ℕ) : Type 0 where
  pub left : BothWent m a b (mine s) o (mine r) o'
  pub right : BothWent n b a (theirs s) w (theirs r) w'

pub record WentBoth (m n : ℕ) (a b : List ℕ) (s : Both) (o w : List ℕ) (r : Both) (o' w' : List ℕ) : Type 0 where
  pub left : Went (transform_turn order) (lefts keep_both) m a b (mine s) o (mine r) o'
  pub right : Went (transform_turn order) (lefts keep_both) n b a (theirs s) w (theirs r) w'

-- ---- all

-- both sides are written but for their sizes
pub record DoneBoth (m n : ℕ) (s : Sides Char) (o w : List ℕ) (p : Pair) (o' w' : List ℕ) : Type 0 where
  pub left : Done m s.left o p.e o'
  pub right : Done n s.right w p.f w'

pub record WritesBoth (m n : ℕ) (s : Sides Char) (o w o' w' : List ℕ) : Type 0 where
  pub left : Writes m s.left o o'
  pub right : Writes n s.right w w'

-- how many operations both sides have, and the first's target
pub record Counted (s : Sides Char) (c : Counts) : Type 0 where
  pub left : c.left ≡ length s.left
  pub right : c.right ≡ length s.right
  pub target_is : c.target ≡ target s.left
  pub small : (c.left ≤ 2 ^ 40) × (c.right ≤ 2 ^ 40) × (c.target ≤ 2 ^ 40)

-- both sides were written to stages that may have no place for text, and counted
pub record MarkedBoth (slots : ℕ) (s : Sides Char) (c : Counts) (x y : List ℕ) : Type 0 where
  pub counted : Counted s c
  pub left : Marked slots s.left x
  pub right : Marked slots s.right y

-- the sizes of both
pub record SizedBoth (s : Sides Char) (p : Pair) : Type 0 where
  pub left : Sizes s.left p.e
  pub right : Sizes s.right p.f
  pub left_small : Under (2 ^ 40) p.e
  pub right_small : Under (2 ^ 40) p.f
