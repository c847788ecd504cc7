-- Steps over the fronts of two records. Only contracts of `inner` and of the crates above cite this.
use Rattle.std.specs.Prelude.{◌≡◌, ℕ, ◌+◌, ◌^◌, ◌<◌, ◌≤◌, Bool, not, ◌&&◌, ◌⊎◌, List, length, ◌==◌}
use Rattle.characters.specs.Text.{Char}
use Rattle.edits.specs.Op.{cut, Op}
use Rattle.edits.specs.Align.{Step, one, two, both, steps, each}
use Rattle.edits.specs.Align as align
use Rattle.edits.specs.Sequence.{Seq}
use Rattle.edits.specs.Build.{add_all}
use Rattle.record.specs.declared.inner.Front.{Front}
use Rattle.record.specs.InnerFront.{front_op, ahead, Stands}
use Rattle.record.specs.Layout.{op_count_of, max_ops}
use Rattle.record.specs.Record.{ops, record_fault}
use Rattle.emitter.specs.InnerEmit.{nothing, Adds, Under}
use Rattle.steps.specs.declared.inner.Turn.{Turn}
use Rattle.steps.specs.declared.inner.Turn.TheVariants.{First, Second, Together}
use Rattle.steps.specs.declared.inner.State.{State}

abbrev pub live_is : Front → Front → Bool
live_is x y = not (x.kind == 0 && y.kind == 0)

-- the step that is taken
abbrev pub step_of : List ℕ → List ℕ → Front → Front → Turn → ℕ → Step Char
step_of a b x y First k = one (front_op a x)
step_of a b x y Second k = two (front_op b y)
step_of a b x y Together k = both (cut k (front_op a x)) (cut k (front_op b y))

-- what a rule `turn` chooses: where one record has ended, the other goes by itself
abbrev pub Chosen : (Op Char → Op Char → align.Turn) → List ℕ → List ℕ → Front → Front → Turn → Type 0
Chosen turn a b x y First = (0 < x.kind) × ((y.kind ≡ 0) ⊎ (turn (front_op a x) (front_op b y) ≡ align.first))
Chosen turn a b x y Second = (0 < y.kind) × ((x.kind ≡ 0) ⊎ (turn (front_op a x) (front_op b y) ≡ align.second))
Chosen turn a b x y Together = (0 < x.kind) × ((0 < y.kind) × (turn (front_op a x) (front_op b y) ≡ align.together))

pub record Chooses (turn : Op Char → Op Char → align.Turn) (a b : List ℕ) (x y : Front) (t : Turn) : Type 0 where
  pub chosen : Chosen turn a b x y t

-- ---- what a step may take for granted

-- two records that passed the check, and their numbers of operations
pub record Operands (na nb : ℕ) (a b : List ℕ) : Type 0 where
  pub count_a : na ≡ op_count_of a
  pub few_a : na ≤ max_ops
  pub count_b : nb ≡ op_count_of b
  pub few_b : nb ≤ max_ops
  pub passed_a : record_fault a ≡ 0
  pub passed_b : record_fault b ≡ 0

-- a result with places for n operations whose sizes can grow, and two fronts that stand in their records
pub record Ready (n : ℕ) (a b : List ℕ) (s : State) : Type 0 where
  pub slots_few : n ≤ 2 ^ 40
  pub under : Under (2 ^ 38) s.e
  pub stands_x : Stands a s.x
  pub stands_y : Stands b s.y

-- ---- the steps

-- before the first step
pub record Begun (a b : List ℕ) (s : State) : Type 0 where
  pub stands_x : Stands a s.x
  pub stands_y : Stands b s.y
  pub all_x : ahead a s.x ≡ ops a
  pub all_y : ahead b s.y ≡ ops b
  pub empty : s.e ≡ nothing

-- what was built, and what the steps still to come add to it
abbrev pub remaining : (Op Char → Op Char → align.Turn) → (Step Char → Seq) → Seq → Seq → Seq → Seq
remaining turn g acc a b = add_all acc (each g (steps turn a b))

-- one step by a rule `turn`, which gives what `g` says
pub record Went (turn : Op Char → Op Char → align.Turn) (g : Step Char → Seq) (n : ℕ) (a b : List ℕ) (s : State) (o : List ℕ) (r : State) (o' : List ℕ) : Type 0 where
  pub stands_x : Stands a r.x
  pub stands_y : Stands b r.y
  pub given : Seq
  pub adds : Adds n given s.e o r.e o'
  pub few : length given ≤ 2
  pub goes : (acc : Seq) → remaining turn g acc (ahead a s.x) (ahead b s.y) ≡ remaining turn g (add_all acc given) (ahead a r.x) (ahead b r.y)
  pub less : length (ahead a r.x) + length (ahead b r.y) < length (ahead a s.x) + length (ahead b s.y)
