-- An edit moved past a row ends in the text that the counterparts make of the edit's own.
-- No law below looks into `rule`, here or in the files after this: the first four are all that is known of it.
use mathlib.Core.Path.{◌≡◌, refl, ap, ◌∙◌, sym}
use lib.Dec.{T}
use mathlib.Core.Bool.{◌&&◌, and_assoc}
use mathlib.Core.List.{List, map, [], ◌∷◌}
use Prim.Native.Nat.{ℕ, suc}
use lib.ListN.{drop, length}
use native.Mathlib.Omega.{arith}
use Rattle.buffers.specs.Lists.{all_of}
use Rattle.buffers.proofs.Tests.{both}
use Rattle.characters.specs.Order.{order}
use Rattle.characters.specs.Text.{Char}
use Rattle.characters.proofs.Texts.{order_equal}
use Rattle.edits.specs.Op.{base}
use Rattle.edits.specs.Sequence.{Seq}
use Rattle.edits.specs.Transform.{transform}
use Rattle.edits.specs.Trace.{typed}
use Rattle.edits.specs.Apply.{apply}
use Rattle.edits.proofs.Effects.{Transforms}
use Rattle.edits.proofs.Claims.{transform_tp1, transform_built, apply_length}
use Rattle.edits.proofs.Traces.{Moves, transform_moves, keep_both_stays}
use Rattle.edits.proofs.Kept.{typed_left, typed_right}
use Rattle.record.specs.Record.{fits}
use Rattle.record.proofs.Sequences.{Good}
use Rattle.session_log.proofs.Rows.{Row, length_after, Each}
use Rattle.session.specs.Rows.{rule, tie, Moved, rebase, play_all}
use Rattle.session.specs.History.{transforms, comes_out, later}
use Rattle.session.proofs.Rows.{later_drop}

pub rule_tp1 : (a b : Seq) → base a ≡ base b → Transforms a b (rule a b)
unfolding rule transform
rule_tp1 a b e = transform_tp1 order order_equal a b e

pub rule_good : (a b : Seq) → let s = rule a b in (T (fits s.left) → Good s.left) × (T (fits s.right) → Good s.right)
unfolding rule
rule_good a b =
    let h = transform_built tie order a b in
    (λ f. record { is_built = h.0; in_limits = f }, λ f. record { is_built = h.1; in_limits = f })

-- either side keeps all that the other typed, and of the rest what it kept
pub rule_moves : (a b : Seq) → base a ≡ base b → let s = rule a b in Moves a b s.left s.right
unfolding rule
rule_moves a b e = transform_moves tie keep_both_stays order order_equal a b e

-- equal inserts are both kept: either side types what it typed
pub rule_types : (a b : Seq) → let s = rule a b in (typed s.left ≡ typed a) × (typed s.right ≡ typed b)
unfolding rule transform
rule_types a b = (typed_left order order_equal a b, typed_right order order_equal a b)

-- ---- the history's transforms

abbrev gathered : Seq → List Seq → Moved
gathered e vs =
    let ts = transforms e vs in
    record { edit = comes_out e ts; counterparts = map (λ s. s.right) ts; kept = all_of (λ s. fits s.left && fits s.right) ts }

transforms_gathered : (e : Seq) (vs : List Seq) → gathered e vs ≡ rebase e vs
unfolding rebase
transforms_gathered e [] = refl
transforms_gathered e (v ∷ vs) =
    let s = rule e v in
    let p = transforms_gathered s.left vs in
    λ i. record {
      edit = (p i).edit;
      counterparts = s.right ∷ (p i).counterparts;
      kept = (and_assoc (fits s.left) (fits s.right) (gathered s.left vs).kept ∙ ap (λ m. fits s.left && (fits s.right && m.kept)) p) i;
    }

pub later_gathered : (e : Seq) (r : ℕ) (es : List Seq) → gathered e (later r es) ≡ rebase e (drop r es)
later_gathered e r es = transforms_gathered e (later r es) ∙ ap (rebase e) (later_drop r es)

-- ---- moving past a row

pub rebase_plays : (e : Seq) (vs : List Seq) (t : List Char) → length t ≡ base e → Row (base e) vs
    → play_all (rebase e vs).counterparts (apply e t) ≡ apply (rebase e vs).edit (play_all vs t)
unfolding rebase
rebase_plays e [] t l w = refl
rebase_plays e (v ∷ vs) t l w =
    let s = rule e v in
    let h = rule_tp1 e v (sym w.0) in
    ap (play_all (rebase s.left vs).counterparts) (h.tp1 t (omega arith))
    ∙ rebase_plays s.left vs (apply v t) (apply_length v t (l ∙ sym w.0) ∙ sym h.base_left) (rw h.base_left w.1)

pub rebase_base : (e : Seq) (vs : List Seq) → Row (base e) vs → base (rebase e vs).edit ≡ length_after (base e) vs
unfolding rebase
rebase_base e [] w = refl
rebase_base e (v ∷ vs) w =
    let s = rule e v in
    let h = rule_tp1 e v (sym w.0) in
    rebase_base s.left vs (rw h.base_left w.1) ∙ ap (λ n. length_after n vs) h.base_left

pub rebase_length : (e : Seq) (vs : List Seq) → length (rebase e vs).counterparts ≡ length vs
unfolding rebase
rebase_length e [] = refl
rebase_length e (v ∷ vs) = ap suc (rebase_length (rule e v).left vs)

pub rebase_good : (e : Seq) (vs : List Seq) → Good e → T (rebase e vs).kept → Good (rebase e vs).edit × Each Good (rebase e vs).counterparts
unfolding rebase
rebase_good e [] g k = (g, tt)
rebase_good e (v ∷ vs) g k =
    let s = rule e v in
    let m = rebase s.left vs in
    let (fl, k₁) = (both (fits s.left) (fits s.right && m.kept)).0 k in
    let (fr, k₂) = (both (fits s.right) m.kept).0 k₁ in
    let r = rebase_good s.left vs ((rule_good e v).0 fl) k₂ in
    (r.0, ((rule_good e v).1 fr, r.1))
