-- Marks carried along a row of edits, and what an edit that is moved past a row types and keeps.
use mathlib.Core.Path.{◌≡◌, refl, sym, ◌∙◌, ap}
use mathlib.Core.Bool.{Bool, true, false}
use mathlib.Core.List.{List, [], ◌∷◌, ◌++◌, map}
use lib.ListN.{length, replicate, length-replicate, take, drop}
use Prim.Native.Nat.{ℕ, zero, suc, ◌<◌}
use native.Mathlib.Omega.{arith}
use Rattle.characters.specs.Text.{Char}
use Rattle.edits.specs.Sequence.{Seq}
use Rattle.edits.specs.Trace.{carry, Within, stays, marked, typed}
use Rattle.edits.specs.Apply.{apply}
use Rattle.edits.specs.Op.{target, base}
use Rattle.edits.proofs.Marks.{within_carry, carry_length, marked_carry, marked_typed, within_none}
use Rattle.edits.proofs.Claims.{apply_length}
use Rattle.session_log.proofs.Rows.{Row, length_after}
use Rattle.session.specs.Keeping.{carry_all, newest}
use Rattle.session.specs.Rows.{play_all, rule, rebase}
use Rattle.session.proofs.Moving.{rule_types, rule_tp1, rule_moves}

-- ---- rows

pub carry_all_append : (m : Bool) (es vs : List Seq) (ms : List Bool) → carry_all m (es ++ vs) ms ≡ carry_all m vs (carry_all m es ms)
carry_all_append m [] vs ms = refl
carry_all_append m (e ∷ es) vs ms = carry_all_append m es vs (carry m e ms)

pub within_carry_all : (es : List Seq) {ms ns : List Bool} → Within ms ns → Within (carry_all false es ms) (carry_all true es ns)
within_carry_all [] w = w
within_carry_all (e ∷ es) w = within_carry_all es (within_carry false e w)

-- no edit of the row deletes a marked character
abbrev pub LeaveAll : List Seq → List Bool → Type 0
LeaveAll [] ms = Unit {0}
LeaveAll (e ∷ es) ms = Within ms (stays e) × LeaveAll es (carry false e ms)

pub leave_more : (es : List Seq) (e : Seq) (ms : List Bool) → LeaveAll es ms → Within (carry_all false es ms) (stays e) → LeaveAll (es ++ (e ∷ [])) ms
leave_more [] e ms l w = (w, tt)
leave_more (v ∷ es) e ms l w = (l.0, leave_more es e (carry false v ms) l.1 w)

pub leave_plays : (es : List Seq) (ms : List Bool) (t : List Char) → Row (length ms) es → length t ≡ length ms → LeaveAll es ms
    → marked (carry_all false es ms) (play_all es t) ≡ marked ms t
leave_plays [] ms t r l h = refl
leave_plays (e ∷ es) ms t r l h =
    let p = carry_length false e ms (sym r.0) in
    leave_plays es (carry false e ms) (apply e t) (rw p r.1) (apply_length e t (l ∙ sym r.0) ∙ sym p) h.1 ∙ marked_carry e ms t l h.0

-- ---- what the newest revision typed

pub newest_length : (n : ℕ) (es : List Seq) → Row n es → length (newest n es) ≡ length_after n es
newest_length n [] r = length-replicate n true
newest_length n (e ∷ []) r = carry_length true e (replicate n false) (length-replicate n false ∙ sym r.0)
newest_length n (e ∷ f ∷ es) r = newest_length (target e) (f ∷ es) r.1

pub newest_typed : (n : ℕ) (es : List Seq) (e : Seq) (t : List Char) → Row n (es ++ (e ∷ [])) → length t ≡ n
    → marked (newest n (es ++ (e ∷ []))) (play_all (es ++ (e ∷ [])) t) ≡ typed e
newest_typed n [] e t r l = marked_typed e n t r.0 l
newest_typed n (v ∷ []) e t r l = newest_typed (target v) [] e (apply v t) r.1 (apply_length v t (l ∙ sym r.0))
newest_typed n (v ∷ f ∷ es) e t r l = newest_typed (target v) (f ∷ es) e (apply v t) r.1 (apply_length v t (l ∙ sym r.0))

-- an edit written before it, moved past it, keeps all of it
pub newest_kept : (n : ℕ) (es : List Seq) → Row n es → (r : ℕ) → r < length es → (ms : List Bool) → length ms ≡ length_after n (take r es)
    → Within (newest n es) (carry_all true (drop r es) ms)
newest_kept n [] w r b ms l = absurd (omega arith)
newest_kept n (e ∷ []) w zero b ms l = within_carry true e (within_none n ms l)
newest_kept n (e ∷ []) w (suc r) b ms l = absurd (omega arith)
newest_kept n (e ∷ f ∷ es) w zero b ms l =
    newest_kept (target e) (f ∷ es) w.1 zero (omega arith) (carry true e ms) (carry_length true e ms (l ∙ sym w.0))
newest_kept n (e ∷ f ∷ es) w (suc r) b ms l = newest_kept (target e) (f ∷ es) w.1 r (omega arith) ms l

-- ---- an edit moved past a row

pub rebase_types : (e : Seq) (vs : List Seq) → typed (rebase e vs).edit ≡ typed e
unfolding rebase
rebase_types e [] = refl
rebase_types e (v ∷ vs) = rebase_types (rule e v).left vs ∙ (rule_types e v).0

-- the counterparts type what their revisions type
pub counterparts_type : (e : Seq) (vs : List Seq) → map typed (rebase e vs).counterparts ≡ map typed vs
unfolding rebase
counterparts_type e [] = refl
counterparts_type e (v ∷ vs) = λ i. (rule_types e v).1 i ∷ counterparts_type (rule e v).left vs i

-- it deletes what the edit deletes and still stands there, and nothing else
pub rebase_stays : (e : Seq) (vs : List Seq) → Row (base e) vs → stays (rebase e vs).edit ≡ carry_all true vs (stays e)
unfolding rebase
rebase_stays e [] w = refl
rebase_stays e (v ∷ vs) w =
    let s = rule e v in
    let h = rule_tp1 e v (sym w.0) in
    rebase_stays s.left vs (rw h.base_left w.1) ∙ ap (carry_all true vs) (rule_moves e v (sym w.0)).left
