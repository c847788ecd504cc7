-- One undo on the log of a history: it is what the history is told, and that is an accept of the inverse.
use Prim.Native.Nat.{ℕ, zero, suc, ◌-◌, ◌≤◌, ◌<◌}
use native.Mathlib.Omega.{arith}
use mathlib.Core.Path.{◌≡◌, refl, sym, ap, ap₂, ◌∙◌}
use mathlib.Core.Bool.{Bool, true, false, ◌&&◌}
use mathlib.Core.List.{List, [], ◌∷◌, append-nil}
use lib.Dec.{T, leb, ltb, eqb, leb→le, le→leb, eqb→eq}
use lib.ListN.{length, take, drop, get_or}
use Rattle.characters.specs.Form.{is_well_formed}
use Rattle.characters.specs.Chars.{number_of_chars}
use Rattle.buffers.specs.Lists.{all_of}
use Rattle.characters.specs.Text.{chars}
use Rattle.buffers.proofs.Tests.{both, holds, equal_T}
use Rattle.answers.specs.Answer.{or_else, needs, unless_refused}
use Rattle.edits.specs.Op.{base, target}
use Rattle.edits.specs.Sequence.{Seq}
use Rattle.record.specs.Record.{encode, fits, ops, record_fault}
use Rattle.record.proofs.Sequences.{Good}
use Rattle.record.proofs.Records.{ops_encode, fault_encode}
use Rattle.answers.proofs.Refusals.{needs_out, needs_in, first_zero}
use Rattle.edits.specs.Invert.{invert}
use Rattle.edits.proofs.Claims.{invert_built, invert_base}
use Rattle.session_log.specs.Log.{encode_all, readable, revisions, max_revisions}
use Rattle.session_log.proofs.Rows.{length_after, Row}
use Rattle.session_log.proofs.Logs.{count_log, start_log, revisions_log, readable_log}
use Rattle.session.specs.Rows.{play_all, longest, Moved, rebase}
use Rattle.session.specs.Session.{joining, inverse_in, moved_inverse, undo_fault, undo_call}
use Rattle.session.specs.History.{History, log_in, earlier, edit_at, texts, inverse_of, history_undo}
use Rattle.session.proofs.Rows.{earlier_take, edit_at_is, room, texts_longest}
use Rattle.session.proofs.Accepting.{SoundIn, moved, back, through, rest, fault, history_told, buffer, size_more, show, settled}

-- ---- what the history tests before it accepts the inverse

abbrev pub early : History → ℕ → List ℕ → ℕ → ℕ → ℕ
early h k text a b =
    needs (is_well_formed text) 3
    (needs (leb 1 k && leb k (length h.edits)) 7
    (needs (eqb (number_of_chars text) h.start) 8
    (needs (all_of (room a b) (texts (earlier k h.edits) (chars text))) 10 (needs (fits (inverse_of h k text)) 9 0))))

-- the inverse, moved past the later edits
abbrev pub undone : History → ℕ → List ℕ → Moved
undone h k text = rebase (inverse_of h k text) (drop k h.edits)

abbrev pub undoes : History → ℕ → List ℕ → (a b room space : ℕ) → ℕ
undoes h k text a b room space = or_else (early h k text a b) (rest h (undone h k text) room space)

-- what is known where none of them refuses
pub record Undoes (h : History) (k : ℕ) (text : List ℕ) : Type 0 where
  pub well : T (is_well_formed text)
  pub one : 1 ≤ k
  pub rev : k ≤ length h.edits
  pub starts : number_of_chars text ≡ h.start
  pub limits : T (fits (inverse_of h k text))

pub undoes_early : (h : History) (k : ℕ) (text : List ℕ) (a b : ℕ) → early h k text a b ≡ 0 → Undoes h k text
undoes_early h k text a b z =
    let (w, z₁) = needs_out (is_well_formed text) 2 _ z in
    let (l, z₂) = needs_out (leb 1 k && leb k (length h.edits)) 6 _ z₁ in
    let (e, z₃) = needs_out (eqb (number_of_chars text) h.start) 7 _ z₂ in
    let (r, z₄) = needs_out (all_of (room a b) (texts (earlier k h.edits) (chars text))) 9 _ z₃ in
    let (f, z₅) = needs_out (fits (inverse_of h k text)) 8 _ z₄ in
    let (l₁, l₂) = (both (leb 1 k) (leb k (length h.edits))).0 l in
    record { well = w; one = leb→le 1 k l₁; rev = leb→le k _ l₂; starts = eqb→eq _ _ e; limits = f }

-- ---- the inverse

pub edit_row : (n : ℕ) (es : List Seq) → Row n es → (j : ℕ) → j < length es → base (get_or es j []) ≡ length_after n (take j es)
edit_row n [] w j l = absurd (omega arith)
edit_row n (e ∷ es) w zero l = w.0
edit_row n (e ∷ es) w (suc j) l = edit_row (target e) es w.1 j (omega arith)

pub edit_target : (n : ℕ) (es : List Seq) (j : ℕ) → j < length es → target (get_or es j []) ≡ length_after n (take (suc j) es)
edit_target n [] j l = absurd (omega arith)
edit_target n (e ∷ es) zero l = refl
edit_target n (e ∷ es) (suc j) l = edit_target (target e) es j (omega arith)

module _ (h : History) (text : List ℕ) where
  pub inverse_is : (j : ℕ) → inverse_of h (suc j) text ≡ invert (get_or h.edits j []) (play_all (take j h.edits) (chars text))
  unfolding inverse_of
  inverse_is j = ap₂ (λ e es. invert e (play_all es (chars text))) (edit_at_is j h.edits) (earlier_take j h.edits)

  pub inverse_base : (k : ℕ) → 1 ≤ k → k ≤ length h.edits → base (inverse_of h k text) ≡ length_after h.start (take k h.edits)
  inverse_base zero o l = absurd (omega arith)
  inverse_base (suc j) o l =
      ap base (inverse_is j) ∙ invert_base (get_or h.edits j []) _ ∙ edit_target h.start h.edits j (omega arith)

  pub inverse_good : (k : ℕ) → T (fits (inverse_of h k text)) → Good (inverse_of h k text)
  unfolding inverse_of
  inverse_good k f = record { is_built = invert_built (edit_at k h.edits) _; in_limits = f }

-- ---- the history's undo, over `rebase`

-- an undo's own tests come first, then the rest `x`
pub chain : (t₁ t₂ t₃ t₄ t₅ t₆ : Bool) (x : ℕ)
    → needs t₁ 3 (needs t₂ 6 (needs t₃ 7 (needs t₄ 8 (needs t₅ 10 (needs t₆ 9 x)))))
    ≡ or_else (needs t₁ 3 (needs t₂ 6 (needs t₃ 7 (needs t₄ 8 (needs t₅ 10 (needs t₆ 9 0)))))) x
chain false t₂ t₃ t₄ t₅ t₆ x = refl
chain true false t₃ t₄ t₅ t₆ x = refl
chain true true false t₄ t₅ t₆ x = refl
chain true true true false t₅ t₆ x = refl
chain true true true true false t₆ x = refl
chain true true true true true false x = refl
chain true true true true true true x = refl

-- the history's own tests, and then 9 and 10
early_then : (h : History) (k : ℕ) (text : List ℕ) (a b x : ℕ)
    → needs (is_well_formed text) 3
    (needs (leb 1 k && leb k (length h.edits)) 7
    (needs (eqb (number_of_chars text) h.start) 8
    (needs (all_of (room a b) (texts (earlier k h.edits) (chars text))) 10 (needs (fits (inverse_of h k text)) 9 x))))
    ≡ or_else (early h k text a b) x
early_then h k text a b x =
    chain (is_well_formed text) true (leb 1 k && leb k (length h.edits)) (eqb (number_of_chars text) h.start)
    (all_of (room a b) (texts (earlier k h.edits) (chars text))) (fits (inverse_of h k text)) x

pub settle_first : {A : Type 0} (f g : ℕ) (stop : ℕ → A) (x y : A) → (f ≡ 0 → y ≡ unless_refused g stop x)
    → unless_refused f stop y ≡ unless_refused (or_else f g) stop x
settle_first zero g stop x y e = e refl
settle_first (suc f) g stop x y e = refl

module _ (h : History) (k : ℕ) (text : List ℕ) where
  abbrev inverse : Seq
  inverse = inverse_of h k text

  fault_undone : Undoes h k text → (room space : ℕ) → fault h (encode inverse) k room space ≡ rest h (moved h (encode inverse) k) room space
  fault_undone u room space =
      let more = append-nil (encode inverse) in
      let z : record_fault (encode inverse) ≡ 0 = ap record_fault (sym more) ∙ fault_encode inverse [] (inverse_good h text k u.limits) in
      let o : ops (encode inverse) ≡ inverse = ap ops (sym more) ∙ ops_encode inverse [] in
      let b : base (ops (encode inverse)) ≡ length_after h.start (take k h.edits) =
      ap base o ∙ inverse_base h text k u.one u.rev in
      let r = rest h (moved h (encode inverse) k) room space in
      ap (λ f. or_else f
      (needs (leb k (length h.edits)) 7 (needs (eqb (base (ops (encode inverse))) (length_after h.start (take k h.edits))) 8 r))) z
      ∙ needs_in (leb k (length h.edits)) 7 _ (le→leb k _ u.rev)
      ∙ needs_in (eqb (base (ops (encode inverse))) (length_after h.start (take k h.edits))) 8 r (equal_T b)

  pub undo_told : (a b room space : ℕ) → history_undo h k text a b room space
      ≡ unless_refused (undoes h k text a b room space) (back h) (through h (undone h k text))
  unfolding history_undo
  undo_told a b room space =
      settle_first (early h k text a b) _ (back h) _ _
      (λ z.
      let u = undoes_early h k text a b z in
      history_told h (encode inverse) k room space
      ∙ ap (λ f. unless_refused f (back h) (through h (moved h (encode inverse) k))) (fault_undone u room space)
      ∙ ap (λ e. let m = rebase e (drop k h.edits) in unless_refused (rest h m room space) (back h) (through h m))
      (ap ops (sym (append-nil (encode inverse))) ∙ ops_encode inverse []))

-- ---- the call

joining_same : (log out : List ℕ) (f : ℕ) (m n : Moved) → (f ≡ 0 → m ≡ n) → joining f m log out ≡ joining f n log out
joining_same log out zero m n e = ap (λ x. joining 0 x log out) (e refl)
joining_same log out (suc f) m n e = refl

module _ (h : History) (s : SoundIn h) (behind text : List ℕ) where
  inverse_log : (j : ℕ) → inverse_in (buffer h behind) (suc j) text ≡ inverse_of h (suc j) text
  unfolding inverse_in
  inverse_log j =
      let p : suc j - 1 ≡ j = omega arith in
      (λ i. let es = revisions_log h.start h.edits behind i in invert (get_or es (p i) []) (play_all (take (p i) es) (chars text)))
      ∙ sym (inverse_is h text j)

  undone_log : (j : ℕ) → moved_inverse (buffer h behind) (suc j) text ≡ undone h (suc j) text
  unfolding moved_inverse
  undone_log j = λ i. rebase (inverse_log j i) (drop (suc j) (revisions_log h.start h.edits behind i))

  undone_at : (k : ℕ) → 1 ≤ k → moved_inverse (buffer h behind) k text ≡ undone h k text
  undone_at zero l = absurd (omega arith)
  undone_at (suc j) l = undone_log j

  undo_fault_is : (k a b : ℕ) (out : List ℕ) → undo_fault (buffer h behind) k text a b out
      ≡ undoes h k text a b (length (buffer h behind)) (length out)
  unfolding undo_fault
  undo_fault_is zero a b out =
      ap (λ x. needs (is_well_formed text) 3 (needs x 6 7)) (holds (readable (buffer h behind)) (readable_log h.start h.edits behind s))
      ∙ early_then h 0 text a b (rest h (undone h 0 text) (length (buffer h behind)) (length out))
  undo_fault_is (suc j) a b out =
      let log = buffer h behind in
      let n = count_log h.start h.edits behind in
      let p : suc j - 1 ≡ j = omega arith in
      let L : longest (take (suc j - 1) (revisions log)) (chars text) ≡ longest (earlier (suc j) h.edits) (chars text) =
      (λ i. longest (take (p i) (revisions_log h.start h.edits behind i)) (chars text))
      ∙ ap (λ es. longest es (chars text)) (sym (earlier_take j h.edits)) in
      let R = ap (λ x. leb x a && leb x b) L ∙ sym (texts_longest a b (earlier (suc j) h.edits) (chars text)) in
      (λ i.
      let m = undone_log j i in
      needs (is_well_formed text) 3
      (needs (holds (readable log) (readable_log h.start h.edits behind s) i) 6
      (needs (leb 1 (suc j) && leb (suc j) (n i)) 7
      (needs (eqb (number_of_chars text) (start_log h.start h.edits behind i)) 8
      (needs (R i) 10
      (needs (fits (inverse_log j i)) 9
      (needs (ltb (n i) max_revisions && m.kept) 9
      (needs (leb (size_more h behind m.edit i) (length log) && leb (length (encode_all m.counterparts)) (length out)) 10 0))))))))
      ∙ early_then h (suc j) text a b (rest h (undone h (suc j) text) (length log) (length out))

  pub undo_log : (k a b : ℕ) (out : List ℕ) → undo_call (buffer h behind) k text a b out
      ≡ show h behind out (history_undo h k text a b (length (buffer h behind)) (length out))
  unfolding undo_call
  undo_log k a b out =
      let log = buffer h behind in
      let f = undoes h k text a b (length log) (length out) in
      ap (λ x. joining x (moved_inverse log k text) log out) (undo_fault_is k a b out)
      ∙ joining_same log out f (moved_inverse log k text) (undone h k text)
      (λ z. undone_at k (undoes_early h k text a b (first_zero (early h k text a b) _ z).0).one)
      ∙ settled h behind out (undone h k text) f ∙ ap (show h behind out) (sym (undo_told h k text a b (length log) (length out)))

pub inverse_in_is : (h : History) (k : ℕ) (text : List ℕ) → SoundIn h → 1 ≤ k → inverse_in (log_in h) k text ≡ inverse_of h k text
inverse_in_is h zero text s l = absurd (omega arith)
inverse_in_is h (suc j) text s l = ap (λ b. inverse_in b (suc j) text) (sym (append-nil (log_in h))) ∙ inverse_log h s [] text j
