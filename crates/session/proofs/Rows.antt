-- Rows of edits, played and summed up: playing a summary plays the row.
use Prim.Native.Nat.{ℕ, zero, suc, ◌≤◌, max}
use mathlib.Core.Path.{◌≡◌, refl, sym, ◌∙◌, ap}
use mathlib.Core.List.{List, [], ◌∷◌, ◌++◌, append-nil}
use lib.ListN.{drop, take, length, get_or}
use native.Mathlib.Nat.{add-zero}
use native.Mathlib.Omega.{arith}
use lib.Seq.{take_all}
use mathlib.Core.Bool.{◌&&◌, and-true, Bool, true, false}
use Rattle.buffers.specs.Lists.{all_of}
use Rattle.characters.specs.Text.{Char, bytes}
use Rattle.characters.proofs.Texts.{letter_a, letter_b, a_not_b}
use Rattle.edits.specs.Sequence.{Seq}
use Rattle.edits.specs.Op.{target, retain, base}
use Rattle.edits.specs.Apply.{apply}
use Rattle.edits.specs.Compose.{compose}
use Rattle.edits.specs.Built.{Built}
use Rattle.edits.proofs.Claims.{apply_length, build_base, build_target, build_apply, compose_base, compose_target, compose_built, compose_apply}
use Rattle.edits.proofs.Building.{build_built}
use Rattle.edits.proofs.Unique.{unique}
use Rattle.record.specs.Record.{fits}
use Rattle.session_log.proofs.Rows.{length_after, Row}
use Rattle.session.specs.History.{later, target_after, partials, final, earlier, edit_at, texts}
use Rattle.session.specs.Rows.{play_all, retain_whole, compose_all, composes_within, longest}
use lib.Dec.{T, leb, leb→le, le→leb}
use Rattle.buffers.proofs.Tests.{both}

-- ---- the history's words for parts of a row

pub later_drop : (r : ℕ) (es : List Seq) → later r es ≡ drop r es
later_drop zero es = refl
later_drop (suc r) [] = refl
later_drop (suc r) (e ∷ es) = later_drop r es

pub target_after_is : (n : ℕ) (es : List Seq) (r : ℕ) → target_after n es r ≡ length_after n (take r es)
target_after_is n es zero = refl
target_after_is n [] (suc r) = refl
target_after_is n (e ∷ es) (suc r) = target_after_is (target e) es r

pub earlier_take : (k : ℕ) (es : List Seq) → earlier (suc k) es ≡ take k es
earlier_take zero es = refl
earlier_take (suc k) [] = refl
earlier_take (suc k) (e ∷ es) = ap (λ l. e ∷ l) (earlier_take k es)

pub edit_at_is : (k : ℕ) (es : List Seq) → edit_at (suc k) es ≡ get_or es k []
edit_at_is k [] = refl
edit_at_is zero (e ∷ es) = refl
edit_at_is (suc k) (e ∷ es) = edit_at_is k es

-- a scratch holds all texts on the way, or is as long as the longest
same_tests : (a b : Bool) → (T a → T b) → (T b → T a) → a ≡ b
same_tests true true f g = refl
same_tests true false f g = absurd (f tt)
same_tests false true f g = absurd (g tt)
same_tests false false f g = refl

module _ (a b : ℕ) where
  abbrev pub room : List Char → Bool
  room t = leb (length (bytes t)) a && leb (length (bytes t)) b

  pub texts_longest : (es : List Seq) (t : List Char) → all_of room (texts es t) ≡ (leb (longest es t) a && leb (longest es t) b)
  texts_longest [] t = and-true (room t)
  texts_longest (e ∷ es) t =
      let n = length (bytes t) in
      let m = longest es (apply e t) in
      ap (λ x. room t && x) (texts_longest es (apply e t))
      ∙ same_tests _ _
      (λ h.
      let (p, q) = (both (room t) (leb m a && leb m b)).0 h in
      let (p₁, p₂) = (both (leb n a) (leb n b)).0 p in
      let (q₁, q₂) = (both (leb m a) (leb m b)).0 q in
      let x₁ : n ≤ a = leb→le n a p₁ in
      let x₂ : n ≤ b = leb→le n b p₂ in
      let y₁ : m ≤ a = leb→le m a q₁ in
      let y₂ : m ≤ b = leb→le m b q₂ in
      (both (leb (max n m) a) (leb (max n m) b)).1 (le→leb (max n m) a (omega arith), le→leb (max n m) b (omega arith)))
      (λ h.
      let (p, q) = (both (leb (max n m) a) (leb (max n m) b)).0 h in
      let x : max n m ≤ a = leb→le (max n m) a p in
      let y : max n m ≤ b = leb→le (max n m) b q in
      (both (room t) (leb m a && leb m b)).1 (
        (both (leb n a) (leb n b)).1 (le→leb n a (omega arith), le→leb n b (omega arith)),
        (both (leb m a) (leb m b)).1 (le→leb m a (omega arith), le→leb m b (omega arith)),
      ))

-- ---- playing

pub play_all_append : (es vs : List Seq) (t : List Char) → play_all (es ++ vs) t ≡ play_all vs (play_all es t)
play_all_append [] vs t = refl
play_all_append (e ∷ es) vs t = play_all_append es vs (apply e t)

pub play_all_length : (n : ℕ) (es : List Seq) (t : List Char) → Row n es → length t ≡ n → length (play_all es t) ≡ length_after n es
play_all_length n [] t r l = l
play_all_length n (e ∷ es) t r l = play_all_length (target e) es (apply e t) r.1 (apply_length e t (l ∙ sym r.0))

-- ---- summing up

pub still_base : (n : ℕ) → base (retain_whole n) ≡ n
unfolding retain_whole
still_base n = build_base (retain n ∷ []) ∙ add-zero n

pub still_target : (n : ℕ) → target (retain_whole n) ≡ n
unfolding retain_whole
still_target n = build_target (retain n ∷ []) ∙ add-zero n

pub still_apply : (n : ℕ) (t : List Char) → length t ≡ n → apply (retain_whole n) t ≡ t
unfolding retain_whole
still_apply n t l = build_apply (retain n ∷ []) t ∙ append-nil (take n t) ∙ take_all n t (omega arith)

-- the history's partial results
pub partials_final : (s p : Seq) (es : List Seq) → final p (partials s es) ≡ compose_all s es
partials_final s p [] = refl
partials_final s p (e ∷ es) = partials_final (compose s e) s es

pub partials_fit : (s : Seq) (es : List Seq) → all_of fits (partials s es) ≡ composes_within s es
partials_fit s [] = and-true (fits s)
partials_fit s (e ∷ es) = ap (λ b. fits s && b) (partials_fit (compose s e) es)

compose_all_base : (s : Seq) (es : List Seq) → Row (target s) es → base (compose_all s es) ≡ base s
compose_all_base s [] w = refl
compose_all_base s (e ∷ es) w =
    let q = sym w.0 in compose_all_base (compose s e) es (rw (compose_target s e q) w.1) ∙ compose_base s e q

compose_all_built : (s : Seq) (es : List Seq) → Built s → Built (compose_all s es)
compose_all_built s [] h = h
compose_all_built s (e ∷ es) h = compose_all_built (compose s e) es (compose_built s e)

compose_all_apply : (s : Seq) (es : List Seq) (t : List Char) → length t ≡ base s → Row (target s) es
    → apply (compose_all s es) t ≡ play_all es (apply s t)
compose_all_apply s [] t l w = refl
compose_all_apply s (e ∷ es) t l w =
    let q = sym w.0 in
    compose_all_apply (compose s e) es t (l ∙ sym (compose_base s e q)) (rw (compose_target s e q) w.1)
    ∙ ap (play_all es) (compose_apply s e q t l)

unfoldable pub summary : ℕ → List Seq → Seq
unfolding retain_whole
summary n es = compose_all (retain_whole n) es

pub summary_built : (n : ℕ) (es : List Seq) → Built (summary n es)
unfolding summary retain_whole
summary_built n es = compose_all_built (retain_whole n) es (build_built (retain n ∷ []))

module _ (n : ℕ) (es : List Seq) (w : Row n es) where
  pub summary_base : base (summary n es) ≡ n
  unfolding summary
  summary_base = compose_all_base (retain_whole n) es (rw (still_target n) w) ∙ still_base n

  pub summary_plays : (t : List Char) → length t ≡ n → apply (summary n es) t ≡ play_all es t
  unfolding summary
  summary_plays t l =
      compose_all_apply (retain_whole n) es t (l ∙ sym (still_base n)) (rw (still_target n) w) ∙ ap (play_all es) (still_apply n t l)

-- two rows have one summary exactly where they do the same to every text
module _ (n : ℕ) (es vs : List Seq) (w : Row n es) (x : Row n vs) where
  pub summary_unique : ((t : List Char) → length t ≡ n → play_all es t ≡ play_all vs t) → summary n es ≡ summary n vs
  summary_unique h =
      unique letter_a letter_b a_not_b (summary n es) (summary n vs) (summary_built n es) (summary_built n vs)
      (summary_base n es w ∙ sym (summary_base n vs x))
      (λ t l.
      let k = l ∙ summary_base n es w in
      summary_plays n es w t k ∙ h t k ∙ sym (summary_plays n vs x t k))

  pub same_plays : summary n es ≡ summary n vs → (t : List Char) → length t ≡ n → play_all es t ≡ play_all vs t
  same_plays e t l = sym (summary_plays n es w t l) ∙ ap (λ s. apply s t) e ∙ summary_plays n vs x t l
