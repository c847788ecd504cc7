-- What an undo leaves, deletes and types, in any list of calls.
use Prim.Native.Nat.{ℕ, zero, suc, ◌-◌, ◌≤◌, ◌<◌}
use native.Mathlib.Omega.{arith}
use mathlib.Core.Path.{◌≡◌, refl, sym, ap, ap₂, ◌∙◌, subst}
use mathlib.Core.Bool.{Bool, true, false, not}
use mathlib.Core.List.{List, [], ◌∷◌, ◌++◌, map, map-append}
use lib.Dec.{T}
use lib.ListN.{length, take, drop, get_or, replicate, length-append, take-append-drop}
use lib.Seq.{take-suc, take-take, get_or-take, take-append_seam, drop-length}
use Rattle.characters.specs.Text.{Char, chars, bytes}
use Rattle.buffers.proofs.Tests.{both}
use Rattle.characters.proofs.Texts.{chars_length}
use Rattle.answers.specs.Answer.{succeeds}
use Rattle.edits.specs.Op.{retain, insert, delete, base, target}
use Rattle.edits.specs.Sequence.{Seq}
use Rattle.edits.specs.Apply.{apply}
use Rattle.edits.specs.Invert.{invert}
use Rattle.edits.specs.Trace.{typed, stays, marked, carry}
use Rattle.edits.proofs.Effects.{invert_apply}
use Rattle.session_log.specs.Log.{count_of, contents, revisions}
use Rattle.session_log.proofs.Rows.{length_after, Row, row_left}
use Rattle.session.specs.Rows.{play_all, rebase}
use Rattle.session.specs.Session.{inverse_in, played, play_call, play_fault}
use Rattle.session.specs.History.{History, fresh, log_in, earlier, inverse_of, history_play}
use Rattle.session.specs.Demand.{Fresh, Call, run_call, ran, log_after, fed_call, after, AllGo}
use Rattle.session.specs.Keeping.{carry_all, newest}
use Rattle.session.specs.Undo.{Undo, undo_of, LeavesText, TakesBack, BringsBack, TakesBackIn, BringsBackIn, deletes, Says, UndoSays, SamePlay}
use Rattle.session.proofs.Rows.{earlier_take, edit_at_is, play_all_append, play_all_length}
use Rattle.session.proofs.Inverting.{map_replicate, invert_deletes, invert_types}
use Rattle.session.proofs.Accepting.{SoundIn}
use Rattle.session.proofs.Undoing.{Undoes, edit_row, inverse_is}
use Rattle.session.proofs.Running.{moved_by, Went, went, went_undo, fed_sound, left_log, after_sound, after_log, fresh_sound}
use Rattle.session.proofs.Meeting.{count_in, goes_fed, meet_plays}
use Rattle.session.proofs.Keeping.{accept_types, accept_stays}
use Rattle.session.proofs.Demands.{session_log, session_sound}
use Rattle.record.specs.Layout.{max_size}
use Rattle.session.proofs.Playing.{play_log}
use Rattle.answers.specs.Given.{given}
use Rattle.operational_transform.proofs.Laws.{wrote_given}

-- ---- marks turned round

nots_take : (n : ℕ) (ms : List Bool) → map not (take n ms) ≡ take n (map not ms)
nots_take zero ms = refl
nots_take (suc n) [] = refl
nots_take (suc n) (m ∷ ms) = ap (λ l. not m ∷ l) (nots_take n ms)

nots_drop : (n : ℕ) (ms : List Bool) → map not (drop n ms) ≡ drop n (map not ms)
nots_drop zero ms = refl
nots_drop (suc n) [] = refl
nots_drop (suc n) (m ∷ ms) = nots_drop n ms

nots_carry : (m : Bool) (s : Seq) (ms : List Bool) → map not (carry m s ms) ≡ carry (not m) s (map not ms)
nots_carry m [] ms = refl
nots_carry m (retain n ∷ s) ms =
    map-append not (take n ms) _ ∙ ap₂ ◌++◌ (nots_take n ms) (nots_carry m s (drop n ms) ∙ ap (carry (not m) s) (nots_drop n ms))
nots_carry m (insert x ∷ s) ms = map-append not (replicate (length x) m) _ ∙ ap₂ ◌++◌ (map_replicate not (length x) m) (nots_carry m s ms)
nots_carry m (delete n ∷ s) ms = nots_carry m s (drop n ms) ∙ ap (carry (not m) s) (nots_drop n ms)

nots_carry_all : (m : Bool) (es : List Seq) (ms : List Bool) → map not (carry_all m es ms) ≡ carry_all (not m) es (map not ms)
nots_carry_all m [] ms = refl
nots_carry_all m (e ∷ es) ms = nots_carry_all m es (carry m e ms) ∙ ap (carry_all (not m) es) (nots_carry m e ms)

newest_last : (n : ℕ) (es : List Seq) (e : Seq) → newest n (es ++ (e ∷ [])) ≡ carry true e (replicate (length_after n es) false)
newest_last n [] e = refl
newest_last n (v ∷ []) e = refl
newest_last n (v ∷ f ∷ es) e = newest_last (target v) (f ∷ es) e

-- ---- an undo that goes through, of revision j + 1

module _ (h : History) (s : SoundIn h) (j : ℕ) (u : Undo) (w : Went h (undo_of (suc j) u)) (x : Undoes h (suc j) u.text) where
  abbrev es : List Seq
  es = h.edits

  abbrev e : Seq
  e = get_or es j []

  abbrev T₀ : List Char
  T₀ = chars u.text

  abbrev d : Call
  d = undo_of (suc j) u

  inside : j < length es
  inside = omega (arith, x.rev)

  start_length : length T₀ ≡ h.start
  start_length = chars_length u.text x.well ∙ x.starts

  upto : take (suc j) es ≡ take j es ++ (e ∷ [])
  upto = take-suc es j [] inside

  -- the text before revision j + 1
  abbrev P : List Char
  P = play_all (take j es) T₀

  before : Row h.start (take j es)
  before = row_left h.start (take j es) (drop j es) (rw take-append-drop s.row)

  fits_edit : base e ≡ length_after h.start (take j es)
  fits_edit = edit_row h.start es s.row j inside

  undone : apply (inverse_of h (suc j) u.text) (play_all (take (suc j) es) T₀) ≡ P
  undone =
      (λ i. apply (inverse_is h u.text j i) (play_all (upto i) T₀)) ∙ ap (apply (invert e P)) (play_all_append (take j es) (e ∷ []) T₀)
      ∙ invert_apply e P (play_all_length h.start (take j es) T₀ before start_length ∙ sym fits_edit)

  leaves : play_all (fed_call h d).history.edits T₀ ≡ play_all (fed_call h d).counterparts (play_all (earlier (suc j) es) T₀)
  leaves =
      let F = take (suc j) es in
      let inverse = inverse_of h (suc j) u.text in
      let cs = (moved_by h d).counterparts in
      ap (λ t. play_all t.history.edits T₀) w.told
      ∙ meet_plays h s d w (record { start = h.start; edits = F }) refl T₀ start_length
      ∙ play_all_append (F ++ (inverse ∷ [])) cs T₀
      ∙ ap (play_all cs) (play_all_append F (inverse ∷ []) T₀ ∙ undone ∙ ap (λ l. play_all l T₀) (sym (earlier_take j es)))
      ∙ ap (λ t. play_all t.counterparts (play_all (earlier (suc j) es) T₀)) (sym w.told)

  said : Says h (suc j) u.text (fed_call h d).history
  said =
      let inverse = inverse_of h (suc j) u.text in
      let typed_before : deletes inverse ≡ newest h.start (take (suc j) es) =
      ap deletes (inverse_is h u.text j) ∙ invert_deletes e P (length_after h.start (take j es)) fits_edit
      ∙ sym (newest_last h.start (take j es) e) ∙ ap (newest h.start) (sym upto) in
      record {
        new = (moved_by h d).edit;
        joins = ap (λ t. t.history.edits) w.told;
        takes_away = ap (map not) (accept_stays h d s w) ∙ nots_carry_all true (drop (suc j) es) (stays inverse)
            ∙ ap (carry_all false (drop (suc j) es)) typed_before;
        types_again = accept_types h d ∙ ap typed (inverse_is h u.text j) ∙ invert_types e P
            ∙ (λ i. marked (deletes (sym (edit_at_is j es) i)) (play_all (sym (earlier_take j es) i) T₀));
      }

module _ (h : History) (s : SoundIn h) where
  passes : (k : ℕ) (u : Undo) → T (succeeds (fed_call h (undo_of k u)).answer) → Undoes h k u.text
  passes k u g = went_undo h k u.text u.scratch_a u.scratch_b u.behind u.out g

  leaves_text : (k : ℕ) (u : Undo) → LeavesText h k u
  unfolding history_play
  leaves_text zero u g = let x = (passes zero u g).one in absurd (omega arith)
  leaves_text (suc j) u g = ap bytes (leaves h s j u (went h (undo_of (suc j) u) g) (passes (suc j) u g))

  undo_says : (k : ℕ) (u : Undo) → UndoSays h k u
  undo_says zero u g = let x = (passes zero u g).one in absurd (omega arith)
  undo_says (suc j) u g = said h s j u (went h (undo_of (suc j) u) g) (passes (suc j) u g)

  -- the newest revision has no counterparts
  newest_text : (u : Undo) → let d = undo_of (length h.edits) u in T (succeeds (fed_call h d).answer)
      → history_play (fed_call h d).history u.text ≡ bytes (play_all (earlier (length h.edits) h.edits) (chars u.text))
  unfolding rebase
  newest_text u g =
      let k = length h.edits in
      let d = undo_of k u in
      let t = play_all (earlier k h.edits) (chars u.text) in
      leaves_text k u g
      ∙ ap (λ o. bytes (play_all o.counterparts t)) (went h d g).told
      ∙ ap (λ vs. bytes (play_all (rebase (inverse_of h k u.text) vs).counterparts t)) (drop-length h.edits)

earlier_last : (es : List Seq) (e : Seq) → earlier (length (es ++ (e ∷ []))) (es ++ (e ∷ [])) ≡ es
earlier_last es e =
    let n : length (es ++ (e ∷ [])) ≡ suc (length es) = length-append es (e ∷ []) ∙ omega arith in
    ap (λ k. earlier k (es ++ (e ∷ []))) n ∙ earlier_take (length es) (es ++ (e ∷ [])) ∙ take-append_seam es (e ∷ [])

takes_back : (h : History) → SoundIn h → (c : Call) (u : Undo) → TakesBack h c u
unfolding history_play
takes_back h s c u goes₁ goes₂ =
    let w = went h c goes₁ in
    let is : (fed_call h c).history.edits ≡ h.edits ++ ((moved_by h c).edit ∷ []) = ap (λ t. t.history.edits) w.told in
    newest_text (fed_call h c).history (fed_sound h c s) u goes₂
    ∙ ap (λ es. bytes (play_all (earlier (length es) es) (chars u.text))) is
    ∙ ap (λ es. bytes (play_all es (chars u.text))) (earlier_last h.edits (moved_by h c).edit)

brings_back : (h : History) → SoundIn h → (u v : Undo) → BringsBack h u v
brings_back h s u v same goes₁ goes₂ =
    let d = undo_of (length h.edits) u in
    let g = (fed_call h d).history in
    let e = undo_of (length g.edits) v in
    ap (history_play (fed_call g e).history) (sym same) ∙ takes_back h s d v goes₁ goes₂ ∙ ap (history_play h) same

-- ---- the same of the log's bytes

went_goes : (h : History) (c : Call) → Went h c → T (succeeds (fed_call h c).answer)
went_goes h c w = rw w.told tt

takes_back_log : (h : History) → SoundIn h → (c : Call) (u : Undo) → TakesBackIn (log_in h) c u
takes_back_log h s c u =
    let g = (fed_call h c).history in
    let L = left_log h c s in
    let P : ℕ → Type 0 = λ k.
    let d = undo_of k u in
    AllGo (ran (log_in h) (c ∷ d ∷ [])) → SamePlay (log_after (log_in h) (c ∷ d ∷ [])) (log_in h) u.text in
    let here : P (length g.edits) =
    λ all behind behind'.
    let d = undo_of (length g.edits) u in
    let (a, b) = (both (succeeds (run_call (log_in h) c).answer) _).0 all in
    let b₁ = ((both (succeeds (run_call (contents (run_call (log_in h) c).out_a) d).answer) true).0 b).0 in
    let b₂ = subst (λ (l : List ℕ). T (succeeds (run_call l d).answer)) L b₁ in
    ap (λ l. played (l ++ behind) u.text) (after_log h s (c ∷ d ∷ [])) ∙ play_log (after h (c ∷ d ∷ [])) behind u.text
    ∙ takes_back h s c u (went_goes h c (goes_fed h s c a)) (went_goes g d (goes_fed g (fed_sound h c s) d b₂))
    ∙ sym (play_log h behind' u.text) in
    subst P (sym (ap count_of L ∙ count_in g)) here

brings_back_log : (h : History) → SoundIn h → (u v : Undo) → BringsBackIn (log_in h) u v
brings_back_log h s u v same all =
    let d = undo_of (count_of (log_in h)) u in
    let e = undo_of (count_of (log_after (log_in h) (d ∷ []))) v in
    subst (SamePlay (log_after (log_in h) (d ∷ e ∷ [])) (log_in h)) same (takes_back_log h s d v all)

-- two play calls that are given, of such logs, give the same bytes
pub plays_same : (log log' text : List ℕ) → SamePlay log log' text → (behind behind' : List ℕ) (a b a' b' : ℕ) (out out' : List ℕ) →
    let o = play_call (log ++ behind) text a b out in
    let o' = play_call (log' ++ behind') text a' b' out' in
    T (succeeds o.answer) → T (succeeds o'.answer) → given o ≡ given o'
unfolding play_call
plays_same log log' text same behind behind' a b a' b' out out' g g' =
    let fault : List ℕ → ℕ → ℕ → ℕ = λ l x y. play_fault l text x y in
    (wrote_given (fault (log ++ behind) a b) (played (log ++ behind) text) out g).1 ∙ same behind behind'
    ∙ sym (wrote_given (fault (log' ++ behind') a' b') (played (log' ++ behind') text) out' g').1

-- ---- a copy that holds the first k revisions can make the inverse by itself

pub own_inverse : (here there : List ℕ) (k : ℕ) (text : List ℕ) → 1 ≤ k
    → revisions there ≡ take k (revisions here) → inverse_in there k text ≡ inverse_in here k text
unfolding inverse_in
own_inverse here there k text l same =
    let es = revisions here in
    let j : k - 1 < k = omega arith in
    (λ i. invert (get_or (same i) (k - 1) []) (play_all (take (k - 1) (same i)) (chars text)))
    ∙ ap₂ (λ e vs. invert e (play_all vs (chars text))) (get_or-take k es (k - 1) [] j) (take-take (k - 1) k es (omega arith))

-- ---- every list of calls on a fresh session

module _ (n : ℕ) (small : n ≤ max_size) (before : List Call) where
  abbrev h : History
  h = after (fresh n) before

  sound : SoundIn h
  sound = after_sound (fresh n) (fresh_sound n small) before

  pub undo_leaves_text : (k : ℕ) (u : Undo) → LeavesText h k u
  undo_leaves_text = leaves_text h sound

  pub undo_takes_back : (c : Call) (u : Undo) → TakesBack h c u
  undo_takes_back = takes_back h sound

  pub undo_brings_back : (u v : Undo) → BringsBack h u v
  undo_brings_back = brings_back h sound

  pub undo_deletes_and_types : (k : ℕ) (u : Undo) → UndoSays h k u
  undo_deletes_and_types = undo_says h sound

module _ (n : ℕ) (log : List ℕ) (f : Fresh n log) (before : List Call) where
  pub log_takes_back : (c : Call) (u : Undo) → TakesBackIn (log_after log before) c u
  log_takes_back c u =
      subst (λ (l : List ℕ). TakesBackIn l c u) (sym (session_log n log f before))
      (takes_back_log (after (fresh n) before) (session_sound n log f before) c u)

  pub log_brings_back : (u v : Undo) → BringsBackIn (log_after log before) u v
  log_brings_back u v =
      subst (λ (l : List ℕ). BringsBackIn l u v) (sym (session_log n log f before))
      (brings_back_log (after (fresh n) before) (session_sound n log f before) u v)
