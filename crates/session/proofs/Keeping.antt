-- Nothing typed is lost, in any list of calls.
use mathlib.Core.Path.{◌≡◌, refl, ap, ◌∙◌, subst, sym}
use mathlib.Core.Bool.{true, Bool, false}
use lib.ListN.{drop, length, take, take-append-drop}
use Prim.Native.Nat.{ℕ, ◌+◌, ◌-◌, ◌≤◌, ◌<◌}
use native.Mathlib.Omega.{arith}
use mathlib.Core.List.{List, [], ◌∷◌, ◌++◌, append_assoc, append-nil}
use lib.Dec.{T, ltb}
use lib.Seq.{drop-append-le, take-append-le, drop-append-add, drop-append_seam}
use borrow.Author.Tests.{ltb-true, ltb-false}
use Rattle.edits.specs.Trace.{typed, stays, Within, marked}
use Rattle.edits.specs.Sequence.{Seq}
use Rattle.edits.proofs.Marks.{stays_length, within_trans, within_length, within_refl}
use Rattle.answers.specs.Answer.{succeeds}
use Rattle.session_log.proofs.Rows.{length_after, Row, row_right}
use Rattle.session.specs.History.{History, fresh}
use Rattle.session.specs.Demand.{Call, fed_call, after, rev_of}
use Rattle.session.specs.Keeping.{carry_all, newest, Spared, NothingLost, TypedStands, brings}
use Rattle.session.specs.Rows.{play_all}
use Rattle.session.proofs.Accepting.{SoundIn, past_row, joined}
use Rattle.session.proofs.Running.{Went, fed_rule, fed_sound, fed_start, after_sound, after_start, went, fresh_sound, moved_by}
use Rattle.session.proofs.Carrying.{rebase_types, rebase_stays, carry_all_append, within_carry_all, LeaveAll, leave_more, newest_kept, leave_plays, newest_length, newest_typed}
use Rattle.session.proofs.Rows.{play_all_append, play_all_length}
use Rattle.record.specs.Layout.{max_size}

-- ---- one accept

module _ (h : History) (c : Call) where
  -- what is appended types what the edit types
  pub accept_types : typed (moved_by h c).edit ≡ typed (brings h c.ask)
  accept_types = rebase_types (brings h c.ask) (drop (rev_of c.ask) h.edits)

  -- and of the newest text deletes just what its author deleted and still stands there
  pub accept_stays : SoundIn h → Went h c
      → stays (moved_by h c).edit ≡ carry_all true (drop (rev_of c.ask) h.edits) (stays (brings h c.ask))
  accept_stays s w =
      rebase_stays (brings h c.ask) (drop (rev_of c.ask) h.edits)
      (past_row h s (brings h c.ask) (rev_of c.ask) w.join.pass)

-- ---- lists of calls, from revision k on

module _ (n : ℕ) (es : List Seq) (row : Row n es) (ms : List Bool) (new : Within ms (newest n es)) where
  abbrev k : ℕ
  k = length es

  -- the row since, none of which deletes a marked character
  record Since (h : History) : Type 0 where
    since : List Seq
    edits : h.edits ≡ es ++ since
    leave : LeaveAll since ms

  module _ (h : History) (s : SoundIn h) (starts : h.start ≡ n) (vs : List Seq) (is : h.edits ≡ es ++ vs) (c : Call) (w : Went h c) where
    abbrev e : Seq
    e = brings h c.ask

    -- its author had seen revision k
    seen : k ≤ rev_of c.ask → Within (carry_all false (take (rev_of c.ask - k) (drop k h.edits)) ms) (stays e)
        → Within (carry_all false vs ms) (stays (moved_by h c).edit)
    seen l spared =
        let j = rev_of c.ask - k in
        let p : drop k h.edits ≡ vs = ap (drop k) is ∙ drop-append_seam es vs in
        let r : rev_of c.ask ≡ k + j = omega arith in
        let q : drop (rev_of c.ask) h.edits ≡ drop j vs =
        ap (drop (rev_of c.ask)) is ∙ ap (λ i. drop i (es ++ vs)) r ∙ drop-append-add es vs j in
        let a : Within (carry_all false (take j vs) ms) (stays e) = subst (λ (us : List Seq). Within (carry_all false (take j us) ms) (stays e)) p spared in
        let b = within_carry_all (drop j vs) a in
        subst (λ (us : List Seq). Within (carry_all false us ms) (stays (moved_by h c).edit)) (take-append-drop j vs)
        (rw (carry_all_append false (take j vs) (drop j vs) ms, accept_stays h c s w, q) b)

    -- or had not
    unseen : rev_of c.ask < k → Within (carry_all false vs ms) (stays (moved_by h c).edit)
    unseen l =
        let r = rev_of c.ask in
        let q : drop r h.edits ≡ drop r es ++ vs = ap (drop r) is ∙ drop-append-le r es vs (omega arith) in
        let m : length (stays e) ≡ length_after n (take r es) =
        stays_length e ∙ w.join.pass.meets ∙ (λ i. length_after (starts i) (take r (is i)))
        ∙ ap (length_after n) (take-append-le r es vs (omega arith)) in
        rw (accept_stays h c s w, q, carry_all_append true (drop r es) vs (stays e))
        (within_carry_all vs (within_trans new (newest_kept n es row r l (stays e) m)))

    leaves : (T (succeeds (fed_call h c).answer) → k ≤ rev_of c.ask
        → Within (carry_all false (take (rev_of c.ask - k) (drop k h.edits)) ms) (stays e))
        → Within (carry_all false vs ms) (stays (moved_by h c).edit)
    leaves spared = go (ltb (rev_of c.ask) k) refl
      where
        go : (b : Bool) → ltb (rev_of c.ask) k ≡ b → Within (carry_all false vs ms) (stays (moved_by h c).edit)
        go true q = unseen (ltb-true (rev_of c.ask) k q)
        go false q = let l = ltb-false (rev_of c.ask) k q in seen l (spared (rw w.told tt) l)

  since_calls : (cs : List Call) (h : History) → SoundIn h → h.start ≡ n → Since h → Spared k ms h cs → Since (after h cs)
  since_calls [] h s st x sp = x
  since_calls (c ∷ cs) h s st x sp =
      let vs = x.since in
      let more : Went h c → Since (joined h (moved_by h c).edit) =
      λ w. record {
        since = vs ++ ((moved_by h c).edit ∷ []);
        edits = ap (λ l. l ++ ((moved_by h c).edit ∷ [])) x.edits ∙ append_assoc es vs ((moved_by h c).edit ∷ []);
        leave = leave_more vs (moved_by h c).edit ms x.leave (leaves h s st vs x.edits c w sp.0);
      } in
      since_calls cs (fed_call h c).history (fed_sound h c s) (fed_start h c ∙ st) (fed_rule h c Since x more) sp.1

lost_nothing : (h : History) → SoundIn h → (later : List Call) → NothingLost h later
lost_nothing h s later ms new spared t l =
    let es = h.edits in
    let k = length es in
    let g = after h later in
    let x = since_calls h.start es s.row ms new later h s refl (record { since = []; edits = sym (append-nil es); leave = tt }) spared in
    let ws = x.since in
    let u = play_all es t in
    let m : length ms ≡ length_after h.start es = within_length new ∙ newest_length h.start es s.row in
    let r : Row h.start (es ++ ws) = rw (after_start h later, x.edits) at (after_sound h s later).row in
    (λ i. marked (carry_all false (drop k (x.edits i)) ms) (play_all (x.edits i) t))
    ∙ (λ i. marked (carry_all false (drop-append_seam es ws i) ms) (play_all_append es ws t i))
    ∙ leave_plays ws ms u (rw m (row_right h.start es ws r)) (play_all_length h.start es t s.row l ∙ sym m) x.leave

stands : (h : History) → SoundIn h → (c : Call) (later : List Call) → TypedStands h c later
stands h s c later succeeds spared t l =
    let w = went h c succeeds in
    let g = (fed_call h c).history in
    let is : g ≡ joined h (moved_by h c).edit = ap (λ u. u.history) w.told in
    let r : Row h.start (h.edits ++ ((moved_by h c).edit ∷ [])) = rw is at (fed_sound h c s).row in
    lost_nothing g (fed_sound h c s) later (newest g.start g.edits) (within_refl _) spared t (l ∙ sym (fed_start h c))
    ∙ (λ i. marked (newest (is i).start (is i).edits) (play_all (is i).edits t))
    ∙ newest_typed h.start h.edits (moved_by h c).edit t r l ∙ accept_types h c

-- ---- every list of calls on a fresh session

module _ (n : ℕ) (small : n ≤ max_size) (before : List Call) where
  pub nothing_lost : (later : List Call) → NothingLost (after (fresh n) before) later
  nothing_lost = lost_nothing (after (fresh n) before) (after_sound (fresh n) (fresh_sound n small) before)

  pub typed_stands : (c : Call) (later : List Call) → TypedStands (after (fresh n) before) c later
  typed_stands = stands (after (fresh n) before) (after_sound (fresh n) (fresh_sound n small) before)
