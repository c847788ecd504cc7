-- Copies never reorder, in a whole session: two characters that both stand in the author's text after the edit and in the
-- server's text afterwards stand there in the same order.
use Prim.Native.Nat.{ℕ, ◌≤◌}
use mathlib.Core.Path.{◌≡◌, refl, sym, ap, ◌∙◌, subst}
use mathlib.Core.Option.{Option}
use mathlib.Core.List.{List, [], ◌∷◌, ◌++◌, append_assoc, append-nil}
use lib.ListN.{length, take, drop}
use lib.Dec.{T}
use lib.Seq.{drop-append_seam}
use Rattle.characters.specs.Text.{Char}
use Rattle.edits.specs.Op.{base}
use Rattle.edits.specs.Sequence.{Seq}
use Rattle.edits.specs.Apply.{apply}
use Rattle.edits.specs.Origins.{origins_all, Names}
use Rattle.edits.proofs.Standing.{InOrder, order_kept_all, names_apply}
use Rattle.answers.specs.Answer.{succeeds}
use Rattle.record.specs.Layout.{max_size}
use Rattle.session_log.proofs.Rows.{Row}
use Rattle.session.specs.Rows.{play_all, rebase}
use Rattle.session.specs.History.{History, fresh}
use Rattle.session.specs.Demand.{Call, fed_call, after, rev_of}
use Rattle.session.proofs.Rows.{play_all_append}
use Rattle.session.proofs.Moving.{rebase_plays}
use Rattle.session.proofs.Running.{Went, went, fed_rule, after_sound, after_start, fresh_sound, moved_by}
use Rattle.session.proofs.Meeting.{meet_plays}
use Rattle.session.specs.Keeping.{brings}

module _ {D : Type 0} (char : D → Char) where
  pub names_play : (es : List Seq) {ls : List (Option D)} {t : List Char} → Names char ls t → Names char (origins_all es ls) (play_all es t)
  names_play [] p = p
  names_play (e ∷ es) p = names_play es (names_apply char e p)

module _ {D : Type 0} (char : D → Char) where
  plays_in_order : (es : List Seq) (ls : List (Option D)) (t u : List Char) → Names char ls t → play_all es t ≡ u → InOrder char ls (origins_all es ls) u
  plays_in_order es ls t u p e = record { names = subst (Names char (origins_all es ls)) e (names_play char es p); order = order_kept_all es ls }

-- an edit moved past a row
module _ (e : Seq) (vs : List Seq) (row : Row (base e) vs) (t : List Char) (fits : length t ≡ base e) where
  pub rebase_in_order : {D : Type 0} (char : D → Char) (ls : List (Option D)) → Names char ls (apply e t)
      → InOrder char ls (origins_all (rebase e vs).counterparts ls) (apply (rebase e vs).edit (play_all vs t))
  rebase_in_order char ls p = plays_in_order char (rebase e vs).counterparts ls (apply e t) _ p (rebase_plays e vs t fits row)

-- ---- lists of calls on a fresh session

-- a row only grows
record Grown (h g : History) : Type 0 where
  more : List Seq
  edits : g.edits ≡ h.edits ++ more

grown : (h : History) (cs : List Call) → Grown h (after h cs)
grown h [] = record { more = []; edits = sym (append-nil h.edits) }
grown h (c ∷ cs) =
    let f = fed_rule h c (Grown h) (record { more = []; edits = sym (append-nil h.edits) }) (λ w. record { more = (moved_by h c).edit ∷ []; edits = refl }) in
    let g = grown (fed_call h c).history cs in
    record { more = f.more ++ g.more; edits = g.edits ∙ ap (λ es. es ++ g.more) f.edits ∙ append_assoc h.edits f.more g.more }

-- an edit is accepted against revision r, or revision r is undone: its author's text, and the server's text after any more calls
module _ (n : ℕ) (small : n ≤ max_size) (before : List Call) (c : Call) (later : List Call) (t : List Char) (fits : length t ≡ n) where
  abbrev h : History
  h = after (fresh n) before

  abbrev e : Seq
  e = brings h c.ask

  abbrev pub author : List Char
  author = apply e (play_all (take (rev_of c.ask) h.edits) t)

  -- the counterparts that the author is handed, then the revisions after that
  abbrev pub since : List Seq
  since = let g = (fed_call h c).history in (moved_by h c).counterparts ++ drop (length g.edits) (after g later).edits

  -- the author's text, with what came in since, is the server's
  pub author_plays : Went h c → play_all since author ≡ play_all (after (fed_call h c).history later).edits t
  author_plays w =
      let g = (fed_call h c).history in
      let x = grown g later in
      let m = moved_by h c in
      let F = take (rev_of c.ask) h.edits in
      let s = after_sound (fresh n) (fresh_sound n small) before in
      let k : History = record { start = h.start; edits = F } in
      let d : drop (length g.edits) (after g later).edits ≡ x.more = ap (drop (length g.edits)) x.edits ∙ drop-append_seam g.edits x.more in
      let meet : play_all g.edits t ≡ play_all m.counterparts author =
      ap (λ u. play_all u.history.edits t) w.told
      ∙ meet_plays h s c w k refl t (fits ∙ sym (after_start (fresh n) before))
      ∙ play_all_append (F ++ (e ∷ [])) m.counterparts t ∙ ap (play_all m.counterparts) (play_all_append F (e ∷ []) t) in
      ap (λ vs. play_all (m.counterparts ++ vs) author) d ∙ play_all_append m.counterparts x.more author
      ∙ ap (play_all x.more) (sym meet) ∙ sym (play_all_append g.edits x.more t) ∙ ap (λ es. play_all es t) (sym x.edits)

  pub session_in_order : T (succeeds (fed_call h c).answer) → {D : Type 0} (char : D → Char) (ls : List (Option D)) → Names char ls author
      → InOrder char ls (origins_all since ls) (play_all (after (fed_call h c).history later).edits t)
  session_in_order g char ls p = plays_in_order char since ls author _ p (author_plays (went h c g))
