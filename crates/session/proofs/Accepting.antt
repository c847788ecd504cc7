-- One accept on the log of a history: it is what the history gives.
use mathlib.Core.List.{[], ◌∷◌, ◌++◌, List, append_assoc}
use Prim.Native.Nat.{ℕ, ◌≤◌, ◌<◌, zero, suc, ◌+◌}
use lib.ListN.{drop, length, take, length-append, take-append-drop}
use mathlib.Core.Bool.{◌&&◌, Bool, true, false}
use lib.Dec.{leb, ltb, eqb, T, leb→le, ltb→lt, eqb→eq}
use mathlib.Core.Path.{◌≡◌, sym, ap, ◌∙◌, refl, ap₂}
use native.Mathlib.Omega.{arith}
use lib.Seq.{drop_at, take_at, drop-append-add, drop-append_seam}
use Rattle.buffers.specs.Words.{words}
use Rattle.buffers.specs.Buffers.{put_at_front}
use Rattle.buffers.proofs.Tests.{both, holds}
use Rattle.edits.specs.Sequence.{Seq}
use Rattle.edits.specs.Op.{base}
use Rattle.answers.specs.Answer.{Answer, success, refused, needs, or_else, unless_refused}
use Rattle.answers.specs.Output.{Outs}
use Rattle.answers.proofs.Refusals.{needs_out, first_zero}
use Rattle.record.specs.Record.{ops, encode, record_fault}
use Rattle.record.specs.Layout.{base_of}
use Rattle.record.proofs.Sequences.{Good}
use Rattle.record.proofs.Records.{ops_base}
use Rattle.session_log.specs.Log.{encode_all, log_of, readable, size_of_log, length_at, max_revisions}
use Rattle.session_log.proofs.Logs.{Sound, log_more, log_more_length, count_log, length_log, revisions_log, size_log, readable_log}
use Rattle.session_log.proofs.Rows.{length_after, each_append, Row, row_append, row_right, after_append}
use Rattle.session.specs.History.{History, Outcome, log_in, history_accept}
use Rattle.session.specs.Rows.{Moved, rebase}
use Rattle.session.specs.Session.{moved_in, accept_fault, append, accept_call, joining}
use Rattle.session.proofs.Rows.{target_after_is}
use Rattle.session.proofs.Moving.{later_gathered, rebase_base, rebase_good}

abbrev pub SoundIn : History → Type 0
SoundIn h = Sound h.start h.edits

-- a history with one edit more
abbrev pub joined : History → Seq → History
joined h e = record { start = h.start; edits = h.edits ++ (e ∷ []) }

-- the edit of a call, moved past the edits after its revision
abbrev pub moved : History → List ℕ → ℕ → Moved
moved h edit r = rebase (ops edit) (drop r h.edits)

abbrev pub sizes : Moved → Answer
sizes m = success (length (encode m.edit) ∷ length (encode_all m.counterparts) ∷ [])

-- ---- what the history is told, over `rebase`

abbrev pub back : History → ℕ → Outcome
back h n = record { answer = refused n; counterparts = []; history = h }

abbrev pub through : History → Moved → Outcome
through h m = record { answer = sizes m; counterparts = m.counterparts; history = joined h m.edit }

-- 9 and 10
abbrev pub rest : History → Moved → ℕ → ℕ → ℕ
rest h m room space =
    needs (ltb (length h.edits) max_revisions && m.kept) 9
    (needs (leb (length (log_in (joined h m.edit))) room && leb (length (encode_all m.counterparts)) space) 10 0)

module _ (h : History) (edit : List ℕ) (r : ℕ) where
  abbrev pub fault : ℕ → ℕ → ℕ
  fault room space =
      or_else (record_fault edit)
      (needs (leb r (length h.edits)) 7
      (needs (eqb (base (ops edit)) (length_after h.start (take r h.edits))) 8 (rest h (moved h edit r) room space)))

  pub history_told : (room space : ℕ) → history_accept h edit r room space ≡ unless_refused (fault room space) (back h) (through h (moved h edit r))
  unfolding history_accept
  history_told room space =
      λ i.
      let m = later_gathered (ops edit) r h.edits i in
      unless_refused
      (or_else (record_fault edit)
      (needs (leb r (length h.edits)) 7
      (needs (eqb (base (ops edit)) (target_after_is h.start h.edits r i)) 8 (rest h m room space))))
      (back h) (through h m)

-- ---- an accept that goes through

pub record Passed (h : History) (e : Seq) (r : ℕ) : Type 0 where
  pub rev : r ≤ length h.edits
  pub meets : base e ≡ length_after h.start (take r h.edits)
  pub counts : length h.edits < max_revisions
  pub kept : T (rebase e (drop r h.edits)).kept

pub rest_zero : (h : History) (m : Moved) (room space : ℕ) → rest h m room space ≡ 0 → (length h.edits < max_revisions) × T m.kept
rest_zero h m room space z =
    let n = length h.edits in
    let k = (both (ltb n max_revisions) m.kept).0 (needs_out (ltb n max_revisions && m.kept) 8 _ z).0 in
    (ltb→lt n max_revisions k.0, k.1)

pub passed : (h : History) (edit : List ℕ) (r room space : ℕ) → fault h edit r room space ≡ 0 → (record_fault edit ≡ 0) × Passed h (ops edit) r
passed h edit r room space z =
    let m = moved h edit r in
    let n = length h.edits in
    let (a, z₁) = first_zero (record_fault edit) _ z in
    let (b, z₂) = needs_out (leb r n) 6 _ z₁ in
    let (c, z₃) = needs_out (eqb (base (ops edit)) (length_after h.start (take r h.edits))) 7 _ z₂ in
    let k = rest_zero h m room space z₃ in
    (a, record { rev = leb→le r n b; meets = eqb→eq (base (ops edit)) _ c; counts = k.0; kept = k.1 })

-- what comes out joins the row
module _ (h : History) (s : SoundIn h) (e : Seq) (r : ℕ) (p : Passed h e r) where
  abbrev before : List Seq
  before = take r h.edits

  abbrev after : List Seq
  after = drop r h.edits

  pub past_row : Row (base e) after
  past_row = rw p.meets (row_right h.start before after (rw take-append-drop s.row))

  ends : base (rebase e after).edit ≡ length_after h.start h.edits
  ends =
      rebase_base e after past_row ∙ ap (λ n. length_after n after) p.meets
      ∙ sym (after_append h.start before after) ∙ ap (length_after h.start) (take-append-drop r h.edits)

  pub joined_sound : Good e → SoundIn (joined h (rebase e after).edit)
  joined_sound g = record {
    starts = s.starts;
    counts = simp length-append (omega (arith, p.counts));
    good = each_append Good h.edits _ s.good ((rebase_good e after g p.kept).0, tt);
    row = row_append h.start h.edits _ s.row (ends, tt);
  }

-- ---- refusals that need only agree where they are asked for

pub first_same : (f a b : ℕ) → (f ≡ 0 → a ≡ b) → or_else f a ≡ or_else f b
first_same zero a b e = e refl
first_same (suc f) a b e = refl

needs_same : (t : Bool) (n a b : ℕ) → (T t → a ≡ b) → needs t n a ≡ needs t n b
needs_same true n a b e = e tt
needs_same false n a b e = refl

-- ---- accept on the log of a history

module _ (h : History) (behind : List ℕ) where
  abbrev pub buffer : List ℕ
  buffer = log_in h ++ behind

  pub size_more : (e : Seq) → size_of_log buffer + length (encode e) ≡ length (log_in (joined h e))
  size_more e = ap (λ n. n + length (encode e)) (size_log h.start h.edits behind) ∙ sym (log_more_length h.start h.edits e)

  append_log : (e : Seq) → append buffer (encode e) ≡ put_at_front (log_in (joined h e)) buffer
  unfolding append put_at_front log_of
  append_log e =
      let rec = encode e in
      let es = h.edits in
      let size = size_log h.start es behind in
      let tk : take (size_of_log buffer) buffer ≡ log_in h = take_at (log_in h) behind _ (sym size) in
      let dp : drop (size_of_log buffer) buffer ≡ behind = drop_at (log_in h) behind _ (sym size) in
      let d : drop (length (log_in (joined h e))) buffer ≡ drop (length rec) behind =
      ap (λ k. drop k buffer) (log_more_length h.start es e) ∙ drop-append-add (log_in h) behind (length rec) in
      (λ i. put_at_front (words (suc (count_log h.start es behind i) ∷ [])) (tk i ++ put_at_front rec (dp i)))
      ∙ ap (λ x. words (suc (length es) ∷ h.start ∷ []) ++ x) (sym (append_assoc (encode_all es) rec (drop (length rec) behind)))
      ∙ sym (ap₂ ◌++◌ (log_more h.start es e) d)

  module _ (edit : List ℕ) (r : ℕ) where
    moved_log : moved_in edit r buffer ≡ moved h edit r
    unfolding moved_in
    moved_log = ap (λ es. rebase (ops edit) (drop r es)) (revisions_log h.start h.edits behind)

    fault_log : SoundIn h → (out : List ℕ) → accept_fault edit r buffer out ≡ fault h edit r (length buffer) (length out)
    unfolding accept_fault
    fault_log s out =
        let n = count_log h.start h.edits behind in
        (λ i.
        let m = moved_log i in
        or_else (record_fault edit)
        (needs (holds (readable buffer) (readable_log h.start h.edits behind s) i) 6
        (needs (leb r (n i)) 7
        (needs (eqb (base_of edit) (length_at r buffer)) 8
        (needs (ltb (n i) max_revisions && m.kept) 9
        (needs (leb (size_more m.edit i) (length buffer) && leb (length (encode_all m.counterparts)) (length out)) 10 0))))))
        ∙ first_same (record_fault edit) _ _ (λ z.
        needs_same (leb r (length h.edits)) 7 _ _ (λ l.
        ap₂ (λ x y. needs (eqb x y) 8 (rest h (moved h edit r) (length buffer) (length out))) (sym (ops_base edit z))
        (length_log h.start h.edits behind r (leb→le r _ l))))

-- what the history gives, at the front of the buffers
module _ (h : History) (behind out : List ℕ) where
  abbrev log : List ℕ
  log = buffer h behind

  front_log : put_at_front (log_in h) log ≡ log
  unfolding put_at_front
  front_log = ap (λ l. log_in h ++ l) (drop-append_seam (log_in h) behind)

  front_nothing : put_at_front (encode_all []) out ≡ out
  unfolding put_at_front encode_all
  front_nothing = refl

  abbrev pub show : Outcome → Outs
  show t = record { answer = t.answer; out_a = put_at_front (log_in t.history) log; out_b = put_at_front (encode_all t.counterparts) out }

  pub settled : (m : Moved) (f : ℕ) → joining f m log out ≡ show (unless_refused f (back h) (through h m))
  settled m zero =
      λ i. record { answer = sizes m; out_a = append_log h behind m.edit i; out_b = put_at_front (encode_all m.counterparts) out }
  settled m (suc n) = λ i. record { answer = refused (suc n); out_a = sym front_log i; out_b = sym front_nothing i }

  pub accept_log : SoundIn h → (edit : List ℕ) (r : ℕ) → accept_call edit r log out ≡ show (history_accept h edit r (length log) (length out))
  unfolding accept_call
  accept_log s edit r =
      (λ i. joining (fault_log h behind edit r s out i) (moved_log h behind edit r i) log out)
      ∙ settled (moved h edit r) (fault h edit r (length log) (length out))
      ∙ ap show (sym (history_told h edit r (length log) (length out)))
