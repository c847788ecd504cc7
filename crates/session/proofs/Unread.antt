-- The same of the calls that take a log. Accept and undo are told the room behind the log's contents and write there: they are
-- given as much of other bytes.
use Prim.Native.Nat.{ℕ, zero, suc, ◌+◌, ◌-◌, ◌≤◌, ◌<◌, ◌*◌}
use native.Mathlib.Nat.{add-zero}
use native.Mathlib.Omega.{arith}
use mathlib.Core.Path.{◌≡◌, refl, sym, ap, ap₂, ◌∙◌}
use mathlib.Core.Bool.{Bool, true, false, ◌&&◌}
use mathlib.Core.List.{List, [], ◌∷◌, ◌++◌, append_assoc}
use lib.Dec.{T, eqb, leb, ltb, leb→le}
use lib.ListN.{length, take, drop, get_or, get_or-append, length-append, length-drop}
use lib.Seq.{length-take-le, drop-append-le, take_at, drop_at, take-add, get_or-take}
use borrow.Author.Tests.{le-leb}
use Rattle.characters.specs.Form.{is_well_formed}
use Rattle.characters.specs.Chars.{number_of_chars}
use Rattle.characters.specs.Text.{chars, bytes}
use Rattle.answers.specs.Answer.{or_else, needs}
use Rattle.buffers.specs.Words.{words}
use Rattle.record.specs.Layout.{size_of, base_of, max_size}
use Rattle.record.specs.Record.{encode, record_fault, fits}
use Rattle.buffers.specs.Buffers.{put_at_front}
use Rattle.answers.specs.Output.{writing, Outs}
use Rattle.session_log.specs.Log.{encode_all, count_of, start_of, records_start, sizes_in, edits_in, length_in, readable_from, readable, place_of, size_of_log, length_at, revisions, max_revisions}
use Rattle.session.specs.Rows.{play_all, longest, retain_whole, compose_all, composes_within, Moved, rebase}
use Rattle.session.specs.Session.{moved_in, accept_fault, append, accept_call, summary_fault, summary_call, played, play_fault, play_call, join_fault, joining, inverse_in, moved_inverse, undo_fault, undo_call}
use Rattle.answers.specs.Given.{first_of, numbers}
use Rattle.record.proofs.Unread.{Alike, other, behind_alike, same_seq}
use Rattle.edits.specs.Invert.{invert}

-- ---- records end to end

-- n records that stand end to end in two buffers
data Chain : ℕ → List ℕ → List ℕ → Type 0 where
  end : {l m : List ℕ} → Chain zero l m
  link : {n : ℕ} {l m : List ℕ} → Alike l m → Chain n (drop (size_of l) l) (drop (size_of m) m) → Chain (suc n) l m

chain : (n : ℕ) (l more : List ℕ) → sizes_in n l ≤ length l → Chain n (take (sizes_in n l) l ++ more) l
chain zero l more h = end
chain (suc n) l more h =
    let k = size_of l in
    let z = sizes_in n (drop k l) in
    let m = take z (drop k l) ++ more in
    let is : take (k + z) l ++ more ≡ take k l ++ m = ap (λ x. x ++ more) (take-add k z l) ∙ append_assoc (take k l) (take z (drop k l)) more in
    let a = behind_alike l m (omega arith) in
    let d : drop (size_of (other l m (omega arith))) (take k l ++ m) ≡ m = drop_at (take k l) m _ (length-take-le k l (omega arith) ∙ sym a.sizes) in
    rw is (link {n = n} a (rw d (chain n (drop k l) more (simp length-drop (omega arith)))))

edits_same : {n : ℕ} {l m : List ℕ} → Chain n l m → edits_in n l ≡ edits_in n m
unfolding edits_in
edits_same end = refl
edits_same (link a c) = ap₂ ◌∷◌ (same_seq a) (edits_same c)

sizes_same : {n : ℕ} {l m : List ℕ} → Chain n l m → sizes_in n l ≡ sizes_in n m
sizes_same end = refl
sizes_same (link a c) = ap₂ ◌+◌ a.sizes (sizes_same c)

readable_same : {n : ℕ} {l m : List ℕ} → Chain n l m → (len : ℕ) → readable_from n len l ≡ readable_from n len m
unfolding readable_from
readable_same end len = refl
readable_same (link {n = n} {l = l} a c) len =
    λ i. eqb (a.faults i) 0 && (eqb (a.bases i) len && (ap (λ k. readable_from n k (drop (size_of l) l)) a.targets ∙ readable_same c _) i)

lengths_same : {n : ℕ} {l m : List ℕ} → Chain n l m → (r len : ℕ) → r ≤ n → length_in r len l ≡ length_in r len m
lengths_same c zero len h = refl
lengths_same end (suc r) len h = absurd (omega arith)
lengths_same (link {n = n} {l = l} a c) (suc r) len h = ap (λ k. length_in r k (drop (size_of l) l)) a.targets ∙ lengths_same {n = n} c r _ (omega arith)

-- ---- logs

-- all that a call reads of a log
pub record AlikeLogs (l m : List ℕ) : Type 0 where
  pub reads : readable l ≡ readable m
  pub counts : count_of l ≡ count_of m
  pub starts : start_of l ≡ start_of m
  pub edits : revisions l ≡ revisions m
  pub sizes : size_of_log l ≡ size_of_log m
  pub lengths : (r : ℕ) → r ≤ count_of m → length_at r l ≡ length_at r m

-- a log that is all there, and other bytes behind it
module _ (l more : List ℕ) (whole : size_of_log l ≤ length l) where
  abbrev size : ℕ
  size = sizes_in (count_of l) (drop records_start l)

  size_is : size_of_log l ≡ 4 + size
  unfolding size_of_log place_of
  size_is = refl

  abbrev pub other_log : List ℕ
  other_log = take (size_of_log l) l ++ more

  own_length : length (take (size_of_log l) l) ≡ size_of_log l
  own_length = length-take-le (size_of_log l) l whole

  at : (i : ℕ) → i < 4 → get_or other_log i 0 ≡ get_or l i 0
  at i h = get_or-append (take (size_of_log l) l) more 0 i (omega (arith, own_length, size_is)) ∙ get_or-take (size_of_log l) l i 0 (omega (arith, size_is))

  same_count : count_of other_log ≡ count_of l
  same_count = ap₂ (λ x y. x + 256 * y) (at 0 (omega arith)) (at 1 (omega arith))

  same_start : start_of other_log ≡ start_of l
  same_start = ap₂ (λ x y. x + 256 * y) (at 2 (omega arith)) (at 3 (omega arith))

  same_rest : drop records_start other_log ≡ take size (drop records_start l) ++ more
  same_rest =
      ap (λ n. drop 4 (take n l ++ more)) size_is
      ∙ ap (drop 4) (ap (λ x. x ++ more) (take-add 4 size l) ∙ append_assoc (take 4 l) (take size (drop 4 l)) more)
      ∙ drop_at (take 4 l) _ 4 (length-take-le 4 l (omega (arith, size_is)))

  rest_chain : Chain (count_of l) (drop records_start other_log) (drop records_start l)
  rest_chain = rw same_rest (chain (count_of l) (drop 4 l) more (simp length-drop (omega (arith, size_is))))

  same_edits : revisions other_log ≡ revisions l
  unfolding revisions
  same_edits = ap (λ n. edits_in n (drop 4 other_log)) same_count ∙ edits_same rest_chain

  same_size : size_of_log other_log ≡ size_of_log l
  unfolding size_of_log place_of
  same_size = ap (λ n. 4 + sizes_in n (drop 4 other_log)) same_count ∙ ap (λ n. 4 + n) (sizes_same rest_chain)

  same_readable : readable other_log ≡ readable l
  unfolding readable
  same_readable =
      let a : length other_log ≡ size_of_log l + length more = length-append (take (size_of_log l) l) more ∙ ap (λ n. n + length more) own_length in
      let b : leb 4 (length other_log) ≡ leb 4 (length l) =
      le-leb 4 (length other_log) (omega (arith, size_is)) ∙ sym (le-leb 4 (length l) (omega (arith, size_is))) in
      let c = ap₂ (λ n k. readable_from n k (drop 4 other_log)) same_count same_start ∙ readable_same rest_chain (start_of l) in
      λ i. b i && (leb (same_count i) max_revisions && (leb (same_start i) max_size && c i))

  pub behind_alike_log : AlikeLogs other_log l
  behind_alike_log = record {
    reads = same_readable;
    counts = same_count;
    starts = same_start;
    edits = same_edits;
    sizes = same_size;
    lengths = λ r h. unfold length_at in ap (λ n. length_in r n (drop 4 other_log)) same_start ∙ lengths_same rest_chain r (start_of l) h;
  }

-- ---- summary and play

module _ (l m : List ℕ) (a : AlikeLogs l m) where
  pub summary_unread : (out : List ℕ) → summary_call l out ≡ summary_call m out
  unfolding summary_call summary_fault
  summary_unread out =
      λ i. writing (needs (a.reads i) 6 (needs (composes_within (retain_whole (a.starts i)) (a.edits i)) 9 0)) (encode (compose_all (retain_whole (a.starts i)) (a.edits i))) out

  pub play_unread : (t : List ℕ) (x y : ℕ) (out : List ℕ) → play_call l t x y out ≡ play_call m t x y out
  unfolding play_call play_fault played
  play_unread t x y out =
      λ i.
      let need = longest (a.edits i) (chars t) in
      writing (needs (is_well_formed t) 3 (needs (a.reads i) 6 (needs (eqb (number_of_chars t) (a.starts i)) 8 (needs (leb need x && leb need y) 10 0))))
      (bytes (play_all (a.edits i) (chars t))) out

-- ---- accept and undo

needs_same : (t : Bool) (n : ℕ) {a b : ℕ} → (T t → a ≡ b) → needs t n a ≡ needs t n b
needs_same true n e = e tt
needs_same false n e = refl

-- what accept and undo leave where the bytes behind the log are others: the answer and the counterparts, and in the log's buffer
-- the same front, with the other bytes behind it untouched
pub record SameAccept (l more : List ℕ) (o o' : Outs) : Type 0 where
  pub answer : o'.answer ≡ o.answer
  pub counterparts : o'.out_b ≡ o.out_b
  pub log : let n = first_of (numbers o.answer) in o'.out_a ≡ take (size_of_log l + n) o.out_a ++ drop n more

module _ (l more : List ℕ) (whole : size_of_log l ≤ length l) (room : length more ≡ length l - size_of_log l) (out : List ℕ) where
  abbrev l' : List ℕ
  l' = other_log l more whole

  abbrev n : ℕ
  n = size_of_log l

  a : AlikeLogs l' l
  a = behind_alike_log l more whole

  same_length : length l' ≡ length l
  same_length = length-append (take n l) more ∙ omega (arith, own_length l more whole)

  same_join : (m : Moved) → join_fault m l' out ≡ join_fault m l out
  same_join m =
      λ i.
      needs (ltb (a.counts i) max_revisions && m.kept) 9
      (needs (leb (a.sizes i + length (encode m.edit)) (same_length i) && leb (length (encode_all m.counterparts)) (length out)) 10 0)

  taken : take n l' ≡ take n l
  taken = take_at (take n l) more n (own_length l more whole)

  dropped : drop n l' ≡ more
  dropped = drop_at (take n l) more n (own_length l more whole)

  -- the front of the log's buffer, once a record is appended
  abbrev front : List ℕ → List ℕ
  front rec = words (suc (count_of l) ∷ []) ++ (drop 2 (take n l) ++ rec)

  front_length : (rec : List ℕ) → length (front rec) ≡ n + length rec
  front_length rec =
      let s = own_length l more whole in
      let k = length-drop 2 (take n l) in
      let j = length-append (drop 2 (take n l)) rec in
      let z = size_is l more whole in
      omega arith

  appended : (log behind rec : List ℕ) → count_of log ≡ count_of l → size_of_log log ≡ n → take n log ≡ take n l → drop n log ≡ behind
      → append log rec ≡ front rec ++ drop (length rec) behind
  unfolding append put_at_front
  appended log behind rec c s t d =
      let x = drop (length rec) behind in
      (λ i. words (suc (c i) ∷ []) ++ drop 2 (take (s i) log ++ (rec ++ drop (length rec) (drop (s i) log))))
      ∙ (λ i. words (suc (count_of l) ∷ []) ++ drop 2 (t i ++ (rec ++ drop (length rec) (d i))))
      ∙ ap (λ y. words (suc (count_of l) ∷ []) ++ y) (drop-append-le 2 (take n l) (rec ++ x) (omega (arith, own_length l more whole, size_is l more whole)))
      ∙ ap (λ y. words (suc (count_of l) ∷ []) ++ y) (sym (append_assoc (drop 2 (take n l)) rec x))
      ∙ sym (append_assoc (words (suc (count_of l) ∷ [])) (drop 2 (take n l) ++ rec) x)

  settled : (m : Moved) (f : ℕ) → SameAccept l more (joining f m l out) (joining f m l' out)
  settled m zero =
      let rec = encode m.edit in
      let k = n + length rec in
      let here = appended l (drop n l) rec refl refl refl refl in
      record {
        answer = refl;
        counterparts = refl;
        log = appended l' more rec a.counts a.sizes taken dropped
            ∙ ap (λ y. y ++ drop (length rec) more) (sym (ap (take k) here ∙ take_at (front rec) _ k (front_length rec)));
      }
  settled m (suc f) = record { answer = refl; counterparts = refl; log = ap (λ y. y ++ more) (ap (λ k. take k l) (sym (add-zero n))) }

  module _ (edit edit' : List ℕ) (e : Alike edit' edit) (r : ℕ) where
    same_moved : moved_in edit' r l' ≡ moved_in edit r l
    unfolding moved_in
    same_moved = λ i. rebase (same_seq e i) (drop r (a.edits i))

    same_fault : accept_fault edit' r l' out ≡ accept_fault edit r l out
    unfolding accept_fault
    same_fault =
        (λ i.
        or_else (e.faults i)
        (needs (a.reads i) 6
        (needs (leb r (a.counts i)) 7
        (needs (eqb (e.bases i) (length_at r l')) 8
        ((ap (λ m. join_fault m l' out) same_moved ∙ same_join (moved_in edit r l)) i)))))
        ∙ ap (or_else (record_fault edit)) (ap (needs (readable l) 6)
        (needs_same (leb r (count_of l)) 7 (λ h.
        ap (λ n. needs (eqb (base_of edit) n) 8 (join_fault (moved_in edit r l) l out)) (a.lengths r (leb→le r (count_of l) h)))))

    pub accept_unread : SameAccept l more (accept_call edit r l out) (accept_call edit' r l' out)
    unfolding accept_call
    accept_unread = rw (same_fault, same_moved) (settled (moved_in edit r l) (accept_fault edit r l out))

  module _ (k : ℕ) (text : List ℕ) (x y : ℕ) where
    same_inverse : inverse_in l' k text ≡ inverse_in l k text
    unfolding inverse_in
    same_inverse = ap (λ es. invert (get_or es (k - 1) []) (play_all (take (k - 1) es) (chars text))) a.edits

    same_undone : moved_inverse l' k text ≡ moved_inverse l k text
    unfolding moved_inverse
    same_undone = λ i. rebase (same_inverse i) (drop k (a.edits i))

    same_refusal : undo_fault l' k text x y out ≡ undo_fault l k text x y out
    unfolding undo_fault
    same_refusal =
        λ i.
        let need = longest (take (k - 1) (a.edits i)) (chars text) in
        needs (is_well_formed text) 3
        (needs (a.reads i) 6
        (needs (leb 1 k && leb k (a.counts i)) 7
        (needs (eqb (number_of_chars text) (a.starts i)) 8
        (needs (leb need x && leb need y) 10
        (needs (fits (same_inverse i)) 9
        ((ap (λ m. join_fault m l' out) same_undone ∙ same_join (moved_inverse l k text)) i))))))

    pub undo_unread : SameAccept l more (undo_call l k text x y out) (undo_call l' k text x y out)
    unfolding undo_call
    undo_unread = rw (same_refusal, same_undone) (settled (moved_inverse l k text) (undo_fault l k text x y out))
