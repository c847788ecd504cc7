-- Revision k is inverted on the text before it, and the inverse is accepted.
use Rattle.std.specs.Prelude.{◌≡◌, ℕ, ◌+◌, ◌-◌, ◌<◌, ◌≤◌, Bool, true, false, T, eqb, leb, List, [], ◌∷◌, ◌++◌, length, take, drop, Result, Ok, Err}
use native.Mathlib.Omega.{arith}
use mathlib.Core.Path.{refl, sym, ap, ap₂, ◌∙◌, subst}
use mathlib.Core.List.{append-nil}
use borrow.Author.Tests.{leb-true}
use Rattle.buffers.specs.Buffers.{put_at_front}
use Rattle.buffers.proofs.Tests.{holds, known}
use Rattle.characters.specs.Chars.{number_of_chars}
use Rattle.characters.specs.Text.{chars}
use Rattle.edits.specs.Sequence.{Seq}
use Rattle.edits.specs.Invert.{invert}
use Rattle.edits.specs.Op.{base}
use Rattle.edits.proofs.Claims.{invert_built, invert_base}
use Rattle.answers.specs.Answer.{Answer, number, success, refused, succeeds, needs, or_else, answer_of}
use Rattle.answers.specs.InnerGiven.{Gives}
use Rattle.answers.specs.Output.{writing}
use Rattle.answers.specs.declared.Refusal.{Refusal}
use Rattle.answers.specs.declared.Refusal.TheVariants.{Limit}
use Rattle.answers.proofs.Outputs.{Wrote, wrote, writing_stops, writing_goes}
use Rattle.answers.proofs.Refusals.{needs_out}
use Rattle.record.specs.Layout.{base_of, op_count_of, start_of_text, max_record}
use Rattle.record.specs.Record.{ops, encode, fits, record_fault}
use Rattle.record.proofs.Records.{ops_encode, fault_encode, base_encode, encode_small, ops_target}
use Rattle.record.proofs.Sequences.{Good}
use Rattle.operational_transform.specs.Calls.{deliver}
use Rattle.invert.proofs.Inverses.{inverse_most}
use Rattle.session_log.specs.declared.inner.Scan.{Scan}
use Rattle.session_log.specs.Log.{count_of, readable, revisions, length_at}
use Rattle.session_log.specs.InnerScan.{Found}
use Rattle.session_log.proofs.Scanning.{place_inside, Revision, revision, to_end}
use Rattle.session.specs.Rows.{rebase}
use Rattle.session.specs.Session.{moved_in, join_fault, accept_fault, joining, accept_call}
use Rattle.append.specs.InnerAccepting.{Admitted, Accepts}
use Rattle.append.proofs.Answering.{accepts_many, admitted}
use Rattle.undo.specs.InnerUndoing.{Before, inverse_at, RoomFor, inverse_call, AcceptsInverse}

-- ---- a record with any bytes behind it is accepted as the record is

module _ (e : Seq) (good : Good e) (more : List ℕ) where
  read : (m : List ℕ) → (record_fault (encode e ++ m) ≡ 0) × (ops (encode e ++ m) ≡ e) × (base_of (encode e ++ m) ≡ base_of (encode e ++ []))
  read m = (fault_encode e m good, ops_encode e m, base_encode e m ∙ sym (base_encode e []))

  accept_behind : (k : ℕ) (log out : List ℕ) → accept_call (encode e ++ more) k log out ≡ accept_call (encode e ++ []) k log out
  unfolding accept_call accept_fault moved_in
  accept_behind k log out =
      let f = (read more).0 ∙ sym (read []).0 in
      let o = (read more).1 ∙ sym (read []).1 in
      let b = (read more).2 in
      λ i.
      joining
      (or_else (f i)
      (needs (readable log) 6
      (needs (leb k (count_of log)) 7 (needs (eqb (b i) (length_at k log)) 8 (join_fault (rebase (o i) (drop k (revisions log))) log out)))))
      (rebase (o i) (drop k (revisions log))) log out

  pub accept_encoded : (k : ℕ) (log out : List ℕ) → accept_call (encode e ++ more) k log out ≡ accept_call (encode e) k log out
  accept_encoded k log out = accept_behind k log out ∙ ap (λ x. accept_call x k log out) (append-nil (encode e))

-- ---- a buffer for the inverse

pub room_whole : (e : Seq) (buffer : List ℕ) → max_record ≤ length buffer → RoomFor e buffer
room_whole e buffer h = record { room = λ f. let z = encode_small e f in omega arith }

pub room_told : (rec text : List ℕ) (room x c : ℕ) → c ≡ op_count_of rec → x ≡ start_of_text c → leb (x + length text) room ≡ leb (start_of_text (op_count_of rec) + length text) room
room_told rec text room x c p q = ap (λ i. leb (i + length text) room) (q ∙ ap start_of_text p)

-- ---- `admit_inverse`

module _ (inverse : List ℕ) (k : ℕ) (log : List ℕ) (s : Scan) (z : record_fault inverse ≡ 0) (f : Found log k s) (rev : k ≤ count_of log) (b : base_of inverse ≡ length_at k log) where
  counted : k ≤ s.count
  counted = omega (arith, f.count)

  meets : base_of inverse ≡ s.len
  meets = b ∙ sym (f.len rev)

  pub admit_many : (out : List ℕ) → 256 ≤ s.count → Accepts inverse k log out (Err Limit) log out
  admit_many out h = accepts_many inverse k log out z s f counted (base_of inverse) refl meets h

  pub admit_few : s.count < 256 → Admitted inverse k log s
  admit_few h = admitted inverse k log [] z s f counted (base_of inverse) refl meets h

  pub admit_past : (j : ℕ) → j ≡ k → s.count - j ≡ count_of log - k
  admit_past j e = ap₂ ◌-◌ f.count e

  pub admit_newest : (n : ℕ) → n ≡ s.count - k → n ≡ 0 → k ≡ count_of log
  admit_newest n p q = omega (arith, f.count, rev)

-- ---- before revision k

module _ (log : List ℕ) (k : ℕ) (s : Scan) (at : ℕ) (here : List ℕ) (b : Before log k s at here) where
  abbrev part : List ℕ
  part = take (length log - at) (drop at log)

  this : Revision log (k - 1) at part
  this = revision log b.found.reads (k - 1) at (omega (arith, b.some, b.rev)) b.place

  pub before_inside : at ≤ length log
  before_inside = rw b.place (place_inside log b.found.reads (k - 1) (omega (arith, b.some, b.rev)))

  pub before_fault : record_fault part ≡ 0
  before_fault = this.faultless

  pub before_base : number_of_chars here ≡ base_of part
  before_base = b.chars_are ∙ sym this.base

  abbrev e : Seq
  e = inverse_at log at here

  inverse_is : invert (ops part) (chars here) ≡ e
  unfolding inverse_at
  inverse_is = ap (λ x. invert (ops x) (chars here)) (to_end log at)

  good : T (fits e) → Good e
  unfolding inverse_at
  good f = record { is_built = invert_built (ops (drop at log)) (chars here); in_limits = f }

  pub room_surely : (buffer : List ℕ) (v : Bool) → v ≡ leb (start_of_text (op_count_of part) + length here) (length buffer) → v ≡ true → RoomFor e buffer
  room_surely buffer v q h =
      let m = inverse_most part here before_fault b.well before_base (op_count_of part) refl in
      let z : length (encode e) ≡ length (encode (invert (ops part) (chars here))) = ap (λ x. length (encode x)) (sym inverse_is) in
      let l = leb-true (start_of_text (op_count_of part) + length here) (length buffer) (sym q ∙ h) in
      record { room = λ f. omega arith }

  -- ---- what `inverted` gave

  module _ (buffer : List ℕ) (r : RoomFor e buffer) (w : Result ℕ Refusal) (buffer' : List ℕ) (g : Gives (deliver 0 (invert (ops part) (chars here)) buffer) w buffer') where
    abbrev fault : ℕ
    fault = or_else 0 (needs (fits e) 9 0)

    answer_is : answer_of w ≡ (writing fault (encode e) buffer).answer
    unfolding deliver
    answer_is = g.answer ∙ ap (λ x. (deliver 0 x buffer).answer) inverse_is

    out_is : buffer' ≡ (writing fault (encode e) buffer).out
    unfolding deliver
    out_is = g.out ∙ ap (λ x. (deliver 0 x buffer).out) inverse_is

    pub inverse_refused : (out : List ℕ) (x : Refusal) → w ≡ Err x → AcceptsInverse e k log out (Err x) log out
    unfolding inverse_call
    inverse_refused out x q = go (fits e) refl
      where
        says : refused (number x) ≡ (writing fault (encode e) buffer).answer
        says = ap answer_of (sym q) ∙ answer_is

        stopped : Answer → Bool
        stopped (success ns) = false
        stopped (refused n) = true

        go : (y : Bool) → fits e ≡ y → AcceptsInverse e k log out (Err x) log out
        go true p =
            let z : fault ≡ 0 = ap (λ v. or_else 0 (needs v 9 0)) p in
            let f : T (fits e) = rw p tt in
            absurd (known (sym (ap stopped (says ∙ ap (λ v. v.answer) (sym (writing_goes fault (encode e) buffer z (r.room f)))))))
        go false p =
            let z : fault ≡ 9 = ap (λ v. or_else 0 (needs v 9 0)) p in
            record { answer = rw p (says ∙ sym (writing_stops fault (encode e) buffer 8 z)); log_is = rw p; out_is = rw p }

    module _ (n : ℕ) (q : w ≡ Ok n) where
      gives : Wrote fault (encode e) buffer
      gives = wrote fault (encode e) buffer (let z : success (n ∷ []) ≡ (writing fault (encode e) buffer).answer = ap answer_of (sym q) ∙ answer_is in subst (λ x. T (succeeds x)) z tt)

      in_limits : T (fits e)
      in_limits = (needs_out (fits e) 8 0 gives.no_fault).0

      stands : buffer' ≡ encode e ++ drop (length (encode e)) buffer
      unfolding put_at_front
      stands = out_is ∙ ap (λ x. x.out) gives.is

      pub inverse_fault : record_fault buffer' ≡ 0
      inverse_fault = ap record_fault stands ∙ fault_encode e (drop (length (encode e)) buffer) (good in_limits)

      pub inverse_base : base_of buffer' ≡ length_at k log
      unfolding inverse_at
      inverse_base =
          let r : k - 1 + 1 ≡ k = omega (arith, b.some) in
          ap base_of stands ∙ base_encode e (drop (length (encode e)) buffer)
          ∙ ap base (sym inverse_is) ∙ invert_base (ops part) (chars here) ∙ ops_target part before_fault ∙ this.target ∙ ap (λ i. length_at i log) r

      pub inverse_accepted : (out : List ℕ) (x : Result (ℕ × ℕ) Refusal) (log' out' : List ℕ) → Accepts buffer' k log out x log' out' → AcceptsInverse e k log out x log' out'
      unfolding inverse_call
      inverse_accepted out x log' out' a =
          let p = holds (fits e) in_limits in
          let z : accept_call buffer' k log out ≡ accept_call (encode e) k log out =
          ap (λ y. accept_call y k log out) stands ∙ accept_encoded e (good in_limits) (drop (length (encode e)) buffer) k log out in
          record {
            answer = rw p (a.answer ∙ ap (λ y. y.answer) z);
            log_is = rw p (a.log_is ∙ ap (λ y. y.out_a) z);
            out_is = rw p (a.out_is ∙ ap (λ y. y.out_b) z);
          }
