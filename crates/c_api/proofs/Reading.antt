-- Reading a call's number gives back its answer. Outputs are shorter than 2 ^ 63 bytes, as every buffer is.
use Rattle.std.specs.Prelude.{◌≡◌, ℕ, zero, suc, ◌+◌, ◌-◌, ◌*◌, ◌/◌, ◌%◌, ◌^◌, ◌<◌, ◌≤◌, true, T, eqb, leb, List, [], ◌∷◌, length}
use mathlib.Core.Path.{refl, ap, ap₂}
use native.Mathlib.Omega.{arith}
use lib.Dec.{leb→le}
use borrow.Author.Tests.{le-leb, lt-leb}
use mathlib.Core.Option.{Option, none as nothing, some}
use Rattle.buffers.specs.Buffers.{put_at_front}
use Rattle.buffers.specs.Words.{words}
use Rattle.buffers.proofs.Tests.{both}
use Rattle.characters.specs.Text.{chars, bytes}
use Rattle.edits.specs.Op.{retain, insert, delete}
use Rattle.edits.specs.Sequence.{Seq}
use Rattle.edits.specs.Build.{extend}
use Rattle.edits.specs.Apply.{apply}
use Rattle.edits.specs.Compose.{compose}
use Rattle.edits.specs.Invert.{invert}
use Rattle.answers.specs.declared.Refusal.{Refusal}
use Rattle.answers.specs.declared.Refusal.TheVariants.{Size, Entry, Utf8, Neighbours, Sums, Log, Revision, IncompatibleLengths, Limit, Room, Json}
use Rattle.answers.specs.Answer.{number, Answer, success, refused, unless_refused, needs, or_else}
use Rattle.answers.specs.Output.{Out, writing}
use Rattle.answers.proofs.Refusals.{needs_out, first_zero}
use Rattle.record.specs.Layout.{base_of, target_of, size_of, max_size}
use Rattle.record.specs.Record.{ops, record_fault, encode, fits}
use Rattle.record.specs.Calls.{check_call, base_call, target_call, no_effect, noop_call}
use Rattle.record.proofs.Faults.{InLimits, limits, faultless}
use Rattle.operational_transform.specs.Calls.{transform_call, records_fault, text_fault, base_text_fault, deliver, retain_call, delete_call, insert_call, apply_call, invert_call, compose_call}
use Rattle.json_lists.specs.Form.{Item, read}
use Rattle.json_lists.specs.Written.{written as list_of}
use Rattle.json_lists.specs.Calls.{ops_of, made, from_json_call, to_json_call}
use Rattle.session_log.specs.Log.{start_of, revisions}
use Rattle.session_log.specs.Open.{open_call}
use Rattle.session.specs.Session.{accept_call, undo_call, summary_fault, summary_call, played, play_fault, play_call}
use Rattle.session.specs.Rows.{retain_whole, compose_all}
use Rattle.packing.specs.Numbers.{packed, read_two, most, small, read_one}
use Rattle.c_api.proofs.Bounds.{transform_small, accept_small, undo_small}

-- a refusal's number is the low byte
pub low_byte : (x : Refusal) → (2 ^ 63 + number x) % 256 ≡ number x
low_byte Size = refl
low_byte Entry = refl
low_byte Utf8 = refl
low_byte Neighbours = refl
low_byte Sums = refl
low_byte Log = refl
low_byte Revision = refl
low_byte IncompatibleLengths = refl
low_byte Limit = refl
low_byte Room = refl
low_byte Json = refl

-- bit 63
is_set : (n : ℕ) → leb (2 ^ 63) (2 ^ 63 + n) ≡ true
is_set n = le-leb (2 ^ 63) (2 ^ 63 + n) (omega arith)

less : (n : ℕ) → 2 ^ 63 + n - 2 ^ 63 ≡ n
less n = omega arith

-- ---- two results

pub two : (a : Answer) → T (small a) → read_two (packed a) ≡ a
unfolding read_two
two (success []) h = absurd h
two (success (m ∷ [])) h = absurd h
two (success (m ∷ n ∷ [])) h =
    let (p, q) = (both (leb m most) (leb n most)).0 h in
    let i = leb→le m most p in
    let j = leb→le n most q in
    let low : (m + 2 ^ 32 * n) % 2 ^ 32 ≡ m = omega arith in
    let high : (m + 2 ^ 32 * n) / 2 ^ 32 ≡ n = omega arith in
    rw (lt-leb (2 ^ 63) (m + 2 ^ 32 * n) (omega arith)) (ap₂ (λ x y. success (x ∷ y ∷ [])) low high)
two (success (m ∷ n ∷ k ∷ ns)) h = absurd h
two (refused n) h = rw (is_set n) (ap refused (less n))

pub transform_read : (a b x y : List ℕ) → let r = (transform_call a b x y).answer in read_two (packed r) ≡ r
transform_read a b x y = two (transform_call a b x y).answer (transform_small a b x y)

pub accept_read : (edit : List ℕ) (r : ℕ) (log out : List ℕ) → let x = (accept_call edit r log out).answer in read_two (packed x) ≡ x
accept_read edit r log out = two (accept_call edit r log out).answer (accept_small edit r log out)

pub undo_read : (log : List ℕ) (k : ℕ) (text : List ℕ) (x y : ℕ) (out : List ℕ) → let a = (undo_call log k text x y out).answer in read_two (packed a) ≡ a
undo_read log k text x y out = two (undo_call log k text x y out).answer (undo_small log k text x y out)

-- ---- one result: a fact, or the size of what was written

one : (n : ℕ) → n < 2 ^ 63 → read_one n ≡ success (n ∷ [])
unfolding read_one
one n h = rw (lt-leb (2 ^ 63) n h)

none : (n : ℕ) → read_one (2 ^ 63 + n) ≡ refused n
unfolding read_one
none n = rw (is_set n) (ap refused (less n))

told : (f n : ℕ) → (f ≡ 0 → n < 2 ^ 63) → let a = unless_refused f refused (success (n ∷ [])) in read_one (packed a) ≡ a
told zero n h = one n (h refl)
told (suc f) n h = none (suc f)

module _ (r : List ℕ) where
  within : record_fault r ≡ 0 → InLimits r
  within z = (limits r).0 ((faultless r).0 z).in_limits

  pub check_read : read_one (packed (check_call r)) ≡ check_call r
  unfolding check_call
  check_read = told (record_fault r) (size_of r) (λ z. omega (arith, (within z).ops, (within z).text_bytes))

  pub base_read : read_one (packed (base_call r)) ≡ base_call r
  unfolding base_call
  base_read = told (record_fault r) (base_of r) (λ z. omega (arith, (within z).bases))

  pub target_read : read_one (packed (target_call r)) ≡ target_call r
  unfolding target_call
  target_read = told (record_fault r) (target_of r) (λ z. omega (arith, (within z).targets))

  pub noop_read : read_one (packed (noop_call r)) ≡ noop_call r
  unfolding noop_call
  noop_read = told (record_fault r) (no_effect (ops r)) (λ z. omega (arith, flag (ops r)))
    where
      flag : (s : Seq) → no_effect s ≤ 1
      flag [] = omega arith
      flag (retain n ∷ []) = omega arith
      flag (insert x ∷ []) = omega arith
      flag (delete n ∷ []) = omega arith
      flag (o ∷ q ∷ s) = omega arith

written : (f : ℕ) (w o : List ℕ) → length o < 2 ^ 63 → let a = (writing f w o).answer in read_one (packed a) ≡ a
unfolding writing
written f w o h = go (or_else f (needs (leb (length w) (length o)) 10 0)) (λ z. leb→le (length w) (length o) (needs_out (leb (length w) (length o)) 9 0 (first_zero f _ z).1).0)
  where
    result : ℕ → Out
    result k = unless_refused k (λ n. record { answer = refused n; out = o }) (record { answer = success (length w ∷ []); out = put_at_front w o })

    go : (k : ℕ) → (k ≡ 0 → length w ≤ length o) → read_one (packed (result k).answer) ≡ (result k).answer
    go zero p = one (length w) (omega (arith, p refl))
    go (suc k) p = none (suc k)

module _ (o : List ℕ) (h : length o < 2 ^ 63) where
  delivered : (f : ℕ) (s : Seq) → let a = (deliver f s o).answer in read_one (packed a) ≡ a
  unfolding deliver
  delivered f s = written (or_else f (needs (fits s) 9 0)) (encode s) o h

  module _ (r : List ℕ) where
    pub retain_read : (n : ℕ) → let a = (retain_call r n o).answer in read_one (packed a) ≡ a
    unfolding retain_call
    retain_read n = delivered (record_fault r) (extend (ops r) (retain n))

    pub delete_read : (n : ℕ) → let a = (delete_call r n o).answer in read_one (packed a) ≡ a
    unfolding delete_call
    delete_read n = delivered (record_fault r) (extend (ops r) (delete n))

    pub insert_read : (t : List ℕ) → let a = (insert_call r t o).answer in read_one (packed a) ≡ a
    unfolding insert_call
    insert_read t = delivered (text_fault r t) (extend (ops r) (insert (chars t)))

    pub apply_read : (t : List ℕ) → let a = (apply_call r t o).answer in read_one (packed a) ≡ a
    unfolding apply_call
    apply_read t = written (base_text_fault r t) (bytes (apply (ops r) (chars t))) o h

    pub invert_read : (t : List ℕ) → let a = (invert_call r t o).answer in read_one (packed a) ≡ a
    unfolding invert_call
    invert_read t = delivered (base_text_fault r t) (invert (ops r) (chars t))

    pub compose_read : (s : List ℕ) → let a = (compose_call r s o).answer in read_one (packed a) ≡ a
    unfolding compose_call
    compose_read s = delivered (or_else (records_fault r s) (needs (eqb (target_of r) (base_of s)) 8 0)) (compose (ops r) (ops s))

  pub from_json_read : (list : List ℕ) → let a = (from_json_call list o).answer in read_one (packed a) ≡ a
  unfolding from_json_call
  from_json_read list = go (read list)
    where
      go : (l : Option (List Item)) → let a = (made l o).answer in read_one (packed a) ≡ a
      go nothing = written 11 [] o h
      go (some l) = delivered 0 (ops_of l)

  pub to_json_read : (r : List ℕ) → let a = (to_json_call r o).answer in read_one (packed a) ≡ a
  unfolding to_json_call
  to_json_read r = written (record_fault r) (list_of (ops r)) o h

  pub open_read : (n : ℕ) → let a = (open_call n o).answer in read_one (packed a) ≡ a
  unfolding open_call
  open_read n = written (needs (leb n max_size) 9 0) (words (0 ∷ n ∷ [])) o h

  pub summary_read : (log : List ℕ) → let a = (summary_call log o).answer in read_one (packed a) ≡ a
  unfolding summary_call
  summary_read log = written (summary_fault log) (encode (compose_all (retain_whole (start_of log)) (revisions log))) o h

  pub play_read : (log t : List ℕ) (x y : ℕ) → let a = (play_call log t x y o).answer in read_one (packed a) ≡ a
  unfolding play_call
  play_read log t x y = written (play_fault log t x y) (played log t) o h
