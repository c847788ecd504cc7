-- What is promised of lists.
use Prim.Native.Nat.{ℕ, ◌≤◌}
use native.Mathlib.Omega.{arith}
use mathlib.Core.Path.{◌≡◌, refl, sym, ap, ap₂, ◌∙◌}
use mathlib.Core.Logic.{◌↔◌}
use mathlib.Core.Bool.{Bool, true, false, cond}
use mathlib.Core.List.{List, [], ◌∷◌, map}
use mathlib.Core.Option.{Option, none, some}
use lib.Dec.{T, leb, le→leb}
use lib.ListN.{length, take, drop}
use lib.Seq.{length-take-le}
use Rattle.characters.specs.Form.{is_well_formed}
use Rattle.characters.proofs.Leads.{within_bounds}
use Rattle.characters.proofs.Chars.{all_append}
use Rattle.buffers.specs.Lists.{all_of}
use Rattle.buffers.proofs.Tests.{both, holds, known}
use Rattle.answers.specs.Answer.{success, refused, succeeds, needs, or_else, unless_refused}
use Rattle.edits.specs.Built.{full, chained, built, Built}
use Rattle.record.specs.Layout.{size_of}
use Rattle.edits.specs.Sequence.{Seq}
use Rattle.record.specs.Record.{encode, fits, ops, record_fault}
use Rattle.answers.proofs.Refusals.{needs_out}
use Rattle.record.proofs.Faults.{limits, faultless}
use Rattle.record.proofs.Records.{Bytes, ops_encode, fault_encode, size_encode, ops_good, encode_ops}
use Rattle.edits.specs.Build.{build}
use Rattle.buffers.specs.Buffers.{put_at_front}
use Rattle.answers.specs.Output.{Out, writing}
use Rattle.operational_transform.specs.Calls.{deliver}
use Rattle.edits.proofs.Building.{build_built}
use Rattle.edits.proofs.Unique.{build_again}
use Rattle.operational_transform.proofs.Results.{Result}
use Rattle.answers.proofs.Outputs.{wrote, at_front_take, writing_goes}
use Rattle.json_lists.specs.Form.{Sign, Item, number, string, is_digit1_9, value_of_digit, at_start, is_end, reached, items, in_form, read}
use Rattle.json_lists.specs.Grammar.{JsonText}
use Rattle.json_lists.specs.Grammar as grammar
use Rattle.json_lists.specs.Written.{written}
use Rattle.json_lists.specs.Calls.{op_of, ops_of, made, from_json_call, to_json_call}
use Rattle.json_lists.proofs.Reading.{tight}
use Rattle.json_lists.proofs.Derived.{text_goes}
use Rattle.json_lists.proofs.Found.{text_found}
use Rattle.json_lists.proofs.Values.{item_of, op_item, reads_written}
use Rattle.json_lists.proofs.Limits.{delivers, deliver_over}
use Rattle.json_lists.proofs.WellWritten.{well_written}

-- ---- the form

-- a list is read exactly where it is UTF-8 that the grammar derives, as the items that the grammar gives
pub reads_grammar : (list : List ℕ) (l : List Item) → (read list ≡ some l) ↔ (T (is_well_formed list) × JsonText list l)
unfolding read in_form
reads_grammar list l = (
  λ e. there (in_form list) refl e,
  λ d.
      let g = text_goes d.1 in
      let f : in_form list ≡ true = rw (g.to, holds (is_well_formed list) d.0) in
      rw (f, g.has),
)
  where
    there : (t : Bool) → in_form list ≡ t → cond t (some (items at_start list)) none ≡ some l → T (is_well_formed list) × JsonText list l
    there true h e =
        let z : items at_start list ≡ l = cc e in
        let (w, k) = (both (is_well_formed list) (is_end (reached at_start list))).0 (known h) in
        (w, rw z at (text_found list k))
    there false h e = absurd (let z : ◌≡◌ {A = ℕ} 0 1 = cc e in omega arith)

-- the item is no number 0
abbrev pub non_zero : Item → Bool
non_zero (number s n) = leb 1 n
non_zero (string t) = true

int_positive : {t : List ℕ} {n : ℕ} → grammar.Int t n → 1 ≤ n
unfolding is_digit1_9 value_of_digit
int_positive (grammar.Int.first {b = b} h) = omega (arith, within_bounds _ _ b h)
int_positive (grammar.Int.more i b h) = omega (arith, int_positive i)

number_positive : {t : List ℕ} {s : Sign} {n : ℕ} → grammar.Number t s n → T (leb 1 n)
number_positive (grammar.Number.positive {n = n} i) = le→leb 1 n (int_positive i)
number_positive (grammar.Number.negative {n = n} i) = le→leb 1 n (int_positive i)

value_positive : {t : List ℕ} {x : Item} → grammar.Value t x → T (all_of non_zero (x ∷ []))
value_positive (grammar.Value.of_number {n = n} k) = (both (leb 1 n) true).1 (number_positive k, tt)
value_positive (grammar.Value.of_string k) = tt

values_positive : {t : List ℕ} {l : List Item} → grammar.Values t l → T (all_of non_zero l)
values_positive (grammar.Values.one v) = value_positive v
values_positive (grammar.Values.more {l = l} {x = x} k c v) =
    rw (all_append non_zero l (x ∷ [])) ((both (all_of non_zero l) (all_of non_zero (x ∷ []))).1 (values_positive k, value_positive v))

-- "11 .. for .. a 0 or -0": no number of a list that is read is 0
pub no_zero : (list : List ℕ) (l : List Item) → read list ≡ some l → T (all_of non_zero l)
no_zero list l e = text ((reads_grammar list l).0 e).1
  where
    array : {t : List ℕ} {l : List Item} → grammar.Array t l → T (all_of non_zero l)
    array (grammar.Array.empty a z) = tt
    array (grammar.Array.full a k z) = values_positive k

    text : {t : List ℕ} {l : List Item} → JsonText t l → T (all_of non_zero l)
    text (grammar.JsonText.json_text w a v) = array a

-- ---- on sequences

all_full : (s : Seq) → Built s → T (all_of full s)
unfolding built
all_full s h = ((both (all_of full s) (chained s)).0 h).0

op_items : (s : Seq) → map op_of (map item_of s) ≡ s
op_items [] = refl
op_items (o ∷ s) = ap₂ ◌∷◌ (op_item o) (op_items s)

-- a list is read as the sequence
pub record ReadAs (s : Seq) (list : List ℕ) : Type 0 where
  pub its_items : List Item
  pub reads : read list ≡ some its_items
  pub same : ops_of its_items ≡ s

-- "Reading a written list returns the same record, for every record.", on built sequences, which records hold
pub read_back : (s : Seq) → Built s → ReadAs s (written s)
unfolding read ops_of
read_back s h =
    let r = reads_written s (all_full s h) in
    let f : in_form (written s) ≡ true = rw (r.to, holds (is_well_formed (written s)) (well_written s)) in
    record {
      its_items = map item_of s;
      reads = rw (f, r.has);
      same = ap build (op_items s) ∙ build_again s h;
    }

-- "Write one without white space": none outside of strings
pub no_white_space : (s : Seq) → Built s → T (tight at_start (written s))
no_white_space s h = (reads_written s (all_full s h)).no_space

-- ---- on calls

-- what a call that writes a list leaves
pub record WroteList (rec buffer : List ℕ) : Type 0 where
  pub passes : record_fault rec ≡ 0
  pub answer : (to_json_call rec buffer).answer ≡ success (length (written (ops rec)) ∷ [])
  pub list : take (length (written (ops rec))) (to_json_call rec buffer).out ≡ written (ops rec)

pub wrote_list : (rec buffer : List ℕ) → T (succeeds (to_json_call rec buffer).answer) → WroteList rec buffer
unfolding to_json_call
wrote_list rec buffer g =
    let l = written (ops rec) in
    let w = wrote (record_fault rec) l buffer g in
    record {
      passes = w.no_fault;
      answer = ap (λ (o : Out). o.answer) w.is;
      list = ap (λ (o : Out). take (length l) o.out) w.is ∙ at_front_take l buffer;
    }

-- a record that passes is written wherever there is room
pub list_goes : (rec buffer : List ℕ) → record_fault rec ≡ 0 → length (written (ops rec)) ≤ length buffer → T (succeeds (to_json_call rec buffer).answer)
unfolding to_json_call
list_goes rec buffer z h = rw (← writing_goes (record_fault rec) (written (ops rec)) buffer z h) tt

delivered : (s : Seq) (out : List ℕ) → T (succeeds (deliver 0 s out).answer) → T (fits s) × ((deliver 0 s out).out ≡ put_at_front (encode s) out)
unfolding deliver
delivered s out g =
    let w = wrote (needs (fits s) 9 0) (encode s) out g in ((needs_out (fits s) 8 0 w.no_fault).0, ap (λ (o : Out). o.out) w.is)

from_written : (s : Seq) (out : List ℕ) → Built s → T (fits s) → from_json_call (written s) out ≡ writing 0 (encode s) out
unfolding from_json_call
from_written s out h f =
    let r = read_back s h in ap (λ o. made o out) r.reads ∙ ap (λ u. deliver 0 u out) r.same ∙ delivers s out f

-- "Reading a written list returns the same record, for every record.": what was written is read as the record's own bytes,
-- which go to the output, or are refused by 10
pub record ComesBack (rec buffer out : List ℕ) : Type 0 where
  pub size : ℕ
  pub answer : (to_json_call rec buffer).answer ≡ success (size ∷ [])
  pub same : from_json_call (take size (to_json_call rec buffer).out) out ≡ writing 0 (take (size_of rec) rec) out

pub comes_back : (rec buffer out : List ℕ) → Bytes rec → T (succeeds (to_json_call rec buffer).answer) → ComesBack rec buffer out
comes_back rec buffer out b g =
    let w = wrote_list rec buffer g in
    let good = ops_good rec w.passes in
    record {
      size = length (written (ops rec));
      answer = w.answer;
      same =
          ap (λ l. from_json_call l out) w.list ∙ from_written (ops rec) out good.is_built good.in_limits
          ∙ ap (λ l. writing 0 l out) (encode_ops rec w.passes b);
    }

-- for every record, with room for both
pub comes_back_whole : (rec buffer out : List ℕ) → Bytes rec → record_fault rec ≡ 0 → length (written (ops rec)) ≤ length buffer → size_of rec ≤ length out
    → from_json_call (take (length (written (ops rec))) (to_json_call rec buffer).out) out ≡ record { answer = success (size_of rec ∷ []); out = put_at_front (take (size_of rec) rec) out }
unfolding comes_back
comes_back_whole rec buffer out b z h k =
    let r = take (size_of rec) rec in
    let n : length r ≡ size_of rec = length-take-le (size_of rec) rec ((limits rec).0 ((faultless rec).0 z).in_limits).whole in
    (comes_back rec buffer out b (list_goes rec buffer z h)).same
    ∙ sym (writing_goes 0 r out refl (omega arith))
    ∙ λ i. record { answer = success (n i ∷ []); out = put_at_front r out }

-- writing what was read, and reading that again, changes nothing
pub record Settles (list out buffer again : List ℕ) : Type 0 where
  pub size : ℕ
  pub answer : (to_json_call (from_json_call list out).out buffer).answer ≡ success (size ∷ [])
  pub same : from_json_call (take size (to_json_call (from_json_call list out).out buffer).out) again ≡ from_json_call list again

ops_front : (s : Seq) (out : List ℕ) → ops (put_at_front (encode s) out) ≡ s
unfolding put_at_front
ops_front s out = ops_encode s (drop (length (encode s)) out)

pub ops_built : (l : List Item) → Built (ops_of l)
unfolding ops_of
ops_built l = build_built (map op_of l)

pub from_read : (list out : List ℕ) {o : Option (List Item)} → read list ≡ o → from_json_call list out ≡ made o out
unfolding from_json_call
from_read list out e = ap (λ x. made x out) e

none_goes : (out : List ℕ) → T (succeeds (made none out).answer) → ⊥
unfolding writing
none_goes out h = h

pub settles : (list out buffer again : List ℕ) → T (succeeds (from_json_call list out).answer) → T (succeeds (to_json_call (from_json_call list out).out buffer).answer)
    → Settles list out buffer again
settles list out buffer again g k = go (read list) refl
  where
    go : (o : Option (List Item)) → read list ≡ o → Settles list out buffer again
    go none e = absurd (none_goes out (rw (from_read list out e) at g))
    go (some l) e =
        let s = ops_of l in
        let (f, d) = delivered s out (rw (from_read list out e) at g) in
        let w = wrote_list (from_json_call list out).out buffer k in
        let same : ops (from_json_call list out).out ≡ s = ap (λ (o : Out). ops o.out) (from_read list out e) ∙ ap ops d ∙ ops_front s out in
        record {
          size = length (written (ops (from_json_call list out).out));
          answer = w.answer;
          same =
              ap (λ l. from_json_call l again) (w.list ∙ ap written same) ∙ from_written s again (ops_built l) f
              ∙ sym (delivers s again f) ∙ sym (from_read list again e);
        }

-- ---- what refuses a list

no_eleven : (s : Seq) (out : List ℕ) → (deliver 0 s out).answer ≡ refused 11 → ⊥
unfolding deliver
no_eleven s out e = go (fits s) (leb (length (encode s)) (length out)) e
  where
    outcome : ℕ → Out
    outcome k = unless_refused k (λ n. record { answer = refused n; out = out }) (record { answer = success (length (encode s) ∷ []); out = put_at_front (encode s) out })

    go : (x y : Bool) → (outcome (or_else (needs x 9 0) (needs y 10 0))).answer ≡ refused 11 → ⊥
    go true true e = let z : ◌≡◌ {A = ℕ} 0 1 = cc e in omega arith
    go true false e = let z : ◌≡◌ {A = ℕ} 10 11 = cc e in omega arith
    go false y e = let z : ◌≡◌ {A = ℕ} 9 11 = cc e in omega arith

-- 11 exactly where the bytes are outside the form, whatever else is wrong
pub eleven : (list out : List ℕ) → ((from_json_call list out).answer ≡ refused 11) ↔ (read list ≡ none)
unfolding writing
eleven list out = (λ e. go (read list) refl e, λ e. ap (λ o. o.answer) (from_read list out e))
  where
    go : (o : Option (List Item)) → read list ≡ o → (from_json_call list out).answer ≡ refused 11 → read list ≡ none
    go none p e = p
    go (some l) p e = absurd (no_eleven (ops_of l) out (ap (λ o. o.answer) (sym (from_read list out p)) ∙ e))

-- 9 where the record of its items would pass a limit
pub nine : (list out : List ℕ) (l : List Item) → read list ≡ some l → fits (ops_of l) ≡ false → from_json_call list out ≡ record { answer = refused 9; out = out }
nine list out l e f = from_read list out e ∙ deliver_over (ops_of l) out f

-- a record that was made of a list can be read, and is the built sequence of its items
pub record MadeOf (list out : List ℕ) : Type 0 where
  pub its_items : List Item
  pub reads : read list ≡ some its_items
  pub result : Result (ops_of its_items) (from_json_call list out)

pub made_of : (list out : List ℕ) → T (succeeds (from_json_call list out).answer) → MadeOf list out
unfolding put_at_front
made_of list out g = go (read list) refl
  where
    go : (o : Option (List Item)) → read list ≡ o → MadeOf list out
    go none e = absurd (none_goes out (rw (from_read list out e) at g))
    go (some l) e =
        let s = ops_of l in
        let c = from_read list out e in
        let (f, d) = delivered s out (rw c at g) in
        let more = drop (length (encode s)) out in
        let w = wrote 0 (encode s) out (rw (c ∙ delivers s out f) at g) in
        let i : from_json_call list out ≡ record { answer = success (length (encode s) ∷ []); out = put_at_front (encode s) out } = c ∙ delivers s out f ∙ w.is in
        record {
          its_items = l;
          reads = e;
          result = record {
            size = length (encode s);
            answer = ap (λ (o : Out). o.answer) i;
            out = rw i (record { readable = fault_encode s more (record { is_built = ops_built l; in_limits = f }); reads = ops_encode s more; size = size_encode s more });
          };
        }
