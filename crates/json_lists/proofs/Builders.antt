-- "Read such a list through the builders": a list gives what the builders give, item by item, and 9 for the list is 9 for one of them.
use Prim.Native.Nat.{ℕ, ◌≤◌}
use native.Mathlib.Omega.{arith}
use mathlib.Core.Path.{◌≡◌, refl, sym, ap, ◌∙◌}
use mathlib.Core.Bool.{Bool, true, false, cond}
use mathlib.Core.List.{List, [], ◌∷◌, ◌++◌, map, map-append, reverse, reverse-reverse, append_assoc, append-nil}
use mathlib.Core.Option.{Option, none, some}
use lib.Dec.{T, leb}
use lib.ListN.{length}
use Rattle.buffers.specs.Lists.{all_of}
use Rattle.buffers.specs.Buffers.{put_at_front}
use Rattle.buffers.proofs.Tests.{both, holds, known}
use Rattle.characters.specs.Form.{is_well_formed}
use Rattle.characters.specs.Text.{chars}
use Rattle.answers.specs.Answer.{Answer, success, refused, needs, or_else, unless_refused}
use Rattle.answers.specs.Given.{given}
use Rattle.answers.specs.Output.{Out, writing}
use Rattle.answers.proofs.Outputs.{at_front_take, writing_goes}
use Rattle.edits.specs.Op.{retain, insert, delete}
use Rattle.edits.specs.Build.{add, add_all, build, extend}
use Rattle.edits.specs.Sequence.{Seq}
use Rattle.edits.proofs.Building.{add_all_append}
use Rattle.record.specs.Layout.{max_record}
use Rattle.record.specs.Record.{encode, fits, ops, record_fault}
use Rattle.record.proofs.Records.{encode_small, ops_encode, fault_encode}
use Rattle.operational_transform.specs.Calls.{deliver, retain_call, delete_call, insert_call}
use Rattle.json_lists.specs.Form.{plus, minus, Item, number, string, read}
use Rattle.json_lists.specs.Calls.{op_of, ops_of, from_json_call}
use Rattle.json_lists.proofs.Strings.{well_item, strings_well}
use Rattle.json_lists.proofs.Limits.{passes_early, delivers, deliver_over}
use Rattle.json_lists.proofs.Theorems.{from_read, ops_built, nine}

-- ---- items behind others

behind : (l k : List Item) → ops_of (l ++ k) ≡ reverse (add_all (add_all [] (map op_of l)) (map op_of k))
unfolding ops_of build
behind l k = ap (λ s. reverse (add_all [] s)) (map-append op_of l k) ∙ ap reverse (add_all_append [] (map op_of l) (map op_of k))

-- The empty string changes nothing.
pub empty_string : (l m : List Item) → ops_of (l ++ (string [] ∷ m)) ≡ ops_of (l ++ m)
unfolding add_all op_of
empty_string l m = behind l (string [] ∷ m) ∙ sym (behind l m)

-- ---- the builders, one after another

-- The builder that takes one item is called on the record so far, and writes to the buffer `room`.
unfoldable pub item_call : List ℕ → Item → List ℕ → Out
unfolding retain_call delete_call insert_call
item_call rec (number plus n) room = retain_call rec n room
item_call rec (number minus n) room = delete_call rec n room
item_call rec (string t) room = insert_call rec t room

-- A run of builders ends with the record that they have made, or with the number of the first one that refuses.
pub data Ending : Type 0 where
  finished : List ℕ → Ending
  stopped : ℕ → Ending

-- A call's answer decides whether the run goes on.
abbrev pub goes_further : Answer → Ending → Ending
goes_further (success ns) later = later
goes_further (refused n) later = stopped n

-- The builders take the items one after another, and each takes the record that the one before it has written.
unfoldable pub run_from : List ℕ → List Item → List ℕ → Ending
unfolding item_call
run_from rec [] room = finished rec
run_from rec (x ∷ l) room = let o = item_call rec x room in goes_further o.answer (run_from (given o) l room)

-- The first one takes the record of the empty sequence.
unfoldable pub run : List Item → List ℕ → Ending
unfolding run_from encode
run l room = run_from (encode []) l room

-- ---- one builder

-- on a record that passes, a builder delivers the sequence with one operation more
item_delivers : (rec : List ℕ) (x : Item) (room : List ℕ) {s : Seq} → record_fault rec ≡ 0 → ops rec ≡ s → T (well_item x)
    → item_call rec x room ≡ deliver 0 (extend s (op_of x)) room
unfolding item_call op_of
item_delivers rec (number plus n) room z e w = λ i. deliver (z i) (extend (e i) (retain n)) room
item_delivers rec (number minus n) room z e w = λ i. deliver (z i) (extend (e i) (delete n)) room
item_delivers rec (string t) room z e w = λ i. deliver (or_else (z i) (needs (holds (is_well_formed t) w i) 3 0)) (extend (e i) (insert (chars t))) room

one_more : (l : List Item) (x : Item) → extend (ops_of l) (op_of x) ≡ ops_of (l ++ (x ∷ []))
unfolding extend add_all ops_of build
one_more l x = ap (λ r. reverse (add r (op_of x))) (reverse-reverse (add_all [] (map op_of l))) ∙ sym (behind l (x ∷ []))

-- the record of some items passes, where they keep the limits, and reads as their sequence
module _ (l : List Item) where
  bare : encode (ops_of l) ++ [] ≡ encode (ops_of l)
  bare = append-nil (encode (ops_of l))

  passes : T (fits (ops_of l)) → record_fault (encode (ops_of l)) ≡ 0
  passes f = ap record_fault (sym bare) ∙ fault_encode (ops_of l) [] (record { is_built = ops_built l; in_limits = f })

  reads : ops (encode (ops_of l)) ≡ ops_of l
  reads = ap ops (sym bare) ∙ ops_encode (ops_of l) []

  -- so a builder makes the record of one item more, or refuses by 9
  takes_item : (x : Item) (room : List ℕ) → T (fits (ops_of l)) → T (well_item x) → item_call (encode (ops_of l)) x room ≡ deliver 0 (ops_of (l ++ (x ∷ []))) room
  takes_item x room f w = item_delivers (encode (ops_of l)) x room (passes f) reads w ∙ ap (λ s. deliver 0 s room) (one_more l x)

-- ---- a run of builders

-- how a run ends that is to make this sequence
abbrev ending : Seq → Ending
ending s = cond (fits s) (finished (encode s)) (stopped 9)

-- the run behind one builder's call
abbrev further : Out → List Item → List ℕ → Ending
further o l room = goes_further o.answer (run_from (given o) l room)

run_step : (rec : List ℕ) (x : Item) (l : List Item) (room : List ℕ) {o : Out} → item_call rec x room ≡ o → run_from rec (x ∷ l) room ≡ further o l room
unfolding run_from
run_step rec x l room e = ap (λ o. further o l room) e

-- a builder with room for every record goes on with the record that it has made
step_goes : (s : Seq) (l : List Item) (room : List ℕ) → T (fits s) → max_record ≤ length room → further (deliver 0 s room) l room ≡ run_from (encode s) l room
step_goes s l room f h =
    let k : length (encode s) ≤ length room = omega (arith, encode_small s f) in
    ap (λ o. further o l room) (delivers s room f ∙ sym (writing_goes 0 (encode s) room refl k))
    ∙ ap (λ rec. run_from rec l room) (at_front_take (encode s) room)

-- or stops at a limit
step_stops : (s : Seq) (l : List Item) (room : List ℕ) → fits s ≡ false → further (deliver 0 s room) l room ≡ stopped 9
step_stops s l room e = ap (λ o. further o l room) (deliver_over s room e)

run_none : (rec room : List ℕ) → run_from rec [] room ≡ finished rec
unfolding run_from
run_none rec room = refl

-- the run ends as the limits decide of all items together
run_ends : (k l : List Item) (room : List ℕ) → T (fits (ops_of k)) → T (all_of well_item l) → max_record ≤ length room
    → run_from (encode (ops_of k)) l room ≡ ending (ops_of (k ++ l))
run_ends k [] room f w h = run_none (encode (ops_of k)) room ∙ rw (append-nil k, holds (fits (ops_of k)) f)
run_ends k (x ∷ l) room f w h =
    let (v, r) = (both (well_item x) (all_of well_item l)).0 w in
    run_step (encode (ops_of k)) x l room (takes_item k x room f v) ∙ go (fits s) refl (λ g. run_ends (k ++ (x ∷ [])) l room g r h)
  where
    s : Seq
    s = ops_of (k ++ (x ∷ []))

    joined : (k ++ (x ∷ [])) ++ l ≡ k ++ (x ∷ l)
    joined = append_assoc k (x ∷ []) l

    go : (t : Bool) → fits s ≡ t → (T (fits s) → run_from (encode s) l room ≡ ending (ops_of ((k ++ (x ∷ [])) ++ l)))
        → further (deliver 0 s room) l room ≡ ending (ops_of (k ++ (x ∷ l)))
    go true e ih = step_goes s l room (known e) h ∙ ih (known e) ∙ ap (λ m. ending (ops_of m)) joined
    go false e ih =
        step_stops s l room e
        ∙ sym (ap (λ t. cond t (finished (encode (ops_of (k ++ (x ∷ l))))) (stopped 9)) (ap (λ m. fits (ops_of m)) (sym joined) ∙ passes_early (k ++ (x ∷ [])) l e))

-- ---- a list and its builders

-- What a list gives agrees with how a run of its builders ends: with the record where they finish, with 9 where one of them refuses,
-- which can only be by 9.
abbrev pub Agrees : Ending → Out → List ℕ → Type 0
Agrees (finished rec) o out = o ≡ writing 0 rec out
Agrees (stopped n) o out = (n ≡ 9) × (o ≡ record { answer = refused 9; out = out })

module _ (list : List ℕ) (l : List Item) (room : List ℕ) (e : read list ≡ some l) (h : max_record ≤ length room) where
  ends_so : run l room ≡ ending (ops_of l)
  unfolding run ops_of fits
  ends_so = run_ends [] l room tt (strings_well list l e) h

  -- A list that is read gives what its builders give, one after another.
  pub by_builders : (out : List ℕ) → Agrees (run l room) (from_json_call list out) out
  by_builders out = rw ends_so (go (fits (ops_of l)) refl)
    where
      go : (t : Bool) → fits (ops_of l) ≡ t → Agrees (cond t (finished (encode (ops_of l))) (stopped 9)) (from_json_call list out) out
      go true p = from_read list out e ∙ delivers (ops_of l) out (known p)
      go false p = (refl, nine list out l e p)

-- where a record only has to be written, no answer is 9
not_nine : (rec out : List ℕ) → (writing 0 rec out).answer ≡ refused 9 → ⊥
unfolding writing
not_nine rec out e = go (leb (length rec) (length out)) e
  where
    outcome : Bool → Out
    outcome t = unless_refused (needs t 10 0) (λ n. record { answer = refused n; out = out }) (record { answer = success (length rec ∷ []); out = put_at_front rec out })

    go : (t : Bool) → (outcome t).answer ≡ refused 9 → ⊥
    go true e = let z : ◌≡◌ {A = ℕ} 0 1 = cc e in omega arith
    go false e = let z : ◌≡◌ {A = ℕ} 10 9 = cc e in omega arith

-- A list is read, and one of its builders refuses by 9.
pub record StopsAtNine (list room : List ℕ) : Type 0 where
  pub its_items : List Item
  pub reads : read list ≡ some its_items
  pub stops : run its_items room ≡ stopped 9

-- Where a list is refused by 9, one of its builders refuses by 9.
pub nine_for_one : (list room out : List ℕ) → max_record ≤ length room → (from_json_call list out).answer ≡ refused 9 → StopsAtNine list room
unfolding writing
nine_for_one list room out h e = go (read list) refl
  where
    go : (o : Option (List Item)) → read list ≡ o → StopsAtNine list room
    go none r = absurd (let z : ◌≡◌ {A = ℕ} 11 9 = cc (ap (λ (o : Out). o.answer) (sym (from_read list out r)) ∙ e) in omega arith)
    go (some l) r = ends (fits (ops_of l)) refl
      where
        ends : (t : Bool) → fits (ops_of l) ≡ t → StopsAtNine list room
        ends true p = absurd (not_nine (encode (ops_of l)) out (ap (λ (o : Out). o.answer) (sym (from_read list out r ∙ delivers (ops_of l) out (known p))) ∙ e))
        ends false p = record { its_items = l; reads = r; stops = ends_so list l room r h ∙ ap (λ t. cond t (finished (encode (ops_of l))) (stopped 9)) p }
