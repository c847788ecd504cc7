-- A list's record: what is read, judged and put together is what the call gives.
use Rattle.std.specs.Prelude.{◌≡◌, ℕ, ◌+◌, ◌^◌, ◌≤◌, Bool, true, false, cond, T, eqb, leb, ◌⊎◌, List, [], ◌∷◌, ◌++◌, map, reverse, length, Result, Ok, Err, Option, Some, None}
use native.Mathlib.Omega.{arith}
use mathlib.Core.Path.{refl, sym, ap, ◌∙◌}
use mathlib.Core.Logic.{inl, inr}
use mathlib.Core.List.{append_assoc, append-nil}
use mathlib.Core.Option.{none, some}
use lib.ListN.{length-append, length-map, length-reverse}
use borrow.Author.Tests.{leb-true}
use Rattle.buffers.specs.Lists.{all_of}
use Rattle.buffers.specs.InnerOver.{over}
use Rattle.buffers.proofs.Tests.{both, known, holds}
use Rattle.characters.proofs.Texts.{bytes_chars}
use Rattle.edits.specs.Build.{add, add_all, build}
use Rattle.edits.specs.Sequence.{Seq}
use Rattle.answers.specs.Output.{writing}
use Rattle.answers.specs.InnerGiven.{Gives}
use Rattle.answers.specs.declared.Refusal.{Refusal}
use Rattle.answers.specs.declared.Refusal.TheVariants.{Json, Limit, Room}
use Rattle.record.specs.Layout.{start_of_text, max_ops}
use Rattle.record.specs.Record.{in_bytes, inserted, text, fits}
use Rattle.places.specs.InnerOps.{relocated_ops}
use Rattle.emitter.specs.declared.inner.Emitter.{Emitter}
use Rattle.emitter.specs.InnerEmit.{Under, Done, Writes, headed, size_in, within_limits, limits_before_room}
use Rattle.emitter.proofs.Counting.{add_all_length}
use Rattle.emitter.proofs.Delivering.{within_inside}
use Rattle.emitter.proofs.Giving.{gives_refused, gives_written, gives_limit}
use Rattle.emitter.proofs.Loops.{add_text, add_bytes}
use Rattle.emitter.proofs.Staging.{marks, marked_writes}
use Rattle.operational_transform.specs.Calls.{deliver}
use Rattle.json_lists.specs.Form.{plus, minus, Item, number, string, is_digit, Place, at_start, after_bracket, after_comma, after_minus, in_number, in_string, after_escape, in_unicode, after_high, after_high_escape, after_value, at_end, outside, next, ends, items, in_form, read}
use Rattle.json_lists.specs.Calls.{op_of, ops_of, made, from_json_call}
use Rattle.json_lists.proofs.Strings.{well_item, strings_well}
use Rattle.json_texts.specs.InnerTexts.{texts}
use Rattle.json_read.specs.InnerReading.{Finished, ListIs, ListRead}
use Rattle.json_read.proofs.Holding.{in_bytes_reverse}
use Rattle.json_edits.specs.InnerStages.{Placeable, Enough}

-- ---- the text of a list's record

inserted_is : (x : Item) (l : List Item) → T (well_item x) → inserted (in_bytes (op_of x)) ++ texts l ≡ texts (x ∷ l)
unfolding op_of in_bytes
inserted_is (number plus n) l h = refl
inserted_is (number minus n) l h = refl
inserted_is (string t) l h = ap (λ u. u ++ texts l) (bytes_chars t h)

gathered : (l : List Item) (acc : Seq) → T (all_of well_item l) → text (reverse (map in_bytes (add_all acc (map op_of l)))) ≡ text (reverse (map in_bytes acc)) ++ texts l
unfolding add_all
gathered [] acc h = sym (append-nil (text (reverse (map in_bytes acc))))
gathered (x ∷ l) acc h =
    let (w, k) = (both (well_item x) (all_of well_item l)).0 h in
    let r = map in_bytes acc in
    gathered l (add acc (op_of x)) k
    ∙ ap (λ s. text (reverse s) ++ texts l) (add_bytes acc (op_of x))
    ∙ ap (λ u. u ++ texts l) (add_text r (in_bytes (op_of x)))
    ∙ append_assoc (text (reverse r)) (inserted (in_bytes (op_of x))) (texts l)
    ∙ ap (λ u. text (reverse r) ++ u) (inserted_is x l w)

-- it is the texts of the strings, one behind another
text_is : (t : List ℕ) → T (in_form t) → text (map in_bytes (ops_of (items at_start t))) ≡ texts (items at_start t)
unfolding ops_of build read add_all
text_is t f =
    let l = items at_start t in
    let acc = add_all [] (map op_of l) in
    let r : read t ≡ some l = ap (λ b. cond b (some l) none) (holds (in_form t) f) in
    ap text (in_bytes_reverse acc []) ∙ gathered l [] (strings_well t l r)

-- ---- how many operations it has

one_most : (p : Place) (b : ℕ) → length (ends p b) ≤ 1
unfolding ends
one_most at_start b = omega arith
one_most after_bracket b = omega arith
one_most after_comma b = omega arith
one_most after_minus b = omega arith
one_most (in_number s n) b = go (is_digit b)
  where
    go : (x : Bool) → length (cond x [] (number s n ∷ [])) ≤ 1
    go true = omega arith
    go false = omega arith
one_most (in_string t) b = go (eqb b 0x22)
  where
    go : (x : Bool) → length (cond x (string t ∷ []) []) ≤ 1
    go true = omega arith
    go false = omega arith
one_most (after_escape t) b = omega arith
one_most (in_unicode high due v t) b = omega arith
one_most (after_high high t) b = omega arith
one_most (after_high_escape high t) b = omega arith
one_most after_value b = omega arith
one_most at_end b = omega arith
one_most outside b = omega arith

items_few : (bs : List ℕ) (p : Place) → length (items p bs) ≤ length bs
unfolding items
items_few [] p = omega arith
items_few (b ∷ bs) p = omega (arith, one_most p b, items_few bs (next p b), length-append (ends p b) (items (next p b) bs))

ops_few : (t : List ℕ) → length (ops_of (items at_start t)) ≤ length t
unfolding ops_of build
ops_few t =
    let l = items at_start t in
    omega (arith, length-reverse (add_all [] (map op_of l)), add_all_length [] (map op_of l), length-map l op_of, items_few t at_start)

-- ---- `place`

module _ (t stage : List ℕ) (slots : ℕ) (e : Emitter) (out : List ℕ) (p : Placeable t stage slots e out) where
  text_size : e.text ≡ length (texts (items at_start t))
  text_size = p.done.sizes.text_bytes ∙ ap length (text_is t p.form)

  pub place_room : {at : ℕ} → at ≡ start_of_text e.ops → at + length (texts (items at_start t)) ≤ length out
  place_room z = omega (arith, text_size, p.room)

  pub placed : {at : ℕ} → at ≡ start_of_text e.ops → {o₁ o₂ o₃ : List ℕ} → o₁ ≡ over at (texts (items at_start t)) out → o₂ ≡ relocated_ops slots e.ops e.ops stage o₁ → o₃ ≡ headed e o₂
      → Writes e.ops (ops_of (items at_start t)) out o₃
  placed {at} z {o₁} {o₂} {o₃} a b c =
      let s = ops_of (items at_start t) in
      let d = p.done in
      let long = p.long in
      marked_writes slots s e stage (texts (items at_start t)) out o₃ (marks d p.as_long) d.sizes d.small p.few (omega arith) (sym (text_is t p.form))
      (c ∙ ap (headed e) (b ∙ ap (relocated_ops slots e.ops e.ops stage) (a ∙ ap (λ k. over k (texts (items at_start t)) out) z)))

-- ---- `staged`

-- an answer of bytes is within the limits and the room
bytes_limits : (e : Emitter) (room : ℕ) (v : Result ℕ Refusal) → v ≡ limits_before_room e room → (k : ℕ) → v ≡ Ok k → (e.ops ≤ max_ops) × (size_in e ≤ room)
unfolding limits_before_room
bytes_limits e room v j k z = go (within_limits e) (leb (size_in e) room) refl refl (sym z ∙ j)
  where
    go : (x y : Bool) → within_limits e ≡ x → leb (size_in e) room ≡ y → Ok k ≡ cond x (cond y (Ok (size_in e)) (Err Room)) (Err Limit) → (e.ops ≤ max_ops) × (size_in e ≤ room)
    go true true p q f = ((within_inside e (known p)).ops, leb-true (size_in e) room q)
    go true false p q f = absurd (let y : ◌≡◌ {A = ℕ} 0 1 = cc f in omega arith)
    go false y p q f = absurd (let y : ◌≡◌ {A = ℕ} 0 1 = cc f in omega arith)

call_is : (t out : List ℕ) → in_form t ≡ true → from_json_call t out ≡ deliver 0 (ops_of (items at_start t)) out
unfolding from_json_call read
call_is t out f = ap (λ b. made (cond b (some (items at_start t)) none) out) f

module _ (slots : ℕ) (t before stage out : List ℕ) (r : Option Emitter) (l : ListRead slots t before r stage) where
  pub no_list : r ≡ None → Gives (from_json_call t out) (Err Json) out
  unfolding from_json_call read writing
  no_list q = let f : in_form t ≡ false = rw q at l in rw f (record { answer = refl; out = refl })

  module _ (e : Emitter) (q : r ≡ Some e) where
    list_is : ListIs slots t before e stage
    list_is = rw q at l

    form : in_form t ≡ true
    form = list_is.form

    finished : Finished slots (ops_of (items at_start t)) before e stage
    finished = list_is.emitted

    pub list_under : Under (2 ^ 40) e
    list_under = finished.small

    module _ (v : Result ℕ Refusal) (j : v ≡ limits_before_room e (length out)) where
      pub list_refused : (y : Refusal) → v ≡ Err y → Gives (from_json_call t out) (Err y) out
      unfolding limits_before_room
      list_refused y z = rw (call_is t out form) (go finished.is)
        where
          s : Seq
          s = ops_of (items at_start t)

          go : Done slots s before e stage ⊎ ((fits s ≡ false) × (within_limits e ≡ false)) → Gives (deliver 0 s out) (Err y) out
          go (inl d) = gives_refused s out e before stage d v j y z
          go (inr x) = rw (sym z ∙ j ∙ ap (λ b. cond b (cond (leb (size_in e) (length out)) (Ok (size_in e)) (Err Room)) (Err Limit)) x.1) (gives_limit s out x.0)

      module _ (k : ℕ) (z : v ≡ Ok k) where
        -- nothing passes a limit then
        whole : Done slots (ops_of (items at_start t)) before e stage
        unfolding limits_before_room
        whole = go finished.is
          where
            s : Seq
            s = ops_of (items at_start t)

            go : Done slots s before e stage ⊎ ((fits s ≡ false) × (within_limits e ≡ false)) → Done slots s before e stage
            go (inl d) = d
            go (inr x) =
                absurd (let y : ◌≡◌ {A = ℕ} 0 1 = cc (sym z ∙ j ∙ ap (λ b. cond b (cond (leb (size_in e) (length out)) (Ok (size_in e)) (Err Room)) (Err Limit)) x.1) in omega arith)

        pub list_placeable : slots ≤ max_ops → Enough slots t → length before ≡ start_of_text slots → length stage ≡ length before → Placeable t stage slots e out
        list_placeable m n a b =
            let d = whole in
            let u = bytes_limits e (length out) v j k z in
            record {
              form = known form;
              before = before;
              done = d;
              as_long = b;
              long = b ∙ a;
              few = omega (arith, n.places, d.sizes.ops, ops_few t, u.0);
              most = m;
              room = u.1;
            }

        pub list_written : (o : List ℕ) → Writes e.ops (ops_of (items at_start t)) out o → Gives (from_json_call t out) (Ok k) o
        list_written o w = rw (call_is t out form) (gives_written (ops_of (items at_start t)) out e before stage whole v j k o z w)
