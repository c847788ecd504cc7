-- What the inverse on a text of base characters comes to, and from what the code finds to the answer of invert.
use Rattle.std.specs.Prelude.{◌≡◌, ℕ, ◌+◌, ◌-◌, ◌<◌, ◌≤◌, Bool, true, false, cond, ◌&&◌, T, leb, List, [], ◌∷◌, ◌++◌, map, length, take, drop, Result, Option, Ok, Err, Some, None, ⊤}
use native.Mathlib.Omega.{arith}
use mathlib.Core.Path.{refl, sym, ap, ◌∙◌}
use lib.Dec.{leb→le}
use lib.ListN.{length-append, length-drop, take-append-drop}
use borrow.Author.Tests.{le-leb, lt-leb, eq-eqb, ne_eqb, leb-true, leb-false}
use Rattle.buffers.proofs.Tests.{known, le_and}
use Rattle.characters.specs.Form.{is_well_formed}
use Rattle.characters.specs.Chars.{number_of_chars}
use Rattle.characters.specs.Text.{Char, chars, bytes}
use Rattle.characters.specs.InnerPassed.{form_of}
use Rattle.characters.proofs.Passed.{form_ill, form_well, form_num}
use Rattle.characters.proofs.Texts.{bytes_append, bytes_chars, chars_length}
use Rattle.edits.specs.Op.{retain, insert, delete, base}
use Rattle.edits.specs.Apply.{apply}
use Rattle.edits.specs.Build.{build}
use Rattle.edits.specs.Invert.{undo_all, invert}
use Rattle.edits.specs.Sequence.{Seq}
use Rattle.edits.specs.Trace.{typed}
use Rattle.edits.proofs.Building.{build_same}
use Rattle.edits.proofs.Claims.{invert_base, invert_target}
use Rattle.edits.proofs.Kept.{typed_lasts}
use Rattle.answers.specs.Answer.{answer_of}
use Rattle.answers.specs.InnerGiven.{Gives}
use Rattle.answers.specs.declared.Refusal.{Refusal}
use Rattle.answers.specs.declared.Refusal.TheVariants.{Utf8, IncompatibleLengths, Limit, Room}
use Rattle.record.specs.Calls.{check_call}
use Rattle.record.specs.Layout.{op_count_of, base_of, target_of, text_bytes_of, start_of_text, max_size}
use Rattle.record.specs.Record.{in_bytes, text, encode, ops, record_fault}
use Rattle.record.proofs.Checked.{stopped, passed}
use Rattle.record.proofs.Sequences.{fits_limits}
use Rattle.record.proofs.Records.{encode_length, ops_length, ops_base, ops_target, ops_text, ops_good}
use Rattle.operational_transform.specs.Calls.{deliver, invert_call}
use Rattle.emitter.specs.declared.inner.Emitter.{Emitter}
use Rattle.emitter.specs.InnerEmit.{Sizes, Writes, within_limits, limits_before_room}
use Rattle.emitter.proofs.Counting.{text_typed}
use Rattle.emitter.proofs.Delivering.{limits_text, limits_last, judge_limit, judge_room, judge_bytes, answered, left_alone, delivered}
use Rattle.emitter.proofs.Giving.{refuses}
use Rattle.apply_steps.specs.InnerSteps.{played}
use Rattle.apply_steps.proofs.Playing.{played_most}
use Rattle.invert_in_place.specs.InnerInverting.{inserts_apart, inserted_back}
use Rattle.invert_in_place.proofs.Placing.{built_apart, inverse_length}
use Rattle.invert.specs.InnerDeciding.{decided_of}

-- ---- how much the inverse inserts

-- the bytes of the first n characters, and of the others
split_bytes : (n : ℕ) (t : List Char) → length (bytes (take n t)) + length (bytes (drop n t)) ≡ length (bytes t)
split_bytes n t =
    sym (length-append (bytes (take n t)) (bytes (drop n t))) ∙ ap length (sym (bytes_append (take n t) (drop n t))) ∙ ap (λ l. length (bytes l)) (take-append-drop n t)

joined : (x y : List Char) → length (bytes (x ++ y)) ≡ length (bytes x) + length (bytes y)
joined x y = ap length (bytes_append x y) ∙ length-append (bytes x) (bytes y)

-- What is put back and the text after the edit have as many bytes together as the text before it and what was typed.
bytes_kept : (s : Seq) (t : List Char) → length t ≡ base s → length (bytes (typed (undo_all s t))) + length (bytes (apply s t)) ≡ length (bytes t) + length (bytes (typed s))
bytes_kept [] [] e = refl
bytes_kept [] (c ∷ t) e = absurd (omega arith)
bytes_kept (retain n ∷ s) t e =
    omega (arith, bytes_kept s (drop n t) (simp length-drop (omega arith)), split_bytes n t, joined (take n t) (apply s (drop n t)))
bytes_kept (insert x ∷ s) t e = omega (arith, bytes_kept s t (omega arith), joined x (apply s t), joined x (typed s))
bytes_kept (delete n ∷ s) t e =
    omega (arith, bytes_kept s (drop n t) (simp length-drop (omega arith)), split_bytes n t, joined (take n t) (typed (undo_all s (drop n t))))

-- what is put back comes from the text
back_most : (s : Seq) (t : List Char) → length (bytes (typed (undo_all s t))) ≤ length (bytes t)
back_most [] t = unfold bytes in omega arith
back_most (retain n ∷ s) t = omega (arith, back_most s (drop n t), split_bytes n t)
back_most (insert x ∷ s) t = back_most s t
back_most (delete n ∷ s) t = omega (arith, back_most s (drop n t), split_bytes n t, joined (take n t) (typed (undo_all s (drop n t))))

invert_typed : (s : Seq) (t : List Char) → length (text (map in_bytes (invert s t))) ≡ length (bytes (typed (undo_all s t)))
unfolding invert
invert_typed s t = ap length (text_typed (build (undo_all s t)) ∙ ap bytes (build_same typed typed_lasts (undo_all s t)))

-- ---- of a record and a text in bytes

pub ops_apart : (r : List ℕ) → record_fault r ≡ 0 → T (inserts_apart (ops r))
ops_apart r z = built_apart (ops r) (ops_good r z).is_built

module _ (r t : List ℕ) (z : record_fault r ≡ 0) (w : T (is_well_formed t)) (b : number_of_chars t ≡ base_of r) where
  abbrev inverse : Seq
  inverse = invert (ops r) (chars t)

  fits_in : length (chars t) ≡ base (ops r)
  fits_in = chars_length t w ∙ b ∙ sym (ops_base r z)

  -- `deleted_bytes`
  kept : inserted_back r t + length (played r t) ≡ length t + text_bytes_of r
  unfolding inserted_back played
  kept = omega (arith, invert_typed (ops r) (chars t), bytes_kept (ops r) (chars t) fits_in, ap length (bytes_chars t w), ap length (text_typed (ops r)), ops_text r z)

  pub back_few : inserted_back r t ≤ length t
  unfolding inserted_back
  back_few = omega (arith, invert_typed (ops r) (chars t), back_most (ops r) (chars t), ap length (bytes_chars t w))

  module _ (p n : ℕ) (ep : p ≡ length (played r t)) (en : n ≡ text_bytes_of r) where
    pub no_more_played : p ≤ length t + n
    no_more_played = omega (arith, played_most r t z w)

    pub deleted_is : length t + n - p ≡ inserted_back r t
    deleted_is = omega (arith, kept)

    pub deleted_few : length t + n - p ≤ length t
    deleted_few = omega (arith, kept, back_few)

  -- ---- `decide`, `inverted`

  module _ (count : ℕ) (e : count ≡ op_count_of r) where
    abbrev sizes_of_state : Emitter
    sizes_of_state = record { ins = 0; del = 0; ret = 0; ops = count; text = inserted_back r t; base = target_of r; target = base_of r }

    sizes : Sizes inverse sizes_of_state
    unfolding inserted_back
    sizes =
        record {
          ops = e ∙ sym (ops_length r z) ∙ sym (inverse_length (ops r) (chars t) (ops_good r z).is_built (ops_apart r z) (omega (arith, fits_in)));
          text_bytes = refl;
          base_is = sym (ops_target r z) ∙ sym (invert_base (ops r) (chars t));
          target_is = sym (ops_base r z) ∙ sym (invert_target (ops r) (chars t) (omega (arith, fits_in)));
        }

    -- how much room the inverse's record needs at most
    pub inverse_most : length (encode inverse) ≤ start_of_text count + length t
    unfolding inserted_back
    inverse_most = omega (arith, encode_length inverse, ap start_of_text sizes.ops, back_few)

    -- 9 is for the text alone: operations, base and target keep their limits as the record's do
    text_decides : inserted_back r t ≤ max_size → true ≡ within_limits sizes_of_state
    text_decides l =
        let f = (fits_limits (ops r)).0 (ops_good r z).in_limits in
        sym (le-leb (base_of r) max_size (omega (arith, f.bases, ops_base r z)))
        ∙ limits_last sizes_of_state (omega (arith, f.ops, ops_length r z)) l (omega (arith, f.targets, ops_target r z))

    abbrev sized_of : Result ⊤ Refusal → Result ℕ Refusal
    sized_of (Ok u) = Ok (start_of_text count + inserted_back r t)
    sized_of (Err x) = Err x

    judged : (room : ℕ) → sized_of (decided_of (inserted_back r t) count room) ≡ limits_before_room sizes_of_state room
    unfolding decided_of
    judged room = go (leb (inserted_back r t) max_size) (leb (start_of_text count + inserted_back r t) room) refl refl
      where
        go : (x y : Bool) → leb (inserted_back r t) max_size ≡ x → leb (start_of_text count + inserted_back r t) room ≡ y
            → sized_of (cond x (cond y (Ok tt) (Err Room)) (Err Limit)) ≡ limits_before_room sizes_of_state room
        go true true p q = judge_bytes sizes_of_state room true (text_decides (leb-true _ _ p)) (start_of_text count + inserted_back r t) refl refl (leb-true _ _ q)
        go true false p q = judge_room sizes_of_state room true (text_decides (leb-true _ _ p)) (start_of_text count + inserted_back r t) refl refl (leb-false _ _ q)
        go false y p q = judge_limit sizes_of_state room false (limits_text sizes_of_state (leb-false _ _ p)) refl

    -- what is sure is decided
    pub decided_surely : (room : ℕ) (v : Bool) → v ≡ (leb (length t) max_size && leb (start_of_text count + length t) room) → v ≡ true → (Ok tt) ≡ decided_of (inserted_back r t) count room
    unfolding decided_of
    decided_surely room v p y =
        let (l, m) = (le_and (length t) max_size _).0 (known (sym p ∙ y)) in
        let k = leb→le (start_of_text count + length t) room m in
        rw (le-leb (inserted_back r t) max_size (omega (arith, back_few)), le-leb (start_of_text count + inserted_back r t) room (omega (arith, back_few)))

    module _ (size room : ℕ) (q : size ≡ inserted_back r t) where
      pub decided_limit : max_size < size → Err Limit ≡ decided_of (inserted_back r t) count room
      unfolding decided_of
      decided_limit h = rw (lt-leb (inserted_back r t) max_size (omega arith))

      module _ (h : size ≤ max_size) (start : ℕ) (u : start ≡ start_of_text count) where
        pub decided_room : room < start + size → Err Room ≡ decided_of (inserted_back r t) count room
        unfolding decided_of
        decided_room k = rw (le-leb (inserted_back r t) max_size (omega arith), lt-leb (start_of_text count + inserted_back r t) room (omega arith))

        pub decided_fits : start + size ≤ room → (Ok tt) ≡ decided_of (inserted_back r t) count room
        unfolding decided_of
        decided_fits k = rw (le-leb (inserted_back r t) max_size (omega arith), le-leb (start_of_text count + inserted_back r t) room (omega arith))

    module _ (o : List ℕ) (d : Result ⊤ Refusal) (p : d ≡ decided_of (inserted_back r t) count (length o)) where
      -- the answer, as `limits_then_room` would have it
      as_judged : (x : Result ⊤ Refusal) → d ≡ x → sized_of x ≡ limits_before_room sizes_of_state (length o)
      as_judged x q = ap sized_of (sym q ∙ p) ∙ judged (length o)

      pub decided_refused : (x : Refusal) → d ≡ Err x → Gives (deliver 0 inverse o) (Err x) o
      decided_refused x q =
          let j = as_judged (Err x) q in
          record { answer = answered inverse sizes_of_state o sizes (Err x) j; out = left_alone inverse sizes_of_state o sizes (Err x) j x refl }

      pub decided_places : d ≡ (Ok tt) → start_of_text count ≤ length o
      unfolding decided_of
      decided_places q = go (leb (inserted_back r t) max_size) (leb (start_of_text count + inserted_back r t) (length o)) refl (sym p ∙ q)
        where
          fitting : Result ⊤ Refusal → Bool
          fitting (Ok u) = true
          fitting (Err x) = false

          go : (x y : Bool) → leb (start_of_text count + inserted_back r t) (length o) ≡ y → ◌≡◌ {A = Result ⊤ Refusal} (cond x (cond y (Ok tt) (Err Room)) (Err Limit)) (Ok tt) → start_of_text count ≤ length o
          go true true k f = omega (arith, leb-true (start_of_text count + inserted_back r t) (length o) k)
          go true false k f = absurd (known (ap fitting f))
          go false y k f = absurd (known (ap fitting f))

      pub decided_written : d ≡ (Ok tt) → (k : ℕ) → k ≡ start_of_text count + inserted_back r t → (o' : List ℕ) → Writes count inverse o o' → Gives (deliver 0 inverse o) (Ok k) o'
      decided_written q k m o' u =
          let j = ap Ok m ∙ as_judged (Ok tt) q in
          record {
            answer = answered inverse sizes_of_state o sizes (Ok k) j;
            out = delivered inverse sizes_of_state o sizes (Ok k) j k refl count u.emitter u.before o' u.done refl u.is;
          }

-- ---- `surely_fits`

module _ (t : List ℕ) (count room : ℕ) where
  pub sure_long : max_size < length t → false ≡ (leb (length t) max_size && leb (start_of_text count + length t) room)
  sure_long h = rw (lt-leb (length t) max_size h)

  pub sure_room : (x : ℕ) → length t ≤ max_size → x ≡ start_of_text count → leb (x + length t) room ≡ (leb (length t) max_size && leb (start_of_text count + length t) room)
  sure_room x h p = rw (le-leb (length t) max_size h, p)

-- ---- `invert`

module _ (r t o : List ℕ) where
  -- what the checks find
  module _ (f : Result ℕ Refusal) (p : answer_of f ≡ check_call r) where
    pub invert_refused : (x : Refusal) → f ≡ Err x → Gives (invert_call r t o) (Err x) o
    unfolding invert_call
    invert_refused x q = let v = stopped r f p x q in (rw v.fault (refuses (invert (ops r) (chars t)) o v.less x v.number_is))

    module _ (k : ℕ) (q : f ≡ Ok k) (v : Option ℕ) (pv : v ≡ form_of t) where
      pub invert_3 : v ≡ None → Gives (invert_call r t o) (Err Utf8) o
      unfolding invert_call
      invert_3 h = (rw (passed r f p k q, sym (form_ill t v pv h)) (refuses (invert (ops r) (chars t)) o 2 Utf8 refl))

      module _ (n b : ℕ) (h : v ≡ Some n) (pb : b ≡ base_of r) where
        pub invert_8 : (n ≡ b → ⊥) → Gives (invert_call r t o) (Err IncompatibleLengths) o
        unfolding invert_call
        invert_8 d =
            let e = ne_eqb (number_of_chars t) (base_of r) (λ m. d (form_num t v pv h ∙ m ∙ sym pb)) in
            (rw (passed r f p k q, sym (form_well t v pv h), e) (refuses (invert (ops r) (chars t)) o 7 IncompatibleLengths refl))

        module _ (e : n ≡ b) where
          pub agree : number_of_chars t ≡ base_of r
          agree = sym (form_num t v pv h) ∙ e ∙ pb

          pub invert_0 : (w : Result ℕ Refusal) (o' : List ℕ) → Gives (deliver 0 (invert (ops r) (chars t)) o) w o' → Gives (invert_call r t o) w o'
          unfolding invert_call
          invert_0 w o' g = (rw (passed r f p k q, sym (form_well t v pv h), eq-eqb (number_of_chars t) (base_of r) agree) g)
