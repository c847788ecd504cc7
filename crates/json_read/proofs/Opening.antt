-- The beginning and the end of a list.
use Rattle.std.specs.Prelude.{◌≡◌, ℕ, ◌+◌, ◌-◌, ◌^◌, ◌<◌, ◌≤◌, Bool, true, false, cond, not, ◌&&◌, leb, ◌⊎◌, List, [], ◌∷◌, ◌++◌, map, reverse, length, get_or, drop, Option, Some, None}
use native.Mathlib.Omega.{arith}
use mathlib.Core.Path.{refl, sym, ap, ap₂, ◌∙◌}
use mathlib.Core.Bool.{true≢false}
use mathlib.Core.Logic.{inl, inr, ⊎_elim}
use mathlib.Core.List.{append-nil}
use lib.ListN.{drop_of_length-le}
use borrow.Author.Tests.{ne_eqb, not-true, not-false, le-leb, lt-leb}
use Rattle.characters.specs.Form.{is_well_formed}
use Rattle.characters.proofs.Leads.{le_or_lt}
use Rattle.edits.specs.Build.{add_all, build}
use Rattle.edits.specs.Sequence.{Seq}
use Rattle.record.specs.Record.{fits}
use Rattle.emitter.specs.declared.inner.Emitter.{Emitter}
use Rattle.emitter.specs.InnerEmit.{nothing, Rep, Done, Finishes, within_limits}
use Rattle.emitter.proofs.Adding.{rep_start, under_more, under_start}
use Rattle.emitter.proofs.Delivering.{sized_fits}
use Rattle.json_lists.specs.Form.{Item, is_white_space, at_start, after_bracket, after_comma, at_end, outside, next, ends, is_end, reached, items, in_form}
use Rattle.json_lists.specs.InnerRuns.{Run, capped, Onward, Fails}
use Rattle.json_lists.specs.Calls.{op_of, ops_of}
use Rattle.json_lists.proofs.Limits.{capped_or_over}
use Rattle.json_lists.proofs.Reading.{outside_none}
use Rattle.json_lists.proofs.Steps.{onward_then, fails_then, ended_fails, next_outside_fails, at_byte, byte, run_spaces}
use Rattle.json_values.specs.InnerValues.{NoSpace}
use Rattle.json_read.specs.declared.inner.Next.{Next}
use Rattle.json_read.specs.declared.inner.Next.TheVariants as coming
use Rattle.json_read.specs.declared.inner.Values.{Values}
use Rattle.json_read.specs.InnerReading.{Holds, ValuesTo, ValuesRead, OpensTo, OpeningAt, Finished, FinishedBy, ListIs}
use Rattle.json_read.proofs.Holding.{over_is}
use Rattle.json_read.proofs.Listing.{run_no_space}

-- ---- `begins_with`

module _ (t : List ℕ) (i : ℕ) (s : Run is_white_space t 0 i) where
  start : Onward at_start t at_start (drop i t)
  start = run_spaces s tt

  pub no_bracket_cut : length t ≤ i → Fails at_start t
  no_bracket_cut h = fails_then start (rw (drop_of_length-le t h) (ended_fails at_start refl))

  module _ (h : i < length t) where
    pub no_bracket : (get_or t i 0 ≡ 0x5B → ⊥) → Fails at_start t
    unfolding next
    no_bracket x =
        let b = get_or t i 0 in
        fails_then start (rw (at_byte t i h) (next_outside_fails at_start b (drop (i + 1) t) (rw (s.stops h, ne_eqb b 0x5B x))))

    module _ (e : get_or t i 0 ≡ 0x5B) (to : ℕ) (r : Run is_white_space t (i + 1) to) where
      bracket : Onward at_start t after_bracket (drop to t)
      unfolding next ends
      bracket = onward_then start (onward_then (rw (at_byte t i h, e) (byte {b = 0x5B} (drop (i + 1) t) (omega arith) refl refl)) (run_spaces r tt))

      pub bracket_cut : length t ≤ to → Fails at_start t
      bracket_cut k = fails_then bracket (rw (drop_of_length-le t k) (ended_fails after_bracket refl))

      module _ (k : to < length t) where
        pub brackets : get_or t to 0 ≡ 0x5D → OpensTo t at_end (to + 1)
        unfolding next ends
        brackets f = record { below = omega arith; onward = onward_then bracket (rw (at_byte t to k, f) (byte {b = 0x5D} (drop (to + 1) t) (omega arith) refl refl)) }

        -- a first value is read as any other
        pub first_value : (get_or t to 0 ≡ 0x5D → ⊥) → OpensTo t after_comma to × NoSpace t to
        unfolding next reached items ends
        first_value x =
            let b = get_or t to 0 in
            let z = ne_eqb b 0x5D x in
            let q : next after_bracket b ≡ next after_comma b = rw (r.stops k, z) in (
              record {
                below = r.below;
                onward = onward_then bracket
                    (record {
                      to = ap (reached after_bracket) (at_byte t to k) ∙ ap (λ p. reached p (drop (to + 1) t)) q ∙ ap (reached after_comma) (sym (at_byte t to k));
                      has = ap (items after_bracket) (at_byte t to k) ∙ ap (λ p. items p (drop (to + 1) t)) q ∙ ap (items after_comma) (sym (at_byte t to k));
                      well = refl;
                    });
              },
              run_no_space r,
            )

-- ---- `read_array`

module _ (t : List ℕ) (r : Next) (f : OpeningAt t (Some r)) where
  pub array_below : {at : ℕ} → r ≡ coming.Value at → at ≤ length t
  array_below {at} z = let x : OpensTo t after_comma at × NoSpace t at = rw z at f in x.0.below

  pub array_space : {at : ℕ} → r ≡ coming.Value at → NoSpace t at
  array_space {at} z = let x : OpensTo t after_comma at × NoSpace t at = rw z at f in x.1

module _ (n : ℕ) (t out0 : List ℕ) (r : Next) (f : OpeningAt t (Some r)) where
  pub array_empty : {at : ℕ} → r ≡ coming.End at → (w : Values) → w.at ≡ at → w.e ≡ nothing → ValuesTo n t at_start t out0 w out0
  unfolding add_all
  array_empty {at} z w c d =
      let x : OpensTo t at_end at = rw z at f in
      record {
        all = [];
        passes = rw c (record { to = x.onward.to; has = x.onward.has; well = x.onward.well });
        below = omega (arith, x.below);
        emitted = rw d (record { small = under_more 0 (2 ^ 20) nothing (omega arith) under_start; is = inl (rep_start n out0) });
      }

  module _ {at : ℕ} (z : r ≡ coming.Value at) where
    to_value : Onward at_start t after_comma (drop at t)
    to_value = let x : OpensTo t after_comma at × NoSpace t at = rw z at f in x.0.onward

    pub array_values : (w : Option Values) (o : List ℕ) → ValuesRead n t after_comma (drop at t) out0 w o → ValuesRead n t at_start t out0 w o
    array_values None o y = fails_then to_value y
    array_values (Some w) o y =
        let a = to_value in
        record {
          all = y.all;
          passes = record { to = a.to ∙ y.passes.to; has = a.has ∙ y.passes.has; well = a.well ∙ y.passes.well };
          below = y.below;
          emitted = y.emitted;
        }

-- ---- `ends`

module _ (t : List ℕ) (at i : ℕ) (s : Run is_white_space t at i) where
  on : Onward at_end (drop at t) at_end (drop i t)
  on = run_spaces s tt

  no_more : i < length t → next at_end (get_or t i 0) ≡ outside
  unfolding next
  no_more h = rw (s.stops h)

  pub ends_is : leb (length t) i ≡ (is_well_formed (drop at t) && is_end (reached at_end (drop at t)))
  unfolding reached
  ends_is = ⊎_elim here there (le_or_lt (length t) i)
    where
      here : length t ≤ i → leb (length t) i ≡ (is_well_formed (drop at t) && is_end (reached at_end (drop at t)))
      here h =
          let z = drop_of_length-le t h in
          le-leb (length t) i h ∙ sym (ap₂ (λ w r. w && is_end r) (on.well ∙ ap is_well_formed z) (on.to ∙ ap (reached at_end) z))

      there : i < length t → leb (length t) i ≡ (is_well_formed (drop at t) && is_end (reached at_end (drop at t)))
      there h = lt-leb (length t) i h ∙ sym (fails_then on (rw (at_byte t i h) (next_outside_fails at_end (get_or t i 0) (drop (i + 1) t) (no_more h))))

-- ---- `finish`

module _ (n : ℕ) (e : Emitter) (o : List ℕ) {v : Bool} (j : v ≡ within_limits e) where
  pub finish_over : not v ≡ true → FinishedBy n e o e o
  finish_over q =
      let w : within_limits e ≡ false = sym j ∙ not-true v q in
      record { done = λ out0 acc h. record { small = under_more (2 ^ 20) (2 ^ 40) e (omega arith) h.small; is = inr (over_is n out0 acc e o h w, w) } }

  pub finish_done : not v ≡ false → {e' : Emitter} {o' : List ℕ} → Finishes n e o e' o' → FinishedBy n e o e' o'
  finish_done q {e'} {o'} f = record { done = λ out0 acc h. go out0 acc h.is }
    where
      go : (out0 : List ℕ) (acc : Seq) → Rep n out0 acc e o ⊎ ((fits (reverse acc) ≡ false) × (within_limits e ≡ false)) → Finished n (reverse acc) out0 e' o'
      go out0 acc (inl r) = let d = f.done out0 acc r in record { small = d.small; is = inl d }
      go out0 acc (inr x) = absurd (true≢false (sym (sym j ∙ not-false v q) ∙ x.1))

-- ---- `read_list`

-- numbers that were cut off don't matter
uncapped : (n : ℕ) (l : List Item) (out0 : List ℕ) (e : Emitter) (o : List ℕ) → Finished n (ops_of (map capped l)) out0 e o → Finished n (ops_of l) out0 e o
uncapped n l out0 e o f = go (capped_or_over l)
  where
    over : fits (ops_of (map capped l)) ≡ false → Done n (ops_of (map capped l)) out0 e o ⊎ ((fits (ops_of (map capped l)) ≡ false) × (within_limits e ≡ false)) → within_limits e ≡ false
    over z (inl d) = sized_fits (ops_of (map capped l)) e d.sizes ∙ z
    over z (inr x) = x.1

    go : (map capped l ≡ l) ⊎ ((fits (ops_of (map capped l)) ≡ false) × (fits (ops_of l) ≡ false)) → Finished n (ops_of l) out0 e o
    go (inl z) = rw z at f
    go (inr z) = record { small = f.small; is = inr (z.1, over z.0 f.is) }

-- no item ends behind the list
no_items : (bs : List ℕ) → items at_end bs ≡ []
unfolding items ends next
no_items [] = refl
no_items (b ∷ bs) = go (is_white_space b) (no_items bs)
  where
    go : (x : Bool) → items at_end bs ≡ [] → items (cond x at_end outside) bs ≡ []
    go true h = h
    go false h = outside_none bs

pub list_none : (t : List ℕ) → Fails at_start t → in_form t ≡ false
unfolding in_form
list_none t f = f

module _ (n : ℕ) (t out0 o : List ℕ) (v : Values) (x : ValuesTo n t at_start t out0 v o) where
  pub values_hold : Holds v.e
  values_hold = record { n = n; out0 = out0; acc = add_all [] (map op_of (map capped x.all)); o = o; held = x.emitted }

  module _ {y : Bool} (z : y ≡ (is_well_formed (drop v.at t) && is_end (reached at_end (drop v.at t)))) where
    form_is : in_form t ≡ y
    unfolding in_form
    form_is = ap₂ (λ w p. w && is_end p) x.passes.well x.passes.to ∙ sym z

    pub list_more : y ≡ false → in_form t ≡ false
    list_more q = form_is ∙ q

    pub list_whole : y ≡ true → (e : Emitter) {o' : List ℕ} → FinishedBy n v.e o e o' → ListIs n t out0 e o'
    unfolding ops_of build
    list_whole q e {o'} f =
        let l : items at_start t ≡ x.all = x.passes.has ∙ ap (λ m. x.all ++ m) (no_items (drop v.at t)) ∙ append-nil x.all in
        record {
          form = form_is ∙ q;
          emitted = rw l (uncapped n x.all out0 e o' (f.done out0 (add_all [] (map op_of (map capped x.all))) x.emitted));
        }
