-- A list, value by value.
use Rattle.std.specs.Prelude.{◌≡◌, ℕ, ◌+◌, ◌-◌, ◌^◌, ◌<◌, ◌≤◌, ◌&&◌, List, [], ◌∷◌, ◌++◌, map, length, get_or, drop, Some}
use native.Mathlib.Omega.{arith}
use mathlib.Core.Path.{refl, sym, ap, ap₂, ◌∙◌}
use mathlib.Core.Logic.{inl}
use mathlib.Core.List.{map-append, append_assoc}
use lib.ListN.{drop_of_length-le}
use borrow.Author.Tests.{ne_eqb}
use Rattle.characters.proofs.Chars.{num_le}
use Rattle.edits.specs.Build.{add_all}
use Rattle.edits.proofs.Building.{add_all_append}
use Rattle.emitter.specs.declared.inner.Emitter.{Emitter}
use Rattle.emitter.specs.InnerEmit.{nothing}
use Rattle.emitter.proofs.Adding.{rep_start, under_more, under_start}
use Rattle.json_lists.specs.Form.{Item, is_white_space, Place, after_comma, after_value, at_end, next, ends, is_end, items}
use Rattle.json_lists.specs.InnerRuns.{Run, capped, Onward, Passes, Fails}
use Rattle.json_lists.specs.Calls.{op_of}
use Rattle.json_lists.proofs.Steps.{onward_then, passes_on, fails_then, ended_fails, next_outside_fails, at_byte, byte, run_spaces}
use Rattle.json_values.specs.declared.inner.Value.{Value}
use Rattle.json_values.specs.declared.inner.Value.TheVariants.{Retain, Delete, Insert}
use Rattle.json_values.specs.InnerValues.{Means, ValueAt, NoSpace}
use Rattle.json_read.specs.declared.inner.Next.{Next}
use Rattle.json_read.specs.declared.inner.Next.TheVariants as coming
use Rattle.json_read.specs.declared.inner.Values.{Values}
use Rattle.json_read.specs.InnerReading.{Held, Holds, Feeds, Sized, FeedsValue, Separates, FollowsAt, PassesAll, ValuesTo}

-- ---- `after_value`

pub run_no_space : {t : List ℕ} {at to : ℕ} → Run is_white_space t at to → NoSpace t to
run_no_space r = record { none = r.stops }

module _ (t : List ℕ) (at i : ℕ) (s : Run is_white_space t at i) where
  passed : Onward after_value (drop at t) after_value (drop i t)
  passed = run_spaces s tt

  pub list_cut : length t ≤ i → Fails after_value (drop at t)
  list_cut h = fails_then passed (rw (drop_of_length-le t h) (ended_fails after_value refl))

  module _ (h : i < length t) where
    pub comma_follows : get_or t i 0 ≡ 0x2C → (to : ℕ) → Run is_white_space t (i + 1) to → Separates t at after_comma to × NoSpace t to
    unfolding next ends
    comma_follows e to r = (
      record {
        above = omega (arith, s.above, r.above);
        below = r.below;
        onward = onward_then passed (onward_then (rw (at_byte t i h, e) (byte {b = 0x2C} (drop (i + 1) t) (omega arith) refl refl)) (run_spaces r tt));
      },
      run_no_space r,
    )

    pub end_follows : get_or t i 0 ≡ 0x5D → Separates t at at_end (i + 1)
    unfolding next ends
    end_follows e = record {
      above = omega (arith, s.above);
      below = omega arith;
      onward = onward_then passed (rw (at_byte t i h, e) (byte {b = 0x5D} (drop (i + 1) t) (omega arith) refl refl));
    }

    pub nothing_follows : (get_or t i 0 ≡ 0x2C → ⊥) → (get_or t i 0 ≡ 0x5D → ⊥) → Fails after_value (drop at t)
    unfolding next
    nothing_follows x y =
        let b = get_or t i 0 in
        fails_then passed (rw (at_byte t i h) (next_outside_fails after_value b (drop (i + 1) t) (rw (s.stops h, ne_eqb b 0x2C x, ne_eqb b 0x5D y))))

-- ---- `read_values`

fails_passed : {x : Item} {p q : Place} {bs cs : List ℕ} → Passes x p bs q cs → Fails q cs → Fails p bs
fails_passed f g = ap₂ (λ w r. w && is_end r) f.well f.to ∙ g

sized : (v : Value) (x : Item) → Means v x → Sized v
sized (Retain n) x m = omega (arith, m.capped)
sized (Delete n) x m = omega (arith, m.capped)
sized (Insert b c) x m = omega (arith, m.size, m.num, num_le m.text)

-- what a value says is its item's operation
fed_item : (n : ℕ) (v : Value) (e : Emitter) (o : List ℕ) (e' : Emitter) (o' : List ℕ) (x : Item) → FeedsValue n v e o e' o' → Means v x → Feeds n (op_of (capped x)) e o e' o'
unfolding op_of
fed_item n (Retain k) e o e' o' x f m = rw (m.is, ← m.capped) f
fed_item n (Delete k) e o e' o' x f m = rw (m.is, ← m.capped) f
fed_item n (Insert b c) e o e' o' x f m = rw m.is (f.feeds m.text m.well m.size m.num)

-- the items up to i were passed and emitted
pub record Going (n : ℕ) (t : List ℕ) (at : ℕ) (out0 : List ℕ) (i : ℕ) (e : Emitter) (o : List ℕ) : Type 0 where
  pub all : List Item
  pub passes : PassesAll all after_comma (drop at t) after_comma (drop i t)
  pub below : i ≤ length t
  pub no_space : NoSpace t i
  pub emitted : Held n out0 (add_all [] (map op_of (map capped all))) e o

module _ (n : ℕ) (t : List ℕ) (at : ℕ) (out0 : List ℕ) where
  pub going_start : at ≤ length t → NoSpace t at → (e : Emitter) → e ≡ nothing → Going n t at out0 at e out0
  unfolding add_all
  going_start h s e z = record {
    all = [];
    passes = record { to = refl; has = refl; well = refl };
    below = h;
    no_space = s;
    emitted = rw z (record { small = under_more 0 (2 ^ 20) nothing (omega arith) under_start; is = inl (rep_start n out0) });
  }

  module _ (i : ℕ) (e : Emitter) (o : List ℕ) (g : Going n t at out0 i e o) where
    pub going_holds : Holds e
    going_holds = record { n = n; out0 = out0; acc = add_all [] (map op_of (map capped g.all)); o = o; held = g.emitted }

    pub going_fails : Fails after_comma (drop i t) → Fails after_comma (drop at t)
    going_fails f = ap₂ (λ w r. w && is_end r) g.passes.well g.passes.to ∙ f

    module _ (v : Value) (m : ℕ) (x : ValueAt after_comma t i v m) where
      pub going_sized : Sized v
      going_sized = sized v x.item x.means

      pub going_cut : Fails after_value (drop m t) → Fails after_comma (drop at t)
      going_cut f = going_fails (fails_passed x.passes f)

      module _ (e' : Emitter) (o' : List ℕ) (f : FeedsValue n v e o e' o') where
        module _ (q : Place) (to : ℕ) (y : Separates t m q to) where
          with_item : PassesAll (g.all ++ (x.item ∷ [])) after_comma (drop at t) q (drop to t)
          with_item =
              let z : Passes x.item after_comma (drop i t) q (drop to t) = passes_on x.passes y.onward in
              record {
                to = g.passes.to ∙ z.to;
                has = g.passes.has ∙ ap (λ l. g.all ++ l) z.has ∙ sym (append_assoc g.all (x.item ∷ []) (items q (drop to t)));
                well = g.passes.well ∙ z.well;
              }

          with_op : Held n out0 (add_all [] (map op_of (map capped (g.all ++ (x.item ∷ []))))) e' o'
          unfolding add_all
          with_op =
              let d : map op_of (map capped (g.all ++ (x.item ∷ []))) ≡ map op_of (map capped g.all) ++ (op_of (capped x.item) ∷ []) = ap (map op_of) (map-append capped g.all (x.item ∷ [])) ∙ map-append op_of (map capped g.all) (capped x.item ∷ []) in
              rw (d, add_all_append [] (map op_of (map capped g.all)) (op_of (capped x.item) ∷ []))
              ((fed_item n v e o e' o' x.item f x.means).keeps out0 (add_all [] (map op_of (map capped g.all))) g.emitted)

        module _ (r : Next) (y : FollowsAt t m (Some r)) where
          pub going_end : {to : ℕ} → r ≡ coming.End to → (w : Values) → w.at ≡ to → w.e ≡ e' → ValuesTo n t after_comma (drop at t) out0 w o'
          going_end {to} z w c d =
              let s : Separates t m at_end to = rw z at y in
              record {
                all = g.all ++ (x.item ∷ []);
                passes = rw c (with_item at_end to s);
                below = omega (arith, s.below);
                emitted = rw d (with_op at_end to s);
              }

          pub going_less : {to : ℕ} → r ≡ coming.Value to → length t - to < length t - i
          going_less {to} z = let s : Separates t m after_comma to × NoSpace t to = rw z at y in omega (arith, x.above, s.0.above, s.0.below)

          pub going_more : {to : ℕ} → r ≡ coming.Value to → Going n t at out0 to e' o'
          going_more {to} z =
              let s : Separates t m after_comma to × NoSpace t to = rw z at y in
              record {
                all = g.all ++ (x.item ∷ []);
                passes = with_item after_comma to s.0;
                below = s.0.below;
                no_space = s.1;
                emitted = with_op after_comma to s.0;
              }
