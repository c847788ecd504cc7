-- Text copied, one part behind another.
use Rattle.std.specs.Prelude.{◌≡◌, ◌≢◌, ℕ, zero, suc, ◌+◌, ◌-◌, ◌<◌, ◌≤◌, Bool, true, false, ◌&&◌, T, eqb, List, [], ◌∷◌, ◌++◌, length, get_or, take, drop, set, Option, Some, None, IsSome}
use native.Mathlib.Omega.{arith}
use mathlib.Core.Path.{refl, sym, ap, ap₂, subst, ◌∙◌}
use mathlib.Core.Bool.{true≢false}
use mathlib.Core.List.{append_assoc, append-nil}
use lib.ListN.{length-append, length-take, length-drop, take-append-drop, drop_of_length-le}
use lib.Seq.{drop-drop, get_or-drop, take_all}
use borrow.Author.Tests.{eq-eqb}
use Rattle.buffers.specs.Lists.{all_of}
use Rattle.buffers.specs.InnerOver.{over}
use Rattle.buffers.proofs.Over.{length_over, over_nil, over_join, over_at, put_in}
use Rattle.buffers.proofs.Tests.{both, holds, known}
use Rattle.characters.specs.Form.{is_well_formed}
use Rattle.characters.specs.Scalar.{encode_scalar}
use Rattle.json_lists.specs.Form.{Place, at_start, in_string, after_escape, after_value, is_end, next, reached, items, in_form}
use Rattle.json_lists.proofs.Reading.{inside}
use Rattle.json_lists.proofs.Ascii.{ascii_on}
use Rattle.json_lists.proofs.Steps.{at_byte}
use Rattle.json_strings.specs.InnerStrings.{is_plain}
use Rattle.json_escapes.specs.declared.inner.Escaped.{Escaped}
use Rattle.json_escapes.specs.InnerEscapes.{Names, EscapeAt}
use Rattle.json_texts.specs.InnerTexts.{texts, ahead, Ready, Moved}
use Rattle.json_texts.proofs.Texts.{held, out_byte, out_on, mark_on}
use Rattle.json_texts.proofs.Positions.{starts, Part, in_string_no_end, raw_at, mark_at, slash_at, plains}

-- ---- steps

module _ {p : Place} {list : List ℕ} {at : ℕ} {out : List ℕ} {to : ℕ} where
  -- nothing is copied yet
  pub moved_none : Ready p list at out to → Moved p p list at out to at to out
  moved_none r =
      record {
        text = [];
        splits = refl;
        laid = sym (over_nil to out);
        behind = omega arith;
        ends = r.ends;
        above = omega arith;
        below = r.there;
        fits = omega (arith, r.room);
        same = refl;
      }

  -- the same of places that are written in another way
  pub moved_to : {q : Place} {i j : ℕ} {o : List ℕ} → Moved p q list at out to i j o → {k l : ℕ} → i ≡ k → j ≡ l → Moved p q list at out to k l o
  moved_to m e f = rw (e, f) at m

  -- one stretch behind another
  pub moved_then : {q s : Place} {i j k l : ℕ} {o o' : List ℕ}
      → Moved p q list at out to i j o → Moved q s list i o j k l o' → Moved p s list at out to k l o'
  moved_then {q} {s} {i} {j} {k} {l} {o} {o'} m n =
      record {
        text = m.text ++ n.text;
        splits = m.splits ∙ ap (λ x. m.text ++ x) n.splits ∙ sym (append_assoc m.text n.text (ahead s list k));
        laid = n.laid ∙ ap₂ (λ x y. over x n.text y) m.behind m.laid ∙ over_join to m.text n.text out;
        behind = simp length-append (omega arith);
        ends = n.ends;
        above = omega arith;
        below = n.below;
        fits = omega arith;
        same = n.same ∙ m.same;
      }

  -- what follows may be copied, too
  pub ready_then : {q : Place} {i j : ℕ} {o : List ℕ} → Moved p q list at out to i j o → Ready p list at out to → Ready q list i o j
  ready_then {q} {i} {j} {o} m r =
      record {
        well = r.well;
        ends = m.ends;
        there = m.below;
        room = omega (arith, ap length m.splits ∙ length-append m.text (ahead q list i));
      }

  -- the text of a part of the list, laid over the buffer
  module _ {q s : Place} {i j k : ℕ} {o xs : List ℕ}
      (r : Ready p list at out to) (m : Moved p q list at out to i j o) (t : Part q s list i k xs) where
    room_part : j + length xs ≤ length o
    room_part = omega (arith, (ready_then m r).room, ap length t.splits ∙ length-append xs (ahead s list k))

    moved_part : {l : ℕ} {o' : List ℕ} → l ≡ j + length xs → o' ≡ over j xs o → Moved p s list at out to k l o'
    moved_part {l} {o'} b h =
        moved_then m
        (record {
          text = xs;
          splits = t.splits;
          laid = h;
          behind = b;
          ends = t.ends;
          above = t.above;
          below = t.below;
          fits = omega (arith, room_part);
          same = ap length h ∙ length_over j xs o;
        })

  -- ---- in a string

  module _ {i j : ℕ} {o : List ℕ} (r : Ready p list at out to) (m : Moved p (in_string []) list at out to i j o) where
    pub more_bytes : i < length list
    more_bytes = in_string_no_end list i m.ends

    -- a byte that stands for itself
    module _ (n : get_or list i 0 ≡ 0x22 → ⊥) (s : get_or list i 0 ≡ 0x5C → ⊥) where
      byte_at : Part (in_string []) (in_string []) list i (i + 1) (get_or list i 0 ∷ [])
      byte_at =
          let (e, f) = raw_at list i m.ends n s in
          record { splits = f; ends = e; above = omega arith; below = omega (arith, more_bytes) }

      pub room_byte : j < length o
      room_byte = omega (arith, room_part r m byte_at)

      pub moved_byte : Moved p (in_string []) list at out to (i + 1) (j + 1) (set o j (get_or list i 0))
      moved_byte = moved_part r m byte_at refl (put_in o j (get_or list i 0))

    -- eight plain bytes
    module _ {b : Bool} (e : b ≡ all_of is_plain (take 8 (drop i list))) (n : b ≡ true) (h : 8 ≤ length list - i) where
      eight_at : Part (in_string []) (in_string []) list i (i + 8) (take 8 (drop i list))
      unfolding ahead
      eight_at =
          let z = take-append-drop 8 (drop i list) in
          let y = drop-drop 8 i list in
          let x = plains (take 8 (drop i list)) (drop 8 (drop i list)) (known (sym e ∙ n)) (rw z m.ends) in
          let (f, g) = rw y at (rw z at x) in
          record { splits = g; ends = f; above = omega arith; below = omega arith }

      -- the part of the list that is copied
      abbrev eight : List ℕ
      eight = take (i + 8 - i) (drop i list)

      eight_is : take 8 (drop i list) ≡ eight
      eight_is = let z : 8 ≡ i + 8 - i = omega arith in ap (λ n. take n (drop i list)) z

      eight_long : length eight ≡ 8
      eight_long = simp (length-take, length-drop) (omega arith)

      pub room_eight : j + length eight ≤ length o
      room_eight = room_part r m (rw eight_is at eight_at)

      pub moved_eight : {o' : List ℕ} → o' ≡ take j o ++ eight ++ drop (j + length eight) o
          → Moved p (in_string []) list at out to (i + 8) (j + 8) o'
      moved_eight g = moved_part r m (rw eight_is at eight_at) (omega (arith, eight_long)) (g ∙ sym (over_at j eight o room_eight))

    -- its quotation mark
    pub moved_mark : get_or list i 0 ≡ 0x22 → Moved p after_value list at out to (i + 1) j o
    moved_mark e = moved_part r m (mark_at list i m.ends e) (omega arith) (sym (over_nil j o))

-- ---- the parts of a string

module _ {list : List ℕ} {at : ℕ} {out : List ℕ} {to : ℕ} (r : Ready (in_string []) list at out to) where
  pub first_byte : at < length list
  first_byte = more_bytes r (moved_none r)

  -- an escape
  module _ (s : get_or list at 0 ≡ 0x5C) where
    slash_moved : Moved (in_string []) (after_escape []) list at out to (at + 1) to out
    slash_moved = moved_part r (moved_none r) (slash_at list at r.ends s) (omega arith) (sym (over_nil to out))

    pub escape_ready : Ready (after_escape []) list (at + 1) out to
    escape_ready = ready_then slash_moved r

    pub escape_well : T (is_well_formed (drop (at + 1) list))
    escape_well =
        let h = first_byte in
        known
        (sym (ascii_on 0x5C (drop (at + 1) list) (omega arith))
        ∙ ap (λ b. is_well_formed (b ∷ drop (at + 1) list)) (sym s)
        ∙ ap is_well_formed (sym (at_byte list at h))
        ∙ starts list at (Some (0, 0x80, 0xBF)) tt (holds (is_well_formed list) r.well) h (omega arith))

    module _ {i j : ℕ} {o : List ℕ} (m : Moved (after_escape []) (in_string []) list (at + 1) out to i j o) where
      pub escape_then : Moved (in_string []) (in_string []) list at out to i j o
      escape_then = moved_then slash_moved m

  -- a byte, and what is copied behind it
  module _ (n : eqb (get_or list at 0) 0x22 ≡ false) (s : get_or list at 0 ≡ 0x5C → ⊥) where
    no_mark : get_or list at 0 ≡ 0x22 → ⊥
    no_mark e = true≢false (sym (eq-eqb (get_or list at 0) 0x22 e) ∙ n)

    pub byte_room : to < length out
    byte_room = room_byte r (moved_none r) no_mark s

    byte_moved : Moved (in_string []) (in_string []) list at out to (at + 1) (to + 1) (set out to (get_or list at 0))
    byte_moved = moved_byte r (moved_none r) no_mark s

    pub byte_ready : Ready (in_string []) list (at + 1) (set out to (get_or list at 0)) (to + 1)
    byte_ready = ready_then byte_moved r

    module _ {i j : ℕ} {o : List ℕ} (m : Moved (in_string []) (in_string []) list (at + 1) (set out to (get_or list at 0)) (to + 1) i j o) where
      pub byte_then : Moved (in_string []) (in_string []) list at out to i j o
      byte_then = moved_then byte_moved m

      pub byte_same : length o ≡ length out
      byte_same = byte_then.same

-- ---- escapes

module _ {list : List ℕ} {at : ℕ} {out : List ℕ} {to : ℕ} (r : Ready (after_escape []) list at out to) where
  -- a list of the form has no escape that names nothing
  pub escape_there : T (is_well_formed (drop at list)) → (x : Option Escaped) → EscapeAt after_escape list at x → IsSome x
  escape_there w None z = absurd (true≢false (ap₂ ◌&&◌ (sym (holds (is_well_formed (drop at list)) w)) (sym r.ends) ∙ z []))
  escape_there w (Some e) z = refl

  module _ {x : Escaped} {y : Option Escaped} (q : y ≡ Some x) (z : EscapeAt after_escape list at y) where
    named : Names after_escape list at x
    named = rw q at z

    pub code_small : x.code < 0x110000
    code_small = named.few

    escape_at : Part (after_escape []) (in_string []) list at x.to (encode_scalar x.code)
    unfolding ahead
    escape_at =
        let o = named.onward [] in
        let (e, f) = held (encode_scalar x.code) (drop x.to list) (sym (ap is_end o.to) ∙ r.ends) in
        record { splits = ap texts o.has ∙ f; ends = e; above = omega (arith, named.wide); below = named.there }

    pub room_scalar : to + length (encode_scalar x.code) ≤ length out
    room_scalar = room_part r (moved_none r) escape_at

    pub moved_scalar : {j : ℕ} {o : List ℕ} → o ≡ over to (encode_scalar x.code) out → j ≡ to + length (encode_scalar x.code)
        → Moved (after_escape []) (in_string []) list at out to x.to j o
    moved_scalar h b = moved_part r (moved_none r) escape_at b h

-- ---- the whole list

-- the list is read to i, where no string goes on, and its texts so far are copied
pub record Between (list out₀ : List ℕ) (at i to : ℕ) (out : List ℕ) : Type 0 where
  pub place : Place
  pub apart : inside place ≡ false
  pub moved : Moved at_start place list 0 out₀ at i to out

module _ {list out₀ : List ℕ} {at : ℕ} (f : T (in_form list)) (h : at + length (texts (items at_start list)) ≤ length out₀) where
  begun : Ready at_start list 0 out₀ at
  unfolding ahead in_form
  begun =
      let (w, e) = (both (is_well_formed list) (is_end (reached at_start list))).0 f in
      record { well = w; ends = holds (is_end (reached at_start list)) e; there = omega arith; room = h }

  pub between_none : Between list out₀ at 0 at out₀
  between_none = record { place = at_start; apart = refl; moved = moved_none begun }

  module _ {i to : ℕ} {out : List ℕ} (b : Between list out₀ at i to out) where
    -- all is read
    pub all_copied : length list ≤ i → out ≡ over at (texts (items at_start list)) out₀
    unfolding ahead items
    all_copied l =
        let m = b.moved in
        let z : texts (items at_start list) ≡ m.text = m.splits ∙ rw (drop_of_length-le list l) (append-nil m.text) in
        m.laid ∙ ap (λ t. over at t out₀) (sym z)

    module _ (l : i < length list) where
      apart_on : (get_or list i 0 ≡ 0x22 → ⊥) → Part b.place (next b.place (get_or list i 0)) list i (i + 1) []
      unfolding ahead reached
      apart_on n =
          let z = at_byte list i l in
          record {
            splits = rw z (out_on (get_or list i 0) n b.place (drop (i + 1) list) b.apart);
            ends = rw z at b.moved.ends;
            above = omega arith;
            below = omega arith;
          }

      -- a byte between strings
      pub between_byte : (get_or list i 0 ≡ 0x22 → ⊥) → Between list out₀ at (i + 1) to out
      between_byte n =
          record {
            place = next b.place (get_or list i 0);
            apart = (out_byte (get_or list i 0) n b.place b.apart).0;
            moved = moved_part begun b.moved (apart_on n) (omega arith) (sym (over_nil to out));
          }

      module _ (e : get_or list i 0 ≡ 0x22) where
        mark_begins : Part b.place (in_string []) list i (i + 1) []
        unfolding ahead
        mark_begins =
            let z : drop i list ≡ 0x22 ∷ drop (i + 1) list = at_byte list i l ∙ ap (λ c. c ∷ drop (i + 1) list) e in
            let (g, k) = mark_on b.place (drop (i + 1) list) b.apart (rw z at b.moved.ends) in
            record { splits = rw z k; ends = g; above = omega arith; below = omega arith }

        string_moved : Moved at_start (in_string []) list 0 out₀ at (i + 1) to out
        string_moved = moved_part begun b.moved mark_begins (omega arith) (sym (over_nil to out))

        pub string_ready : Ready (in_string []) list (i + 1) out to
        string_ready = ready_then string_moved begun

        pub between_string : {k n : ℕ} {o : List ℕ} → Moved (in_string []) after_value list (i + 1) out to k n o → Between list out₀ at k n o
        between_string m = record { place = after_value; apart = refl; moved = moved_then string_moved m }

-- ---- the next quotation mark

-- bytes of the list from i on
module _ (list : List ℕ) (i : ℕ) where
  rest_is : take (length list - i) (drop i list) ≡ drop i list
  rest_is = take_all (length list - i) (drop i list) (simp length-drop (omega arith))

  rest_long : length (take (length list - i) (drop i list)) ≡ length list - i
  rest_long = ap length rest_is ∙ length-drop i list

  rest_at : (j : ℕ) → get_or (take (length list - i) (drop i list)) j 0 ≡ get_or list (i + j) 0
  rest_at j = ap (λ x. get_or x j 0) rest_is ∙ get_or-drop i list j 0

module _ {list out₀ : List ℕ} {at : ℕ} (f : T (in_form list)) (h : at + length (texts (items at_start list)) ≤ length out₀) where
  -- bytes between strings
  between_run : {i to : ℕ} {out : List ℕ} → Between list out₀ at i to out → (n : ℕ) → i + n ≤ length list → ((j : ℕ) → j < n → get_or list (i + j) 0 ≢ 0x22) → Between list out₀ at (i + n) to out
  between_run {i} {to} {out} b zero l g = let z : i ≡ i + 0 = omega arith in subst (λ k. Between list out₀ at k to out) z b
  between_run {i} {to} {out} b (suc n) l g =
      let z : i + n + 1 ≡ i + suc n = omega arith in
      subst (λ k. Between list out₀ at k to out) z (between_byte f h (between_run b n (omega arith) (λ j l. g j (omega arith))) (omega arith) (g n (omega arith)))

  module _ {i to : ℕ} {out : List ℕ} (b : Between list out₀ at i to out) where
    -- no string is left
    pub rest_copied : ((j : ℕ) → j < length (take (length list - i) (drop i list)) → get_or (take (length list - i) (drop i list)) j 0 ≢ 0x22) → out ≡ over at (texts (items at_start list)) out₀
    rest_copied g =
        let l = b.moved.below in
        all_copied f h (between_run b (length list - i) (omega arith) (λ j k e. g j (omega (arith, rest_long list i)) (rest_at list i j ∙ e))) (omega arith)

    module _ (k : ℕ)
        (x : (k < length (take (length list - i) (drop i list))) × (get_or (take (length list - i) (drop i list)) k 0 ≡ 0x22) × ((j : ℕ) → j < k → get_or (take (length list - i) (drop i list)) j 0 ≢ 0x22)) where
      before_mark : Between list out₀ at (i + k) to out
      before_mark = let l = b.moved.below in between_run b k (omega (arith, x.0, rest_long list i)) (λ j l e. x.2 j l (rest_at list i j ∙ e))

      pub next_ready : Ready (in_string []) list (i + k + 1) out to
      next_ready = string_ready f h before_mark (omega (arith, x.0, rest_long list i)) (sym (rest_at list i k) ∙ x.1)

      pub next_between : {m n : ℕ} {o : List ℕ} → Moved (in_string []) after_value list (i + k + 1) out to m n o → Between list out₀ at m n o
      next_between = between_string f h before_mark (omega (arith, x.0, rest_long list i)) (sym (rest_at list i k) ∙ x.1)
