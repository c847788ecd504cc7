-- From one text to the next.
use Rattle.std.specs.Prelude.{◌≡◌, ℕ, suc, ◌+◌, ◌-◌, ◌<◌, ◌≤◌, Bool, true, false, not, T, List, [], ◌∷◌, ◌++◌, length, take, drop, Option, Some, None}
use native.Mathlib.Nat.{zero-add}
use mathlib.Core.Path.{sym, ap, ◌∙◌, ap₂, refl}
use lib.ListN.{length-take}
use lib.Seq.{length_front, length-take-le, take-append_seam}
use native.Mathlib.Omega.{arith}
use Rattle.buffers.specs.InnerOver.{over}
use Rattle.buffers.proofs.Over.{length_over, over_front}
use Rattle.characters.specs.Form.{is_well_formed}
use Rattle.characters.specs.Chars.{number_of_chars}
use Rattle.characters.specs.Text.{Char, chars, bytes}
use Rattle.characters.proofs.Texts.{bytes_chars, chars_bytes, bytes_well, chars_length}
use Rattle.edits.specs.Sequence.{Seq}
use Rattle.edits.specs.Op.{base}
use Rattle.edits.specs.Apply.{apply}
use Rattle.edits.proofs.Theorems.{apply_length}
use Rattle.answers.proofs.Outputs.{at_front_take}
use Rattle.record.specs.Layout.{size_of, base_of}
use Rattle.record.specs.Record.{ops, record_fault}
use Rattle.record.proofs.Records.{ops_base, ops_target}
use Rattle.apply_steps.specs.InnerSteps.{played}
use Rattle.session_log.specs.Log.{start_of, count_of, readable, revisions, place_of, length_at}
use Rattle.session_log.proofs.Scanning.{place_start, length_start, place_inside, Revision, revision}
use Rattle.session.specs.Rows.{play_all, longest}
use Rattle.playback_steps.specs.InnerStages.{Holds, held, missed, Advances, Stage, room, between, Stands, Ends, whole}
use Rattle.playback_steps.specs.InnerStages as stages
use Rattle.playback_steps.proofs.Rooms.{room_first, room_second, room_both, room_more, room_max, longest_here}

-- ---- a text at the front of a buffer

module _ (t a : List ℕ) where
  pub hold_short : length a < length t → Holds t a a false
  hold_short h = missed h

  pub hold_whole : (a' : List ℕ) → length t ≤ length a → a' ≡ take 0 a ++ t ++ drop (0 + length t) a → Holds t a a' true
  hold_whole a' h e =
      let p : a' ≡ t ++ drop (length t) a = e ∙ ap (λ i. t ++ drop i a) (zero-add (length t)) in
      held h (ap length p ∙ length_front a t (length t) (sym (length-take-le (length t) a h))) (ap (take (length t)) p ∙ take-append_seam t (drop (length t) a))

pub as_long : (n : ℕ) (a : List ℕ) → n ≤ length a → n ≡ length (take n a)
as_long n a h = sym (length-take-le n a h)

-- ---- one revision

-- a run has left b₁ in the second buffer
module _ (rec t b b₁ : List ℕ) (m a : ℕ) (e : m ≡ length (played rec t)) (p : b₁ ≡ over 0 (played rec t) b) where
  same_size : length b₁ ≡ length b
  same_size = ap length p ∙ length_over 0 (played rec t) b

  pub advance_other : (a' : List ℕ) → length b₁ < m → Advances rec t a (length b) a' None
  advance_other a' h = stages.Advances.short (room_second a (length b) (length (played rec t)) (omega (arith, same_size)))

  module _ (h : m ≤ length b₁) where
    front : take m b₁ ≡ played rec t
    front =
        ap₂ take e (p ∙ over_front (played rec t) b (omega (arith, same_size))) ∙ at_front_take (played rec t) b

    module _ (s a' : List ℕ) (z : length s ≡ a) (v : Bool) (g : Holds (take m b₁) s a' v) where
      pub advance_short : not v ≡ true → Advances rec t a (length b) a' None
      advance_short q = go v g q
        where
          go : (v : Bool) → Holds (take m b₁) s a' v → not v ≡ true → Advances rec t a (length b) a' None
          go true x q = absurd (let y : ◌≡◌ {A = ℕ} 0 1 = cc q in omega arith)
          go false (missed l) q = stages.Advances.short (room_first a (length b) (length (played rec t)) (omega (arith, ap length front)))

      pub advance_on : not v ≡ false → Advances rec t a (length b) a' (Some m)
      advance_on q = go v g q
        where
          go : (v : Bool) → Holds (take m b₁) s a' v → not v ≡ false → Advances rec t a (length b) a' (Some m)
          go true (held l k w) q =
              let y : length (take m b₁) ≡ m = length-take-le m b₁ h in
              stages.Advances.on e (omega arith) (omega (arith, same_size)) (ap (λ i. take i a') (sym y) ∙ w ∙ front)
          go false x q = absurd (let y : ◌≡◌ {A = ℕ} 0 1 = cc q in omega arith)

-- ---- the first j revisions

all_left : (j : ℕ) (es : List Seq) → between 0 j es ≡ take j es
all_left j es = ap (λ i. take i es) (let z : j - 0 ≡ j = omega arith in z)

none_left : (k j : ℕ) (es : List Seq) → j ≤ k → between k j es ≡ []
none_left k j es h = ap (λ i. take i (drop k es)) (let z : j - k ≡ 0 = omega arith in z)

-- where `e` is edit k + 1 of a row
one_left : (k j : ℕ) (e : Seq) (es : List Seq) → k < j → drop k es ≡ e ∷ drop (k + 1) es → between k j es ≡ e ∷ between (k + 1) j es
one_left k j e es h p =
    let z : j - k ≡ suc (j - (k + 1)) = omega arith in
    ap (λ i. take i (drop k es)) z ∙ ap (take (suc (j - (k + 1)))) p

pub stage_start : (l s : List ℕ) (j n a b : ℕ) → n ≤ a → n ≤ b → T (is_well_formed (take n s)) → number_of_chars (take n s) ≡ start_of l → Stage l j (take n s) a b 0 4 n s
stage_start l s j n a b h g w e =
    record {
      place = sym (place_start l);
      inside = h;
      other = g;
      well = w;
      chars_are = e ∙ sym (length_start l);
      ends = ap (λ es. play_all es (chars (take n s))) (all_left j (revisions l));
      needs = ap (λ es. room a b (longest es (chars (take n s)))) (all_left j (revisions l));
    }

module _ (l t s : List ℕ) (r : T (readable l)) (j a b k at n : ℕ) (e : j ≤ count_of l) (g : Stage l j t a b k at n s) where
  abbrev now : List Char
  now = chars (take n s)

  abbrev last : List Char
  last = play_all (take j (revisions l)) (chars t)

  now_bytes : bytes now ≡ take n s
  now_bytes = bytes_chars (take n s) g.well

  pub stage_end : j ≤ k → k ≤ j → length s ≡ a → Ends l j t a b s (Some (n, at))
  stage_end h i z =
      let d : between k j (revisions l) ≡ [] = none_left k j (revisions l) h in
      let same : now ≡ last = ap (λ es. play_all es now) (sym d) ∙ g.ends in
      let y : take n s ≡ bytes last = sym now_bytes ∙ ap bytes same in
      let x : length (take n s) ≡ n = length-take-le n s (omega (arith, g.inside)) in
      let u : longest (between k j (revisions l)) now ≡ n = ap (λ es. longest es now) d ∙ ap length now_bytes ∙ x in
      let v : k ≡ j = omega arith in
      whole
      (record {
        has_room = sym g.needs ∙ ap (room a b) u ∙ room_both a b n g.inside g.other;
        size = sym x ∙ ap length y;
        text_is = y;
        chars_are = g.chars_are ∙ ap (λ i. length_at i l) v;
        place = g.place ∙ ap (λ i. place_of i l) v;
      })

  module _ (h : k < j) where
    abbrev part : List ℕ
    part = take (length l - at) (drop at l)

    this : Revision l k at part
    this = revision l r k at (omega arith) g.place

    left : between k j (revisions l) ≡ ops part ∷ between (k + 1) j (revisions l)
    left = one_left k j (ops part) (revisions l) h this.edits

    pub stage_at : at ≤ length l
    stage_at = rw g.place (place_inside l r k (omega arith))

    pub stage_fault : record_fault part ≡ 0
    stage_fault = this.faultless

    pub stage_base : number_of_chars (take n s) ≡ base_of part
    stage_base = g.chars_are ∙ sym this.base

    pub stage_room : (z : ℕ) → z ≡ size_of part → at + z ≤ length l
    stage_room z p = rw p this.inside

    after : played part (take n s) ≡ bytes (apply (ops part) now)
    unfolding played
    after = refl

    -- what is left to play, and the room that it needs, from the next text on
    left_needs : room a b (longest (between (k + 1) j (revisions l)) (apply (ops part) now)) ≡ room a b (longest (take j (revisions l)) (chars t))
    left_needs =
        let x : length (bytes now) ≤ n = omega (arith, ap length now_bytes, length-take n s) in
        sym (room_max a b (length (bytes now)) (longest (between (k + 1) j (revisions l)) (apply (ops part) now)) (omega (arith, g.inside)) (omega (arith, g.other)))
        ∙ ap (λ es. room a b (longest es now)) (sym left)
        ∙ g.needs

    module _ (s' u : List ℕ) (x : Option ℕ) (za : length s ≡ a) (zu : length u ≡ b) (d : Advances part (take n s) (length s) (length u) s' x) where
      same : Advances part (take n s) a b s' x
      same = rw (za, zu) at d

      pub stage_short : x ≡ None → Ends l j t a b s' None
      stage_short q = go x same q
        where
          go : (x : Option ℕ) → Advances part (take n s) a b s' x → x ≡ None → Ends l j t a b s' None
          go x (stages.Advances.short f) q =
              stages.Ends.short (sym left_needs ∙ room_more a b _ _ (longest_here (between (k + 1) j (revisions l)) (apply (ops part) now)) (ap (λ i. room a b (length i)) (sym after) ∙ f))
          go x (stages.Advances.on m i j w) q = absurd (let y : ◌≡◌ {A = ℕ} 0 1 = cc q in omega arith)

      pub stage_next : (m z : ℕ) → x ≡ Some m → z ≡ size_of part → Stage l j t a b (k + 1) (at + z) m s'
      stage_next m z q p = go x same q
        where
          next : take m s' ≡ played part (take n s) → m ≤ a → m ≤ b → Stage l j t a b (k + 1) (at + z) m s'
          next w i o =
              let v = apply (ops part) now in
              let y : take m s' ≡ bytes v = w ∙ after in
              let c : chars (take m s') ≡ v = ap chars y ∙ chars_bytes v in
              let f : length now ≡ base (ops part) = chars_length (take n s) g.well ∙ stage_base ∙ sym (ops_base part this.faultless) in
              record {
                place = ap (λ i. at + i) p ∙ this.next;
                inside = i;
                other = o;
                well = rw y (bytes_well v);
                chars_are = sym (chars_length (take m s') (rw y (bytes_well v))) ∙ ap length c ∙ apply_length (ops part) now f ∙ ops_target part this.faultless ∙ this.target;
                ends = ap (play_all (between (k + 1) j (revisions l))) c ∙ ap (λ es. play_all es now) (sym left) ∙ g.ends;
                needs = ap (λ i. room a b (longest (between (k + 1) j (revisions l)) i)) c ∙ left_needs;
              }

          go : (x : Option ℕ) → Advances part (take n s) a b s' x → x ≡ Some m → Stage l j t a b (k + 1) (at + z) m s'
          go x (stages.Advances.short f) q = absurd (let y : ◌≡◌ {A = ℕ} 0 1 = cc q in omega arith)
          go x (stages.Advances.on {n = o} f i j w) q = let y : o ≡ m = cc q in next (rw y at w) (rw y at i) (rw y at j)

-- ---- from the start

record Kept (t s s₁ : List ℕ) : Type 0 where
  room_for : length t ≤ length s
  size : length s₁ ≡ length s
  same : take (length t) s₁ ≡ t

module _ (t s s₁ : List ℕ) (v : Bool) (g : Holds t s s₁ v) (q : not v ≡ false) where
  kept : Kept t s s₁
  kept = go v g q
    where
      go : (v : Bool) → Holds t s s₁ v → not v ≡ false → Kept t s s₁
      go true (held i j k) q = record { room_for = i; size = j; same = k }
      go false x q = absurd (let y : ◌≡◌ {A = ℕ} 0 1 = cc q in omega arith)

  pub run_room : length t ≤ length s₁
  run_room = omega (arith, kept.room_for, kept.size)

  pub run_well : T (is_well_formed t) → T (is_well_formed (take (length t) s₁))
  run_well w = rw kept.same w

  pub run_chars : (n : ℕ) → number_of_chars t ≡ n → number_of_chars (take (length t) s₁) ≡ n
  run_chars n e = ap number_of_chars kept.same ∙ e

module _ (l t : List ℕ) (j a b : ℕ) (w : T (is_well_formed t)) where
  first_needs : room a b (length t) ≡ false → room a b (longest (take j (revisions l)) (chars t)) ≡ false
  first_needs e = room_more a b _ _ (longest_here (take j (revisions l)) (chars t)) (ap (λ i. room a b (length i)) (bytes_chars t w) ∙ e)

  pub run_other : (s : List ℕ) → b < length t → Ends l j t a b s None
  run_other s h = stages.Ends.short (first_needs (room_second a b (length t) h))

  module _ (s s₁ : List ℕ) (z : length s ≡ a) (v : Bool) (g : Holds t s s₁ v) where
    pub run_short : not v ≡ true → Ends l j t a b s₁ None
    run_short q = go v g q
      where
        go : (v : Bool) → Holds t s s₁ v → not v ≡ true → Ends l j t a b s₁ None
        go true x q = absurd (let y : ◌≡◌ {A = ℕ} 0 1 = cc q in omega arith)
        go false (missed h) q = stages.Ends.short (first_needs (room_first a b (length t) (omega arith)))

    pub run_ends : not v ≡ false → (s₂ : List ℕ) (x : Option (ℕ × ℕ)) → Ends l j (take (length t) s₁) (length s₁) b s₂ x → Ends l j t a b s₂ x
    run_ends q s₂ x d = let k = kept t s s₁ v g q in rw (k.same, k.size ∙ z) at d

-- ---- for whoever calls it

module _ (l : List ℕ) (j : ℕ) (t : List ℕ) (a b : ℕ) (a' : List ℕ) (y : Option (ℕ × ℕ)) (g : Ends l j t a b a' y) where
  pub ends_short : y ≡ None → room a b (longest (take j (revisions l)) (chars t)) ≡ false
  ends_short q = go y g q
    where
      go : (y : Option (ℕ × ℕ)) → Ends l j t a b a' y → y ≡ None → room a b (longest (take j (revisions l)) (chars t)) ≡ false
      go y (stages.Ends.short x) q = x
      go y (whole w) q = absurd (let z : ◌≡◌ {A = ℕ} 0 1 = cc q in omega arith)

  module _ (n at : ℕ) (q : y ≡ Some (n, at)) where
    pub ends_stand : Stands l j t a b a' n at
    ends_stand = go y g q
      where
        go : (y : Option (ℕ × ℕ)) → Ends l j t a b a' y → y ≡ Some (n, at) → Stands l j t a b a' n at
        go y (stages.Ends.short x) q = absurd (let z : ◌≡◌ {A = ℕ} 0 1 = cc q in omega arith)
        go y (whole {n = m} {at = p} w) q =
            let e : ◌≡◌ {A = ℕ × ℕ} (m, p) (n, at) = cc q in
            rw (ap (λ z. z.0) e, ap (λ z. z.1) e) at w

    pub stands_size : n ≡ length (take n a')
    stands_size = ends_stand.size ∙ ap length (sym ends_stand.text_is)

    pub stands_inside : n ≤ length a'
    stands_inside = omega (arith, stands_size, length-take n a')
