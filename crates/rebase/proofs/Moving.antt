-- The run past the revisions: what was moved already, and what is still to come, is the whole.
use Rattle.std.specs.Prelude.{◌≡◌, ℕ, suc, ◌+◌, ◌-◌, ◌*◌, ◌^◌, ◌≤◌, Bool, true, false, not, ◌&&◌, T, leb, List, [], ◌∷◌, ◌++◌, map, length, take, drop, Ok, Err}
use mathlib.Core.Path.{refl, sym, ap, ◌∙◌, subst, ap₂, subst₂}
use mathlib.Core.List.{append_assoc, append-nil}
use lib.ListN.{length-append, length-drop}
use native.Mathlib.Omega.{arith}
use mathlib.Core.Bool.{and-eq-true_iff, true≢false}
use lib.Seq.{take_at, drop_at, drop-drop}
use borrow.Author.Tests.{not-true, not-false, le-leb, leb-true}
use Rattle.buffers.specs.Buffers.{put_at_front}
use Rattle.buffers.proofs.Tests.{known, holds}
use Rattle.characters.specs.Order.{order}
use Rattle.characters.specs.Text.{Char}
use Rattle.edits.specs.Sequence.{Seq}
use Rattle.edits.specs.Op.{base}
use Rattle.edits.specs.Transform.{Sides, transform}
use Rattle.edits.proofs.Theorems.{base_left}
use Rattle.answers.specs.declared.Refusal.TheVariants.{Limit}
use Rattle.record.specs.Layout.{base_of, size_of, target_of}
use Rattle.record.specs.Record.{record_fault, ops, in_bytes, text, encode, fits}
use Rattle.record.proofs.Records.{ops_base, encode_small, ops_target}
use Rattle.record.proofs.Faults.{limits, faultless}
use Rattle.record.proofs.Sequences.{fits_limits}
use Rattle.emitter.specs.declared.inner.Emitter.{Emitter}
use Rattle.emitter.specs.InnerEmit.{Sizes, within_limits, size_in}
use Rattle.emitter.proofs.Counting.{text_left}
use Rattle.emitter.proofs.Delivering.{sized_fits}
use Rattle.steps.specs.declared.inner.Pair.{Pair}
use Rattle.steps.specs.declared.inner.Counts.{Counts}
use Rattle.steps.specs.InnerBoth.{MarkedBoth, SizedBoth}
use Rattle.session_log.specs.Log.{encode_all, edits_in}
use Rattle.session_log.proofs.Logs.{encode_all_append}
use Rattle.session_log.proofs.Scanning.{to_end}
use Rattle.session.specs.Rows.{Moved, rebase, rule}
use Rattle.counterparts.specs.InnerRunning.{RecordsFollow, Holds, SameText, Fit, Ready, ReplacesEdit, Runs}
use Rattle.counterparts.specs.declared.inner.Progress.{Progress}
use Rattle.counterparts.specs.declared.inner.Stop.TheVariants as stop
use Rattle.counterparts.proofs.Following.{lie_first, lie_rest}

pub within_fits : (s : Seq) (e : Emitter) → Sizes s e → within_limits e ≡ true → T (fits s)
within_fits s e d w = known (sym (sized_fits s e d) ∙ w)

-- ---- what was moved past already
abbrev pub behind : List Seq → Moved → Moved
behind done m = record { edit = m.edit; counterparts = done ++ m.counterparts; kept = m.kept }

-- of n revisions that begin at `from`, `left` are still to come; the counterparts so far stand in `parts`, if they have room there
pub record Moving (e : Seq) (l : List ℕ) (from n left : ℕ) (spot : Progress) (cur parts₀ parts : List ℕ) : Type 0 where
  pub place : spot.at ≤ length l
  pub lies : RecordsFollow left (base_of cur) (drop spot.at l)
  pub holds : Holds (ops cur) cur
  pub same_text : SameText (ops cur) e
  pub done : List Seq
  pub number : length done + left ≡ n
  pub whole : rebase e (edits_in n (drop from l)) ≡ behind done (rebase (ops cur) (edits_in left (drop spot.at l)))
  pub bytes_are : spot.bytes ≡ length (encode_all done)
  pub small : spot.bytes ≤ 35848 * length done
  pub given : spot.bytes ≤ length parts₀ → parts ≡ put_at_front (encode_all done) parts₀

pub moving_start : (l : List ℕ) (from n : ℕ) (edit cur parts : List ℕ) → from ≤ length l → RecordsFollow n (base_of edit) (drop from l) → record_fault edit ≡ 0 → Holds (ops edit) cur → Moving (ops edit) l from n n (record { at = from; bytes = 0 }) cur parts parts
unfolding encode_all put_at_front
moving_start l from n edit cur parts p q z h =
    let same : base_of edit ≡ base_of cur = sym (ops_base edit z) ∙ ap base (sym h.edit) ∙ ops_base cur h.fault in
    record {
      place = p;
      lies = subst (λ k. RecordsFollow n k (drop from l)) same q;
      holds = subst (λ s. Holds s cur) (sym h.edit) h;
      same_text = record { same_text = ap (λ s. text (map in_bytes s)) h.edit };
      done = [];
      number = omega arith;
      whole = ap (λ s. rebase s (edits_in n (drop from l))) (sym h.edit);
      bytes_are = refl;
      small = omega arith;
      given = λ _. refl;
    }

module _ (e : Seq) (l : List ℕ) (from n left : ℕ) (spot : Progress) (cur parts₀ parts : List ℕ) (g : Moving e l from n left spot cur parts₀ parts) where
  abbrev at : ℕ
  at = spot.at

  pub moving_small : n ≤ 256 → spot.bytes ≤ 2 ^ 40
  moving_small h = omega (arith, g.small, g.number, h)

  pub moving_place : spot.at ≤ length l
  moving_place = g.place

  pub moving_end : (slots room : ℕ) → left ≡ 0 → Runs slots room e (edits_in n (drop from l)) (Ok spot.bytes) cur parts₀ parts
  unfolding rebase edits_in
  moving_end slots room z =
      let w : rebase e (edits_in n (drop from l)) ≡ behind g.done (record { edit = ops cur; counterparts = []; kept = true }) =
      g.whole ∙ ap (λ k. behind g.done (rebase (ops cur) (edits_in k (drop at l)))) z in
      let all : g.done ≡ (rebase e (edits_in n (drop from l))).counterparts = sym (append-nil g.done) ∙ sym (ap (λ m. m.counterparts) w) in
      record {
        runs = (
          record {
            kept = ap (λ m. m.kept) w;
            bytes_are = g.bytes_are ∙ ap (λ d. length (encode_all d)) all;
            holds = subst (λ s. Holds s cur) (sym (ap (λ m. m.edit) w)) g.holds;
          },
          λ h. g.given h ∙ ap (λ d. put_at_front (encode_all d) parts₀) all,
        );
      }

  module _ (some : left ≡ 0 → ⊥) where
    abbrev rec : List ℕ
    rec = take (length l - at) (drop at l)

    rec_is : rec ≡ drop at l
    rec_is = to_end l at

    pub moving_record : record_fault rec ≡ 0
    moving_record = ap record_fault rec_is ∙ (lie_first left (base_of cur) (drop at l) some g.lies).0

    pub moving_agree : base_of cur ≡ base_of rec
    moving_agree = sym (ap base_of rec_is ∙ (lie_first left (base_of cur) (drop at l) some g.lies).1)

    abbrev s : Sides Char
    s = transform order (ops cur) (ops rec)

    pub moving_whole : rebase (ops cur) (edits_in left (drop at l)) ≡
        (let m = rebase s.left (edits_in (left - 1) (drop (size_of rec) (drop at l))) in
        record { edit = m.edit; counterparts = s.right ∷ m.counterparts; kept = fits s.left && (fits s.right && m.kept) })
    unfolding rebase edits_in rule transform
    moving_whole =
        let k : left ≡ suc (left - 1) = omega (arith, some) in
        ap (λ i. rebase (ops cur) (edits_in i (drop at l))) k
        ∙ ap (λ r. let m = rebase (rule (ops cur) (ops r)).left (edits_in (left - 1) (drop (size_of r) (drop at l))) in record { edit = m.edit; counterparts = (rule (ops cur) (ops r)).right ∷ m.counterparts; kept = fits (rule (ops cur) (ops r)).left && (fits (rule (ops cur) (ops r)).right && m.kept) }) (sym rec_is)

    module _ (p : Pair) (d : SizedBoth s p) (v : Bool) (q : v ≡ (within_limits p.e && within_limits p.f)) where
      pub moving_stop : (slots room : ℕ) → not v ≡ true → Runs slots room e (edits_in n (drop from l)) (Err (stop.Refused Limit)) cur parts₀ parts
      moving_stop slots room h =
          let z : fits s.left && fits s.right ≡ false = ap₂ ◌&&◌ (sym (sized_fits s.left p.e d.left)) (sym (sized_fits s.right p.f d.right)) ∙ sym q ∙ not-true v h in
          record { runs = (refl, ap (λ m. m.kept) (g.whole ∙ ap (behind g.done) moving_whole) ∙ stays (fits s.left) (fits s.right) _ z) }
        where
          stays : (a b c : Bool) → a && b ≡ false → a && (b && c) ≡ false
          stays true true c z = absurd (true≢false z)
          stays true false c z = refl
          stays false b c z = refl

      module _ (h : not v ≡ false) where
        pub moving_fit : Fit s
        moving_fit =
            let (a, b) = (and-eq-true_iff (within_limits p.e) (within_limits p.f)).0 (sym q ∙ not-false v h) in
            record { left = within_fits s.left p.e d.left a; right = within_fits s.right p.f d.right b }

        module _ (slots found : ℕ) (u : Bool) (told : u ≡ (leb p.e.ops slots && (leb p.f.ops slots && leb (size_in p.e) found))) where
          pub moving_ready : not u ≡ false → (c : Counts) (next side : List ℕ) → MarkedBoth slots s c next side → Ready slots s p found next side
          moving_ready z c next side m =
              let (x, y) = (and-eq-true_iff (leb p.e.ops slots) (leb p.f.ops slots && leb (size_in p.e) found)).0 (sym told ∙ not-false u z) in
              let (k, w) = (and-eq-true_iff (leb p.f.ops slots) (leb (size_in p.e) found)).0 y in
              record {
                sized = d;
                left = m.left;
                right = m.right;
                fit = moving_fit;
                few_left = leb-true p.e.ops slots x;
                few_right = leb-true p.f.ops slots k;
                room_left = leb-true (size_in p.e) found w;
              }

          -- what keeps the limits has places in long buffers
          pub moving_short : not u ≡ true → (room : ℕ) → found ≡ room → Runs slots room e (edits_in n (drop from l)) (Err stop.Short) cur parts₀ parts
          moving_short z room as-found = record {
            runs = λ few wide.
                let m = (fits_limits s.left).0 moving_fit.left in
                let m' = (fits_limits s.right).0 moving_fit.right in
                let x = le-leb p.e.ops slots (omega (arith, m.ops, d.left.ops, few)) in
                let y = le-leb p.f.ops slots (omega (arith, m'.ops, d.right.ops, few)) in
                let w = le-leb (size_in p.e) found (omega (arith, m.ops, d.left.ops, m.text_bytes, d.left.text_bytes, wide, as-found)) in
                true≢false (sym (told ∙ rw (x, y, w)) ∙ not-true u z);
          }

    pub moving_next : Fit s → length parts ≡ length parts₀ → (to : Progress) (cur' parts' : List ℕ) → ReplacesEdit s rec spot to cur' parts parts' → Moving e l from n (left - 1) to cur' parts₀ parts'
    unfolding encode_all put_at_front
    moving_next f long to cur' parts' o =
        let fl = f.left in
        let fr = f.right in
        let inside : to.at ≤ length l = omega (arith, o.at_is, g.place, ((limits rec).0 ((faultless rec).0 moving_record).in_limits).whole, ap length rec_is, length-drop at l) in
        let rest_is : drop (size_of rec) (drop at l) ≡ drop to.at l = drop-drop (size_of rec) at l ∙ ap (λ k. drop k l) (sym o.at_is) in
        let m = rebase s.left (edits_in (left - 1) (drop (size_of rec) (drop at l))) in
        let k : (fits s.left && (fits s.right && m.kept)) ≡ m.kept = rw (holds (fits s.left) fl, holds (fits s.right) fr) in
        let same : m ≡ rebase (ops cur') (edits_in (left - 1) (drop to.at l)) = λ i. rebase (sym o.holds.edit i) (edits_in (left - 1) (rest_is i)) in
        let D = encode_all g.done in
        let R = encode s.right in
        let more : encode_all (g.done ++ (s.right ∷ [])) ≡ D ++ R = encode_all_append g.done (s.right ∷ []) ∙ ap (λ x. D ++ x) (append-nil R) in
        let same_base = ops_base cur g.holds.fault ∙ moving_agree ∙ sym (ops_base rec moving_record) in
        let base_is : target_of (drop at l) ≡ base_of cur' =
        ap target_of (sym rec_is) ∙ sym (ops_target rec moving_record) ∙ sym (base_left (ops cur) (ops rec) same_base) ∙ ap base (sym o.holds.edit) ∙ ops_base cur' o.holds.fault in
        record {
          place = inside;
          lies = subst₂ (RecordsFollow (left - 1)) base_is (ap (λ k. drop k (drop at l)) (sym (ap size_of rec_is)) ∙ rest_is) (lie_rest (left - 1) (base_of cur) (drop at l) (subst (λ i. RecordsFollow i (base_of cur) (drop at l)) (omega (arith, some)) g.lies));
          holds = subst (λ s. Holds s cur') (sym o.holds.edit) o.holds;
          same_text = record { same_text = ap (λ u. text (map in_bytes u)) o.holds.edit ∙ text_left (ops cur) (ops rec) ∙ g.same_text.same_text };
          done = g.done ++ (s.right ∷ []);
          number = simp length-append (omega (arith, g.number, some));
          whole = g.whole ∙ ap (behind g.done) moving_whole
              ∙ (λ i. record { edit = m.edit; counterparts = sym (append_assoc g.done (s.right ∷ []) m.counterparts) i; kept = k i })
              ∙ ap (behind (g.done ++ (s.right ∷ []))) same;
          bytes_are = o.bytes_are ∙ ap (λ b. b + length R) g.bytes_are ∙ sym (ap length more ∙ length-append D R);
          small = simp length-append (omega (arith, g.small, o.bytes_are, encode_small s.right fr));
          given = λ h.
              let before = g.given (omega (arith, h, o.bytes_are)) in
              let tk : take spot.bytes parts ≡ D = ap (take spot.bytes) before ∙ take_at D _ _ (sym g.bytes_are) in
              let dp : drop spot.bytes parts ≡ drop (length D) parts₀ = ap (drop spot.bytes) before ∙ drop_at D _ _ (sym g.bytes_are) in
              o.given (omega (arith, h, long)) ∙ ap₂ (λ x y. x ++ (R ++ drop (length R) y)) tk dp
              ∙ sym (append_assoc D R _)
              ∙ ap₂ (λ x k. x ++ k) (sym more) (drop-drop (length R) (length D) parts₀ ∙ ap (λ k. drop k parts₀) (sym (ap length more ∙ length-append D R)));
        }
