-- From what the code finds to the answer of undo.
use Rattle.std.specs.Prelude.{◌≡◌, ℕ, suc, ◌-◌, ◌<◌, ◌≤◌, true, T, List, [], get_or, take, drop, Result, Option, Err, Some, None}
use native.Mathlib.Omega.{arith}
use mathlib.Core.Path.{refl, sym, ap, ◌∙◌}
use lib.Seq.{drop-cons}
use borrow.Author.Tests.{le-leb, lt-leb, eq-eqb, ne_eqb}
use Rattle.buffers.proofs.Tests.{holds}
use Rattle.characters.specs.Form.{is_well_formed}
use Rattle.characters.specs.InnerPassed.{form_of}
use Rattle.characters.specs.Chars.{number_of_chars}
use Rattle.characters.specs.Text.{Char, chars}
use Rattle.characters.proofs.Passed.{form_ill, form_well, form_num}
use Rattle.characters.proofs.Texts.{bytes_well, chars_bytes}
use Rattle.edits.specs.Sequence.{Seq}
use Rattle.edits.specs.Invert.{invert}
use Rattle.answers.specs.Answer.{number, refused}
use Rattle.answers.specs.declared.Refusal.{Refusal}
use Rattle.answers.specs.declared.Refusal.TheVariants.{Utf8, Log, Revision, IncompatibleLengths, Room}
use Rattle.record.specs.Record.{ops}
use Rattle.session_log.specs.declared.inner.Scan.{Scan}
use Rattle.session_log.specs.Log.{count_of, start_of, readable, revisions}
use Rattle.session_log.specs.InnerScan.{Found, Scans, ScansTo}
use Rattle.session_log.proofs.Scanning.{revision_at, revisions_length}
use Rattle.session.specs.Rows.{play_all}
use Rattle.session.specs.Session.{inverse_in, undo_fault, undo_call}
use Rattle.session.proofs.UndoAccepts.{undo_tests, undo_accepts}
use Rattle.playback_steps.specs.InnerStages.{Stands, Ends}
use Rattle.playback_steps.proofs.Stages.{ends_short, ends_stand}
use Rattle.undo.specs.InnerUndoing.{Before, inverse_at, inverse_call, AcceptsInverse, Undoes}

module _ (log : List ℕ) (k : ℕ) (text : List ℕ) (a b : ℕ) (out : List ℕ) where
  stops : (x : Refusal) (n : ℕ) → number x ≡ suc n → undo_fault log k text a b out ≡ suc n → Undoes log k text a b out (Err x) log out
  unfolding undo_call
  stops x n e f = record { answer = rw f (ap refused e); log_is = rw f; out_is = rw f }

  pub undo_refused : (x : Refusal) → Undoes log k text a b out (Err x) log out
      → (refused (number x) ≡ (undo_call log k text a b out).answer) × (log ≡ (undo_call log k text a b out).out_a) × (out ≡ (undo_call log k text a b out).out_b)
  undo_refused x u = (u.answer, u.log_is, u.out_is)

  -- ---- the text and the log

  module _ (v : Option ℕ) (pv : v ≡ form_of text) where
    pub undo_3 : v ≡ None → Undoes log k text a b out (Err Utf8) log out
    unfolding undo_fault
    undo_3 h = stops Utf8 2 refl (rw (sym (form_ill text v pv h)))

    module _ (c : ℕ) (h : v ≡ Some c) where
      abbrev well : is_well_formed text ≡ true
      well = sym (form_well text v pv h)

      module _ (x : Option Scan) (px : Scans log k x) where
        pub undo_6 : x ≡ None → Undoes log k text a b out (Err Log) log out
        unfolding undo_fault
        undo_6 e = let z : ScansTo log k None = rw e at px.scans in stops Log 5 refl (rw (well, z))

        module _ (s : Scan) (e : x ≡ Some s) where
          pub undo_found : Found log k s
          undo_found = rw e at px.scans

          abbrev reads : readable log ≡ true
          reads = holds (readable log) undo_found.reads

          pub undo_none : k ≡ 0 → Undoes log k text a b out (Err Revision) log out
          unfolding undo_fault
          undo_none z = stops Revision 6 refl (rw (well, reads, lt-leb 1 k (omega arith)))

          module _ (o : (k ≡ 0) → ⊥) where
            some : 1 ≤ k
            some = omega arith

            pub undo_7 : s.count < k → Undoes log k text a b out (Err Revision) log out
            unfolding undo_fault
            undo_7 l = stops Revision 6 refl (rw (well, reads, le-leb 1 k some, lt-leb k (count_of log) (omega (arith, undo_found.count))))

            module _ (l : k ≤ s.count) where
              pub undo_rev : k ≤ count_of log
              undo_rev = omega (arith, undo_found.count)

              pub undo_8 : (c ≡ s.start → ⊥) → Undoes log k text a b out (Err IncompatibleLengths) log out
              unfolding undo_fault
              undo_8 d =
                  stops IncompatibleLengths 7 refl
                  (rw (well, reads, le-leb 1 k some, le-leb k (count_of log) undo_rev, ne_eqb (number_of_chars text) (start_of log) (λ z. d (form_num text v pv h ∙ z ∙ sym undo_found.start))))

              pub undo_agrees : c ≡ s.start → number_of_chars text ≡ start_of log
              undo_agrees d = sym (form_num text v pv h) ∙ d ∙ undo_found.start

  -- ---- the texts before revision k

  module _ (s : Scan) (w : T (is_well_formed text)) (f : Found log k s) (some : 1 ≤ k) (rev : k ≤ count_of log) (d : number_of_chars text ≡ start_of log) where
    abbrev earlier : List Seq
    earlier = take (k - 1) (revisions log)

    abbrev before : List Char
    before = play_all earlier (chars text)

    module _ (a' : List ℕ) (y : Option (ℕ × ℕ)) (g : Ends log (k - 1) text a b a' y) where
      pub back_short : y ≡ None → Undoes log k text a b out (Err Room) log out
      unfolding undo_fault
      back_short q =
          let x = ends_short log (k - 1) text a b a' y g q in
          stops Room 9 refl
          (rw (holds (is_well_formed text) w, holds (readable log) f.reads, le-leb 1 k some, le-leb k (count_of log) rev, eq-eqb (number_of_chars text) (start_of log) d, x))

      module _ (n at : ℕ) (q : y ≡ Some (n, at)) where
        stands : Stands log (k - 1) text a b a' n at
        stands = ends_stand log (k - 1) text a b a' y g n at q

        pub back_before : Before log k s at (take n a')
        back_before = record {
          found = f;
          some = some;
          rev = rev;
          place = stands.place;
          well = rw stands.text_is (bytes_well before);
          chars_are = stands.chars_are;
        }

        same_inverse : inverse_at log at (take n a') ≡ inverse_in log k text
        unfolding inverse_at inverse_in
        same_inverse =
            let c : chars (take n a') ≡ before = ap chars stands.text_is ∙ chars_bytes before in
            let l = revisions_length log in
            let r = revision_at (k - 1) log (omega arith) in
            let x = drop-cons (revisions log) (k - 1) [] (omega arith) in
            let y : ops (drop at log) ≡ get_or (revisions log) (k - 1) [] = ap (λ p. ops (drop p log)) stands.place ∙ cc (r, x) in
            λ i. invert (y i) (c i)

        tests : undo_call log k text a b out ≡ inverse_call (inverse_in log k text) k log out
        unfolding inverse_call undo_tests
        tests =
            undo_accepts log k text a b out
            ∙ rw (holds (is_well_formed text) w, holds (readable log) f.reads, le-leb 1 k some, le-leb k (count_of log) rev, eq-eqb (number_of_chars text) (start_of log) d, stands.has_room) refl

        pub back_undoes : (x : Result (ℕ × ℕ) Refusal) (log' out' : List ℕ) → AcceptsInverse (inverse_at log at (take n a')) k log out x log' out' → Undoes log k text a b out x log' out'
        back_undoes x log' out' i =
            let z : inverse_call (inverse_at log at (take n a')) k log out ≡ undo_call log k text a b out = ap (λ e. inverse_call e k log out) same_inverse ∙ sym tests in
            record {
              answer = i.answer ∙ ap (λ y. y.answer) z;
              log_is = i.log_is ∙ ap (λ y. y.out_a) z;
              out_is = i.out_is ∙ ap (λ y. y.out_b) z;
            }
