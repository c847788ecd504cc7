-- From what the code finds to the answer of play.
use Rattle.std.specs.Prelude.{◌≡◌, ℕ, suc, ◌≤◌, true, T, List, take, Result, Option, Some, None}
use native.Mathlib.Omega.{arith}
use mathlib.Core.Path.{sym, ap, ◌∙◌, ap₂}
use lib.Seq.{take_all}
use borrow.Author.Tests.{eq-eqb, ne_eqb}
use Rattle.buffers.proofs.Tests.{holds}
use Rattle.characters.specs.Form.{is_well_formed}
use Rattle.characters.specs.InnerPassed.{form_of}
use Rattle.characters.specs.Chars.{number_of_chars}
use Rattle.characters.specs.Text.{chars, bytes}
use Rattle.characters.proofs.Passed.{form_ill, form_well, form_num}
use Rattle.answers.specs.declared.Refusal.{Refusal}
use Rattle.answers.specs.Answer.{answer_of, refused}
use Rattle.answers.specs.Output.{writing}
use Rattle.answers.specs.InnerGiven.{Gives}
use Rattle.answers.proofs.Outputs.{writing_stops, untouched}
use Rattle.session_log.specs.declared.inner.Scan.{Scan}
use Rattle.session_log.specs.Log.{count_of, start_of, readable, revisions}
use Rattle.session_log.specs.InnerScan.{Found, Scans, ScansTo}
use Rattle.session_log.proofs.Scanning.{revisions_length}
use Rattle.session.specs.Rows.{play_all, longest}
use Rattle.session.specs.Session.{played, play_fault, play_call}
use Rattle.playback_steps.specs.InnerStages.{room, Stands, Ends}
use Rattle.playback_steps.proofs.Stages.{ends_short, ends_stand}

module _ (l t o : List ℕ) (a b : ℕ) where
  stops : (n : ℕ) → play_fault l t a b ≡ suc n → refused (suc n) ≡ (play_call l t a b o).answer
  unfolding play_call
  stops n e = writing_stops (play_fault l t a b) (played l t) o n e

  pub play_refused : (n : ℕ) → refused n ≡ (play_call l t a b o).answer → (refused n ≡ (play_call l t a b o).answer) × (o ≡ (play_call l t a b o).out)
  unfolding play_call
  play_refused n h = (h, untouched (play_fault l t a b) (played l t) o n h)

  module _ (v : Option ℕ) (pv : v ≡ form_of t) where
    pub play_3 : v ≡ None → refused 3 ≡ (play_call l t a b o).answer
    unfolding play_fault
    play_3 h = stops 2 (rw (sym (form_ill t v pv h)))

    module _ {c : ℕ} (h : v ≡ Some c) where
      abbrev well : is_well_formed t ≡ true
      well = sym (form_well t v pv h)

      module _ (x : Option Scan) (px : Scans l 0 x) where
        pub play_6 : x ≡ None → refused 6 ≡ (play_call l t a b o).answer
        unfolding play_fault
        play_6 e = let z : ScansTo l 0 None = rw e at px.scans in stops 5 (rw (well, z))

        module _ (s : Scan) (e : x ≡ Some s) where
          found : Found l 0 s
          found = rw e at px.scans

          pub play_reads : T (readable l)
          play_reads = found.reads

          pub play_count : s.count ≤ count_of l
          play_count = omega (arith, found.count)

          -- all revisions are played
          all_of_it : take s.count (revisions l) ≡ revisions l
          all_of_it = take_all s.count (revisions l) (omega (arith, found.count, revisions_length l))

          abbrev reads : readable l ≡ true
          reads = holds (readable l) found.reads

          pub play_8 : (c ≡ s.start → ⊥) → refused 8 ≡ (play_call l t a b o).answer
          unfolding play_fault
          play_8 d = stops 7 (rw (well, reads, ne_eqb (number_of_chars t) (start_of l) (λ z. d (form_num t v pv h ∙ z ∙ sym found.start))))

          module _ (d : c ≡ s.start) where
            pub play_agrees : number_of_chars t ≡ start_of l
            play_agrees = sym (form_num t v pv h) ∙ d ∙ found.start

            module _ (s' : List ℕ) (y : Option (ℕ × ℕ)) (g : Ends l s.count t a b s' y) where
              pub play_short : y ≡ None → refused 10 ≡ (play_call l t a b o).answer
              unfolding play_fault
              play_short q =
                  let f = ends_short l s.count t a b s' y g q in
                  stops 9 (rw (well, reads, eq-eqb (number_of_chars t) (start_of l) play_agrees, ap (λ es. room a b (longest es (chars t))) (sym all_of_it) ∙ f))

              module _ (n at : ℕ) (q : y ≡ Some (n, at)) where
                stands : Stands l s.count t a b s' n at
                stands = ends_stand l s.count t a b s' y g n at q

                text_is : bytes (play_all (take s.count (revisions l)) (chars t)) ≡ played l t
                unfolding played
                text_is = ap (λ es. bytes (play_all es (chars t))) all_of_it

                no_fault : play_fault l t a b ≡ 0
                unfolding play_fault
                no_fault =
                    rw (well, reads, eq-eqb (number_of_chars t) (start_of l) play_agrees, ap (λ es. room a b (longest es (chars t))) (sym all_of_it) ∙ stands.has_room)

                same : writing 0 (take n s') o ≡ play_call l t a b o
                unfolding play_call
                same = ap₂ (λ f r. writing f r o) (sym no_fault) (stands.text_is ∙ text_is)

                module _ (w : Result ℕ Refusal) (o' : List ℕ) (i : Gives (writing 0 (take n s') o) w o') where
                  pub play_answer : answer_of w ≡ (play_call l t a b o).answer
                  play_answer = i.answer ∙ ap (λ z. z.answer) same

                  pub play_out : o' ≡ (play_call l t a b o).out
                  play_out = i.out ∙ ap (λ z. z.out) same
