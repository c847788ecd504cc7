-- What the program writes.
use Rattle.std.specs.Prelude.{◌≡◌, ℕ, zero, suc, ◌+◌, ◌-◌, ◌/◌, ◌%◌, ◌<◌, ◌≤◌, T, leb, List, [], ◌∷◌, ◌++◌, length, take, drop, Result, Option, Ok, Err, Some, None}
use native.Mathlib.Omega.{arith}
use mathlib.Core.Path.{refl, ap, ◌∙◌, sym}
use lib.ListN.{length-append}
use borrow.Author.Tests.{lt-ltb, le-ltb, le-leb, lt-leb}
use Rattle.buffers.specs.InnerOver.{over}
use Rattle.buffers.specs.Buffers.{put_at_front}
use Rattle.buffers.proofs.Over.{length_over, over_front, over_join}
use Rattle.buffers.proofs.Tests.{known}
use Rattle.answers.specs.declared.Refusal.{Refusal}
use Rattle.answers.specs.Answer.{number, success, refused, needs, or_else, unless_refused, answer_of}
use Rattle.answers.specs.Output.{Out, writing}
use Rattle.answers.proofs.Refusals.{needs_in}
use Rattle.session_log.specs.InnerScan.{Scans, ScansTo, Found}
use Rattle.session_log.specs.declared.inner.Scan.{Scan}
use Rattle.session_log.specs.Log.{readable, size_of_log}
use Rattle.session_log.proofs.Scanning.{to_end}
use Rattle.session.specs.Session.{played, play_fault, play_call}
use Rattle.play_program.specs.Program.{Writes, complaint, program_fault, program, text_in}

-- ---- a complaint

abbrev prefix : List ℕ
prefix = 0x72 ∷ 0x65 ∷ 0x66 ∷ 0x75 ∷ 0x73 ∷ 0x65 ∷ 0x64 ∷ 0x20 ∷ []

stands : (w o c : List ℕ) → length w ≤ length o → c ≡ over 0 w o → Writes w o (length w) c
stands w o c h e = record { size = refl; inside = omega (arith, ap length e, length_over 0 w o); out = e ∙ over_front w o h }

module _ (o c₁ c₂ : List ℕ) (h : length o ≡ 65536) (k n : ℕ) (e : k ≡ n) (p₁ : c₁ ≡ over 0 prefix o) where
  pub complain_short : k < 10 → c₂ ≡ over 8 ((48 + k) ∷ 10 ∷ []) c₁ → Writes (complaint n) o 10 c₂
  unfolding complaint
  complain_short l p₂ =
      let x = (48 + k) ∷ 10 ∷ [] in
      let z : c₂ ≡ over 0 (prefix ++ x) o = p₂ ∙ ap (over 8 x) p₁ ∙ over_join 0 prefix x o in
      rw (← e, lt-ltb k 10 l) (stands (prefix ++ x) o c₂ (omega arith) z)

  pub complain_long : 10 ≤ k → c₂ ≡ over 8 ((48 + k / 10) ∷ (48 + k % 10) ∷ 10 ∷ []) c₁ → Writes (complaint n) o 11 c₂
  unfolding complaint
  complain_long l p₂ =
      let x = (48 + k / 10) ∷ (48 + k % 10) ∷ 10 ∷ [] in
      let z : c₂ ≡ over 0 (prefix ++ x) o = p₂ ∙ ap (over 8 x) p₁ ∙ over_join 0 prefix x o in
      rw (← e, le-ltb k 10 l) (stands (prefix ++ x) o c₂ (omega arith) z)

-- ---- the program

module _ (l o c : List ℕ) (r : ℕ) where
  by_fault : (n : ℕ) → program_fault l ≡ suc n → Writes (complaint (suc n)) o r c → Writes (program l) o r c
  unfolding program
  by_fault n e p = rw e p

  pub program_long : 65536 < length l → Writes (complaint 10) o r c → Writes (program l) o r c
  unfolding program_fault
  program_long h = by_fault 9 (rw (lt-leb (length l) 65536 h))

  pub program_unreadable : length l ≤ 65536 → (x : Option Scan) → Scans l 0 x → x ≡ None → Writes (complaint 6) o r c → Writes (program l) o r c
  unfolding program_fault
  program_unreadable h x px e = let z : ScansTo l 0 None = rw e at px.scans in by_fault 5 (rw (le-leb (length l) 65536 h, z))

module _ (l : List ℕ) (x : Option Scan) (px : Scans l 0 x) (s : Scan) (ps : x ≡ Some s) where
  found : Found l 0 s
  found = rw ps at px.scans

  pub found_reads : T (readable l)
  found_reads = found.reads

  pub found_size : s.size ≡ size_of_log l
  found_size = found.size

  pub found_inside : s.size ≤ length l
  found_inside = found.whole

module _ (l : List ℕ) (size : ℕ) (reads : T (readable l)) (es : size ≡ size_of_log l) where
  text_is : take (length l - size) (drop size l) ≡ text_in l
  unfolding text_in
  text_is = to_end l size ∙ ap (λ i. drop i l) es

  module _ (h : length l ≤ 65536) (o : List ℕ) (eo : length o ≡ 65536) (a b : List ℕ) (ea : 65536 ≡ length a) (eb : 65536 ≡ length b) (w : Result ℕ Refusal)
      (pw : answer_of w ≡ (play_call l (take (length l - size) (drop size l)) (length a) (length b) o).answer) where
    abbrev text : List ℕ
    text = text_in l

    abbrev faults : ℕ
    faults = or_else (play_fault l text 65536 65536) (needs (leb (length (played l text)) (length o)) 10 0)

    same : play_call l (take (length l - size) (drop size l)) (length a) (length b) o ≡ writing (play_fault l text 65536 65536) (played l text) o
    unfolding play_call
    same = λ i. writing (play_fault l (text_is i) (sym ea i) (sym eb i)) (played l (text_is i)) o

    fault_is : program_fault l ≡ faults
    unfolding program_fault
    fault_is =
        needs_in (leb (length l) 65536) 10 _ (known (le-leb (length l) 65536 h))
        ∙ needs_in (readable l) 6 _ reads
        ∙ ap (λ n. or_else (play_fault l text 65536 65536) (needs (leb (length (played l text)) n) 10 0)) (sym eo)

    abbrev outcome : ℕ → Out
    outcome k = unless_refused k (λ j. record { answer = refused j; out = o }) (record { answer = success (length (played l text) ∷ []); out = put_at_front (played l text) o })

    module _ (o₁ : List ℕ) (p : o₁ ≡ (play_call l (take (length l - size) (drop size l)) (length a) (length b) o).out) where
      pub program_refused : (y : Refusal) → w ≡ Err y → (r : ℕ) (c : List ℕ) → Writes (complaint (number y)) o₁ r c → Writes (program l) o r c
      unfolding writing
      program_refused y q r c v = go faults fault_is (ap answer_of (sym q) ∙ pw ∙ ap (λ z. z.answer) same) (p ∙ ap (λ z. z.out) same)
        where
          go : (k : ℕ) → program_fault l ≡ k → refused (number y) ≡ (outcome k).answer → o₁ ≡ (outcome k).out → Writes (program l) o r c
          go zero f e g = absurd (let z : ◌≡◌ {A = ℕ} 0 1 = cc e in omega arith)
          go (suc k) f e g = let z : number y ≡ suc k = cc e in by_fault l o c r k f (rw (z, g) at v)

      pub program_written : (n : ℕ) → w ≡ Ok n → Writes (program l) o n o₁
      unfolding writing program put_at_front
      program_written n q = go faults fault_is (ap answer_of (sym q) ∙ pw ∙ ap (λ z. z.answer) same) (p ∙ ap (λ z. z.out) same)
        where
          go : (k : ℕ) → program_fault l ≡ k → success (n ∷ []) ≡ (outcome k).answer → o₁ ≡ (outcome k).out → Writes (program l) o n o₁
          go zero f e g =
              let z : n ≡ length (played l text) = cc e in
              rw f (record { size = z; inside = omega (arith, ap length g, length-append (played l text) (drop (length (played l text)) o)); out = g })
          go (suc k) f e g = absurd (let z : ◌≡◌ {A = ℕ} 0 1 = cc e in omega arith)
