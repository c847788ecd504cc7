-- From the edit in its buffer, past the revisions of the log, to the answer.
use Rattle.std.specs.Prelude.{◌≡◌, ℕ, ◌-◌, ◌≤◌, List, length, take, drop, Result, Ok, Err}
use native.Mathlib.Omega.{arith}
use mathlib.Core.Path.{refl, sym, ap₂, ◌∙◌, subst, ap, subst₂}
use mathlib.Core.Bool.{true≢false}
use Rattle.buffers.specs.InnerOver.{over}
use Rattle.buffers.proofs.Over.{over_front}
use Rattle.answers.specs.declared.Refusal.{Refusal}
use Rattle.answers.specs.declared.Refusal.TheVariants.{Room}
use Rattle.answers.proofs.Outputs.{at_front_take}
use Rattle.record.specs.Layout.{size_of, max_ops, max_record}
use Rattle.record.specs.Record.{record_fault, ops}
use Rattle.reader.proofs.Fronts.{fault_size, fault_small}
use Rattle.session_log.specs.declared.inner.Scan.{Scan}
use Rattle.session_log.specs.Log.{encode_all, count_of, edits_in, revisions}
use Rattle.session.specs.Rows.{rebase}
use Rattle.counterparts.specs.declared.inner.Stop.{Stop}
use Rattle.counterparts.specs.declared.inner.Stop.TheVariants as stop
use Rattle.counterparts.specs.InnerRunning.{Runs, HandsOut}
use Rattle.append.specs.InnerAccepting.{Admitted, MovedPast, Stored, Accepts, TriesTo, Tries}
use Rattle.append.proofs.Places.{edits_from}
use Rattle.append.proofs.Answering.{accepts_limit}

pub record_small : (r : List ℕ) → record_fault r ≡ 0 → size_of r ≤ max_record
record_small r z = omega (arith, fault_size r refl refl refl, fault_small r refl refl refl z)

module _ (edit : List ℕ) (r : ℕ) (log : List ℕ) (s : Scan) (a : Admitted edit r log s) (n : ℕ) (e : n ≡ count_of log - r) where
  edits : edits_in n (drop s.at log) ≡ drop r (revisions log)
  edits = edits_from log r s a.found a.rev n e

  module _ (slots room : ℕ) (x : Result ℕ Stop) (cur' parts parts' : List ℕ) (q : Runs slots room (ops edit) (edits_in n (drop s.at log)) x cur' parts parts') where
    runs_as : (y : Result ℕ Stop) → x ≡ y → Runs slots room (ops edit) (drop r (revisions log)) y cur' parts parts'
    runs_as y p = subst (λ z. Runs slots room (ops edit) (drop r (revisions log)) z cur' parts parts') p (subst (λ vs. Runs slots room (ops edit) vs x cur' parts parts') edits q)

    pub past_moved : (bytes : ℕ) → x ≡ Ok bytes → MovedPast edit r log bytes cur'
    past_moved bytes p = record { moved = (runs_as (Ok bytes) p).runs.0 }

    pub past_stored : (bytes : ℕ) → x ≡ Ok bytes → length parts' ≡ length parts → Stored edit r log bytes parts'
    past_stored bytes p l =
        let (m, g) = (runs_as (Ok bytes) p).runs in
        record { stored = λ z. ap₂ take m.bytes_are (g (omega (arith, z, l))) ∙ at_front_take (encode_all (rebase (ops edit) (drop r (revisions log))).counterparts) parts }

    pub past_stops : (y : Refusal) → x ≡ Err (stop.Refused y) → (out : List ℕ) → Accepts edit r log out (Err y) log out
    past_stops y p out =
        let (l, k) = (runs_as (Err (stop.Refused y)) p).runs in
        subst (λ z. Accepts edit r log out (Err z) log out) (sym l) (accepts_limit edit r log out s a k)

    -- where the run ends early
    pub past_ends : (y : Stop) → x ≡ Err y → (out : List ℕ) → Tries edit r log out (Err y) log out
    past_ends (stop.Refused y) p out = record { tries = past_stops y p out }
    past_ends stop.Short p out = record { tries = (refl, refl) }

    -- long buffers are never too short
    module _ (few : max_ops ≡ slots) (wide : max_record ≤ room) where
      pub past_never : x ≡ Err stop.Short → (out : List ℕ) → Accepts edit r log out (Err Room) log out
      past_never p out = absurd ((runs_as (Err stop.Short) p).runs (omega (arith, few)) wide)

      -- the run once more, to a buffer in which the counterparts have room
      pub past_again : (bytes : ℕ) (moved : List ℕ) → MovedPast edit r log bytes moved → bytes ≤ length parts → HandsOut (ops edit) (drop r (revisions log)) parts cur' parts'
      past_again bytes moved m g = go x refl
        where
          go : (y : Result ℕ Stop) → x ≡ y → HandsOut (ops edit) (drop r (revisions log)) parts cur' parts'
          go (Ok b) p = let (k, w) = (runs_as (Ok b) p).runs in record { holds = k.holds; given = w (omega (arith, m.moved.bytes_are, k.bytes_are, g)) }
          go (Err (stop.Refused y)) p = absurd (true≢false (sym m.moved.kept ∙ (runs_as (Err (stop.Refused y)) p).runs.1))
          go (Err stop.Short) p = absurd ((runs_as (Err stop.Short) p).runs (omega (arith, few)) wide)

-- what stands in a buffer goes to the output
pub hands : (edit : List ℕ) (r : ℕ) (log : List ℕ) (bytes : ℕ) (cur parts : List ℕ) → MovedPast edit r log bytes cur → Stored edit r log bytes parts → bytes ≤ length parts → (out out' : List ℕ) → bytes ≤ length out
    → out' ≡ over 0 (take (bytes - 0) (drop 0 parts)) out → HandsOut (ops edit) (drop r (revisions log)) out cur out'
hands edit r log bytes cur parts m g l out out' h e =
    let k : bytes - 0 ≡ bytes = omega arith in
    let t : take (bytes - 0) (drop 0 parts) ≡ encode_all (rebase (ops edit) (drop r (revisions log))).counterparts = ap (λ i. take i parts) k ∙ g.stored l in
    record { holds = m.moved.holds; given = e ∙ ap (λ u. over 0 u out) t ∙ over_front (encode_all (rebase (ops edit) (drop r (revisions log))).counterparts) out (omega (arith, m.moved.bytes_are, h)) }

-- ---- short buffers

module _ (edit : List ℕ) (r : ℕ) (log out : List ℕ) (x : Result (ℕ × ℕ) Stop) (log' out' : List ℕ) (q : Tries edit r log out x log' out') where
  tries_as : (y : Result (ℕ × ℕ) Stop) → x ≡ y → TriesTo edit r log out y log' out'
  tries_as y p = (subst (λ z. Tries edit r log out z log' out') p q).tries

  pub tried_bytes : (k l : ℕ) → x ≡ Ok (k, l) → Accepts edit r log out (Ok (k, l)) log' out'
  tried_bytes k l p = tries_as (Ok (k, l)) p

  pub tried_refused : (y : Refusal) → x ≡ Err (stop.Refused y) → Accepts edit r log out (Err y) log' out'
  tried_refused y p = tries_as (Err (stop.Refused y)) p

  module _ (p : x ≡ Err stop.Short) where
    pub short_admits : (s : Scan) → Admitted edit r log s → Admitted edit r log' s
    short_admits s a = subst (λ l. Admitted edit r l s) (sym (tries_as (Err stop.Short) p).0) a

    pub short_count : (n : ℕ) → n ≡ count_of log - r → n ≡ count_of log' - r
    short_count n e = e ∙ ap (λ l. count_of l - r) (sym (tries_as (Err stop.Short) p).0)

    pub short_then : (y : Result (ℕ × ℕ) Refusal) (log'' out'' : List ℕ) → Accepts edit r log' out' y log'' out'' → Accepts edit r log out y log'' out''
    short_then y log'' out'' a = subst₂ (λ l o. Accepts edit r l o y log'' out'') (tries_as (Err stop.Short) p).0 (tries_as (Err stop.Short) p).1 a
