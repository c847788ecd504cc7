-- What the claims about lists of calls ask can be had: that the copies meet, with two counterparts and with an undo, and that
-- nothing typed is lost.
use Prim.Native.Nat.{ℕ}
use mathlib.Core.List.{List, [], ◌∷◌, ◌++◌}
use lib.ListN.{replicate, take, length}
use mathlib.Core.Path.{◌≡◌, refl}
use lib.Dec.{T}
use native.Mathlib.Omega.{arith}
use Rattle.characters.specs.Form.{lead_from}
use Rattle.characters.specs.Chars.{is_continuation}
use Rattle.edits.specs.Compose.{compose}
use Rattle.edits.specs.Trace.{none, more}
use Rattle.answers.specs.Answer.{succeeds, Answer, refused}
use Rattle.session_log.specs.Log.{contents, revisions}
use Rattle.session_log.specs.Open.{open_call}
use Rattle.session.specs.Demand.{Call, Lent, accept, against_newest, handed_out, Fresh, ran, log_after, Given, AllGo, CopiesMeet, fed_call, after, undo, run_call, accept_of, edit_of}
use Rattle.session.specs.History.{fresh, History, history_accept, history_undo}
use Rattle.session.specs.Session.{accept_call, summary_call, undo_call, played}
use Rattle.session.specs.Keeping.{newest, Spared}

-- texts of two characters; the first session's revisions are R1 I"ä" R1 and D1 R1, both written against the start
abbrev opened : List ℕ
opened = 0 ∷ 0 ∷ 2 ∷ 0 ∷ []

abbrev call : List ℕ → Call
call edit = record { ask = accept edit 0; behind = replicate 40 0xFF; out = replicate 40 0xFF }

abbrev inserts : List ℕ
inserts = 3 ∷ 0 ∷ 2 ∷ 0 ∷ 2 ∷ 0 ∷ 3 ∷ 0 ∷ 1 ∷ 2 ∷ 1 ∷ 1 ∷ 0 ∷ 2 ∷ 0 ∷ 1 ∷ 0 ∷ 0xC3 ∷ 0xA4 ∷ []

abbrev deletes : List ℕ
deletes = 2 ∷ 0 ∷ 0 ∷ 0 ∷ 2 ∷ 0 ∷ 1 ∷ 0 ∷ 3 ∷ 1 ∷ 1 ∷ 0 ∷ 1 ∷ 0 ∷ []

abbrev before : List Call
before = call inserts ∷ call deletes ∷ []

abbrev here : List ℕ
here =
    2 ∷ 0 ∷ 2 ∷ 0
    ∷ 3 ∷ 0 ∷ 2 ∷ 0 ∷ 2 ∷ 0 ∷ 3 ∷ 0 ∷ 1 ∷ 2 ∷ 1 ∷ 1 ∷ 0 ∷ 2 ∷ 0 ∷ 1 ∷ 0 ∷ 0xC3 ∷ 0xA4
    ∷ 2 ∷ 0 ∷ 0 ∷ 0 ∷ 3 ∷ 0 ∷ 2 ∷ 0 ∷ 3 ∷ 1 ∷ 1 ∷ 0 ∷ 2 ∷ 0 ∷ []

-- the late edit is R1 I"x" R1; its counterparts are R2 I"ä" R1 and D1 R3
abbrev late : Call
late = call (3 ∷ 0 ∷ 1 ∷ 0 ∷ 2 ∷ 0 ∷ 3 ∷ 0 ∷ 1 ∷ 2 ∷ 1 ∷ 1 ∷ 0 ∷ 1 ∷ 0 ∷ 1 ∷ 0 ∷ 0x78 ∷ [])

abbrev counterparts : List (List ℕ)
counterparts =
    (3 ∷ 0 ∷ 2 ∷ 0 ∷ 3 ∷ 0 ∷ 4 ∷ 0 ∷ 1 ∷ 2 ∷ 1 ∷ 2 ∷ 0 ∷ 2 ∷ 0 ∷ 1 ∷ 0 ∷ 0xC3 ∷ 0xA4 ∷ [])
    ∷ (2 ∷ 0 ∷ 0 ∷ 0 ∷ 4 ∷ 0 ∷ 3 ∷ 0 ∷ 3 ∷ 1 ∷ 1 ∷ 0 ∷ 3 ∷ 0 ∷ []) ∷ []

-- the second session has no revision yet
abbrev lent : Lent
lent = record { behind_edit = 7 ∷ []; behind_log = replicate 40 0xFF; output = [] }

abbrev again : Call
again = accept_of (edit_of here late.ask) 0 lent

abbrev then : List Call
then = against_newest (contents (run_call opened again).out_a) (handed_out here late) (λ i. lent)

-- I"xä" D1 R1
abbrev sum : List ℕ
sum = 3 ∷ 0 ∷ 3 ∷ 0 ∷ 2 ∷ 0 ∷ 3 ∷ 0 ∷ 2 ∷ 3 ∷ 1 ∷ 3 ∷ 0 ∷ 1 ∷ 0 ∷ 1 ∷ 0 ∷ 0x78 ∷ 0xC3 ∷ 0xA4 ∷ []

pub record Sample : Type 0 where
  pub fresh : Fresh 2 opened
  pub reached : log_after opened before ≡ here
  pub before_go : AllGo (ran opened before)
  pub same : revisions opened ≡ take 0 (revisions here)
  pub handed : handed_out here late ≡ counterparts
  pub here_goes : AllGo (ran here (late ∷ []))
  pub there_goes : AllGo (ran opened (again ∷ then))
  pub here_given : Given (log_after here (late ∷ [])) sum
  pub there_given : Given (log_after opened (again ∷ then)) sum

-- Without such a sample nothing would say that the hypotheses of demand 3's clause "the copies meet" can be met: the clause could be
-- true for want of any case.
pub sample : Sample
unfolding open_call accept_call summary_call contents compose is_continuation lead_from
sample = record {
  fresh = record { buffer = replicate 4 0; opens = refl; leaves = refl };
  reached = refl;
  before_go = tt;
  same = refl;
  handed = refl;
  here_goes = tt;
  there_goes = tt;
  here_given = record { behind = []; out = replicate 40 0; answers = refl; writes = refl };
  there_given = record { behind = []; out = replicate 40 0; answers = refl; writes = refl };
}

-- the facts are those that the claim asks for
asked : CopiesMeet here opened → sum ≡ sum
asked claim =
    claim late lent (λ i. lent) sample.same sample.here_goes sample.there_goes sum sum sample.here_given sample.there_given

-- ---- what "nothing typed is lost" asks can be had as well

-- once "ä" is typed, I"x" D2 comes from somebody who hadn't seen it and deleted all round its place, then D1 R1 from somebody
-- who had, and deletes the "x"
abbrev retypes : Call
retypes = call (2 ∷ 0 ∷ 1 ∷ 0 ∷ 2 ∷ 0 ∷ 1 ∷ 0 ∷ 2 ∷ 3 ∷ 1 ∷ 0 ∷ 2 ∷ 0 ∷ 0x78 ∷ [])

abbrev knows : Call
knows = record { ask = accept deletes 2; behind = replicate 40 0xFF; out = [] }

abbrev ab : List ℕ
ab = 0x61 ∷ 0x62 ∷ []

-- or revision 2 is undone, which leaves the "ä"
abbrev takes_back : Call
takes_back = record { ask = undo 2 ab 4 4; behind = replicate 40 0xFF; out = [] }

abbrev typing : History
typing = (fed_call (fresh 2) (call inserts)).history

pub record Stands : Type 0 where
  pub goes_in : T (succeeds (fed_call (fresh 2) (call inserts)).answer)
  pub all_in : length (after typing (retypes ∷ knows ∷ [])).edits ≡ 3
  pub spared : Spared 1 (newest 2 typing.edits) typing (retypes ∷ knows ∷ [])
  pub undo_in : length (after typing (retypes ∷ takes_back ∷ [])).edits ≡ 3
  pub undo_spared : Spared 1 (newest 2 typing.edits) typing (retypes ∷ takes_back ∷ [])

-- And this keeps "nothing typed is lost" from being vacuous: there are calls that its hypotheses allow.
pub stands : Stands
unfolding history_accept history_undo is_continuation lead_from
stands = record {
  goes_in = tt;
  all_in = refl;
  spared = (λ g l. absurd (omega (arith, l)), (λ g l. more (λ t. absurd t) (more (λ t. t) none), tt));
  undo_in = refl;
  undo_spared = (λ g l. absurd (omega (arith, l)), (λ g l. more (λ t. absurd t) (more (λ t. t) none), tt));
}

-- ---- an undo: revision 1 of `here` is taken back though revision 2 came after it

-- on "ab", with scratch buffers that just hold it
abbrev undoes : Call
undoes = record { ask = undo 1 ab 2 2; behind = replicate 40 0xFF; out = replicate 40 0xFF }

-- the second session has revision 1 alone, and accepts R1 D1 R1, then the counterpart D1 R1
abbrev there : List ℕ
there = 1 ∷ 0 ∷ 2 ∷ 0 ∷ inserts

abbrev inverse : List ℕ
inverse = 3 ∷ 0 ∷ 0 ∷ 0 ∷ 3 ∷ 0 ∷ 2 ∷ 0 ∷ 1 ∷ 3 ∷ 1 ∷ 1 ∷ 0 ∷ 1 ∷ 0 ∷ 1 ∷ 0 ∷ []

abbrev inverted : Call
inverted = accept_of (edit_of here undoes.ask) 1 lent

abbrev thereafter : List Call
thereafter = against_newest (contents (run_call there inverted).out_a) (handed_out here undoes) (λ i. lent)

pub record Undone : Type 0 where
  pub brings_in : edit_of here undoes.ask ≡ inverse
  pub same : revisions there ≡ take 1 (revisions here)
  pub handed : handed_out here undoes ≡ deletes ∷ []
  pub here_goes : AllGo (ran here (undoes ∷ []))
  pub there_goes : AllGo (ran there (inverted ∷ thereafter))
  pub here_given : Given (log_after here (undoes ∷ [])) deletes
  pub there_given : Given (log_after there (inverted ∷ thereafter)) deletes

pub undone : Undone
unfolding undo_call accept_call summary_call contents compose is_continuation lead_from
undone = record {
  brings_in = refl;
  same = refl;
  handed = refl;
  here_goes = tt;
  there_goes = tt;
  here_given = record { behind = []; out = replicate 40 0; answers = refl; writes = refl };
  there_given = record { behind = []; out = replicate 40 0; answers = refl; writes = refl };
}

asked_again : CopiesMeet here there → deletes ≡ deletes
asked_again claim =
    claim undoes lent (λ i. lent) undone.same undone.here_goes undone.there_goes
    deletes deletes undone.here_given undone.there_given

-- the newest revision of `here` is taken back, and brought back
abbrev back : ℕ → Call
back k = record { ask = undo k ab 4 4; behind = replicate 40 0xFF; out = [] }

pub there_and_back :
    (played here ab ≡ 0xC3 ∷ 0xA4 ∷ 0x62 ∷ [])
    × (played (log_after here (back 2 ∷ [])) ab ≡ 0x61 ∷ 0xC3 ∷ 0xA4 ∷ 0x62 ∷ [])
    × (played (log_after here (back 2 ∷ back 3 ∷ [])) ab ≡ 0xC3 ∷ 0xA4 ∷ 0x62 ∷ [])
    × AllGo (ran here (back 2 ∷ back 3 ∷ []))
unfolding undo_call contents played is_continuation lead_from
there_and_back = (refl, refl, refl, tt)

-- an undo's refusals, in their order, each but the last with the next one's reason as well; the text after revision 1 is "aäb",
-- four bytes
abbrev asks : ℕ → List ℕ → ℕ → ℕ → Answer
asks k text a b = (undo_call (here ++ replicate 40 0xFF) k text a b []).answer

pub refusals :
    ((undo_call (0 ∷ []) 0 (0xC3 ∷ []) 0 0 []).answer ≡ refused 3)
    × ((undo_call (0 ∷ []) 0 (0x61 ∷ []) 0 0 []).answer ≡ refused 6)
    × (asks 0 (0x61 ∷ []) 0 0 ≡ refused 7)
    × (asks 3 (0x61 ∷ []) 0 0 ≡ refused 7)
    × (asks 2 (0x61 ∷ []) 0 0 ≡ refused 8)
    × (asks 2 ab 4 3 ≡ refused 10)
unfolding undo_call is_continuation lead_from
refusals = (refl, refl, refl, refl, refl, refl)
