-- A row of edits: played, summed up, and moved past.
use Rattle.std.specs.Prelude.{List, [], ◌∷◌, ℕ, max, length, Bool, ◌&&◌, true}
use Rattle.characters.specs.Text.{Char, bytes}
use Rattle.characters.specs.Order.{order}
use Rattle.edits.specs.Sequence.{Seq}
use Rattle.edits.specs.Apply.{apply}
use Rattle.edits.specs.Op.{retain}
use Rattle.edits.specs.Build.{build}
use Rattle.edits.specs.Compose.{compose}
use Rattle.edits.specs.Transform.{keep_both, Sides, transform_by}
use Rattle.record.specs.Record.{fits}

-- ---- playing: "applies its edits, oldest first"

abbrev pub play_all : List Seq → List Char → List Char
play_all [] t = t
play_all (e ∷ es) t = play_all es (apply e t)

-- the longest text on the way in bytes, "first and last included"
abbrev pub longest : List Seq → List Char → ℕ
longest [] t = length (bytes t)
longest (e ∷ es) t = max (length (bytes t)) (longest es (apply e t))

-- ---- summing up: "composes the revisions in order, beginning with the sequence that retains the starting length"

unfoldable pub retain_whole : ℕ → Seq
unfolding build
retain_whole n = build (retain n ∷ [])

abbrev pub compose_all : Seq → List Seq → Seq
compose_all s [] = s
compose_all s (e ∷ es) = compose_all (compose s e) es

-- none "of these partial results passes a limit"
abbrev pub composes_within : Seq → List Seq → Bool
composes_within s [] = fits s
composes_within s (e ∷ es) = fits s && composes_within (compose s e) es

-- ---- accept's rule

-- what becomes of equal inserts that meet
abbrev pub tie : List Char → Seq
tie = keep_both

unfoldable pub rule : Seq → Seq → Sides Char
unfolding transform_by order
rule = transform_by tie order

-- an edit moved past a row of revisions, what they become, and whether no transform passed a limit
pub record Moved : Type 0 where
  pub edit : Seq
  pub counterparts : List Seq
  pub kept : Bool

-- "transformed past revisions r + 1 to the newest, in order"; "Each of those revisions gives a counterpart: its own
-- transformed side."
unfoldable pub rebase : Seq → List Seq → Moved
unfolding rule fits
rebase e [] = record { edit = e; counterparts = []; kept = true }
rebase e (v ∷ vs) =
    let s = rule e v in
    let m = rebase s.left vs in
    record { edit = m.edit; counterparts = s.right ∷ m.counterparts; kept = fits s.left && (fits s.right && m.kept) }
