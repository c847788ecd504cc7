-- What the parts of playing a log promise each other. No entry's contract cites this.
use Rattle.std.specs.Prelude.{◌≡◌, ℕ, ◌-◌, ◌<◌, ◌≤◌, Bool, true, false, ◌&&◌, T, List, length, take, drop, nat_le, Option, Some, None}
use Rattle.characters.specs.Form.{is_well_formed}
use Rattle.characters.specs.Chars.{number_of_chars}
use Rattle.characters.specs.Text.{chars, bytes}
use Rattle.edits.specs.Sequence.{Seq}
use Rattle.apply_steps.specs.InnerSteps as steps
use Rattle.session_log.specs.Log.{place_of, length_at, revisions}
use Rattle.session.specs.Rows.{play_all, longest}

-- two buffers of these sizes hold a text of n bytes
abbrev pub room : ℕ → ℕ → ℕ → Bool
room a b n = nat_le n a && nat_le n b

-- the text t goes to a buffer a, which is a' afterwards
pub data Holds (t a a' : List ℕ) : Bool → Type 0 where
  held : length t ≤ length a → length a' ≡ length a → take (length t) a' ≡ t → Holds t a a' true
  missed : length a < length t → Holds t a a' false

-- the text t becomes what the record makes of it
pub data Advances (rec t : List ℕ) (a b : ℕ) (a' : List ℕ) : Option ℕ → Type 0 where
  short : room a b (length (steps.played rec t)) ≡ false → Advances rec t a b a' None
  on : {n : ℕ} → n ≡ length (steps.played rec t) → n ≤ a → n ≤ b → take n a' ≡ steps.played rec t → Advances rec t a b a' (Some n)

-- of a row of edits, those from k + 1 to j
abbrev pub between : ℕ → ℕ → List Seq → List Seq
between k j es = take (j - k) (drop k es)

-- after k of j revisions, with scratch buffers of a and b bytes: the text stands in the first n bytes of s, and what is left to play
-- makes of it the last text
pub record Stage (l : List ℕ) (j : ℕ) (t : List ℕ) (a b k at n : ℕ) (s : List ℕ) : Type 0 where
  pub place : at ≡ place_of k l
  pub inside : n ≤ a
  pub other : n ≤ b
  pub well : T (is_well_formed (take n s))
  pub chars_are : number_of_chars (take n s) ≡ length_at k l
  pub ends : play_all (between k j (revisions l)) (chars (take n s)) ≡ play_all (take j (revisions l)) (chars t)
  pub needs : room a b (longest (between k j (revisions l)) (chars (take n s))) ≡ room a b (longest (take j (revisions l)) (chars t))

-- the first j revisions were played: the text stands in the first n bytes of a', and revision j + 1 begins at `at`
pub record Stands (l : List ℕ) (j : ℕ) (t : List ℕ) (a b : ℕ) (a' : List ℕ) (n at : ℕ) : Type 0 where
  pub has_room : room a b (longest (take j (revisions l)) (chars t)) ≡ true
  pub size : n ≡ length (bytes (play_all (take j (revisions l)) (chars t)))
  pub text_is : take n a' ≡ bytes (play_all (take j (revisions l)) (chars t))
  pub chars_are : number_of_chars (take n a') ≡ length_at j l
  pub place : at ≡ place_of j l

pub data Ends (l : List ℕ) (j : ℕ) (t : List ℕ) (a b : ℕ) (a' : List ℕ) : Option (ℕ × ℕ) → Type 0 where
  short : room a b (longest (take j (revisions l)) (chars t)) ≡ false → Ends l j t a b a' None
  whole : {n at : ℕ} → Stands l j t a b a' n at → Ends l j t a b a' (Some (n, at))
