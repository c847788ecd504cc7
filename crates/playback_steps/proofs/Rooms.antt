-- Whether the scratch buffers have room for every text on the way.
use Rattle.std.specs.Prelude.{◌≡◌, ℕ, ◌<◌, ◌≤◌, max, Bool, true, false, ◌&&◌, leb, List, [], ◌∷◌, length}
use mathlib.Core.Path.{refl, sym, ◌∙◌, ap₂}
use borrow.Author.Tests.{le-leb, lt-leb, leb-false, leb-true}
use native.Mathlib.Omega.{arith}
use Rattle.characters.specs.Text.{Char, bytes}
use Rattle.edits.specs.Sequence.{Seq}
use Rattle.session.specs.Rows.{longest}
use Rattle.playback_steps.specs.InnerStages.{room}

pub room_both : (a b n : ℕ) → n ≤ a → n ≤ b → room a b n ≡ true
room_both a b n h g = rw (le-leb n a h, le-leb n b g)

pub room_first : (a b n : ℕ) → a < n → room a b n ≡ false
room_first a b n h = rw (lt-leb n a h)

pub room_second : (a b n : ℕ) → b < n → room a b n ≡ false
room_second a b n h = go (leb n a)
  where
    go : (x : Bool) → (x && leb n b) ≡ false
    go true = lt-leb n b h
    go false = refl

-- where n bytes have no room, more have none
pub room_more : (a b n m : ℕ) → n ≤ m → room a b n ≡ false → room a b m ≡ false
room_more a b n m h e = go (leb n a) refl
  where
    go : (x : Bool) → leb n a ≡ x → room a b m ≡ false
    go false p = room_first a b m (let l = leb-false n a p in omega arith)
    go true p = room_second a b m (let l = leb-false n b (rw p at e) in omega arith)

-- and where they have, only the others count
leb_max : (a n m : ℕ) → n ≤ a → leb (max n m) a ≡ leb m a
leb_max a n m h = go (leb m a) refl
  where
    go : (x : Bool) → leb m a ≡ x → leb (max n m) a ≡ leb m a
    go true p = let l = leb-true m a p in le-leb (max n m) a (omega arith) ∙ sym p
    go false p = let l = leb-false m a p in lt-leb (max n m) a (omega arith) ∙ sym p

pub room_max : (a b n m : ℕ) → n ≤ a → n ≤ b → room a b (max n m) ≡ room a b m
room_max a b n m h g = ap₂ (λ x y. x && y) (leb_max a n m h) (leb_max b n m g)

pub longest_here : (es : List Seq) (t : List Char) → length (bytes t) ≤ longest es t
longest_here [] t = omega arith
longest_here (e ∷ es) t = omega arith
