-- Document 01's examples T1 to T10, as one table.
use Prim.Native.Nat.{ℕ}
use mathlib.Core.List.{List, [], ◌∷◌}
use lib.ListN.{replicate}
use mathlib.Core.Path.{◌≡◌, refl}
use Rattle.characters.specs.Text.{Char, chars, bytes}
use Rattle.characters.specs.Form.{within, lead_from}
use Rattle.characters.specs.Chars.{is_continuation}
use Rattle.characters.specs.Order.{order}
use Rattle.edits.specs.Op.{Op, retain, insert, delete}
use Rattle.edits.specs.Build.{build}
use Rattle.edits.specs.Apply.{apply}
use Rattle.edits.specs.Compose.{compose}
use Rattle.edits.specs.Transform.{transform}
use Rattle.edits.specs.Invert.{invert}
use Rattle.answers.specs.Answer.{success, refused}
use Rattle.record.specs.Record.{encode}
use Rattle.operational_transform.specs.Calls.{insert_call, transform_call, retain_call, invert_call}

abbrev R : ℕ → Op Char
R n = retain n

abbrev I : List ℕ → Op Char
I t = insert (chars t)

abbrev D : ℕ → Op Char
D n = delete n

abbrev a : ℕ
a = 0x61

abbrev b : ℕ
b = 0x62

abbrev c : ℕ
c = 0x63

abbrev x : ℕ
x = 0x78

abbrev z : ℕ
z = 0x7A

-- "Eight zero bytes are the empty sequence."
abbrev empty : List ℕ
empty = replicate 8 0

abbrev room : List ℕ
room = replicate 20 0xFF

pub table :
    -- T1 delete 2, insert "ab"; T2 insert "a", delete 1, insert "b"
    (build (D 2 ∷ I (a ∷ b ∷ []) ∷ []) ≡ I (a ∷ b ∷ []) ∷ D 2 ∷ [])
    × (build (I (a ∷ []) ∷ D 1 ∷ I (b ∷ []) ∷ []) ≡ I (a ∷ b ∷ []) ∷ D 1 ∷ [])
    -- T3
    × (transform order (I (a ∷ []) ∷ R 1 ∷ []) (I (b ∷ []) ∷ R 1 ∷ []) ≡ record { left = I (a ∷ []) ∷ R 2 ∷ []; right = R 1 ∷ I (b ∷ []) ∷ R 1 ∷ [] })
    -- T4, and the text
    × (transform order (I (a ∷ []) ∷ []) (I (a ∷ []) ∷ []) ≡ record { left = I (a ∷ []) ∷ R 1 ∷ []; right = I (a ∷ []) ∷ R 1 ∷ [] })
    × (bytes (apply (I (a ∷ []) ∷ R 1 ∷ []) (apply (I (a ∷ []) ∷ []) [])) ≡ a ∷ a ∷ [])
    -- T5
    × (transform order (D 2 ∷ []) (R 1 ∷ I (x ∷ []) ∷ R 1 ∷ []) ≡ record { left = D 1 ∷ R 1 ∷ D 1 ∷ []; right = I (x ∷ []) ∷ [] })
    -- T6, T7
    × (compose (I (0xC3 ∷ 0xA4 ∷ b ∷ []) ∷ []) (D 1 ∷ R 1 ∷ []) ≡ I (b ∷ []) ∷ [])
    × (compose (D 1 ∷ []) (I (x ∷ []) ∷ []) ≡ I (x ∷ []) ∷ D 1 ∷ [])
    -- T8, on "abc"; on "a" it is an 8 (document 02, M-101)
    × (invert (R 1 ∷ I (z ∷ []) ∷ D 2 ∷ []) (chars (a ∷ b ∷ c ∷ [])) ≡ R 1 ∷ I (b ∷ c ∷ []) ∷ D 1 ∷ [])
    × ((invert_call (encode (R 1 ∷ I (z ∷ []) ∷ D 2 ∷ [])) (a ∷ b ∷ c ∷ []) room).answer ≡ success (19 ∷ []))
    × ((invert_call (encode (R 1 ∷ I (z ∷ []) ∷ D 2 ∷ [])) (a ∷ []) room).answer ≡ refused 8)
    -- T9
    × ((insert_call empty (0xC0 ∷ 0x80 ∷ []) room).answer ≡ refused 3)
    × ((insert_call empty (0xED ∷ 0xA0 ∷ 0x80 ∷ []) room).answer ≡ refused 3)
    × ((insert_call empty (0xF4 ∷ 0x90 ∷ 0x80 ∷ 0x80 ∷ []) room).answer ≡ refused 3)
    × ((insert_call empty (0xF4 ∷ 0x8F ∷ 0xBF ∷ 0xBF ∷ []) room).answer ≡ success (15 ∷ []))
    -- T10
    × ((transform_call (encode (R 1 ∷ [])) (encode (R 2 ∷ [])) room room).answer ≡ refused 8)
unfolding build transform compose invert order chars bytes insert_call transform_call invert_call encode is_continuation within lead_from
table = (refl, refl, refl, refl, refl, refl, refl, refl, refl, refl, refl, refl, refl, refl, refl, refl)

-- "Retain 32,768 on the empty record passes; 32,769 gets 9."
pub limit : ((retain_call empty 32768 room).answer ≡ success (11 ∷ [])) × ((retain_call empty 32769 room).answer ≡ refused 9)
unfolding retain_call
limit = (refl, refl)
