-- A result in its buffer.
use Rattle.std.specs.Prelude.{ℕ, List, ◌++◌, length, drop}

-- "Results stand at the front of their buffer; bytes behind are untouched."
unfoldable pub put_at_front : List ℕ → List ℕ → List ℕ
put_at_front result buffer = result ++ drop (length result) buffer
