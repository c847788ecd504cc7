-- "Opening writes these four bytes with 0 revisions (9 if the length is over 32,768)."
use Rattle.std.specs.Prelude.{ℕ, List, [], ◌∷◌, nat_le}
use Rattle.buffers.specs.Words.{words}
use Rattle.answers.specs.Answer.{needs}
use Rattle.answers.specs.Output.{Out, writing}
use Rattle.record.specs.Layout.{max_size}

unfoldable pub open_call : ℕ → List ℕ → Out
unfolding writing
open_call n log = writing (needs (nat_le n max_size) 9 0) (words (0 ∷ n ∷ [])) log
