use native.Mathlib.Omega.{arith}
use mathlib.Core.Path.{refl}
use Rattle.json_strings.proofs.Words.{word_high, word_below, word_marks, word_slashes, word_plain}
use Rattle.json_strings.proofs.inner.plain_eight.Goals as goal

pub returns-then-w-ne0 : goal.returns-then-w-ne0
returns-then-w-ne0 c = let a = c.args in
    word_high a.text.now a.at c.word-w.result c.word-w.ensures (omega arith) (λ k. omega (arith, c.type_inv.text k)) c.if-w-ne0.true

pub overflow_sub-low : goal.overflow_sub-low
overflow_sub-low c = let a = c.args in
    word_below a.text.now a.at c.word-w.result c.word-w.ensures (omega arith) (λ k. omega (arith, c.type_inv.text k)) c.if-w-ne0.false

pub overflow_sub-mark : goal.overflow_sub-mark
overflow_sub-mark c = let a = c.args in
    word_marks a.text.now a.at c.word-w.result c.word-w.ensures (omega arith) (λ k. omega (arith, c.type_inv.text k)) c.if-w-ne0.false

pub overflow_sub-slash : goal.overflow_sub-slash
overflow_sub-slash c = let a = c.args in
    word_slashes a.text.now a.at c.word-w.result c.word-w.ensures (omega arith) (λ k. omega (arith, c.type_inv.text k)) c.if-w-ne0.false

pub returns : goal.returns
returns c = let a = c.args in
    word_plain a.text.now a.at c.word-w.result c.word-w.ensures (omega arith) (λ k. omega (arith, c.shared_slice_known-1.given k)) c.if-w-ne0.false refl refl refl
