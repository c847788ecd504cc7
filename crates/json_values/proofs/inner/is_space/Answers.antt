use Rattle.json_values.proofs.Numbers.{space_over, space_20, space_0_a, space_0_d, space_09}
use Rattle.json_values.proofs.inner.is_space.Goals as goal

pub returns-then-b-gt32 : goal.returns-then-b-gt32
returns-then-b-gt32 c = search space_over

pub returns-then-b-eq32 : goal.returns-then-b-eq32
returns-then-b-eq32 c = search space_20

pub returns-then-b-eq10 : goal.returns-then-b-eq10
returns-then-b-eq10 c = search space_0_a

pub returns-then-b-eq13 : goal.returns-then-b-eq13
returns-then-b-eq13 c = search space_0_d

pub returns : goal.returns
returns c = let x = c.if-b-eq32.false in let y = c.if-b-eq10.false in let z = c.if-b-eq13.false in search (space_09, x, y, z)
