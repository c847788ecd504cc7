use native.Mathlib.Omega.{arith}
use Rattle.append.proofs.Places.{from_inside}
use Rattle.accept.proofs.choose_buffers.Goals as goal

pub overflow_add-s : goal.overflow_add-s
overflow_add-s c = omega (arith, from_inside _ _ _ c.requires.0.found c.requires.0.rev _ c.requires.1)
