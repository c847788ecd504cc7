use Rattle.json_texts.proofs.Moves.{between_none, next_ready, next_between, rest_copied}
use Rattle.json_texts.proofs.inner.copy_texts.Goals as goal

pub loop-k-init : goal.loop-k-init
loop-k-init c = search between_none

pub copy_string-c-requires : goal.copy_string-c-requires
copy_string-c-requires c = next_ready c.requires.0 c.requires.1 c.loop-k.invariant _ c.in-Some.ensures

pub loop-k-preserved : goal.loop-k-preserved
loop-k-preserved c = next_between c.requires.0 c.requires.1 c.loop-k.invariant _ c.in-Some.ensures c.copy_string-c.ensures

pub returns : goal.returns
returns c = rest_copied c.requires.0 c.requires.1 c.loop-k.invariant c.in_default.ensures
