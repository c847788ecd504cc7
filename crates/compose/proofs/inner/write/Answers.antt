use Rattle.compose.proofs.Looping.{sized_under, sized_writes}
use Rattle.compose.proofs.inner.write.Goals as goal

pub write_header-requires : goal.write_header-requires
write_header-requires c = search sized_under

pub returns : goal.returns
returns c = search sized_writes
