use Rattle.emitter.proofs.Staging.{place_few, place_text}
use Rattle.emitter.proofs.inner.fits_stage.Goals as goal

pub returns-then-slots-e : goal.returns-then-slots-e
returns-then-slots-e c = search place_few

pub returns : goal.returns
returns c = search place_text
