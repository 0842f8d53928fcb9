use mathlib.Core.Path.{refl}
use Rattle.reading.specs.ReadRun.{record_of, floats_of}
use Rattle.reading.proofs.faulty.Goals as goal

pub returns : goal.returns
unfolding record_of floats_of
returns c = refl
