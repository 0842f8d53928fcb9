use mathlib.Core.Path.{refl}
use Rattle.guard.proofs.Chains.{failed, passed}
use Rattle.guard.proofs.progress.has_run.Goals as goal

pub returns-then-fields_sound : goal.returns-then-fields_sound
returns-then-fields_sound c = passed c.fields_sound.ensures c.if-fields_sound.true refl

pub returns-else-fields_sound : goal.returns-else-fields_sound
returns-else-fields_sound c = failed c.fields_sound.ensures _ c.if-fields_sound.false
