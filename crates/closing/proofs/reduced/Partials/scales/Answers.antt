use mathlib.Core.Path.{ap, ◌∙◌}
use mathlib.Core.List.{List}
use native.Mathlib.Omega.{arith}
use lib.Ieee.{Float, nan}
use lib.ListN.{length-set}
use Rattle.definition.specs.Arith.{ieee64, narrowed}
use Rattle.definition.specs.Memory.{vector_of, fill_range}
use Rattle.definition.specs.SpectralEmbedding.{spread, scale_of}
use Rattle.definition.proofs.Fill.{fill_start, fill_step, fill_ahead, fill_to}
use Rattle.machine.specs.Closing.{scales_of}
use Rattle.closing.proofs.Room.{totals-room}
use Rattle.closing.proofs.reduced.Partials.scales.Goals as goal

pub loop-c-init : goal.loop-c-init
loop-c-init c = (omega arith, totals-room ieee64 _ _ _ c.totals.ensures, fill_start _ _ _)

pub loop-c-preserved : goal.loop-c-preserved
loop-c-preserved c =
    let l = c.loop-c in (
      omega arith,
      simp length-set l.invariant.1,
      fill_step _ _ _ _ (omega arith) l.invariant.2
          (c.column_scale.ensures ∙ ap (λ (x : Float). scale_of ieee64 c.args.self.asked.seed_std (spread ieee64 c.args.self.asked.rows x)) (fill_ahead 0 l.c _ _ l.c nan l.invariant.2 (omega arith))),
    )

pub returns : goal.returns
unfolding scales_of narrowed
returns c =
    let s = c.args.self.asked in
    fill_to _ _ _ c.loop-c.invariant.2 (omega arith)
    ∙ ap (λ (l : List Float). fill_range 0 s.dims (λ j. scale_of ieee64 s.seed_std (spread ieee64 s.rows (vector_of nan l j))) l) c.totals.ensures
