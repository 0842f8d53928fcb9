use mathlib.Core.Path.{◌≡◌}
use Prim.Native.Nat.{◌≤◌}
use lib.Ieee.{nan}
use lib.ListN.{length}
use Rattle.definition.specs.Arith.{ieee64}
use Rattle.definition.specs.Memory.{vector_of, fill_range}
use Rattle.definition.specs.SpectralEmbedding.{spread, scale_of}
use Rattle.closing.proofs.reduced.Partials.scales.Given as goal

abbrev pub invariant-loop-c : goal.invariant-loop-c
invariant-loop-c l = (l.c ≤ l.dims) × (length l.scales ≡ 225) × (l.scales ≡ fill_range 0 l.c (λ j. scale_of ieee64 l.target (spread ieee64 l.rows (vector_of nan l.initial.scales j))) l.initial.scales)
