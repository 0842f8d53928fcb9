use lib.Ieee.{nan}
use Rattle.definition.specs.Arith.{ieee64}
use Rattle.definition.specs.Memory.{vector_of, block_of}
use Rattle.columns.proofs.Fills.{Turn}
use Rattle.definition.specs.ChebyshevRayleighRitz.{rotated}
use Rattle.definition.specs.SpectralEmbedding.{unscaled}
use Rattle.columns.specs.Rows.{shifted}
use Rattle.columns.proofs.output.rotate_rows.Given as goal

abbrev pub invariant-loop-r : goal.invariant-loop-r
invariant-loop-r l = Turn l.rows l.d (shifted l.own.first (unscaled ieee64 (vector_of nan l.inverse) (rotated ieee64 l.k (block_of nan l.own.n l.k l.v) (block_of nan l.k l.k l.ritz.vectors.now) l.ritz.order.now))) l.initial.part l.r l.part
