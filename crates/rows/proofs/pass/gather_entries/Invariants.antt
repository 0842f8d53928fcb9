-- The loop's invariant: the entries so far are gathered.
use mathlib.Core.Path.{◌≡◌}
use Prim.Native.Nat.{◌≤◌}
use lib.ListN.{length, replicate}
use Rattle.definition.specs.Arith.{ieee64}
use Rattle.definition.specs.Memory.{fill_range, block_of}
use Rattle.rows.specs.Pass.{gathered}
use Rattle.rows.proofs.pass.gather_entries.Given as goal

abbrev pub invariant-loop-p : goal.invariant-loop-p
invariant-loop-p l = (l.p ≤ length l.columns) × (l.acc ≡ fill_range 0 l.k (gathered ieee64 l.columns l.weights (block_of ieee64.none l.n l.k l.v) 0 l.p) (replicate 15 ieee64.zero))
