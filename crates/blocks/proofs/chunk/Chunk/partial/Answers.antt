use native.Mathlib.Omega.{arith}
use Rattle.blocks.proofs.Own.{partial_most}
use Rattle.blocks.proofs.chunk.Chunk.partial.Goals as goal

pub overflow_mul-result-2 : goal.overflow_mul-result-2
overflow_mul-result-2 c =
    let s = c.args.self in
    rw c.width-k.ensures (omega (arith, partial_most s.number s.asked_ready s.one_of))
