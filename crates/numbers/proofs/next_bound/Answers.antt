-- The least bound is below the largest.
use Rattle.std.proofs.Common.{ap, ◌∙◌}
use lib.Ieee.{Float, binary64, of_bits}
use Rattle.definition.specs.Arith.{ieee64}
use Rattle.numbers.specs.Answers.{lowered}
use Rattle.numbers.proofs.Bounds.{raised-lowered}
use Rattle.numbers.proofs.next_bound.Goals as goal

pub returns : goal.returns
unfolding of_bits
returns c =
    c.lower.ensures
    ∙ ap (λ (x : Float). lowered ieee64 x (of_bits binary64 0x3fef_fbe7_6c8b_4396)) c.raise.ensures
    ∙ raised-lowered c.args.ritz
