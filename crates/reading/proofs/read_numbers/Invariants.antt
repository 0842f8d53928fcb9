-- The invariant: the numbers stored come before those still to be read.
use mathlib.Core.List.{[]}
use Rattle.reading.specs.Parts.{line_of}
use Rattle.reading.proofs.Steps.{Scan}
use Rattle.reading.proofs.read_numbers.Given as goal

abbrev pub invariant-loop-i : goal.invariant-loop-i
invariant-loop-i l = Scan (line_of [] l.kind 0 0) l.bytes l.from l.initial.out l.out l.at l.i
