use mathlib.Core.Path.{sym, ap, ◌∙◌}
use mathlib.Core.List.{[]}
use Rattle.reading.specs.Parts.{line_of}
use Rattle.reading.specs.ReadLine.{number_at}
use Rattle.reading.specs.declared.Kind.{Kind}
use Rattle.reading.proofs.Kind.number_at.Goals as goal

pub returns-in-UpTo : goal.returns-in-UpTo
returns-in-UpTo c = c.read_decimal.ensures ∙ ap (λ (k : Kind). number_at (line_of [] k 0 0) c.args.bytes.now c.args.at) (sym c.in-UpTo.is)

pub returns-in-Bits : goal.returns-in-Bits
returns-in-Bits c = c.read_hex.ensures ∙ ap (λ (k : Kind). number_at (line_of [] k 0 0) c.args.bytes.now c.args.at) (sym c.in-Bits.is)
