use mathlib.Core.Path.{sym, ap, ◌∙◌}
use native.Mathlib.Omega.{arith}
use Rattle.reading.specs.ReadRun.{record_of}
use Rattle.reading.proofs.Arrays.{taken, not_taken, not_some}
use Rattle.reading.proofs.Lists.{starts-wrong, starts-right, inside-next}
use Rattle.reading.proofs.read_lists.Goals as goal

pub read_line-requires : goal.read_line-requires
read_line-requires c = (c.requires, omega arith)

pub returns-in_default : goal.returns-in_default
returns-in_default c =
    let a = c.args in
    let h = a.head in
    c.faulty.ensures ∙ sym (ap record_of (starts-wrong a.bytes.now h.d h.rounds h.degree h.seed h.next (not_taken _ _ _ _ c.read_line.ensures (not_some _ c.in_default.not-Some))))

pub read_entries-requires : goal.read_entries-requires
read_entries-requires c = inside-next 4 (omega arith) _ _ _ _ _ _ c.requires (taken _ 65 _ _ _ c.read_line.ensures c.in-Some.is)

pub returns : goal.returns
returns c =
    let a = c.args in
    let h = a.head in
    let t = taken _ 65 _ _ _ c.read_line.ensures c.in-Some.is in
    c.read_entries.ensures t.numbers t.counted t.stored ∙ sym (ap record_of (starts-right a.bytes.now h.d h.rounds h.degree h.seed h.next t.numbers _ t.is))
