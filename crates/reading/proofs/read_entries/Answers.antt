use mathlib.Core.Path.{sym, ap, ◌∙◌}
use native.Mathlib.Omega.{arith}
use Rattle.reading.specs.ReadRun.{record_of, floats_of}
use Rattle.reading.proofs.Arrays.{taken, not_taken, not_some}
use Rattle.reading.proofs.Lists.{columns-wrong, values-wrong, end_wrong, end_right, right-record, columns-below, inside-next}
use Rattle.reading.proofs.read_entries.Goals as goal

pub read_line-requires : goal.read_line-requires
read_line-requires c = (c.requires, omega arith)

pub returns-in_default : goal.returns-in_default
returns-in_default c =
    let a = c.args in
    let h = a.head in
    λ vs n s. c.faulty.ensures ∙ sym (ap record_of (columns-wrong a.bytes.now h.d h.rounds h.degree h.seed vs a.from (not_taken _ _ _ _ c.read_line.ensures (not_some _ c.in_default.not-Some))))

pub read_line-requires-2 : goal.read_line-requires-2
read_line-requires-2 c = (inside-next 5 (omega arith) _ _ _ _ _ _ c.requires (taken _ 1024 _ _ _ c.read_line.ensures c.in-Some.is), omega arith)

pub returns-in_default-read_line : goal.returns-in_default-read_line
returns-in_default-read_line c =
    let a = c.args in
    let h = a.head in
    let t = taken _ 1024 _ _ _ c.read_line.ensures c.in-Some.is in
    λ vs n s. c.faulty-in_default-read_line.ensures ∙ sym (ap record_of (values-wrong a.bytes.now h.d h.rounds h.degree h.seed vs a.from _ _ t.is (not_taken _ _ _ _ c.read_line-2.ensures (not_some _ c.in_default-read_line.not-Some))))

pub returns-then-line7-bytes : goal.returns-then-line7-bytes
returns-then-line7-bytes c =
    let a = c.args in
    let h = a.head in
    let t = taken _ 1024 _ _ _ c.read_line.ensures c.in-Some.is in
    let u = taken _ 1024 _ _ _ c.read_line-2.ensures c.in-Some-read_line.is in
    λ vs n s. c.faulty-then-line7-bytes.ensures ∙ sym (ap record_of (end_wrong a.bytes.now h.d h.rounds h.degree h.seed vs a.from _ _ t.is _ _ u.is c.if-line7-bytes.true))

pub columns_of-requires : goal.columns_of-requires
columns_of-requires c = columns-below _ _ _ _ _ (taken _ 1024 _ _ _ c.read_line.ensures c.in-Some.is)

pub returns : goal.returns
returns c =
    let a = c.args in
    let h = a.head in
    let t = taken _ 1024 _ _ _ c.read_line.ensures c.in-Some.is in
    let u = taken _ 1024 _ _ _ c.read_line-2.ensures c.in-Some-read_line.is in
    λ vs n s. right-record (record { d = h.d; rounds = h.rounds; degree = h.degree; seed_std = h.seed; starts = vs; columns = t.numbers; values = u.numbers }) _ _ _ _ _ _ _
    c.value_of.ensures n t.counted u.counted s (c.columns_of.ensures ∙ t.stored) (c.values_of.ensures ∙ ap floats_of u.stored)
    ∙ sym (ap record_of (end_right a.bytes.now h.d h.rounds h.degree h.seed vs a.from _ _ t.is _ _ u.is c.if-line7-bytes.false))
