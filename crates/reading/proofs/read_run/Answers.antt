use mathlib.Core.Path.{sym, ap, subst, ◌∙◌}
use Prim.Native.Nat.{ℕ, ◌≤◌}
use lib.ListN.{length}
use Rattle.std.specs.Prelude.{Result}
use Rattle.reading.specs.ReadRun.{record_of}
use Rattle.reading.specs.Parts.{on_head, head_end}
use Rattle.reading.specs.declared.Head.{Head}
use Rattle.reading.proofs.Rest.{few_bytes, many_bytes}
use Rattle.reading.proofs.read_run.Goals as goal

pub returns-then-bytes-gt-BYTES_MOST : goal.returns-then-bytes-gt-BYTES_MOST
returns-then-bytes-gt-BYTES_MOST c = c.faulty.ensures ∙ sym (ap record_of (many_bytes c.args.bytes.now c.if-bytes-gt-BYTES_MOST.true))

pub read_lists-requires : goal.read_lists-requires
read_lists-requires c =
    let bytes = c.args.bytes.now in
    record {
      small = c.if-bytes-gt-BYTES_MOST.false;
      inside = subst (λ (h : Result Head ℕ). head_end h ≤ length bytes) c.in-Ok.is c.read_head.ensures.inside;
    }

pub returns-in-Ok : goal.returns-in-Ok
returns-in-Ok c =
    let bytes = c.args.bytes.now in
    c.read_lists.ensures
    ∙ sym (ap record_of
    (few_bytes bytes c.if-bytes-gt-BYTES_MOST.false ∙ c.read_head.ensures.is ∙ ap (on_head bytes) c.in-Ok.is))

pub returns-in-Err : goal.returns-in-Err
returns-in-Err c =
    let bytes = c.args.bytes.now in
    c.faulty-in-Err.ensures
    ∙ sym (ap record_of
    (few_bytes bytes c.if-bytes-gt-BYTES_MOST.false ∙ c.read_head.ensures.is ∙ ap (on_head bytes) c.in-Err.is))
