use mathlib.Core.Path.{sym, ap, ◌∙◌}
use mathlib.Core.List.{◌∷◌}
use native.Mathlib.Omega.{arith}
use Rattle.lines.specs.Kinds.{kinds_at}
use Rattle.lines.proofs.Ends.{line-within, line_off, next-within, next-on, line_kinds}
use Rattle.lines.proofs.read_any_line.Goals as goal

pub next_line-next-requires : goal.next_line-next-requires
next_line-next-requires c = (line-within _ _ _ c.requires c.line_end-end.ensures, line_off _ _ _ c.requires c.line_end-end.ensures)

pub returns : goal.returns
returns c =
    let a = c.args in
    let h = c.requires in
    let e = c.line_end-end.ensures in
    let n = c.next_line-next.ensures in
    record {
      lines = line_kinds _ _ _ h e _ n ∙ ap (λ k. k ∷ kinds_at a.text.now c.next_line-next.result) (sym c.kind_of-kind.ensures);
      on = next-on _ _ _ h e _ n;
      within = next-within _ _ _ h e _ n;
    }

pub slice_bounds-kind_of-end : goal.slice_bounds-kind_of-end
slice_bounds-kind_of-end c = omega (arith, line-within _ _ _ c.requires c.line_end-end.ensures)
