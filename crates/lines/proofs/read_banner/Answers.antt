use mathlib.Core.Path.{sym}
use native.Mathlib.Omega.{arith}
use lib.Seq.{length-take-le}
use Rattle.lines.proofs.Runs.{at_most, at_end}
use Rattle.lines.proofs.Ends.{goes_nil}
use Rattle.lines.specs.Parts.{line_goes_on}
use Rattle.lines.proofs.Banners.{read_first}
use Rattle.lines.proofs.read_banner.Goals as goal

pub slice_bounds-is_banner-end : goal.slice_bounds-is_banner-end
slice_bounds-is_banner-end c = sym (length-take-le _ _ (omega (arith, c.line_end-end.ensures, at_most line_goes_on c.args.text.now 0 (omega arith))))

pub next_line-next-requires : goal.next_line-next-requires
next_line-next-requires c =
    (omega (arith, c.line_end-end.ensures, at_most line_goes_on c.args.text.now 0 (omega arith)), at_end line_goes_on c.args.text.now 0 _ c.line_end-end.ensures goes_nil)

pub returns : goal.returns
returns c = read_first _ _ _ _ c.line_end-end.ensures c.next_line-next.ensures c.is_banner-is_right.ensures
