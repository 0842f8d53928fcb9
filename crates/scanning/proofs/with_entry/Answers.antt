use mathlib.Core.Path.{refl, sym, ap, ◌∙◌}
use mathlib.Core.Bool.{◌&&◌}
use native.Mathlib.Numerals.{add-one}
use Rattle.market.proofs.Passes.{doubles-same, doubles_other}
use Rattle.scanning.proofs.with_entry.Goals as goal
use Rattle.scanning.proofs.with_entry.Goals.{then-r-c, else-r-c}

pub returns : goal.returns
returns c =
    record {
      entries = add-one _;
      doubles = elim c.if-r-c.branch [
        | then-r-c w ↦ w.doubles-is ∙ add-one _ ∙ sym (doubles_other _ _ _ w.if-r-c.true)
        | else-r-c w ↦ w.doubles-is ∙ sym (doubles-same _ _ _ w.if-r-c.false)
      ];
      row = refl;
      column = refl;
      by_rows = ap (◌&&◌ c.args.passed.by_rows) c.is_before.ensures;
      by-columns = ap (◌&&◌ c.args.passed.by_columns) c.is_before-2.ensures;
    }
