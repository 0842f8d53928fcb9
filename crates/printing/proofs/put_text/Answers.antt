use mathlib.Core.Path.{◌≡◌, refl, sym, ap, ◌∙◌}
use mathlib.Core.List.{List}
use Prim.Native.Nat.{ℕ, ◌+◌}
use native.Mathlib.Numerals.{add-one}
use native.Mathlib.Omega.{arith}
use lib.ListN.{length, get_or, set, length-set}
use lib.Seq.{paste, paste-zero, paste-suc}
use Rattle.printing.proofs.Putting.{copied_put}
use Rattle.printing.proofs.put_text.Goals as goal

pub loop-i-init : goal.loop-i-init
loop-i-init c = (omega arith, paste-zero c.args.out.now c.args.at c.args.text.now, refl)

pub loop-i-preserved : goal.loop-i-preserved
loop-i-preserved c =
    let i = c.loop-i.i in
    let at = c.args.at in
    let text = c.args.text.now in
    let out = c.args.out.now in
    let b = get_or text i 0 in (
      omega arith,
      ap (λ (l : List ℕ). set l (at + i) b) c.loop-i.invariant.1 ∙ paste-suc out at text i 0 (omega arith) (omega arith)
          ∙ ap (paste out at text) (sym (add-one i)),
      length-set c.loop-i.out (at + i) b ∙ c.loop-i.invariant.2,
    )

pub shape_of-out : goal.shape_of-out
shape_of-out c = c.loop-i.invariant.2

pub returns : goal.returns
returns c =
    let text = c.args.text.now in
    let at = c.args.at in
    let out = c.args.out.now in
    let e : c.loop-i.i ≡ length text = omega arith in
    (refl, c.loop-i.invariant.1 ∙ ap (paste out at text) e ∙ copied_put text at out)
