-- The first c are filled, and the rest is put back as it was.
use Rattle.std.proofs.Common.{rules, ◌≡◌, List, ◌++◌, ap, ◌∙◌, drop, replicate, ℕ}
use Rattle.columns.proofs.Firsts.{zeros}
use Rattle.columns.proofs.marks.clear_marks.Goals as goal

pub returns : goal.returns
returns c =
    let e : c.fill.new.self ≡ replicate c.args.c 0 = search rules in
    ap (λ (l : List ℕ). l ++ drop c.args.c c.args.marks.now) e ∙ zeros c.args.c c.args.marks.now c.requires
