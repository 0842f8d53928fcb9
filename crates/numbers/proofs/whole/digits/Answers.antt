-- Each step's root is that of the next upper digits of a.
use Rattle.std.proofs.Common.{◌*◌, ◌/◌, ◌%◌, ◌^◌, arith, lit<, lit≤}
use Rattle.numbers.specs.Steps.{Floored}
use Rattle.numbers.proofs.Digits.{lengthens, joined}
use Rattle.numbers.proofs.whole.digits.Goals as goal
use Rattle.numbers.proofs.whole.digits.Goals.{After-more_digits-w14, After-more_digits-w27}

at14 : (c : After-more_digits-w14) → Floored (c.args.a / 2 ^ 26) c.more_digits-w14.result.root c.more_digits-w14.result.rest
at14 c =
    let a = c.args.a in
    let w = c.first_digits-w7 in
    let v = c.more_digits-w14 in
    joined (a / 2 ^ 40) w.result.root w.result.rest (2 ^ 7) (a / 2 ^ 26 % 2 ^ 14) (a / 2 ^ 26) v.result.root v.result.rest w.ensures v.ensures (omega arith)

at27 : (c : After-more_digits-w27) → Floored (c.args.a / 2 ^ 26) c.more_digits-w14.result.root c.more_digits-w14.result.rest → Floored c.args.a c.more_digits-w27.result.root c.more_digits-w27.result.rest
at27 c f =
    let a = c.args.a in
    let w = c.more_digits-w14 in
    let v = c.more_digits-w27 in
    joined (a / 2 ^ 26) w.result.root w.result.rest (2 ^ 13) (a % 2 ^ 26) a v.result.root v.result.rest f v.ensures (omega arith)

pub more_digits-w14-requires : goal.more_digits-w14-requires
more_digits-w14-requires c =
    let a = c.args.a in
    let w = c.first_digits-w7 in
    lengthens (a / 2 ^ 40) w.result.root w.result.rest (2 ^ 6) (2 ^ 7) (a / 2 ^ 26 % 2 ^ 14) w.ensures
    (omega (arith, c.requires)) (omega (arith, c.requires)) (lit< tt) (lit≤ tt) (lit≤ tt) (omega arith)

pub more_digits-w27-requires : goal.more_digits-w27-requires
more_digits-w27-requires c =
    let a = c.args.a in
    let v = c.more_digits-w14 in
    lengthens (a / 2 ^ 26) v.result.root v.result.rest (2 ^ 13) (2 ^ 13) (a % 2 ^ 26) (at14 (goal.at.more_digits-w27-requires c).After-more_digits-w14)
    (omega (arith, c.requires)) (omega (arith, c.requires)) (lit< tt) (lit≤ tt) (lit≤ tt) (omega arith)

pub more_digits-requires : goal.more_digits-requires
more_digits-requires c =
    let a = c.args.a in
    let v = c.more_digits-w27 in
    let g = goal.at.more_digits-requires c in
    lengthens a v.result.root v.result.rest (2 ^ 26) (2 ^ 26) 0 (at27 g.After-more_digits-w27 (at14 g.After-more_digits-w14))
    (omega (arith, c.requires)) (omega (arith, c.requires)) (lit< tt) (lit≤ tt) (lit≤ tt) (lit< tt)

pub returns : goal.returns
returns c =
    let a = c.args.a in
    let w = c.more_digits-w27 in
    let v = c.more_digits in
    joined a w.result.root w.result.rest (2 ^ 26) 0 (a * 2 ^ 52) v.result.root v.result.rest (at27 (goal.at.returns c).After-more_digits-w27 (at14 (goal.at.returns c).After-more_digits-w14)) v.ensures (omega arith)
