-- `pattern_root` at what the four callees ensure.
use Rattle.std.proofs.Common.{◌+◌, ◌-◌, ◌*◌, ◌/◌, ◌^◌}
use Rattle.numbers.specs.Steps.{Patterned}
use Rattle.numbers.proofs.Values.{pattern_root}
use Rattle.numbers.proofs.pattern.root_bits.Goals as goal
use Rattle.numbers.proofs.pattern.root_bits.Goals.{After-nearest-n}

whole : (c : After-nearest-n) → Patterned c.args.bits ((c.parts-sig.result.exp / 2 - 26) * 2 ^ 52 + c.nearest-n.result)
whole c =
    let p = c.parts-sig in
    let a = c.radicand-a in
    let d = c.digits-d in
    pattern_root c.args.bits p.result.sig p.result.exp a.result d.result.root d.result.rest c.nearest-n.result
    p.ensures a.ensures d.ensures c.nearest-n.ensures

pub returns : goal.returns
returns c = whole (goal.at.returns c).After-nearest-n
