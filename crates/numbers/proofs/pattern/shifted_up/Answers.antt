-- The count of leading zeros brings the highest digit to place 52.
use Rattle.std.proofs.Common.{◌≡◌, ◌-◌, ◌*◌, ◌%◌, ◌^◌, ◌<◌, mod-eq_of_lt, arith}
use lib.Count.{count_leading_zeros}
use Rattle.numbers.proofs.Values.{Zeros, zeros_of, shifted}
use Rattle.numbers.proofs.pattern.shifted_up.Goals as goal
use Rattle.numbers.proofs.pattern.shifted_up.Goals.{Start}

zeros : (c : Start) → Zeros c.args.t (count_leading_zeros 64 c.args.t)
zeros c = zeros_of c.args.t c.requires.0 c.requires.1

pub overflow_sub-shift : goal.overflow_sub-shift
overflow_sub-shift c = omega (arith, zeros (goal.at.overflow_sub-shift c).Start)

pub returns : goal.returns
returns c =
    let t = c.args.t in
    let z = count_leading_zeros 64 t in
    let h = zeros (goal.at.returns c).Start in
    let l : t * 2 ^ (z - 11) < 2 ^ 64 = omega arith in
    let m : t * 2 ^ (z - 11) % 2 ^ 64 ≡ t * 2 ^ (z - 11) = mod-eq_of_lt l in
    record {
      normal = record { least = omega arith; most = omega arith; low_end = omega arith; high_end = omega arith };
      exp_value = shifted t (z - 11) (omega arith) l;
    }
