-- The invariant: the digits still to come follow on `value`, and all before were hex.
use mathlib.Core.Path.{◌≡◌}
use Prim.Native.Nat.{◌^◌, ◌≤◌, ◌<◌}
use lib.ListN.{take, drop}
use Rattle.digits.specs.Digits.{every, is_hex, hex_from}
use Rattle.digits.proofs.Scans.{hex_left}
use Rattle.digits.proofs.hex_bits.Given as goal

abbrev pub invariant-loop-k : goal.invariant-loop-k
invariant-loop-k l = (l.k ≤ 16) × (l.value < 16 ^ l.k) × (every is_hex (take 16 (drop l.from l.bytes)) ≡ every is_hex (hex_left l.bytes l.from l.k)) × (hex_from 0 (take 16 (drop l.from l.bytes)) ≡ hex_from l.value (hex_left l.bytes l.from l.k))
