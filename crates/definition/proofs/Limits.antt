-- The limits make every product of sizes fit 64 bits, with room for a factor of eight bytes. Assumes nothing.
use Prim.Native.Nat.{ℕ, suc, ◌+◌, ◌*◌, ◌^◌, ◌/◌, ◌≤◌, ◌<◌}
use native.Mathlib.Nat.{mul-le-mul}
use native.Mathlib.Omega.{arith}
use Rattle.definition.specs.Numbers.{width, dims_most, rows_most, entries_most, rounds_most, degree_most, chunks}
use Rattle.definition.specs.OrthonormalizeBlock.{fresh_index}

-- what refusals 1, 3, 8 and 9 leave
pub record Allowed (d n m rounds degree : ℕ) : Type 0 where
  pub dims : d ≤ dims_most
  pub rows : n ≤ rows_most
  pub entries : m ≤ entries_most
  pub rounds-few : rounds ≤ rounds_most
  pub degree-few : degree ≤ degree_most

pub record Fits (d n m rounds degree : ℕ) : Type 0 where
  pub block : n * width d * 8 < 2 ^ 63
  pub partials : chunks n * width d * width d * 8 < 2 ^ 63
  pub output : n * d * 8 < 2 ^ 63
  pub ritz_record : rounds * (width d + 1) * 8 < 2 ^ 63
  pub lists : m * 8 < 2 ^ 63
  pub passes : rounds * (degree + 1) < 2 ^ 63
  -- as many stages as a run can have, and its accepted calls
  pub calls : (9 + rounds * (degree + 2 + 7 * width d) + 7 * (rounds * width d)) * (chunks n + 1) < 2 ^ 63
  -- the index of every fresh number
  pub fresh : (round c i : ℕ) → round < rounds → c < width d → i < n → fresh_index n (width d) round c i < 2 ^ 63

chunks-few : (n : ℕ) → n ≤ rows_most → chunks n ≤ 256
unfolding chunks
chunks-few n h = omega arith

-- a product of two numbers that have limits
under : {x y a b : ℕ} → x ≤ a → y ≤ b → x * y ≤ a * b
under p q = mul-le-mul p q

stages_few : (rounds degree k : ℕ) → rounds ≤ 1_000 → degree ≤ 1_000 → k ≤ 15 → 9 + rounds * (degree + 2 + 7 * k) + 7 * (rounds * k) ≤ 2_000_000
stages_few rounds degree k r d w =
    let e : degree + 2 + 7 * k ≤ 1_107 = omega arith in
    omega (arith, under r e, under r w)

fresh_few : (n k round c i : ℕ) → n ≤ 1_048_576 → k ≤ 15 → round < 1_000 → c < k → i < n → fresh_index n k round c i < 2 ^ 63
unfolding fresh_index
fresh_few n k round c i h w p q r =
    let s : round + 1 ≤ 1_000 = omega arith in
    let t : c ≤ 15 = omega arith in
    omega (arith, under (under s h) w, under t h)

pub sizes_fit : (d n m rounds degree : ℕ) → Allowed d n m rounds degree → Fits d n m rounds degree
sizes_fit d n m rounds degree h =
    let k : width d ≤ 15 = omega arith in
    let c = chunks-few n h.rows in
    let c1 : chunks n + 1 ≤ 257 = omega arith in
    let d1 : degree + 1 ≤ 1_001 = omega arith in
    let k1 : width d + 1 ≤ 16 = omega arith in
    record {
      block = omega (arith, under h.rows k);
      partials = omega (arith, under (under c k) k);
      output = omega (arith, under h.rows h.dims);
      ritz_record = omega (arith, under h.rounds-few k1);
      lists = omega arith;
      passes = omega (arith, under h.rounds-few d1);
      calls = omega (arith, under (stages_few rounds degree (width d) h.rounds-few h.degree-few k) c1);
      fresh = λ round c i p q r. fresh_few n (width d) round c i h.rows k (omega arith) q r;
    }
