-- "Numbers to check", the cases marked P that speak of definitions: each a number of document 01 and a test that must be true. Definitions only.
use Rattle.std.specs.Prelude.{Bool, false, ◌&&◌, List, [], ◌∷◌, ℕ, eqb, Float}
use Rattle.std.specs.Float.{nan, inf, binary64}
use Rattle.std.specs.Float.Ieee.{of_bits, to_bits}
use Rattle.definition.specs.Arith.{ieee64}
use Rattle.definition.specs.Numbers.{chunks, defaults}
use Rattle.definition.specs.Refusals.{Verdict, test_request, test_rounds}
use Rattle.definition.specs.Root.{root_of}
use Rattle.definition.specs.SplitmixUnit.{splitmix_unit}
use Rattle.definition.specs.ChebyshevRayleighRitz.{next_bound}

pub record Case : Type 0 where
  pub number : ℕ
  pub holds : Bool

abbrev pub case : ℕ → Bool → Case
case n b = record { number = n; holds = b }

-- the same bits; every NaN counts as one
abbrev pub is : Float → ℕ → Bool
is x bits = eqb (to_bits binary64 x) (to_bits binary64 (of_bits binary64 bits))

abbrev pub says : Verdict → ℕ → ℕ → Bool
says v number place = eqb v.number number && eqb v.place place

abbrev pub root_is : ℕ → ℕ → Bool
root_is x y = is (root_of binary64 (of_bits binary64 x)) y

-- the test of a graph with the default parameters and enough memory, D = 1
abbrev pub graph_says : List ℕ → List ℕ → List Float → ℕ → ℕ → Bool
graph_says starts columns values = says (test_request ieee64 1 defaults starts columns values (λ j. 1_000_000))

abbrev pub nan_bits : ℕ
nan_bits = 0x7ff8_0000_0000_0000

unfoldable pub cases : List Case
cases =
    -- `splitmix_unit(61C8864680B583EB)` = -0.5
    case 1 (is (splitmix_unit 0x61c8_8646_80b5_83eb) 0xbfe0_0000_0000_0000)
    -- root of 2^-52 is 2^-26; of 2^-1074, 2^-537
    ∷ case 2 (root_is 0x3cb0_0000_0000_0000 0x3e50_0000_0000_0000)
    ∷ case 2 (root_is 0x0000_0000_0000_0001 0x1e60_0000_0000_0000)
    -- root of the largest number
    ∷ case 3 (root_is 0x7fef_ffff_ffff_ffff 0x5fef_ffff_ffff_ffff)
    -- root of -0 is -0; of -1, NaN
    ∷ case 4 (root_is 0x8000_0000_0000_0000 0x8000_0000_0000_0000)
    ∷ case 4 (root_is 0xbff0_0000_0000_0000 nan_bits)
    -- next bound from NaN 0.1, from infinity 0.9995, from 0.5 0.5
    ∷ case 5 (is (next_bound ieee64 nan) 0x3fb9_9999_9999_999a)
    ∷ case 5 (is (next_bound ieee64 (inf false)) 0x3fef_fbe7_6c8b_4396)
    ∷ case 5 (is (next_bound ieee64 (of_bits binary64 0x3fe0_0000_0000_0000)) 0x3fe0_0000_0000_0000)
    -- n = 1 and 4,096 give one chunk; 4,097 gives two
    ∷ case 6 (eqb (chunks 1) 1)
    ∷ case 6 (eqb (chunks 4_096) 1)
    ∷ case 6 (eqb (chunks 4_097) 2)
    -- starts 0,2,1 over one entry: 5 at 2
    ∷ case 7 (graph_says (0 ∷ 2 ∷ 1 ∷ []) (0 ∷ []) (of_bits binary64 0x3ff0_0000_0000_0000 ∷ []) 5 2)
    -- n = 1, column 1 with value NaN: 6 at 0. Column 0: 7 at 0
    ∷ case 8 (graph_says (0 ∷ 1 ∷ []) (1 ∷ []) (nan ∷ []) 6 0)
    ∷ case 8 (graph_says (0 ∷ 1 ∷ []) (0 ∷ []) (nan ∷ []) 7 0)
    -- rounds 0: 8; 1 and 1,000 pass; 1,001: 8
    ∷ case 9 (says (test_rounds 0) 8 0)
    ∷ case 9 (says (test_rounds 1) 0 0)
    ∷ case 9 (says (test_rounds 1_000) 0 0)
    ∷ case 9 (says (test_rounds 1_001) 8 0)
    ∷ []
