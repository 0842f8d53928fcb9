-- Every case of document 01 that is marked P and speaks of definitions holds: one computation over the list. Assumes nothing.
use mathlib.Core.Path.{◌≡◌, refl}
use mathlib.Core.Bool.{Bool, true, ◌&&◌}
use mathlib.Core.List.{List, [], ◌∷◌}
use lib.Ieee.{of_bits, to_bits, of_int, div, sub, lt}
use Rattle.definition.specs.Numbers.{chunks, lent_sizes}
use Rattle.definition.specs.Refusals.{or_else, first_from, test_dims, test_rows, test_limits, test_lengths, test_starts, test_columns, test_values, test_rounds, test_degree, test_seed_std, test_lent, test_params, test_graph, test_request}
use Rattle.definition.specs.Root.{root_of}
use Rattle.definition.specs.SplitmixUnit.{wrap_add, wrap_mul, mixed, unit_of, splitmix_unit}
use Rattle.definition.specs.ChebyshevRayleighRitz.{next_bound}
use Rattle.definition.specs.Cases.{Case, cases}

abbrev all_hold : List Case → Bool
all_hold [] = true
all_hold (c ∷ cs) = c.holds && all_hold cs

pub cases_hold : all_hold cases ≡ true
unfolding cases of_bits to_bits of_int div sub lt root_of wrap_add wrap_mul mixed unit_of splitmix_unit next_bound chunks lent_sizes or_else first_from test_dims test_rows test_limits test_lengths test_starts test_columns test_values test_rounds test_degree test_seed_std test_lent test_params test_graph test_request
cases_hold = refl
