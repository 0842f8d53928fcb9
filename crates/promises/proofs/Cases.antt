-- Every case of document 01 that is marked P holds: one computation over the list, the calls' case 10 with it. Assumes nothing.
use mathlib.Core.Path.{◌≡◌, refl}
use mathlib.Core.Bool.{Bool, true, ◌&&◌}
use mathlib.Core.List.{List, [], ◌∷◌}
use lib.Ieee.{of_bits, to_bits, of_int, round, div, sub, mul, lt, le}
use Rattle.definition.specs.Cases as definition
use Rattle.definition.specs.Cases.{Case}
use Rattle.definition.specs.ChebyshevRayleighRitz.{t1, first_alpha, next_bound}
use Rattle.definition.specs.Memory.{map_from, pick, fill_range}
use Rattle.definition.specs.Numbers.{chunks, first_row, lent_sizes}
use Rattle.definition.specs.Refusals.{or_else, first_from, test_dims, test_rows, test_limits, test_lengths, test_starts, test_columns, test_values, test_rounds, test_degree, test_seed_std, test_lent, test_params, test_graph, test_request}
use Rattle.definition.specs.Root.{root_of}
use Rattle.definition.specs.SplitmixUnit.{wrap_add, wrap_mul, mixed, unit_of, splitmix_unit}
use Rattle.held.specs.Marks.{cleared}
use Rattle.held.specs.Places.{fill_where}
use Rattle.machine.specs.State.{begun_at, opened_state}
use Rattle.machine.specs.Ranges.{none_from, asked_sound, counts_sound, order_sound, bound_sound, alpha_sound, progress_sound, state_sound, is_open, lists_enough, lent_enough, starts_sound, columns_sound, rows_sound, chunk_sound, lists_sound, sound_for_chunk, test_chunk}
use Rattle.machine.specs.Work.{work}
use Rattle.machine.specs.Calls.{open_call, chunk_call}
use Rattle.promises.specs.Cases.{cases}

abbrev all_hold : List Case → Bool
all_hold [] = true
all_hold (c ∷ cs) = c.holds && all_hold cs

pub cases_hold : all_hold cases ≡ true
unfolding cases definition.cases of_bits to_bits of_int round div sub mul lt le root_of wrap_add wrap_mul mixed unit_of splitmix_unit t1 first_alpha next_bound map_from pick fill_range chunks first_row lent_sizes or_else first_from test_dims test_rows test_limits test_lengths test_starts test_columns test_values test_rounds test_degree test_seed_std test_lent test_params test_graph test_request cleared fill_where begun_at opened_state none_from asked_sound counts_sound order_sound bound_sound alpha_sound progress_sound state_sound is_open lists_enough lent_enough starts_sound columns_sound rows_sound chunk_sound lists_sound sound_for_chunk test_chunk work open_call chunk_call
cases_hold = refl
