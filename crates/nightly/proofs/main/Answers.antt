use Rattle.text.proofs.Held.{right-held}
use Rattle.nightly.proofs.main.Goals as goal

pub print_map-requires : goal.print_map-requires
print_map-requires c =
    let h = right-held _ c.read_run-file.ensures c.if-file.true in
    record { start_count_bound = h.counts; starts_len = (h.starts, h.columns, h.values) }
