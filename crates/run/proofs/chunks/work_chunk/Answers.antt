use Rattle.run.proofs.chunks.work_chunk.Goals as goal

pub set_mark-requires : goal.set_mark-requires
set_mark-requires c = c.requires.h_in_bounds

pub chunk_work-requires : goal.chunk_work-requires
chunk_work-requires c = c.requires.ready

pub returns : goal.returns
returns c = record { memory_after = c.chunk_work.ensures.done; same_places = c.chunk_work.ensures.same_places; marks_after = c.set_mark.ensures }
