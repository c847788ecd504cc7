use Rattle.summary.proofs.Answering.{summary_6, summary_same, found_reads, found_count, found_start, found_small}
use Rattle.summary.proofs.summary.Goals as goal

pub returns-in_default : goal.returns-in_default
returns-in_default c = (search summary_6, search summary_same)

pub summed-requires : goal.summed-requires
summed-requires c = (search found_reads, search found_count, search found_start, search found_small)
