use Rattle.std.specs.Prelude.{◌-◌}
use mathlib.Core.Path.{ap, ◌∙◌}
use Rattle.append.proofs.Answering.{accepts_revision, accepts_lengths, accepts_many, admitted}
use Rattle.accept.proofs.admit.Goals as goal

pub returns-then-count-r : goal.returns-then-count-r
returns-then-count-r c = search accepts_revision

pub returns-then-base-s : goal.returns-then-base-s
returns-then-base-s c = search accepts_lengths

pub returns-then-s-ge-MAX_REVISIONS : goal.returns-then-s-ge-MAX_REVISIONS
returns-then-s-ge-MAX_REVISIONS c = search accepts_many

pub append_unmoved-requires : goal.append_unmoved-requires
append_unmoved-requires c = (search admitted, c.if-r-count.true ∙ c.requires.1.count)

pub choose_buffers-requires : goal.choose_buffers-requires
choose_buffers-requires c = (search admitted, ap (λ k. k - c.args.r) c.requires.1.count)
