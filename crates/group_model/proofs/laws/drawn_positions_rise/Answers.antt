use Rattle.std.proofs.Common.{◌+◌, ◌-◌, ◌^◌}
use Rattle.group_model.specs.Drawn.{is_drawn}
use Rattle.group_model.specs.Places.{holders_at}
use Rattle.group_model.proofs.RiseLemmas.{rises}
use Rattle.group_model.proofs.laws.drawn_positions_rise.Goals as goal

pub returns : goal.returns
returns c depth batches epoch = rises (is_drawn depth (holders_at depth batches (epoch - 1)) (holders_at depth batches epoch)) (2 ^ (depth + 1) - 1) 1
