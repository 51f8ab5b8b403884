use Rattle.std.proofs.Common.{append_assoc}
use Rattle.sa_wire.proofs.texts.append_mode_attributes.Goals as goal

pub returns-clause-ok : goal.returns-clause-ok
returns-clause-ok c =
    rw (c.in_ok-write_short-2.ensures.ok, c.in_ok-write_duration.ensures.ok, c.in_ok-write_short.ensures.ok)
    (simp append_assoc)
