use Rattle.std.proofs.Common.{subst, sym}
use Rattle.kd_wire.specs.Texts.{IsPath}
use Rattle.member_store.proofs.PathLemmas.{stays_path}
use Rattle.member_store.proofs.takings.new_path.Goals as goal

pub returns-clause-path : goal.returns-clause-path
returns-clause-path c = λ is. subst IsPath (sym c.with_keys.ensures) (stays_path c.as_slice-2.result.now c.args.path.now is)
