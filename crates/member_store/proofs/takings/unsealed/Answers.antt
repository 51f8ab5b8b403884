use Rattle.std.proofs.Common.{refl, subst, sym}
use Rattle.gd_cipher.specs.Chains.{IsOpened}
use Rattle.member_store.proofs.takings.unsealed.Goals as goal

pub returns : goal.returns
returns c = record {
  id = refl;
  made = refl;
  iv = c.value_of-value.ensures.iv;
  opened = subst (IsOpened c.args.by.now.value.key c.args.by.now.value.iv c.args.given.now.gives.sealed)
      (sym c.value_of-value.ensures.octets) c.opened.ensures;
}
