-- What a key download payload without fault gives, in each of its three forms.
use Rattle.std.specs.Prelude.{◌≡◌, [], None, IsSome}
use Rattle.kd_wire.specs.declared.bodies.KdView.{KdView}
use Rattle.kd_wire.specs.Texts.{IsPath}

-- a traffic key alone
pub record GivesTraffic (view : KdView) : Type 0 where
  pub tek : IsSome view.tek
  pub lkh_spi : view.lkh_spi ≡ None
  pub download : view.download ≡ []
  pub updates : view.updates ≡ None

-- update arrays alone
pub record GivesUpdates (view : KdView) : Type 0 where
  pub tek : view.tek ≡ None
  pub lkh_spi : IsSome view.lkh_spi
  pub download : view.download ≡ []
  pub updates : IsSome view.updates

-- a traffic key and a path that leads up to the root
pub record GivesPath (view : KdView) : Type 0 where
  pub tek : IsSome view.tek
  pub lkh_spi : IsSome view.lkh_spi
  pub download : IsPath view.download
  pub updates : view.updates ≡ None
