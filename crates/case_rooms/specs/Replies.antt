-- Key downloads of which a reply is made.
use Rattle.std.specs.Prelude.{IsSome}
use Rattle.kd_wire.specs.Texts.{IsPath}
use Rattle.kd_wire.specs.declared.bodies.KdView.{KdView}

-- a key download that gives a traffic key and the SPI of rekey datagrams gives the keys of a path (RFC 6407 section 5.6)
abbrev pub LeadsToRoot : KdView → Type 0
LeadsToRoot view = IsSome view.tek → IsSome view.lkh_spi → IsPath view.download
