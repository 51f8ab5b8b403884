-- What a history notes of the outside beside each answer.
use Rattle.std.specs.Prelude.{◌≡◌, ℕ, true, false, None, Some}
use Rattle.group_model.specs.declared.entries.Answer.{Answer}
use Rattle.group_model.specs.declared.entries.Outside.{Outside}
use Rattle.group_model.specs.declared.entries.Refusal.{Refusal}
use Rattle.group_model.specs.declared.entries.Refusal.TheVariants.{DiskFault}
use Rattle.server_steps.specs.Hosts.{Host}

module _ {D : Type 0} (host : Host D) where
  -- nothing failed, and nothing was opened; the place of the draws is that before the request
  abbrev pub quiet : Outside
  quiet = record { disk_failed = false; found = None; place = host.server.place }

  -- an opening found this epoch
  abbrev pub finding : ℕ → Outside
  finding epoch = record { disk_failed = false; found = Some epoch; place = host.server.place }

  -- a call on the disk failed
  abbrev pub failing : Outside
  failing = record { disk_failed = true; found = None; place = host.server.place }

  -- what is noted beside a refusal
  abbrev pub beside_refusal : Refusal → Outside
  beside_refusal DiskFault = failing
  beside_refusal why = quiet

-- the answer is this, nothing failed, and the host is this one then
pub record Becomes {D : Type 0} (due : Answer) (changed host : Host D) (answer : Answer) (outside : Outside) (next : Host D) : Type 0 where
  pub answers : answer ≡ due
  pub beside : outside ≡ quiet host
  pub now : next ≡ changed

-- the answer is this, and nothing changes
pub record Says {D : Type 0} (due : Answer) (host : Host D) (answer : Answer) (outside : Outside) (next : Host D) : Type 0 where
  pub answers : answer ≡ due
  pub beside : outside ≡ quiet host
  pub stays : next ≡ host
