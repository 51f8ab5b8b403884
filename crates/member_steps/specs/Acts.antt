-- What members do of themselves: they send what they ask the server, and ignore a datagram that they do not wait for. And in which order datagrams come to
-- them, and whether they come.
use Rattle.std.specs.Prelude.{◌≡◌, ◌⊎◌, ℕ, zero, suc, Bool, true, false, MatchBool, List, ◌∷◌, ◌++◌, Some}
use Rattle.group_terms.specs.Names.{Name}
use Rattle.group_values.specs.Drawing.{place_after}
use Rattle.group_model.specs.declared.entries.Asked.{Asked}
use Rattle.group_model.specs.declared.entries.Asked.TheVariants.{Introduce, Serve}
use Rattle.group_peers.specs.Peers.{is_peer, peer_of, phase_of, put, sent_by, was_introduced, with_loss, with_peer}
use Rattle.group_peers.specs.Pulls as pulls
use Rattle.group_peers.specs.Pulls.{Begins, PassesOver}
use Rattle.group_peers.specs.declared.members.Peer.{Peer}
use Rattle.member_steps.specs.Drawn.{message_drawn, nonce_drawn, phase_drawn}
use Rattle.member_steps.specs.Members.{Mail, Members, with_all, with_mail_left}
use Rattle.pull_msgs.specs.Fits.{MessageFits, NonceFits, PhaseFits}

-- ---- what they do with a datagram that is on its way

-- it is the first one, and comes to a member: it does not go missing
pub record Comes (m : Name) (datagram : List ℕ) (later : List Mail) (peer : Peer) (members : Members) : Type 0 where
  pub is_first : members.mail ≡ (m, datagram) ∷ later
  pub is_there : peer_of members.all m ≡ Some peer
  pub comes : peer.loses ≡ false

-- the member ignores it
pub record IsIgnoring (old new : Members) : Type 0 where
  pub m : Name
  pub datagram : List ℕ
  pub later : List Mail
  pub peer : Peer
  pub gets : Comes m datagram later peer old
  pub ignored : PassesOver peer.pull datagram
  pub now : new ≡ with_mail_left old later

-- so do members with so many, one after the other
abbrev pub Ignore : ℕ → Members → Members → Type 0
Ignore zero old new = new ≡ old
Ignore (suc n) old new = (mid : Members) × IsIgnoring old mid × Ignore n mid new

-- with some
abbrev pub Ignores : Members → Members → Type 0
Ignores old new = (n : ℕ) × Ignore n old new

-- Its pull takes it as the second message: the member agrees, and sends the third one (RFC 6407 section 3.2).
pub record Agrees (m : Name) (third : List ℕ) (old new : Members) : Type 0 where
  pub second : List ℕ
  pub later : List Mail
  pub peer : Peer
  pub gets : Comes m second later peer old
  pub after : Peer
  pub agrees : pulls.Agrees second third peer after
  pub now : new ≡ with_mail_left (with_all old (put old.all after)) later

-- ---- in which order datagrams come

-- In any: one that is on its way overtakes all before it, and is the first then.
pub record Overtakes (old new : Members) : Type 0 where
  pub passed : List Mail
  pub mail : Mail
  pub later : List Mail
  pub were : old.mail ≡ passed ++ mail ∷ later
  pub now : new ≡ with_mail_left old (mail ∷ (passed ++ later))

-- ---- whether they come

-- Whether the next datagram to a member goes missing may change at any time, as over UDP.
pub record ChangesLoss (old new : Members) : Type 0 where
  pub m : Name
  pub loses : Bool
  pub now : new ≡ with_all old (with_loss old.all m loses)

-- ---- what they begin, where draws have these blocks

module _ (block : ℕ → List ℕ) where
  -- somebody is used for the first time: its SA is drawn
  pub record IsFirstUse (m : Name) (old new : Members) : Type 0 where
    pub unused : is_peer old.all m ≡ false
    pub fits : PhaseFits (phase_drawn block old.place m)
    pub now : new ≡ record old { all = with_peer old.all (phase_drawn block old.place m); place = place_after 5 old.place }

  -- for the first time, or again
  abbrev pub IsUse : Name → Members → Members → Type 0
  IsUse m old new = MatchBool (is_peer old.all m) (new ≡ old) (IsFirstUse m old new)

-- and where they ask for the group of this name
module _ (block : ℕ → List ℕ) (group : Name) where
  -- who was introduced begins a pull, and sends its first message
  pub record BeginsPull (m : Name) (old new : Members) : Type 0 where
    pub introduced : was_introduced old.all m ≡ true
    pub message_fits : MessageFits (message_drawn block old.place)
    pub nonce_fits : NonceFits (nonce_drawn block old.place)
    pub all : List Peer
    pub begins : Begins old.all m (message_drawn block old.place) (nonce_drawn block old.place) group all
    pub now : new ≡ record old { all = all; place = place_after 2 old.place }

  -- one of these
  abbrev pub IsAct : Members → Members → Type 0
  IsAct old new =
      IsIgnoring old new
      ⊎ (((m : Name) × (third : List ℕ) × Agrees m third old new)
      ⊎ (((m : Name) × IsFirstUse block m old new) ⊎ (((m : Name) × BeginsPull m old new) ⊎ (Overtakes old new ⊎ ChangesLoss old new))))

  -- so many, one after the other
  abbrev pub AreActs : ℕ → Members → Members → Type 0
  AreActs zero old new = new ≡ old
  AreActs (suc n) old new = (mid : Members) × IsAct old mid × AreActs n mid new

  -- members act, as often as they like, and datagrams come in any order, or get lost
  abbrev pub Acts : Members → Members → Type 0
  Acts old new = (n : ℕ) × AreActs n old new

-- What they ask the server: who is introduced has that SA, and the datagram is what the member sent last.
abbrev pub IsReady : Asked → Members → Type 0
IsReady (Introduce phase) members = phase_of members.all phase.member ≡ Some phase
IsReady (Serve m datagram) members = sent_by members.all m ≡ Some datagram
IsReady asked members = Unit {0}
