-- What members make of the datagrams that turns left on their way, one after the other.
use Rattle.std.proofs.Common.{◌≡◌, ◌∙◌, ℕ, Bool, true, false, List, [], ◌∷◌, Option, None, Some, Result, Ok, Err, IfOk, OnErr, slice_get, refl, sym, ap, subst}
use Rattle.std.specs.Option.{option_and_then, option_map}
use Rattle.std.proofs.lemmas.Option.{none-some, same_Some}
use Rattle.group_terms.specs.Names.{Name}
use Rattle.group_terms.specs.declared.memory.NoMemory.{NoMemory}
use Rattle.group_model.specs.declared.entries.Entry.{Entry}
use Rattle.group_peers.specs.Peers.{is_peer}
use Rattle.group_run.specs.Blocks.{Left, marked, marked_first}
use Rattle.group_run.specs.Mails.{mail_in}
use Rattle.group_run.specs.Private.Afters.{AreTaking}
use Rattle.group_run.specs.Private.Lefts.{left_at, left_with}
use Rattle.group_run.specs.declared.lefts.LeftAt.{LeftAt}
use Rattle.group_run.specs.declared.reading.Read.{Read}
use Rattle.group_run.specs.declared.reading.Read.TheVariants.{Ended, Nothing, Sends}
use Rattle.group_run.proofs.MemberLemmas.{AreSame, as_before, changed_same, has_agreed, has_kept, same_then}
use Rattle.member_steps.specs.Members.{Mail, Members}
use Rattle.member_steps.specs.Views.{View as MemberView, members_with}

-- ---- who they are stays

-- as many peers, of the same names, with the same place
pub record AreAlike (old new : Members) : Type 0 where
  pub same : AreSame old.all new.all
  pub place : new.place ≡ old.place

alike_then : {old mid new : Members} → AreAlike old mid → AreAlike mid new → AreAlike old new
alike_then first second = record { same = same_then first.same second.same; place = second.place ∙ first.place }

marked_alike : (own : Bool) (mail : List Mail) (members : Members) → AreAlike members (marked_first (own ∷ []) mail members)
marked_alike true (mail ∷ later) members = record { same = changed_same _ (λ peer. refl) members.all mail.0; place = refl }
marked_alike true [] members = record { same = as_before refl; place = refl }
marked_alike false mail members = record { same = as_before refl; place = refl }

taking_alike : (read : Read) (old new : Members) → AreTaking read old new → AreAlike old new
taking_alike Nothing old new ignoring = record {
  same = as_before (ap (λ (members : Members). members.all) ignoring.now);
  place = ap (λ (members : Members). members.place) ignoring.now;
}
taking_alike (Sends m) old new agrees = record { same = (has_agreed agrees.1).same; place = (has_agreed agrees.1).place }
taking_alike (Ended m answer) old new keeping = record { same = (has_kept keeping).same; place = (has_kept keeping).place }

-- once the first datagram was marked, and something came of it
pub took_alike : (own : Bool) (read : Read) (old new : Members) → AreTaking read (marked (own ∷ []) old) new → AreAlike old new
took_alike own read old new taking = alike_then (marked_alike own old.mail old) (taking_alike read (marked (own ∷ []) old) new taking)

-- ---- what is at a place

pub lost_there : (entries : List Entry) (place : LeftAt) (left : Left) → left_at entries place ≡ Some left → left.own ≡ place.lost
lost_there entries place left = by_entry (slice_get entries place.place)
  where
    by_mail : (found : Option Mail) → option_map (left_with place.lost) found ≡ Some left → left.own ≡ place.lost
    by_mail None is = absurd (none-some left is)
    by_mail (Some mail) is = ap (λ (left : Left). left.own) (sym (same_Some (left_with place.lost mail) left is))

    by_entry : (found : Option Entry)
        → option_and_then (λ (entry : Entry). option_map (left_with place.lost) (slice_get (mail_in entry) place.at)) found ≡ Some left → left.own ≡ place.lost
    by_entry None is = absurd (none-some left is)
    by_entry (Some entry) is = by_mail (slice_get (mail_in entry) place.at) is

-- the datagram that was found there
pub mail_there : (entries : List Entry) (place : LeftAt) (left : Left) (mail : Mail) → left_at entries place ≡ Some left
    → Some mail ≡ option_map (λ (left : Left). left.mail) (left_at entries place) → mail ≡ left.mail
mail_there entries place left mail there found =
    same_Some mail left.mail (found ∙ ap (option_map (λ (left : Left). left.mail)) there)

-- ---- the first datagram on its way was marked, and this came of it

module _ (old mid : MemberView) (m : Name) (given : List ℕ) (goes : Bool)
    (marks : (datagram : List ℕ) (later : List Mail) → members_with mid ((m, datagram) ∷ later) ≡ marked (goes ∷ []) (members_with old ((m, datagram) ∷ later)))
  where
    pub marked_names : (name : Name) → is_peer mid.all name ≡ is_peer old.all name
    marked_names name =
        let before = members_with old ((m, given) ∷ []) in
        ap (λ (members : Members). is_peer members.all name) (marks given []) ∙ (marked_alike goes before.mail before).same.names name

    module _ (result : Result Read NoMemory) (new : MemberView)
        (takes : IfOk result (λ read. (later : List Mail) → AreTaking read (members_with mid ((m, given) ∷ later)) (members_with new later))) where
      pub taken_names : OnErr result (new ≡ mid) → (name : Name) → is_peer new.all name ≡ is_peer mid.all name
      taken_names err name = by_result result takes err
        where
          by_result : (result : Result Read NoMemory)
              → IfOk result (λ read. (later : List Mail) → AreTaking read (members_with mid ((m, given) ∷ later)) (members_with new later))
              → OnErr result (new ≡ mid) → is_peer new.all name ≡ is_peer mid.all name
          by_result (Ok read) takes err = (taking_alike read (members_with mid ((m, given) ∷ [])) (members_with new []) (takes [])).same.names name
          by_result (Err short) takes err = ap (λ (view : MemberView). is_peer view.all name) err

      pub taken_at : (entries : List Entry) (place : LeftAt) (datagram : List ℕ) → goes ≡ place.lost → given ≡ datagram
          → Some (m, datagram) ≡ option_map (λ (left : Left). left.mail) (left_at entries place)
          → IfOk result (λ read. (is : Left) (later : List Mail) → left_at entries place ≡ Some is
          → AreTaking read (marked (is.own ∷ []) (members_with old (is.mail ∷ later))) (members_with new later))
      taken_at entries place datagram goes_so same found = by_result result takes
        where
          by_result : (result : Result Read NoMemory)
              → IfOk result (λ read. (later : List Mail) → AreTaking read (members_with mid ((m, given) ∷ later)) (members_with new later))
              → IfOk result (λ read. (is : Left) (later : List Mail) → left_at entries place ≡ Some is
              → AreTaking read (marked (is.own ∷ []) (members_with old (is.mail ∷ later))) (members_with new later))
          by_result (Ok read) takes = λ is later there.
              let own_is : goes ≡ is.own = goes_so ∙ sym (lost_there entries place is there) in
              let mail_is : (m, given) ≡ is.mail = ap (λ (octets : List ℕ). (m, octets)) same ∙ mail_there entries place is (m, datagram) there found in
              let is_now : members_with mid ((m, given) ∷ later) ≡ marked (is.own ∷ []) (members_with old (is.mail ∷ later)) =
              marks given later ∙ (λ i. marked (own_is i ∷ []) (members_with old (mail_is i ∷ later))) in
              subst (λ (now : Members). AreTaking read now (members_with new later)) is_now (takes later)
          by_result (Err short) takes = tt
