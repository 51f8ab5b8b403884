-- Messages of a group stay messages of it while batches come.
use Rattle.std.proofs.Common.{◌≡◌, ◌∙◌, ◌+◌, ◌-◌, ◌≤◌, ◌^◌, ℕ, zero, suc, Bool, true, false, List, [], ◌∷◌, ◌++◌, length, map, replicate, take}
use Rattle.std.proofs.Common.{None, Some, refl, sym, ap, subst, arith, length-append}
use Rattle.std.specs.Prelude.{if◌then◌else◌}
use Rattle.std.specs.List.{list_any}
use Rattle.std.specs.Option.{option_map, unwrap_or}
use Rattle.std.proofs.Math.Seq.{take-append_seam, take-length}
use Rattle.std.proofs.lemmas.List.{length-map, map-append, take-append-le}
use Rattle.group_terms.specs.Names.{Name}
use Rattle.group_terms.specs.declared.changes.Change.{Change}
use Rattle.group_terms.specs.declared.keys.KeyName.TheVariants.{Node, Traffic}
use Rattle.group_terms.specs.declared.phases.Phase1.{Phase1}
use Rattle.group_terms.specs.declared.signatures.SignKind.{SignKind}
use Rattle.group_values.specs.Values.{Made, batches_made}
use Rattle.group_keys.specs.Replies.{IsKeyedOf}
use Rattle.group_model.specs.Fresh.{last_change, upwards}
use Rattle.group_model.specs.Growth.{IsReplyOf}
use Rattle.group_model.specs.Laws.{Laws}
use Rattle.group_model.specs.Places.{holders_at, holders_of, is_held_by, is_member, place_in}
use Rattle.group_model.specs.Replies.{reply_at}
use Rattle.group_model.specs.Stayed.{sequence_at, somebody_stayed}
use Rattle.group_model.specs.declared.entries.SymReply.{SymReply}
use Rattle.pull_msgs.specs.Sent.{IsSomeSecond}
use Rattle.pull_msgs.specs.Texts.{IsPullText, second_message}
use Rattle.pull_sessions.specs.declared.answers.Kept.{Kept}
use Rattle.pull_sessions.specs.declared.answers.Kept.TheVariants as kept
use Rattle.pull_sessions.specs.declared.sas.Session.{Session}
use Rattle.server_steps.specs.Messages.{IsFourthTo, IsKeptTo, IsSecondTo}
use Rattle.server_steps.specs.Pulls.{present_policy}

-- ---- batches

pub length_made : (list : List Made) → length (batches_made list) ≡ length list
length_made list = length-map list (λ (made : Made). made.changes)

pub batches_more : (list later : List Made) → batches_made (list ++ later) ≡ batches_made list ++ batches_made later
batches_more list later = map-append (λ (made : Made). made.changes) list later

-- before the first batch nobody is a member
no_member : (n : ℕ) (m : Name) → list_any (is_held_by m) (replicate n None) ≡ false
no_member zero m = refl
no_member (suc n) m = no_member n m

pub has_begun : (depth : ℕ) (list : List Made) (m : Name) → is_member (holders_of depth (batches_made list)) m ≡ true → 1 ≤ length list
has_begun depth [] m member = absurd (clash (no_member (2 ^ depth) m) member)
  where
    clash : {b : Bool} → b ≡ false → b ≡ true → ⊥
    clash one two = cc
has_begun depth (made ∷ list) m member = omega arith

-- who is a member now is one of the last epoch
pub member_now : (depth : ℕ) (list : List Made) (m : Name) → is_member (holders_of depth (batches_made list)) m ≡ true
    → is_member (holders_at depth (batches_made list) (length list)) m ≡ true
member_now depth list m is =
    subst (λ batches. is_member (holders_of depth batches) m ≡ true)
    (sym (subst (λ n. take n (batches_made list) ≡ batches_made list) (length_made list) (take-length (batches_made list)))) is

-- ---- the epochs up to now, in a longer list

module _ (laws : Laws) (depth : ℕ) (batches later : List (List Change)) where
  same_holders : (epoch : ℕ) → epoch ≤ length batches → holders_at depth (batches ++ later) epoch ≡ holders_at depth batches epoch
  same_holders epoch early = ap (holders_of depth) (take-append-le epoch batches later early)

  same_change : (epoch v : ℕ) → epoch ≤ length batches → last_change depth (batches ++ later) epoch v ≡ last_change depth batches epoch v
  same_change epoch v early =
      sym (subst (λ front. last_change depth front epoch v ≡ last_change depth (batches ++ later) epoch v) (take-append_seam batches later)
      (laws.last_changes_stay depth (length batches) epoch v (batches ++ later) early))

  same_sequence : (epoch : ℕ) → epoch ≤ length batches → sequence_at depth (batches ++ later) epoch ≡ sequence_at depth batches epoch
  unfolding sequence_at
  same_sequence zero early = refl
  same_sequence (suc epoch) early =
      let before = same_sequence epoch (omega (arith, early)) in
      let was = same_holders (suc epoch - 1) (omega (arith, early)) in
      let is = same_holders (suc epoch) early in
      λ i. before i + (if somebody_stayed (was i) (is i) then 2 else 0)

  same_reply : (epoch : ℕ) (m : Name) → epoch ≤ length batches → reply_at depth (batches ++ later) epoch m ≡ reply_at depth batches epoch m
  same_reply epoch m early =
      let number = same_sequence epoch early in
      let holders = same_holders epoch early in
      λ i. record {
        member = m;
        keyed_epoch = epoch;
        sequence = number i;
        names =
            unwrap_or (option_map (λ leaf. map (λ v. Node v (unwrap_or (same_change epoch v early i) 0)) (upwards depth leaf))
            (place_in depth (holders i) m)) []
            ++ Traffic epoch ∷ [];
      }

-- ---- messages

module _ (laws : Laws) (kind : SignKind) (first depth : ℕ) (spi : List ℕ) (list later : List Made) (phase : Phase1) where
  pub second_more : (octets : List ℕ) → IsSecondTo kind first depth spi list phase octets → IsSecondTo kind first depth spi (list ++ later) phase octets
  second_more octets is =
      let within = is.within in
      record {
        epoch = is.epoch;
        within = omega (arith, within, length-append list later);
        nr = is.nr;
        is_text = subst (λ front. IsSomeSecond phase is.nr (present_policy spi kind front) octets) (sym (take-append-le is.epoch list later within)) is.is_text;
      }

  pub fourth_more : (octets : List ℕ) (says : SymReply) → IsFourthTo kind first depth spi list phase octets says
      → IsFourthTo kind first depth spi (list ++ later) phase octets says
  fourth_more octets says is =
      let within = is.within in
      let early : says.keyed_epoch ≤ length (batches_made list) = subst (λ n. says.keyed_epoch ≤ n) (sym (length_made list)) within in
      let more = batches_more list later in
      record {
        to = is.to;
        begun = is.begun;
        late = is.late;
        within = omega (arith, within, length-append list later);
        member =
            ap (λ batches. is_member (holders_at depth batches says.keyed_epoch) says.member) more
            ∙ ap (λ holders. is_member holders says.member) (same_holders laws depth (batches_made list) (batches_made later) says.keyed_epoch early)
            ∙ is.member;
        names =
            is.names ∙ sym (ap (λ batches. reply_at depth batches says.keyed_epoch says.member) more
            ∙ same_reply laws depth (batches_made list) (batches_made later) says.keyed_epoch says.member early);
        keyed = is.keyed;
        keys = subst (λ front. IsKeyedOf depth spi front says.member is.keyed) (sym (take-append-le says.keyed_epoch list later within)) is.keys;
        message = is.message;
        iv = is.iv;
        ni = is.ni;
        nr = is.nr;
        message_size = is.message_size;
        iv_size = is.iv_size;
        is_text = is.is_text;
      }

  pub kept_more : (session : Session) (given : Kept) → IsKeptTo kind first depth spi list phase session given
      → IsKeptTo kind first depth spi (list ++ later) phase session given
  unfolding second_more fourth_more
  kept_more session (kept.Datagram octets None) is = record {
    message = second_more octets is.message;
    iv = is.iv;
    own = subst (λ front. IsPullText phase is.iv (second_message session.message session.ni session.nr (present_policy spi kind front)) octets)
        (sym (take-append-le is.message.epoch list later is.message.within)) is.own;
    left = is.left;
  }
  kept_more session (kept.Datagram octets (Some says)) is = record { message = fourth_more octets says is.message; own = is.own }
  kept_more session kept.Queued is = tt

-- a fourth message tells a member its keys
pub reply_of : (kind : SignKind) (first depth : ℕ) (spi : List ℕ) (list : List Made) (phase : Phase1) (octets : List ℕ) (says : SymReply) → 1 ≤ depth
    → IsFourthTo kind first depth spi list phase octets says → IsReplyOf depth first (batches_made list) says
reply_of kind first depth spi list phase octets says some is = record {
  some = some;
  begun = is.begun;
  late = is.late;
  within = subst (λ n. says.keyed_epoch ≤ n) (sym (length_made list)) is.within;
  member = is.member;
  names = ap (λ (says : SymReply). says.names) is.names;
}
