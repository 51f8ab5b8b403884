-- What a store answers to an opened push, and is after it.
use Rattle.std.proofs.Common.{◌≡◌, ◌∙◌, ap, refl, subst, sym, ℕ, Bool, true, false, List, Option, None, Some}
use Rattle.std.specs.Prelude.{Result, Ok, Err, MatchBool}
use Rattle.std.proofs.lemmas.Option.{none-some, same_Some}
use Rattle.std.proofs.lemmas.Bool.{false≢true}
use Rattle.std.specs.Result.{is_ok}
use Rattle.gd_edges.specs.declared.verifiers.Verifier.{Ghosts as VerifierGhosts}
use Rattle.group_terms.specs.declared.paths.PathKey.{PathKey}
use Rattle.group_terms.specs.declared.pushes.PushRefusal.{PushRefusal}
use Rattle.group_terms.specs.declared.pushes.PushRefusal.TheVariants.{NoPath}
use Rattle.group_terms.specs.declared.values.TrafficValue.{TrafficValue}
use Rattle.kd_wire.specs.Spans.{span_arrays}
use Rattle.kd_wire.specs.declared.spans.UpdateSpan.{UpdateSpan}
use Rattle.kd_wire.specs.declared.updates.SealedKey.{SealedKey}
use Rattle.push_msg.specs.declared.bodies.OpenPush.{OpenPush}
use Rattle.push_msg.specs.declared.bodies.OpenBody.TheVariants.{Membership, Traffic}
use Rattle.push_msg.specs.Pushes.{given_by}
use Rattle.push_msg.specs.Readings.{PushRead}
use Rattle.member_store.specs.declared.answers.Taken.{Taken}
use Rattle.member_store.specs.declared.answers.Taken.TheVariants as takes
use Rattle.member_store.specs.Private.Openings.{HasOpening, answer_of}
use Rattle.member_store.specs.Private.Paths.{IsNewPath}
use Rattle.member_store.specs.Steps.{TakesRoot, IsAcceptance, IsOpening, IsRefused, TakesBody, TakesTree, room_after}
use Rattle.member_store.specs.Stores.{Store, leaf_of, root_epoch, with_keys}
use Rattle.member_store.specs.Takings.{Takes, keys_given}

-- what an answer has
abbrev value_or : {A E : Type 0} → A → Result A E → A
value_or other (Ok value) = value
value_or other (Err why) = other

abbrev refusal_or : {A E : Type 0} → E → Result A E → E
refusal_or other (Ok value) = other
refusal_or other (Err why) = why

-- of an equal store, and of an equal epoch
module _ {V : Type 0} {v : VerifierGhosts V} {verifier : V} {datagram : List ℕ} {next : Store} where
  pub of_store : {store now : Store} {result : Result Taken PushRefusal} → store ≡ now
      → IsAcceptance v verifier store datagram result next → IsAcceptance v verifier now datagram result next
  of_store {result = result} same step = subst (λ store. IsAcceptance v verifier store datagram result next) same step

  pub of_epoch : {store : Store} {epoch now : ℕ} → now ≡ epoch
      → IsAcceptance v verifier store datagram (Ok (takes.Root epoch)) next → IsAcceptance v verifier store datagram (Ok (takes.Root now)) next
  of_epoch {store = store} same step = subst (λ epoch. IsAcceptance v verifier store datagram (Ok (takes.Root epoch)) next) (sym same) step

module _ {V : Type 0} (v : VerifierGhosts V) (verifier : V) (store : Store) (datagram : List ℕ) where
  refused_by : (why : PushRefusal) (opening : Result PushRead PushRefusal) → IsOpening v verifier store datagram opening
      → answer_of opening ≡ Err why → IsAcceptance v verifier store datagram (Err why) store
  refused_by why (Ok read) is answers = absurd (false≢true (sym (ap is_ok answers)))
  refused_by why (Err other) is answers = record {
    opening = Err other;
    is_opening = is;
    after = record { is = ap (λ other. Err (refusal_or why other)) (sym answers); stays = refl };
  }

  pub refused : (result : Result OpenPush PushRefusal) (room : List ℕ) (why : PushRefusal) → HasOpening v verifier store datagram result room
      → result ≡ Err why → IsAcceptance v verifier store datagram (Err why) store
  refused result room why has is = refused_by why has.opening has.is_opening (sym has.answers ∙ is)

  -- a push is read, and it is what was opened
  pub record HasRead (open_push : OpenPush) (room : List ℕ) : Type 0 where
    pub read : PushRead
    pub is_opening : IsOpening v verifier store datagram (Ok read)
    pub is : open_push ≡ given_by read
    pub left : room ≡ read.keys

  read_by : (open_push : OpenPush) (room : List ℕ) (opening : Result PushRead PushRefusal) → IsOpening v verifier store datagram opening
      → Ok open_push ≡ answer_of opening → room ≡ room_after opening → HasRead open_push room
  read_by open_push room (Ok read) is answers left = record { read = read; is_opening = is; is = ap (value_or open_push) answers; left = left }
  read_by open_push room (Err why) is answers left = absurd (false≢true (sym (ap is_ok answers)))

  pub has_read : (result : Result OpenPush PushRefusal) (open_push : OpenPush) (room : List ℕ) → HasOpening v verifier store datagram result room
      → result ≡ Ok open_push → HasRead open_push room
  has_read result open_push room has is = read_by open_push room has.opening has.is_opening (sym is ∙ has.answers) has.left

  module _ (open_push : OpenPush) (room : List ℕ) (has : HasRead open_push room) where
    accepts : (result : Result Taken PushRefusal) (next : Store) → TakesBody open_push.body store has.read result next
        → IsAcceptance v verifier store datagram result next
    accepts result next after = record {
      opening = Ok has.read;
      is_opening = has.is_opening;
      after = subst (λ (given : OpenPush). TakesBody given.body store has.read result next) has.is after;
    }

    module _ (made : ℕ) (span : UpdateSpan) (is_tree : open_push.body ≡ Membership made span) where
      of_tree : (result : Result Taken PushRefusal) (next : Store) → TakesTree store has.read (span_arrays span has.read.keys) result next
          → IsAcceptance v verifier store datagram result next
      of_tree result next tree = accepts result next (subst (λ body. TakesBody body store has.read result next) (sym is_tree) tree)

      abbrev given_keys : List SealedKey
      given_keys = keys_given (span_arrays span room)

      takes_read : (taken : List PathKey) → Takes store.path given_keys taken → Takes store.path (keys_given (span_arrays span has.read.keys)) taken
      takes_read taken takes_all = subst (λ keys. Takes store.path (keys_given (span_arrays span keys)) taken) has.left takes_all

      abbrev pub with_path : List PathKey → Store
      with_path path = record store { path = path; sequence = open_push.sequence }

      up : (path taken : List PathKey) (has_root : Bool) → MatchBool has_root (Some path ≡ Some (with_keys store.path taken)) (Some path ≡ None)
          → MatchBool has_root (TakesRoot store has.read.number taken (Ok (takes.Root (root_epoch (with_path path)))) (with_path path))
          (IsRefused store (NoPath (leaf_of store.path)) (Ok (takes.Root (root_epoch (with_path path)))) (with_path path))
      up path taken true is = record {
        keeps = λ i. record store { path = same_Some _ _ is i; sequence = ap (λ (given : OpenPush). given.sequence) has.is i };
        is = refl;
      }
      up path taken false is = absurd (none-some path (sym is))

      pub goes_up : (path : List PathKey) → IsNewPath store.path given_keys (Some path)
          → IsAcceptance v verifier store datagram (Ok (takes.Root (root_epoch (with_path path)))) (with_path path)
      goes_up path new = of_tree _ _ (record { taken = new.taken; takes_all = takes_read new.taken new.takes; after = up path new.taken _ new.is })

      abbrev no_new : Option (List PathKey)
      no_new = None

      none : (taken : List PathKey) (has_root : Bool) → MatchBool has_root (no_new ≡ Some (with_keys store.path taken)) (no_new ≡ None)
          → MatchBool has_root (TakesRoot store has.read.number taken (Err (NoPath (leaf_of store.path))) store)
          (IsRefused store (NoPath (leaf_of store.path)) (Err (NoPath (leaf_of store.path))) store)
      none taken true is = absurd (none-some _ is)
      none taken false is = record { is = refl; stays = refl }

      pub no_path : IsNewPath store.path given_keys None → IsAcceptance v verifier store datagram (Err (NoPath (leaf_of store.path))) store
      no_path new = of_tree _ _ (record { taken = new.taken; takes_all = takes_read new.taken new.takes; after = none new.taken _ new.is })

    pub takes_traffic : (traffic : TrafficValue) (epoch : ℕ) → open_push.body ≡ Traffic traffic → epoch ≡ root_epoch store
        → IsAcceptance v verifier store datagram (Ok (takes.Traffic epoch))
        (record store { traffic = traffic; traffic_epoch = epoch; sequence = open_push.sequence })
    takes_traffic traffic epoch is_traffic is_epoch =
        accepts _ _ (subst (λ body. TakesBody body store has.read (Ok (takes.Traffic epoch))
        (record store { traffic = traffic; traffic_epoch = epoch; sequence = open_push.sequence })) (sym is_traffic)
        (record {
          keeps = λ i. record store { traffic = traffic; traffic_epoch = is_epoch i; sequence = ap (λ (given : OpenPush). given.sequence) has.is i };
          is = ap (λ now. Ok (takes.Traffic now)) is_epoch;
        }))
