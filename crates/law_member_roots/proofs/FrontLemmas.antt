-- What the first batches of a list made and encrypted, in the whole list.
use Rattle.std.proofs.Common.{◌≡◌, ◌∙◌, ap, arith, refl, subst, sym, ℕ, ◌+◌, ◌-◌, ◌*◌, ◌^◌, ◌≤◌, List, [], ◌∷◌, drop, length, map, take, Option, None, Some}
use Rattle.std.specs.List.{filter, flat_map, take-map}
use Rattle.std.specs.Option.{option_map, unwrap_or}
use Rattle.std.proofs.lemmas.List.{length-take-le, take-append-drop}
use Rattle.std.proofs.lemmas.Option.{none-some}
use Rattle.group_terms.specs.Positions.{some_leaf_below}
use Rattle.group_terms.specs.declared.changes.Change.{Change}
use Rattle.group_terms.specs.declared.keys.KeyName.TheVariants.{Node}
use Rattle.group_terms.specs.declared.keys.Wrap.{Wrap}
use Rattle.group_terms.specs.declared.paths.PathKey.{PathKey}
use Rattle.group_terms.specs.declared.values.TrafficValue.{TrafficValue}
use Rattle.group_values.specs.Values.{HasValue, Made, batches_made, made_at, traffic_value}
use Rattle.group_model.specs.Fresh.{is_fresh}
use Rattle.group_model.specs.Laws.{HoldersStay, LastChangesStay}
use Rattle.group_model.specs.Places.{Holders}
use Rattle.group_model.specs.Stayed.{kept_leaves}
use Rattle.group_model.specs.Wraps.{falling, node_wraps}
use Rattle.group_pushes.specs.Pairs.{AreJobsOf}
use Rattle.kd_wire.specs.declared.sealing.WrapJob.{WrapJob}
use Rattle.law_member_roots.proofs.RootLemmas.{made_at-more, value-more}

-- ---- values

module _ (n : ℕ) (list : List Made) where
  pub front_key : (key : PathKey) → HasValue (take n list) key → HasValue list key
  front_key key has = subst (λ list. HasValue list key) (take-append-drop n list) (value-more (take n list) (drop n list) key has)

  front_made : (epoch : ℕ) (made : Made) → made_at (take n list) epoch ≡ Some made → made_at list epoch ≡ Some made
  front_made epoch made is =
      subst (λ list. made_at list epoch ≡ Some made) (take-append-drop n list) (made_at-more (take n list) (drop n list) epoch made is)

  traffic_by : (epoch : ℕ) (traffic : TrafficValue) (found : Option Made) → made_at (take n list) epoch ≡ found
      → option_map (λ (made : Made). made.values.traffic) found ≡ Some traffic → traffic_value list epoch ≡ Some traffic
  traffic_by epoch traffic None at is = absurd (none-some traffic is)
  traffic_by epoch traffic (Some made) at is = ap (option_map (λ (made : Made). made.values.traffic)) (front_made epoch made at) ∙ is

  pub front_traffic : (epoch : ℕ) (traffic : TrafficValue) → traffic_value (take n list) epoch ≡ Some traffic → traffic_value list epoch ≡ Some traffic
  front_traffic epoch traffic is = traffic_by epoch traffic (made_at (take n list) epoch) refl is

  pub front_jobs : (wraps : List Wrap) (jobs : List WrapJob) → AreJobsOf (take n list) wraps jobs → AreJobsOf list wraps jobs
  front_jobs [] [] are = are
  front_jobs [] (job ∷ jobs) are = are
  front_jobs (wrap ∷ wraps) [] are = are
  front_jobs (wrap ∷ wraps) (job ∷ jobs) are = (
    record {
      by = are.0.by;
      by_value = front_key job.by are.0.by_value;
      by_iv = are.0.by_iv;
      gives = are.0.gives;
      gives_value = front_key job.gives are.0.gives_value;
    },
    front_jobs wraps jobs are.1,
  )

-- ---- encryptions

-- those of an epoch depend on its holders, on those before it, and on the last changes alone
abbrev wraps_by : ℕ → ℕ → Holders → Holders → (ℕ → Option ℕ) → List Wrap
wraps_by depth epoch before after last =
    flat_map (λ v. map (λ child. record { by = Node child (unwrap_or (last child) 0); gives = Node v epoch })
    (filter (some_leaf_below depth (kept_leaves before after)) (2 * v ∷ (2 * v + 1) ∷ []))) (filter (is_fresh depth before after) (falling (2 ^ depth - 1)))

module _ (holders_stay : HoldersStay) (changes_stay : LastChangesStay) (depth : ℕ) where
  node_wraps-take : (n epoch : ℕ) (batches : List (List Change)) → epoch ≤ n → node_wraps depth (take n batches) epoch ≡ node_wraps depth batches epoch
  node_wraps-take n epoch batches early =
      let before = holders_stay depth n (epoch - 1) batches (omega arith) in
      let after = holders_stay depth n epoch batches early in
      λ i. wraps_by depth epoch (before i) (after i) (λ v. changes_stay depth n epoch v batches early i)

  pub front_wraps : (epoch : ℕ) (list : List Made) → epoch ≤ length list
      → node_wraps depth (batches_made (take epoch list)) (length (take epoch list)) ≡ node_wraps depth (batches_made list) epoch
  front_wraps epoch list early =
      ap (node_wraps depth (batches_made (take epoch list))) (length-take-le epoch list early)
      ∙ ap (λ batches. node_wraps depth batches epoch) (sym (take-map (λ (made : Made). made.changes) epoch list))
      ∙ node_wraps-take epoch epoch (batches_made list) (omega arith)
