-- Attributes of which some were found: reading goes on after one more, and a fault of the next one is the fault of all.
-- What was found before is an argument of `attributes_after`: one lemma for the next item, one for a fault, one for the end.
use Rattle.std.proofs.Common.{◌≡◌, ℕ, suc, zero, List, [], ◌∷◌, ◌++◌, Result, Ok, Err, refl, sym, ap, ◌∙◌}
use Rattle.std.specs.Result.{IsErrAnd}
use Rattle.group_terms.specs.declared.wires.WireFault.{WireFault}
use Rattle.gd_wire.specs.Readings.{Cursor, Shows}
use Rattle.gd_wire.specs.Attributes.{no_more_attributes}
use Rattle.sa_wire.specs.declared.attributes.Found.{Found}
use Rattle.sa_wire.specs.declared.rules.Rule.{Rule}
use Rattle.sa_wire.specs.Rules.{without}
use Rattle.sa_wire.specs.Attributes.{due_attribute, attributes_after}

module _ (found : List Found) (due : List Rule) (text : Cursor) where
  -- one more attribute was read
  pub goes_on : (left more : ℕ) (next : Found) (rules : List Rule) (now : Cursor) → left ≡ suc more
      → due_attribute due text ≡ Ok (next, now) → rules ≡ without next.kind due →
      attributes_after found left due text ≡ attributes_after (found ++ next ∷ []) more rules now
  unfolding attributes_after
  goes_on left more next rules now one here rest = rw (one, here, rest) refl

  -- or it has a fault
  pub fails : (left more : ℕ) (fault : WireFault) →
      left ≡ suc more → due_attribute due text ≡ Err fault → attributes_after found left due text ≡ Err fault
  unfolding attributes_after
  fails left more fault one here = rw (one, here) refl

  -- none is due any more
  pub ends : (left : ℕ) (now : Cursor) →
      left ≡ 0 → no_more_attributes text ≡ Ok (tt, now) → attributes_after found left due text ≡ Ok (found, now)
  unfolding attributes_after
  ends left now none here = rw (none, here) refl

  pub ends_wrong : (left : ℕ) (fault : WireFault) →
      left ≡ 0 → no_more_attributes text ≡ Err fault → attributes_after found left due text ≡ Err fault
  unfolding attributes_after
  ends_wrong left fault none here = rw (none, here) refl

-- what `?` hands on is the fault that was read
pub handed_on : {A B : Type 0} (view : B → A) (result : Result B WireFault) (fault : WireFault) (now : Cursor)
    (reading : Result (A × Cursor) WireFault) → IsErrAnd result (λ e. e ≡ fault) → reading ≡ Err fault → Shows view result now reading
handed_on view (Ok value) fault now reading handed e = absurd handed
handed_on view (Err other) fault now reading handed e = e ∙ ap Err (sym handed)
