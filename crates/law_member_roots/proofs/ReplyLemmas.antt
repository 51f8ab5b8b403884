-- A store that is made of what a member is told.
use Rattle.std.proofs.Common.{◌≡◌, ◌∙◌, ap, refl, sym, ℕ, zero, suc, ◌/◌, Bool, true, false, List, [], ◌∷◌, map}
use Rattle.std.proofs.lemmas.Bool.{false≢true}
use Rattle.group_terms.specs.Positions.{halved}
use Rattle.group_terms.specs.declared.keys.KeyName.{KeyName}
use Rattle.group_terms.specs.declared.keys.KeyName.TheVariants.{Node}
use Rattle.group_terms.specs.declared.paths.PathKey.{PathKey}
use Rattle.group_model.specs.Fresh.{upwards}
use Rattle.kd_wire.specs.Texts.{LeadsUp}
use Rattle.member_store.specs.Stores.{leaf_of}
use Rattle.law_member_roots.proofs.RootKeyLemmas.{id_of, name_of}

abbrev pub head_or : KeyName → List KeyName → KeyName
head_or other [] = other
head_or other (first ∷ rest) = first

abbrev pub rest_of : List KeyName → List KeyName
rest_of [] = []
rest_of (first ∷ rest) = rest

abbrev pub is_empty : List KeyName → Bool
is_empty [] = true
is_empty (first ∷ rest) = false

module _ (made : ℕ → ℕ) where
  abbrev name : ℕ → KeyName
  name v = Node v (made v)

  first_of_up : (steps v : ℕ) → head_or (Node 0 0) (map name (upwards steps v)) ≡ name v
  first_of_up zero v = refl
  first_of_up (suc steps) v = refl

  some_up : (steps v : ℕ) → is_empty (map name (upwards steps v)) ≡ false
  some_up zero v = refl
  some_up (suc steps) v = refl

  -- the first key is that of the position where they begin
  pub first_id : (steps v : ℕ) (path : List PathKey) → map name_of path ≡ map name (upwards steps v) → leaf_of path ≡ v
  first_id steps v [] names = absurd (false≢true (sym (some_up steps v) ∙ ap is_empty (sym names)))
  first_id steps v (key ∷ path) names = ap (λ names. id_of (head_or (Node 0 0) names)) names ∙ ap id_of (first_of_up steps v)

  -- keys of positions one above the other lead up to the root
  pub leads_up : (steps v : ℕ) (path : List PathKey) → map name_of path ≡ map name (upwards steps v) → halved steps v ≡ 1 → LeadsUp path
  leads_up steps v [] names top = absurd (false≢true (sym (some_up steps v) ∙ ap is_empty (sym names)))
  leads_up zero v (key ∷ []) names top = first_id zero v (key ∷ []) names ∙ top
  leads_up (suc steps) v (key ∷ []) names top =
      absurd (false≢true (sym (some_up steps (v / 2)) ∙ ap (λ names. is_empty (rest_of names)) (sym names)))
  leads_up zero v (key ∷ above ∷ path) names top = absurd (false≢true (ap (λ names. is_empty (rest_of names)) names))
  leads_up (suc steps) v (key ∷ above ∷ path) names top =
      let rest : map name_of (above ∷ path) ≡ map name (upwards steps (v / 2)) = ap rest_of names in (
        first_id steps (v / 2) (above ∷ path) rest ∙ ap (λ id. id / 2) (sym (first_id (suc steps) v (key ∷ above ∷ path) names)),
        leads_up steps (v / 2) (above ∷ path) rest top,
      )
