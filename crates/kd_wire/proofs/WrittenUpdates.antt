-- The arrays of jobs, written one after the other, are read again.
use Rattle.std.proofs.Common.{◌≡◌, ℕ, zero, suc, ◌+◌, ◌-◌, ◌*◌, ◌≤◌, Bool, true, false, List, [], ◌∷◌, ◌++◌, map, length, Option, None}
use Rattle.std.proofs.Common.{Some, Result, Ok, if◌then◌else◌, refl, sym, ap, ◌∙◌, length-append, arith}
use Rattle.std.specs.Prelude.{◌==◌, ◌||◌, nat_le}
use Rattle.std.specs.List.{All, list_any}
use Rattle.std.proofs.lemmas.Bool.{ne_eqb, eq-eqb, false≢true}
use Rattle.std.proofs.lemmas.List.Elements.{All-head, All-tail}
use Rattle.group_terms.specs.declared.wires.WireFault.{WireFault}
use Rattle.gd_wire.specs.Readings.{Cursor, Reading, and_then, mapped, ◌>>=◌, ◌>>◌, give, place, ended, octets_left}
use Rattle.gd_wire.specs.Attributes.{attribute, next_has_kind}
use Rattle.kd_wire.specs.declared.updates.UpdateArray.{UpdateArray}
use Rattle.kd_wire.specs.Arrays.{signature_keys, update_attribute, next_update, PlacedArray, arrays_of, end_after, go_on, more_updates}
use Rattle.kd_wire.specs.Arrays.{PlacedUpdates, updates, gives_root}
use Rattle.kd_wire.specs.Keys.{has_handle}
use Rattle.kd_wire.specs.Seals.{handle_after}
use Rattle.kd_wire.specs.Texts.{Sealed, SealedFits, AreOfOnePush, update_text, updates_text}
use Rattle.kd_wire.specs.UpdateTexts.{AreUpdates, array_of}
use Rattle.gd_wire.proofs.ReadsLemmas.{cursor}
use Rattle.kd_wire.proofs.WrittenArrays.{none_of, and_false, attribute_reads}

-- ---- no signature keys

-- where an array begins, none comes before it
pub no_keys : (base at : ℕ) (left : List ℕ) → signature_keys (cursor base at (0 ∷ 2 ∷ left)) ≡ Ok (tt, cursor base at (0 ∷ 2 ∷ left))
unfolding signature_keys
no_keys base at left =
    none_of (length (0 ∷ 2 ∷ left)) (cursor base at (0 ∷ 2 ∷ left)) (ap (λ (has : Bool). Ok (has, cursor base at (0 ∷ 2 ∷ left)))
    (and_false (nat_le 2 (length (0 ∷ 2 ∷ left)))))

-- and none where nothing comes any more
pub no_keys_at_end : (base at : ℕ) → signature_keys (cursor base at []) ≡ Ok (tt, cursor base at [])
unfolding signature_keys
no_keys_at_end base at = refl

abbrev pub text_of : Sealed → List ℕ
text_of update = update_text update.job update.octets

pub text_long : (update : Sealed) → SealedFits update → length (text_of update) ≡ 64
text_long update fits = let long = fits.octets in omega arith

-- ---- one after the other

module _ (handle : Option ℕ) (base at : ℕ) where
  pub next_reads : (update : Sealed) (rest : List ℕ) → SealedFits update → has_handle handle update.job.gives.made ≡ true
      → next_update handle (cursor base at (text_of update ++ rest)) ≡ Ok (Some (array_of update), cursor base (at + 64) rest)
  unfolding next_update
  next_reads update rest fits same =
      let left : List ℕ = text_of update ++ rest in
      let some : (length left == 0) ≡ false = ne_eqb (length left) 0 (λ e. omega
      (arith, length-append (text_of update) rest, text_long update fits)) in
      let place : at + length (text_of update) ≡ at + 64 = ap (λ size. at + size) (text_long update fits) in
      let after : Bool → Cursor → Result (Option UpdateArray × Cursor) WireFault =
      λ nothing. if nothing then give None else (update_attribute handle >>= λ array. give (Some array)) in
      ap (λ (read : Result (Unit {0} × Cursor) WireFault). and_then read (λ done. ended >>= after)) (no_keys base at _)
      ∙ ap (λ nothing. after nothing (cursor base at left)) some
      ∙ ap (λ (read : Result (UpdateArray × Cursor) WireFault). and_then read (λ array. give (Some array)))
      ((attribute_reads handle update fits same).reads base at rest)
      ∙ ap (λ place. Ok (Some (array_of update), cursor base place rest)) place

  pub none_reads : next_update handle (cursor base at []) ≡ Ok (None, cursor base at [])
  unfolding next_update
  none_reads = ap (λ (read : Result (Unit {0} × Cursor) WireFault). and_then read
      (λ done. ended >>= λ nothing. if nothing then give None else (update_attribute handle >>= λ array. give (Some array))))
      (no_keys_at_end base at)

-- the arrays of some jobs with the places after them
abbrev pub placed_from : ℕ → List Sealed → List PlacedArray
placed_from at [] = []
placed_from at (update ∷ updates) = record { array = array_of update; end = at + 64 } ∷ placed_from (at + 64) updates

abbrev pub IsOf : ℕ → Sealed → Type 0
IsOf epoch update = update.job.gives.made ≡ epoch

refl_eqb : (n : ℕ) → (n == n) ≡ true
refl_eqb n = eq-eqb n n refl

pub more_read : (epoch most base at : ℕ) (jobs : List Sealed) → length jobs ≤ most → All SealedFits jobs → All (IsOf epoch) jobs
    → more_updates most (Some epoch) (cursor base at (updates_text jobs)) ≡ Ok (placed_from at jobs, cursor base (at + 64 * length jobs) [])
more_read epoch zero base at [] enough fit made = ap (λ place. Ok ([], cursor base place [])) (omega arith)
more_read epoch zero base at (update ∷ jobs) enough fit made = absurd (omega arith)
more_read epoch (suc more) base at [] enough fit made =
    ap (λ (read : Result (Option UpdateArray × Cursor) WireFault). and_then read (λ (next : Option UpdateArray). λ (cursor : Cursor).
    go_on next (λ array. more_updates more (handle_after (Some epoch) array.keys)
    >>= λ arrays. give (record { array = array; end = cursor.at } ∷ arrays)) cursor)) (none_reads (Some epoch) base at)
    ∙ ap (λ place. Ok ([], cursor base place [])) (omega arith)
more_read epoch (suc more) base at (update ∷ jobs) enough fit made =
    let same = All-head (IsOf epoch) update jobs made in
    let due : has_handle (Some epoch) update.job.gives.made ≡ true = ap (λ made. made == epoch) same ∙ refl_eqb epoch in
    let rest = more_read epoch more base (at + 64) jobs (omega arith) (All-tail SealedFits update jobs fit)
    (All-tail (IsOf epoch) update jobs made) in
    let place : at + 64 + 64 * length jobs ≡ at + 64 * suc (length jobs) = omega arith in
    ap (λ (read : Result (Option UpdateArray × Cursor) WireFault). and_then read (λ (next : Option UpdateArray). λ (cursor : Cursor).
    go_on next (λ array. more_updates more (handle_after (Some epoch) array.keys)
    >>= λ arrays. give (record { array = array; end = cursor.at } ∷ arrays)) cursor))
    (next_reads (Some epoch) base at update (updates_text jobs) (All-head SealedFits update jobs fit) due)
    ∙ ap (λ handle. and_then (more_updates more (Some handle) (cursor base (at + 64) (updates_text jobs)))
    (λ (arrays : List PlacedArray). give (record { array = array_of update; end = at + 64 } ∷ arrays))) same
    ∙ ap (λ (read : Result (List PlacedArray × Cursor) WireFault). and_then read
    (λ (arrays : List PlacedArray). give (record { array = array_of update; end = at + 64 } ∷ arrays))) rest
    ∙ ap (λ place. Ok (placed_from at (update ∷ jobs), cursor base place [])) place

-- ---- all of one push

arrays_same : (at : ℕ) (jobs : List Sealed) → arrays_of (placed_from at jobs) ≡ map array_of jobs
arrays_same at [] = refl
arrays_same at (update ∷ jobs) = ap (λ arrays. array_of update ∷ arrays) (arrays_same (at + 64) jobs)

end_same : (at : ℕ) (jobs : List Sealed) → end_after at (placed_from at jobs) ≡ at + 64 * length jobs
end_same at [] = omega arith
end_same at (update ∷ jobs) = end_same (at + 64) jobs ∙ omega arith

count_same : (at : ℕ) (jobs : List Sealed) → length (placed_from at jobs) ≡ length jobs
count_same at [] = refl
count_same at (update ∷ jobs) = ap suc (count_same (at + 64) jobs)

or_false : (a b : Bool) → ((a || false) || b) ≡ (a || b)
or_false true b = refl
or_false false b = refl

pub root_same : (jobs : List Sealed) → gives_root (map array_of jobs) ≡ list_any (λ (update : Sealed). update.job.gives.id == 1) jobs
root_same [] = refl
root_same (update ∷ jobs) = or_false (update.job.gives.id == 1) (gives_root (map array_of jobs))
    ∙ ap (λ later. (update.job.gives.id == 1) || later) (root_same jobs)

pub jobs_long : (jobs : List Sealed) → All SealedFits jobs → length (updates_text jobs) ≡ 64 * length jobs
jobs_long [] fit = omega arith
jobs_long (update ∷ jobs) fit =
    let first = text_long update (All-head SealedFits update jobs fit) in
    let rest = jobs_long jobs (All-tail SealedFits update jobs fit) in
    omega (arith, length-append (text_of update) (updates_text jobs))

-- what is read of them
abbrev pub placed_of : ℕ → List Sealed → PlacedUpdates
placed_of at jobs = record { arrays = map array_of jobs; span = record { start = at; end = at + 64 * length jobs; arrays = length jobs } }

pub updates_read : (base at : ℕ) (jobs : List Sealed) → AreOfOnePush jobs → updates (cursor base at (updates_text jobs))
    ≡ Ok (placed_of at jobs, cursor base (at + 64 * length jobs) [])
unfolding updates
updates_read base at [] push = absurd (false≢true push.root)
updates_read base at (update ∷ jobs) push =
    let fits = All-head SealedFits update jobs push.fit in
    let later = All-tail SealedFits update jobs push.fit in
    let same = All-head (IsOf push.epoch) update jobs push.made in
    let rest : List ℕ = updates_text jobs in
    let left : List ℕ = text_of update ++ rest in
    let long : length left ≡ 64 + 64 * length jobs = length-append (text_of update) rest
    ∙ (λ i. text_long update fits i + jobs_long jobs later i) in
    let given : ℕ → UpdateArray → ℕ → List PlacedArray → PlacedUpdates = λ start first end more. record {
      arrays = first ∷ arrays_of more;
      span = record { start = start; end = end_after end more; arrays = suc (length more) };
    } in
    let after_first : ℕ → ℕ → UpdateArray → Reading PlacedUpdates = λ start most first. place
    >>= λ end. more_updates (most - 1) (handle_after None first.keys) >>= λ more. give (given start first end more) in
    let more = more_read push.epoch (length left - 1) base (at + 64) jobs (omega (arith, long)) later
    (All-tail (IsOf push.epoch) update jobs push.made) in
    let place_same : at + length (text_of update) ≡ at + 64 = ap (λ size. at + size) (text_long update fits) in
    let end : at + 64 + 64 * length jobs ≡ at + 64 * suc (length jobs) = omega arith in
    ap (λ (read : Result (Unit {0} × Cursor) WireFault). and_then read (λ done. place >>= λ start. octets_left
    >>= λ most. update_attribute None >>= after_first start most)) (no_keys base at _)
    ∙ ap (λ (read : Result (UpdateArray × Cursor) WireFault). and_then read (after_first at (length left)))
    ((attribute_reads None update fits refl).reads base at rest)
    ∙ (λ i. and_then (more_updates (length left - 1) (Some (same i)) (cursor base (place_same i) rest))
    (λ (more : List PlacedArray). give (given at (array_of update) (place_same i) more)))
    ∙ ap (λ (read : Result (List PlacedArray × Cursor) WireFault). and_then read
    (λ (more : List PlacedArray). give (given at (array_of update) (at + 64) more))) more
    ∙ (λ i. Ok (
      record {
        arrays = array_of update ∷ arrays_same (at + 64) jobs i;
        span = record { start = at; end = (end_same (at + 64) jobs ∙ end) i; arrays = suc (count_same (at + 64) jobs i) };
      },
      cursor base (end i) [],
    ))

pub jobs_are_updates : (jobs : List Sealed) → AreOfOnePush jobs → AreUpdates (map array_of jobs) (updates_text jobs)
jobs_are_updates jobs push = record {
  reads = λ base at.
      let long : 64 * length jobs ≡ length (updates_text jobs) = sym (jobs_long jobs push.fit) in
      ap (mapped (λ (placed : PlacedUpdates). placed.arrays)) (updates_read base at jobs push)
      ∙ ap (λ size. Ok (map array_of jobs, cursor base (at + size) [])) long;
  root = root_same jobs ∙ push.root;
}
