-- Writes and cuts that a crash stops.
use Rattle.std.proofs.Common.{◌≡◌, ℕ, zero, suc, ◌+◌, ◌-◌, ◌≤◌, min, List, ◌++◌, length, take, drop, replicate, refl, sym, ◌∙◌, ap, arith, append_assoc, length-append, length-take, length-drop, take-append-drop, subst}
use Rattle.std.proofs.lemmas.List.{length-replicate, take_min, take_all, take_at, drop_at, drop_all, drop-drop}
use Rattle.gd_disk.specs.Disks.{Torn, Cut, written}
use Rattle.gd_disk.specs.Media.{replaced}
use Rattle.gd_disk.specs.Private.Pieces.{laid}

-- a write of which nothing is left
pub Torn-same : (at n : ℕ) (file : List ℕ) → Torn at n file file
Torn-same at n file = record {
  before = take_min at file;
  after = ap (λ (l : List ℕ). drop (at + n) l) (take_all (length file) file (omega arith));
  no_shorter = omega arith;
  no_longer = omega arith;
}

-- a cut of which nothing is left
pub Cut-same : (to : ℕ) (file : List ℕ) → Cut to file file
Cut-same to file = record { same = refl; no_shorter = omega arith; no_longer = omega arith }

-- a piece where nothing is between it and the octets before
pub laid-written : (file : List ℕ) (at : ℕ) (piece : List ℕ) → at ≤ length file → laid file at piece ≡ written file at piece
laid-written file at piece within =
    let none : at - length file ≡ 0 = omega arith in
    ap (λ (gap : ℕ). take at file ++ (replicate gap 0 ++ (piece ++ drop (at + length piece) file))) none

module _ (at n : ℕ) (file piece : List ℕ) (few : length piece ≤ n) where
  length-laid : length (laid file at piece) ≡ at + length piece + (length file - (at + length piece))
  length-laid = omega (
    arith,
    length-append (take at file) (replicate (at - length file) 0 ++ (piece ++ drop (at + length piece) file)),
    length-append (replicate (at - length file) 0) (piece ++ drop (at + length piece) file),
    length-append piece (drop (at + length piece) file),
    length-take at file,
    length-replicate {A = ℕ} (at - length file) 0,
    length-drop (at + length piece) file,
  )

  -- a write that ends in the octets that were there keeps those after it
  kept_after : at + length piece ≤ length file → drop (at + n) (laid file at piece) ≡ drop (at + n) file
  kept_after within =
      let front : List ℕ = take at file ++ piece in
      let long : length front ≡ at + length piece = omega (arith, length-append (take at file) piece, length-take at file) in
      let split : laid file at piece ≡ front ++ drop (at + length piece) file =
      laid-written file at piece (omega arith) ∙ sym (append_assoc (take at file) piece (drop (at + length piece) file)) in
      let rest : drop (at + length piece) (laid file at piece) ≡ drop (at + length piece) file =
      ap (λ (l : List ℕ). drop (at + length piece) l) split ∙ drop_at front (drop (at + length piece) file) (at + length piece) long in
      let sum : at + n ≡ at + length piece + (n - length piece) = omega arith in
      ap (λ (k : ℕ). drop k (laid file at piece)) sum
      ∙ sym (drop-drop (n - length piece) (at + length piece) (laid file at piece))
      ∙ ap (λ (l : List ℕ). drop (n - length piece) l) rest
      ∙ drop-drop (n - length piece) (at + length piece) file
      ∙ ap (λ (k : ℕ). drop k file) (sym sum)

  after_by : (more : ℕ) → length file - (at + length piece) ≡ more
      → drop (at + n) (take (length file) (laid file at piece)) ≡ drop (at + n) file
  after_by zero none =
      drop_all (at + n) (take (length file) (laid file at piece)) (omega (arith, length-take (length file) (laid file at piece)))
      ∙ sym (drop_all (at + n) file (omega arith))
  after_by (suc more) some =
      ap (λ (l : List ℕ). drop (at + n) l) (take_all (length file) (laid file at piece) (omega (arith, length-laid)))
      ∙ kept_after (omega arith)

  -- a write of which a piece was laid, or other octets
  pub Torn-laid : Torn at n file (laid file at piece)
  Torn-laid = record {
    before = take_at (take at file) _ (min at (length file)) (length-take at file);
    after = after_by _ refl;
    no_shorter = omega (arith, length-laid);
    no_longer = omega (arith, length-laid);
  }

-- a write that was done
pub Torn-written : (at : ℕ) (file octets : List ℕ) → at ≤ length file → Torn at (length octets) file (written file at octets)
Torn-written at file octets within =
    let same = laid-written file at octets within in
    subst (λ (l : List ℕ). Torn at (length octets) file l) same (Torn-laid at (length octets) file octets (omega arith))

-- a write, undone
pub undone-written : (file : List ℕ) (at : ℕ) (octets : List ℕ) → at ≤ length file
    → replaced (written file at octets) at (length octets) (take (length octets) (drop at file)) ≡ file
undone-written file at octets within =
    let front : take at (written file at octets) ≡ take at file =
    take_at (take at file) (octets ++ drop (at + length octets) file) at (omega (arith, length-take at file)) in
    let split : written file at octets ≡ (take at file ++ octets) ++ drop (at + length octets) file =
    sym (append_assoc (take at file) octets (drop (at + length octets) file)) in
    let long : length (take at file ++ octets) ≡ at + length octets =
    omega (arith, length-append (take at file) octets, length-take at file) in
    let back : drop (at + length octets) (written file at octets) ≡ drop (length octets) (drop at file) =
    ap (λ (l : List ℕ). drop (at + length octets) l) split
    ∙ drop_at (take at file ++ octets) (drop (at + length octets) file) (at + length octets) long
    ∙ sym (drop-drop (length octets) at file) in
    (λ i. front i ++ (take (length octets) (drop at file) ++ back i))
    ∙ ap (λ (l : List ℕ). take at file ++ l) (take-append-drop (length octets) (drop at file))
    ∙ take-append-drop at file

-- a cut that was done
pub Cut-taken : (to : ℕ) (file : List ℕ) → to ≤ length file → Cut to file (take to file)
Cut-taken to file within =
    let long : length (take to file) ≡ to = omega (arith, length-take to file) in
    record {
      same = take_all (length file) (take to file) (omega arith) ∙ ap (λ (k : ℕ). take k file) (sym long);
      no_shorter = omega arith;
      no_longer = omega arith;
    }
