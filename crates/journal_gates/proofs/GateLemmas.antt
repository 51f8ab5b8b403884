-- What a write after a clear commit mark, and one on it, leave.
-- After one write a crash leaves the old image with that write torn (`IsTorn`), after both one of two forms of file (`IsGated`).
use Rattle.std.proofs.Common.{◌≡◌, ◌∙◌, ℕ, ◌+◌, ◌≤◌, min, List, [], ◌∷◌, ◌++◌, length, get_or, take, drop, refl, sym, ap, arith, append_assoc, length-append, length-take, take-append-drop, subst, inl, inr}
use Rattle.std.proofs.lemmas.List.{take_at, drop_at, drop_more, take_all, drop-drop}
use Rattle.gd_disk.specs.Disks.{Torn, Only, written}
use Rattle.journal_gates.specs.Gates.{gated, IsTorn, IsGated}

module _ (front : List ℕ) (shut : ℕ) (behind piece : List ℕ) (gate : ℕ) (place : length front ≡ gate) where
  abbrev head : List ℕ
  head = front ++ shut ∷ []

  length-head : length head ≡ gate + 1
  length-head = omega (arith, length-append front (shut ∷ []), place)

  at_head : (rest : List ℕ) → front ++ shut ∷ rest ≡ head ++ rest
  at_head rest = sym (append_assoc front (shut ∷ []) rest)

  pub length-whole : (rest : List ℕ) → length (front ++ shut ∷ rest) ≡ gate + 1 + length rest
  length-whole rest = omega (arith, ap length (at_head rest), length-append head rest, length-head)

  -- the commit mark is in all that a crash leaves of the first write
  pub torn_behind : (n : ℕ) (c : List ℕ) → Torn (gate + 1) n (front ++ shut ∷ behind) c → c ≡ front ++ shut ∷ drop (gate + 1) c
  torn_behind n c torn =
      let long = length-whole behind in
      let least : min (gate + 1) (length (front ++ shut ∷ behind)) ≡ gate + 1 = omega (arith, long) in
      let before : take (gate + 1) c ≡ head =
      ap (λ (k : ℕ). take k c) (sym least) ∙ torn.before ∙ ap (λ (l : List ℕ). take (gate + 1) l) (at_head behind)
      ∙ take_at head behind (gate + 1) length-head in
      sym (take-append-drop (gate + 1) c) ∙ ap (λ (l : List ℕ). l ++ drop (gate + 1) c) before ∙ sym (at_head (drop (gate + 1) c))

  pub written_behind : written (front ++ shut ∷ behind) (gate + 1) piece ≡ gated front shut piece behind
  written_behind =
      let sum : gate + 1 + length piece ≡ gate + 1 + length piece = refl in
      let first : take (gate + 1) (front ++ shut ∷ behind) ≡ head =
      ap (λ (l : List ℕ). take (gate + 1) l) (at_head behind) ∙ take_at head behind (gate + 1) length-head in
      let last : drop (gate + 1 + length piece) (front ++ shut ∷ behind) ≡ drop (length piece) behind =
      sym (drop-drop (length piece) (gate + 1) (front ++ shut ∷ behind))
      ∙ ap (λ (l : List ℕ). drop (length piece) (drop (gate + 1) l)) (at_head behind)
      ∙ ap (λ (l : List ℕ). drop (length piece) l) (drop_at head behind (gate + 1) length-head) in
      (λ i. first i ++ (piece ++ last i)) ∙ sym (at_head (piece ++ drop (length piece) behind))

  abbrev later : List ℕ
  later = piece ++ drop (length piece) behind

  front_of : take gate (gated front shut piece behind) ≡ front
  front_of = take_at front (shut ∷ later) gate place

  back_of : drop (gate + 1) (gated front shut piece behind) ≡ later
  back_of = ap (λ (l : List ℕ). drop (gate + 1) l) (at_head later) ∙ drop_at head later (gate + 1) length-head

  -- the piece is whole in all that a crash leaves of the second write
  pub torn_gate : (c : List ℕ) → Torn gate 1 (gated front shut piece behind) c → c ≡ gated front (get_or c gate 0) piece behind
  torn_gate c torn =
      let file : List ℕ = gated front shut piece behind in
      let long : length file ≡ gate + 1 + length later = length-whole later in
      let same : length c ≡ length file = omega (arith, torn.no_shorter, torn.no_longer, long) in
      let least : min gate (length file) ≡ gate = omega (arith, long) in
      let before : take gate c ≡ front = ap (λ (k : ℕ). take k c) (sym least) ∙ torn.before ∙ front_of in
      let after : drop (gate + 1) c ≡ later =
      ap (λ (l : List ℕ). drop (gate + 1) l) (sym (take_all (length file) c (omega (arith, same)))) ∙ torn.after ∙ back_of in
      let rest : drop gate c ≡ get_or c gate 0 ∷ later =
      drop_more c gate 0 (omega (arith, same, long)) ∙ ap (λ (l : List ℕ). get_or c gate 0 ∷ l) after in
      sym (take-append-drop gate c) ∙ (λ i. before i ++ rest i)

  pub written_gate : (x : ℕ) → written (gated front shut piece behind) gate (x ∷ []) ≡ gated front x piece behind
  written_gate x = λ i. front_of i ++ (x ∷ back_of i)

  -- both writes
  pub written_both : (x : ℕ) → written (written (front ++ shut ∷ behind) (gate + 1) piece) gate (x ∷ []) ≡ gated front x piece behind
  written_both x = ap (λ (l : List ℕ). written l gate (x ∷ [])) written_behind ∙ written_gate x

  pub gated_first : (n : ℕ) (left : List ℕ → Type 0) → Only (front ++ shut ∷ behind) left → (c : List ℕ) → IsTorn (gate + 1) n left c
      → IsGated front shut piece behind c
  gated_first n left only c torn =
      inl (drop (gate + 1) c, torn_behind n c (subst (λ (was : List ℕ). Torn (gate + 1) n was c) (only torn.0 torn.1) torn.2))

  pub gated_second : (left : List ℕ → Type 0) → Only (gated front shut piece behind) left → (c : List ℕ) → IsTorn gate 1 left c
      → IsGated front shut piece behind c
  gated_second left only c torn =
      inr (get_or c gate 0, torn_gate c (subst (λ (was : List ℕ). Torn gate 1 was c) (only torn.0 torn.1) torn.2))

-- a write that begins in a file leaves at least what is before it
pub length-written : (file : List ℕ) (at : ℕ) (octets : List ℕ) → at ≤ length file → at ≤ length (written file at octets)
length-written file at octets within =
    omega (arith, length-append (take at file) (octets ++ drop (at + length octets) file), length-take at file)
