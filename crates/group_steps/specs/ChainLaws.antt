-- Laws of entries that follow one another.
use Rattle.std.specs.Prelude.{List, [], ◌∷◌, ◌++◌}
use Rattle.std.proofs.Common.{sym, subst, append_assoc}
use Rattle.std.proofs.lemmas.List.{append-nil}
use Rattle.group_model.specs.declared.entries.Entry.{Entry}
use Rattle.group_steps.specs.Chains.{Along}

module _ {R : Type 0} (step : List Entry → R → Entry → R → Type 0) where
  -- two stretches are one, where the second begins after the entries of the first
  pub along_on : (before front later : List Entry) (run mid after : R) → Along step before run front mid → Along step (before ++ front) mid later after
      → Along step before run (front ++ later) after
  along_on before [] later run mid after first rest =
      subst (λ run. Along step before run later after) first (subst (λ before. Along step before mid later after) (append-nil before) rest)
  along_on before (entry ∷ front) later run mid after first rest = (
    first.0,
    first.1,
    along_on (before ++ entry ∷ []) front later first.0 mid after first.2
        (subst (λ before. Along step before mid later after) (sym (append_assoc before (entry ∷ []) front)) rest),
  )

  -- what each step keeps is kept all along
  pub along_keeps : (Holds : List Entry → R → Type 0)
      → ((before : List Entry) (run : R) (entry : Entry) (next : R) → Holds before run → step before run entry next → Holds (before ++ entry ∷ []) next)
      → (before : List Entry) (run : R) (entries : List Entry) (after : R) → Holds before run → Along step before run entries after
      → Holds (before ++ entries) after
  along_keeps Holds keeps before run [] after holds steps =
      subst (λ run. Holds (before ++ []) run) (sym steps) (subst (λ before. Holds before run) (sym (append-nil before)) holds)
  along_keeps Holds keeps before run (entry ∷ entries) after holds steps =
      subst (λ before. Holds before after) (append_assoc before (entry ∷ []) entries)
      (along_keeps Holds keeps (before ++ entry ∷ []) steps.0 entries after (keeps before run entry steps.0 holds steps.1) steps.2)

-- where each step is another one, too, a whole stretch is one of those
pub along_too : {R : Type 0} (step other : List Entry → R → Entry → R → Type 0)
    → ((before : List Entry) (run : R) (entry : Entry) (next : R) → step before run entry next → other before run entry next)
    → (before : List Entry) (run : R) (entries : List Entry) (after : R) → Along step before run entries after → Along other before run entries after
along_too step other is before run [] after steps = steps
along_too step other is before run (entry ∷ entries) after steps =
    (steps.0, is before run entry steps.0 steps.1, along_too step other is (before ++ entry ∷ []) steps.0 entries after steps.2)
