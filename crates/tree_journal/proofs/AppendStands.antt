-- A journal is one after an append, too.
use Rattle.std.proofs.Common.{◌≡◌, ◌∙◌, ◌+◌, ◌≤◌, [], ◌∷◌, ℕ, List, length, Some, sym, subst, arith}
use Rattle.gd_disk.specs.Disks.{Knows, Only, written}
use Rattle.gd_disk.specs.MomentLaws.{shown_before}
use Rattle.gd_disk.specs.Moments.{shown, Keeps}
use Rattle.gd_disk.specs.declared.disks.Disk.{Ghosts}
use Rattle.tree_journal.specs.Private.Fronts.{IsLast, IsReached, Stands}
use Rattle.journal_gates.specs.Gates.{gated}
use Rattle.tree_journal.proofs.AppendLemmas.{Ready, ready, piece_of, new_file}

module _ {D : Type 0} (g : Ghosts D) (old new : D) (keeps : Keeps g old new) (end : ℕ) (body piece : List ℕ) (text : piece ≡ piece_of body)
    (short : length body ≤ 65536) (last : Knows (shown g old) (λ file. IsLast file end))
    (octets : Knows (shown g old) (λ file. shown g new ≡ Some (written (written file (end + 1) piece) end (1 ∷ [])))) where
  -- what was shown before, and what an append makes of it
  record Before (file : List ℕ) : Type 0 where
    was : List ℕ
    is : shown g old ≡ Some was
    made : Ready was end body
    now : gated made.front 1 (piece_of body) made.behind ≡ file

  before : (file : List ℕ) → shown g new ≡ Some file → Before file
  before file shows =
      let was = shown_before g old new keeps file shows in
      let made = ready was.0 end body short (last was.0 was.1) in
      let written_file : written (written was.0 (end + 1) piece) end (1 ∷ []) ≡ file = cc (octets was.0 was.1, shows) in
      record { was = was.0; is = was.1; made = made; now = sym (new_file was.0 end body made piece text) ∙ written_file }

  pub new_stands : (at : ℕ) → Knows (shown g old) (λ file. IsReached file at) → Knows (shown g new) (λ file. Only file (g.may_leave new))
      → Stands g new at (Some (end + 5 + length body))
  new_stands at reached durable = record {
    read = λ file shows. let found = before file shows in subst (λ (l : List ℕ). IsReached l at) found.now (found.made.cursor at (reached found.was found.is));
    ended = λ file shows.
        let found = before file shows in
        let place : end + (5 + length body) ≡ end + 5 + length body = omega arith in
        subst (λ (k : ℕ). IsLast file k) place (subst (λ (l : List ℕ). IsLast l (end + (5 + length body))) found.now found.made.last);
    durable = durable;
  }
