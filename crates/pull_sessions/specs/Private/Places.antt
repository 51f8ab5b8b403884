-- The SA at a place.
use Rattle.std.specs.Prelude.{ℕ, List, [], Option, None, slice_index_or, slice_set}
use Rattle.pull_sessions.specs.declared.sas.Sa.{Sa}
use Rattle.pull_sessions.specs.declared.sas.Session.{Session}

-- what is at a place where there is no SA
abbrev pub no_sa : Sa
no_sa = record { phase = record { member = []; cookies = []; skeyid_a = []; key = []; last = [] }; session = None }

-- the SA at a place has this session now, or none
abbrev pub with_session_at : List Sa → ℕ → Option Session → List Sa
with_session_at sas place session = slice_set sas place (record (slice_index_or sas place no_sa) { session = session })
