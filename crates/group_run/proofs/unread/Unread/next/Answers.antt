use Rattle.std.proofs.Common.{◌≡◌, ◌∙◌, ◌+◌, ◌-◌, ◌<◌, Some, suc, length, slice_get, sym, ap, arith}
use Rattle.std.proofs.lemmas.Option.{slice_get_within}
use Rattle.group_run.specs.Mails.{first_of, mail_in}
use Rattle.group_run.proofs.MailLemmas.{first_here, past, read_there, within_past}
use Rattle.group_run.proofs.unread.Unread.next.Goals as goal

pub returns-then-self-count-clause-first : goal.returns-then-self-count-clause-first
returns-then-self-count-clause-first c =
    let entries = c.args.entries.now in
    let unread = c.loop-entry.self in
    let entry = c.in-Some.entry.now in
    let less : unread.taken < length (mail_in entry) = omega (arith, c.mail_count-count.ensures, c.if-self-count.true) in
    c.mail_at.ensures ∙ sym (first_here entries unread entry c.loop-entry.invariant.within (read_there unread.place entries entry c.in-Some.ensures.lookup.0 c.in-Some.ensures.lookup.1) less)
    ∙ ap first_of c.loop-entry.invariant.same

pub loop-entry-preserved : goal.loop-entry-preserved
loop-entry-preserved c =
    let entries = c.args.entries.now in
    let unread = c.loop-entry.self in
    let entry = c.in-Some.entry.now in
    let within = c.loop-entry.invariant.within in
    let is_there : slice_get entries unread.place ≡ Some entry =
    read_there unread.place entries entry c.in-Some.ensures.lookup.0 c.in-Some.ensures.lookup.1 in
    let left = unread.taken - c.mail_count-count.result in
    let next : unread.place + 1 ≡ suc unread.place = omega arith in
    let sum : unread.taken ≡ length (mail_in entry) + left = omega (arith, c.mail_count-count.ensures, c.if-self-count.false) in
    record {
      same = past entries unread entry within is_there (unread.place + 1) left next sum ∙ c.loop-entry.invariant.same;
      within = within_past entries unread entry within is_there (unread.place + 1) left next sum (slice_get_within entries unread.place entry is_there);
    }
