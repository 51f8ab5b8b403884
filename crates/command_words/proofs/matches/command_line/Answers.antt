use Rattle.std.proofs.Common.{◌≡◌, ◌∙◌, true, codes, ap, ap₂}
use Rattle.std.proofs.lemmas.Result.{IfOk-weaker}
use Rattle.clap.specs.Built.{AddsArg}
use Rattle.clap.specs.Simple.{app_of, app_of_fields, on_top, with_rule}
use Rattle.command_words.specs.Private.Program.{flag_rule, no_argument, number_rule, program}
use Rattle.command_words.proofs.matches.command_line.Goals as goal

pub returns : goal.returns
unfolding program
returns c =
    let none_is : app_of c.no_binary_name-none.result ≡ no_argument =
    ap app_of_fields c.no_binary_name-none.ensures ∙ ap (on_top (λ s. record s { no_binary_name = true })) c.new.ensures.app in
    let first_is : app_of c.in_ok-first.first ≡ with_rule no_argument (flag_rule (codes "open")) =
    c.in_ok-first.ensures.shape c.flag.ensures.local ∙ ap₂ with_rule none_is c.flag.ensures.rule in
    let second_is : app_of c.in_ok-second.second ≡ with_rule (with_rule no_argument (flag_rule (codes "open"))) (number_rule (codes "new")) =
    c.in_ok-second.ensures.shape c.number.ensures.local ∙ ap₂ with_rule first_is c.number.ensures.rule in
    let third_is = c.in_ok-third.ensures.shape c.number-2.ensures.local ∙ ap₂ with_rule second_is c.number-2.ensures.rule in
    let fourth_is = c.in_ok-fourth.ensures.shape c.number-3.ensures.local ∙ ap₂ with_rule third_is c.number-3.ensures.rule in
    let fifth_is = c.in_ok-fifth.ensures.shape c.number-4.ensures.local ∙ ap₂ with_rule fourth_is c.number-4.ensures.rule in
    IfOk-weaker c.arg-6.result (AddsArg c.in_ok-fifth.fifth c.number-5.result) (λ command_line. app_of command_line ≡ program)
    (λ command_line h. h.shape c.number-5.ensures.local ∙ ap₂ with_rule fifth_is c.number-5.ensures.rule) c.arg-6.ensures
