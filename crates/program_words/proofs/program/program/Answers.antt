use Rattle.std.proofs.Common.{◌≡◌, ◌∙◌, ◌||◌, ap, ap₂, codes, false, true}
use Rattle.std.proofs.lemmas.Result.{IfOk-weaker}
use Rattle.clap.specs.Words.{App, Rule, app_of, rule_of, with_rule, with_subcommand}
use Rattle.clap.specs.Simple.{Shape, app_of_fields, on_top}
use Rattle.clap.specs.declared.builder.action.ArgAction.TheVariants.{Append}
use Rattle.clap.specs.declared.builder.arg.Arg.{Arg}
use Rattle.std.specs.Prelude.{Some}
use Rattle.program_words.specs.Program.{bare, further_words, restoring, wanted_word}
use Rattle.program_words.proofs.program.program.Goals as goal

pub returns : goal.returns
returns c =
    let file_is : rule_of c.required-file.result ≡ wanted_word (codes "FILE") = ap rule_of c.required-file.ensures ∙ ap (λ (r : Rule). record r { required = true }) c.new.ensures.rule in
    let day_is : rule_of c.required-day.result ≡ wanted_word (codes "DAY") = ap rule_of c.required-day.ensures ∙ ap (λ (r : Rule). record r { required = true }) c.new-2.ensures.rule in
    let files_is : rule_of c.action-files.result ≡ further_words = ap rule_of c.action-files.ensures ∙ ap (λ (r : Rule). record r { action = Some Append }) c.new-3.ensures.rule in
    let file_own : c.required-file.result.global ≡ false = ap (λ (a : Arg). a.global) c.required-file.ensures ∙ c.new.ensures.optional.1 in
    let day_own : c.required-day.result.global ≡ false = ap (λ (a : Arg). a.global) c.required-day.ensures ∙ c.new-2.ensures.optional.1 in
    let files_own : c.action-files.result.global ≡ false = ap (λ (a : Arg). a.global) c.action-files.ensures ∙ c.new-3.ensures.optional.1 in
    let first_own = c.in_ok-arg.ensures.globals ∙ ap₂ ◌||◌ c.new-4.ensures.local file_own in
    let second_own = c.in_ok-arg-2.ensures.globals ∙ ap₂ ◌||◌ first_own day_own in
    let third_own = c.in_ok-restoring.ensures.globals ∙ ap₂ ◌||◌ second_own files_own in
    let restore_is : app_of c.in_ok-restoring.restoring ≡ restoring = c.in_ok-restoring.ensures.shape files_own
    ∙ ap₂ with_rule (c.in_ok-arg-2.ensures.shape day_own ∙ ap₂ with_rule (c.in_ok-arg.ensures.shape file_own ∙ ap₂ with_rule c.new-4.ensures.app file_is) day_is) files_is in
    let named : app_of c.no_binary_name.result ≡ on_top (λ (s : Shape). record s { no_binary_name = true }) (app_of c.new-5.result) = ap app_of_fields c.no_binary_name.ensures in
    let flagged : app_of c.disable_help_flag.result ≡ on_top (λ (s : Shape). record s { disable_help_flag = true }) (app_of c.no_binary_name.result) = ap app_of_fields c.disable_help_flag.ensures in
    let helped : app_of c.disable_help_subcommand.result ≡ on_top (λ (s : Shape). record s { disable_help_subcommand = true }) (app_of c.disable_help_flag.result) = ap app_of_fields c.disable_help_subcommand.ensures in
    let wants : app_of c.subcommand_required-program.result ≡ on_top (λ (s : Shape). record s { subcommand_required = true }) (app_of c.disable_help_subcommand.result) = ap app_of_fields c.subcommand_required-program.ensures in
    let bare_is : app_of c.subcommand_required-program.result ≡ bare = wants
    ∙ ap (λ (a : App). on_top (λ (s : Shape). record s { subcommand_required = true }) a) (helped
    ∙ ap (λ (a : App). on_top (λ (s : Shape). record s { disable_help_subcommand = true }) a) (flagged
    ∙ ap (λ (a : App). on_top (λ (s : Shape). record s { disable_help_flag = true }) a) (named
    ∙ ap (λ (a : App). on_top (λ (s : Shape). record s { no_binary_name = true }) a) c.new-5.ensures.app))) in
    IfOk-weaker c.subcommand-4.result _ _ (λ r added. added.shape third_own
    ∙ ap₂ with_subcommand (c.in_ok-subcommand-3.ensures.shape c.new-fresh.ensures.local
    ∙ ap₂ with_subcommand (c.in_ok-subcommand-2.ensures.shape c.new-run.ensures.local
    ∙ ap₂ with_subcommand (c.in_ok-subcommand.ensures.shape c.new-format.ensures.local ∙ ap₂ with_subcommand bare_is (ap (λ (a : App). a.top) c.new-format.ensures.app))
    (ap (λ (a : App). a.top) c.new-run.ensures.app)) (ap (λ (a : App). a.top) c.new-fresh.ensures.app)) (ap (λ (a : App). a.top) restore_is)) c.subcommand-4.ensures
