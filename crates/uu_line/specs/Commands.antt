-- The program's command line, in the terms of `clap`. The subcommands and options are this
-- project's choice.
use Rattle.std.specs.Prelude.{ℕ, List, Some, [], ◌∷◌, true, codes}
use Rattle.std.specs.Str.{byte}
use Rattle.clap.specs.Lexer.{usize_max}
use Rattle.clap.specs.Words.{App, Rule, new_rule, new_app, with_rule, with_subcommand}
use Rattle.clap.specs.Simple.{on_top}
use Rattle.clap.specs.declared.builder.action.ArgAction.TheVariants.{SetTrue}
use Rattle.clap.specs.declared.builder.value_parser.ValueParser.TheVariants.{Unsigned}

-- `-c FILE`
abbrev pub config_option : Rule
config_option = record (new_rule (codes "config")) {
  short = Some (byte "c");
  value_names = 1;
}

-- `--at SECONDS`, a whole number of at most 9,999,999,999
abbrev pub second_option : Rule
second_option = record (new_rule (codes "at")) {
  long = Some (codes "at");
  value_names = 1;
  parser = Some (Unsigned 0 9_999_999_999);
}

-- `--as USER`
abbrev pub user_option : Rule
user_option = record (new_rule (codes "as")) {
  long = Some (codes "as");
  value_names = 1;
  defaults = codes "uucp" ∷ [];
}

-- a required argument, by its place
abbrev pub argument : List ℕ → Rule
argument id = record (new_rule id) { value_names = 1; required = true }

-- the last argument, which may be given any number of times from `least` on
abbrev pub arguments : List ℕ → ℕ → Rule
arguments id least = record (new_rule id) {
  value_names = 1;
  range = Some (record { start_inclusive = least; end_inclusive = usize_max });
}

-- `-g GRADE`
abbrev pub grade_option : Rule
grade_option = record (new_rule (codes "grade")) {
  short = Some (byte "g");
  value_names = 1;
  defaults = codes "N" ∷ [];
}

-- `--once SYSTEM!NUMBER[!WORD]`
abbrev pub once_option : Rule
once_option = record (new_rule (codes "once")) { long = Some (codes "once"); value_names = 1 }

-- `--spool WORD`
abbrev pub spool_option : Rule
spool_option = record (new_rule (codes "spool")) { long = Some (codes "spool"); value_names = 1 }

-- `JOB`, a whole number of at most 4,294,967,295
abbrev pub job_argument : Rule
job_argument = record (argument (codes "job")) { parser = Some (Unsigned 0 4_294_967_295) }

-- `drop SYSTEM`
abbrev pub drop_command : App
drop_command = with_rule (new_app (codes "drop")) (argument (codes "system"))

-- `NAME SYSTEM FROM TO [-g GRADE] [--once SYSTEM!NUMBER[!WORD]]`
abbrev pub file_command : List ℕ → App
file_command name =
    with_rule (with_rule (with_rule (with_rule (with_rule (new_app name) (argument (codes "system")))
    (argument (codes "from"))) (argument (codes "to"))) grade_option) once_option

-- `exec [-g GRADE] [--once SYSTEM!NUMBER[!WORD]] SYSTEM COMMAND [ARG..]`
abbrev pub exec_command : App
exec_command =
    with_rule (with_rule (with_rule (with_rule (with_rule (new_app (codes "exec")) grade_option) once_option)
    (argument (codes "system"))) (argument (codes "command"))) (arguments (codes "argument") 0)

-- `mail [-g GRADE] [--once SYSTEM!NUMBER[!WORD]] ADDRESS..`
abbrev pub mail_command : App
mail_command =
    with_rule (with_rule (with_rule (new_app (codes "mail")) grade_option) once_option)
    (record (arguments (codes "address") 1) { required = true })

-- `-s SYSTEM`, and `-u USER` of `list`
abbrev pub wanted_system : Rule
wanted_system = record (new_rule (codes "system")) { short = Some (byte "s"); value_names = 1 }

abbrev pub wanted_user : Rule
wanted_user = record (new_rule (codes "user")) { short = Some (byte "u"); value_names = 1 }

-- `list [-s SYSTEM] [-u USER]`
abbrev pub list_command : App
list_command = with_rule (with_rule (new_app (codes "list")) wanted_system) wanted_user

-- `NAME [-s SYSTEM]`
abbrev pub report_command : List ℕ → App
report_command name = with_rule (new_app name) wanted_system

-- `when [-a] [-s SYSTEM]`
abbrev pub all_option : Rule
all_option = record (new_rule (codes "all")) { short = Some (byte "a"); value_names = 1; action = Some SetTrue }

abbrev pub when_command : App
when_command = with_rule (report_command (codes "when")) all_option

-- `NAME JOB`
abbrev pub job_command : List ℕ → App
job_command name = with_rule (new_app name) job_argument

-- `regrade JOB GRADE`
abbrev pub regrade_command : App
regrade_command = with_rule (with_rule (new_app (codes "regrade")) job_argument) (argument (codes "grade"))

-- `failed SYSTEM WHY`
abbrev pub failed_command : App
failed_command = with_rule (with_rule (new_app (codes "failed")) (argument (codes "system"))) (argument (codes "why"))

-- `done SYSTEM [JOB..]`
abbrev pub done_command : App
done_command =
    with_rule (with_rule (new_app (codes "done")) (argument (codes "system")))
    (record (arguments (codes "job") 0) { parser = Some (Unsigned 0 4_294_967_295) })

-- `forget SYSTEM NUMBER`
abbrev pub forget_command : App
forget_command = with_rule (with_rule (new_app (codes "forget")) (argument (codes "system"))) job_argument

-- `-g GRADE` of a bundle
abbrev pub lowest_grade : Rule
lowest_grade = record grade_option { defaults = codes "z" ∷ [] }

-- `--after JOB`, a whole number of at most 4,294,967,295
abbrev pub after_option : Rule
after_option = record (new_rule (codes "job")) {
  long = Some (codes "after");
  value_names = 1;
  parser = Some (Unsigned 0 4_294_967_295);
}

-- `--most BYTES`, a whole number from 1 to 4,294,967,295
abbrev pub most_option : Rule
most_option = record (new_rule (codes "most")) {
  long = Some (codes "most");
  value_names = 1;
  parser = Some (Unsigned 1 4_294_967_295);
}

-- `--no-jobs`, without a value
abbrev pub no_jobs_option : Rule
no_jobs_option = record (new_rule (codes "no-jobs")) { long = Some (codes "no-jobs"); value_names = 1; action = Some SetTrue }

-- `[-g GRADE] [--spool WORD] [--after JOB] [--most BYTES] [--no-jobs]`
abbrev pub with_packing : App → App
with_packing app =
    with_rule (with_rule (with_rule (with_rule (with_rule app lowest_grade) spool_option) after_option) most_option) no_jobs_option

-- `pack SYSTEM [-g GRADE] [--spool WORD] [--after JOB] [--most BYTES] [--no-jobs]`
abbrev pub pack_command : App
pack_command = with_packing (with_rule (new_app (codes "pack")) (argument (codes "system")))

-- `unpack SENDER [SYSTEM..]`
abbrev pub unpack_command : App
unpack_command =
    with_rule (with_rule (new_app (codes "unpack")) (argument (codes "sender"))) (arguments (codes "system") 0)

-- `settle SYSTEM [--spool WORD]`
abbrev pub settle_command : App
settle_command = with_rule (with_rule (new_app (codes "settle")) (argument (codes "system"))) spool_option

-- `answer SENDER [SYSTEM..] [-g GRADE] [--spool WORD] [--after JOB] [--most BYTES] [--no-jobs]`
abbrev pub answer_command : App
answer_command =
    with_packing (with_rule (with_rule (new_app (codes "answer")) (argument (codes "sender"))) (arguments (codes "system") 0))

-- `neighbours HOST`
abbrev pub neighbours_command : App
neighbours_command = with_rule (new_app (codes "neighbours")) (argument (codes "host"))

-- `--cost`, without a value
abbrev pub cost_option : Rule
cost_option = record (new_rule (codes "cost")) { long = Some (codes "cost"); value_names = 1; action = Some SetTrue }

-- `route [--cost] HOST`
abbrev pub route_command : App
route_command = with_rule (with_rule (new_app (codes "route")) cost_option) (argument (codes "host"))

-- `routes [--cost]`
abbrev pub routes_command : App
routes_command = with_rule (new_app (codes "routes")) cost_option

-- the words are those after the program's name, a subcommand is required, and there is a
-- `--version`
abbrev pub without_options : App
without_options = on_top (λ s. record s { no_binary_name = true; subcommand_required = true; has_version = true })
    (new_app (codes "uuspool"))

abbrev pub without_subcommands : App
without_subcommands = with_rule (with_rule (with_rule without_options config_option) second_option) user_option

-- the subcommands that change the systems and queue jobs
abbrev pub with_queueing : App
with_queueing =
    with_subcommand (with_subcommand (with_subcommand (with_subcommand (with_subcommand (with_subcommand without_subcommands
    (new_app (codes "load")).top) drop_command.top) (file_command (codes "send")).top) (file_command (codes "request")).top)
    exec_command.top) mail_command.top

-- and those that show and change jobs
abbrev pub with_jobs : App
with_jobs =
    with_subcommand (with_subcommand (with_subcommand (with_subcommand (with_subcommand with_queueing
    list_command.top) (job_command (codes "show")).top) (job_command (codes "kill")).top) regrade_command.top)
    (job_command (codes "rejuvenate")).top

-- and those that report systems
abbrev pub with_reports : App
with_reports =
    with_subcommand (with_subcommand (with_subcommand (with_subcommand (with_subcommand with_jobs (report_command (codes "due")).top)
    when_command.top) (report_command (codes "queues")).top) (new_app (codes "status")).top)
    (report_command (codes "systems")).top

-- and those of calls and of bundles
abbrev pub with_calls : App
with_calls =
    with_subcommand (with_subcommand (with_subcommand (with_subcommand (with_subcommand (with_subcommand (with_subcommand with_reports
    failed_command.top) done_command.top) forget_command.top) pack_command.top) unpack_command.top) settle_command.top) answer_command.top

-- and those of the map and of the site
abbrev pub with_site : App
with_site =
    with_subcommand (with_subcommand (with_subcommand with_calls (new_app (codes "map")).top) neighbours_command.top)
    (new_app (codes "name")).top

-- and those of routes
abbrev pub program : App
program = with_subcommand (with_subcommand with_site route_command.top) routes_command.top
