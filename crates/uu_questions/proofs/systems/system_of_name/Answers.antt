use Rattle.std.proofs.Common.{option_map, ap, ◌∙◌}
use Rattle.uu_core.specs.State.{system_at}
use Rattle.uu_tables.specs.Tables.{system_columns}
use Rattle.uu_rows.proofs.Showing.{answered}
use Rattle.uu_questions.specs.Systems.{row_from}
use Rattle.uu_questions.proofs.Answering.{answer_in}
use Rattle.uu_questions.proofs.Asking.{asks_as, asks_refused}
use Rattle.uu_questions.proofs.SystemRows.{found_returns}
use Rattle.uu_questions.proofs.systems.system_of_name.Goals as goal

pub returns : goal.returns
returns g c =
    asks_as c.columns_of_name.ensures (λ ok. answered c.columns_of_name.result _ c.in_ok-found.was)
    (λ s good it.
    c.row_found.ensures ∙ ap (option_map row_from) (answer_in _ c.columns_of_name.result _ c.in_ok-found.was it) ∙ ap (λ name. option_map row_from (option_map system_columns (system_at s name))) c.as_str.ensures.text
    ∙ found_returns (system_at s c.args.name.now))

pub returns-in_err-found : goal.returns-in_err-found
returns-in_err-found g c = asks_refused c.columns_of_name.ensures c.from_residual.ensures.0
