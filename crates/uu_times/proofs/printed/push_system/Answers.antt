use Rattle.std.proofs.Common.{◌≡◌, ◌++◌, ap, sym, ◌∙◌, List}
use Rattle.std.specs.List.{flat_map}
use Rattle.std.proofs.lemmas.Result.{on_ok_weaker}
use Rattle.uu_times.specs.declared.system.Line.{Line}
use Rattle.uu_times.specs.System.{System}
use Rattle.uu_times.specs.Printed.{time_words, line_text, system_text}
use Rattle.uu_times.proofs.PrintedText.{system_grown}
use Rattle.uu_times.proofs.printed.push_system.Goals as goal

pub returns-clause-text : goal.returns-clause-text
returns-clause-text c =
    let s : System = record { name = c.system.inside.name; lines = c.system.inside.lines; max_retries = c.system.inside.max_retries; success_wait = c.system.inside.success_wait } in
    let same : s ≡ c.args.system.now = c.system.view_is in
    on_ok_weaker c.push_lines.result
    (λ last.
    system_grown s c.args.text.now.items c.push_name.new.text.items c.push_setting.new.text.items c.push_setting-2.new.text.items c.push_lines.new.text.items
    c.in_ok-push_name.ensures.text c.in_ok-push_setting.ensures c.in_ok-push_setting-2.ensures
    (last ∙ ap (λ (ls : List Line). c.push_setting-2.new.text.items ++ flat_map (λ line. line_text (time_words line)) ls) (c.lines.ensures.value ∙ ap (λ (t : System). t.lines) (sym same)))
    ∙ ap (λ (t : System). c.args.text.now.items ++ system_text t) same)
    c.push_lines.ensures.text
