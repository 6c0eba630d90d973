-- What is printed for a reply. The texts are this project's choice.
use Rattle.std.specs.Prelude.{ℕ, Bool, true, false, List, [], ◌∷◌, ◌++◌, codes}
use Rattle.std.specs.Fmt.{decimal}
use Rattle.uu_core.specs.Refusal.{refusal_name}
use Rattle.uu_core.specs.declared.command.Reply.{Reply}
use Rattle.uu_core.specs.declared.command.Reply.TheVariants.{Done, Number, Refused}

-- the line of a reply
abbrev pub reply_text : Reply → List ℕ
reply_text Done = codes "done" ++ 10 ∷ []
reply_text (Number number) = codes "job " ++ decimal number ++ 10 ∷ []
reply_text (Refused refusal) = codes "refused " ++ refusal_name refusal ++ 10 ∷ []

abbrev pub is_refused : Reply → Bool
is_refused (Refused refusal) = true
is_refused Done = false
is_refused (Number number) = false
