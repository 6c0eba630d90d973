use Rattle.std.proofs.Common.{Bor, List, ap, inl, inr, map, subst, ℕ}
use Rattle.uu_bundle.specs.Internal.Forms.{AreFiles, IsExecution, IsReadAs, execution_words, file_words}
use Rattle.uu_bundle.proofs.Records.{no_execution, no_files}
use Rattle.uu_bundle.proofs.words.kind_in.Goals as goal

abbrev texts : List (Bor (List ℕ)) → List (List ℕ)
texts words = map (λ word. word.now) words

pub returns-in-None : goal.returns-in-None
returns-in-None c =
    no_files (texts c.args.words.now) (texts c.in-Some.words.now) c.in-Some.name.now.now (ap texts c.in-Some.ensures.cases.0) (inl c.in-send.is)
    (subst (IsReadAs AreFiles file_words (texts c.in-Some.words.now)) c.in-None.is c.in_ok-source-in-send.ensures)

pub returns-in-None-2 : goal.returns-in-None-2
returns-in-None-2 c =
    no_files (texts c.args.words.now) (texts c.in-Some.words.now) c.in-Some.name.now.now (ap texts c.in-Some.ensures.cases.0) (inr c.in-request.is)
    (subst (IsReadAs AreFiles file_words (texts c.in-Some.words.now)) c.in-None-2.is c.in_ok-source-in-request.ensures)

pub returns-in-None-3 : goal.returns-in-None-3
returns-in-None-3 c =
    no_execution (texts c.args.words.now) (texts c.in-Some.words.now) c.in-Some.name.now.now (ap texts c.in-Some.ensures.cases.0) c.in-exec.is
    (subst (IsReadAs IsExecution execution_words (texts c.in-Some.words.now)) c.in-None-3.is c.in_ok-command-in-exec.ensures)
