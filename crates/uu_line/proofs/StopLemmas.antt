-- Where the words of a line stop for a subcommand: only at a word that names one.
use Rattle.std.proofs.Common.{◌≡◌, Bool, true, List, Option, Some, None, refl}
use Rattle.clap.specs.Lexer.{short_of}
use Rattle.clap.specs.Walk.{Held, Outcome, done, waits, plain, refused, Rule, Step, next, trailing, subcommand, value, Text, Waiting, idle, option, positional, Walk, after_flag, after_step, arg_by_index, arg_by_long, bundle, long_met, long_or_other, plain_word, short_or_plain, to_positional}

-- a name at which the words stop passes the test
abbrev pub stops_so : (Text → Bool) → Option (Text × List Text) → Bool
stops_so test None = true
stops_so test (Some p) = test p.0

-- and so does one of a step
abbrev pub steps_so : (Text → Bool) → Step → Bool
steps_so test (subcommand name) = test name
steps_so test _ = true

module _ (test : Text → Bool) (c : List Rule) where
  plain_steps : (waiting : Waiting) (word : Text) (h : Held) → steps_so test (plain_word c waiting word h).1 ≡ true
  plain_steps idle word h = refl
  plain_steps (option id) word h = refl
  plain_steps positional word h = refl

  flag_steps : (waiting : Waiting) (word : Text) (h : Held) (o : Outcome) → steps_so test (after_flag c waiting word h o).1 ≡ true
  flag_steps waiting word h done = refl
  flag_steps waiting word h (waits id) = refl
  flag_steps waiting word h plain = plain_steps waiting word h
  flag_steps waiting word h refused = plain_steps waiting word h

  short_steps : (o : Option Text) (waiting : Waiting) (word : Text) (h : Held) → steps_so test (short_or_plain c waiting word o h).1 ≡ true
  short_steps None waiting word h = plain_steps waiting word h
  short_steps (Some flags) waiting word h = flag_steps waiting word (bundle c flags h).0 (bundle c flags h).1

  pub long_steps : (o : Option (Text × Option Text)) (waiting : Waiting) (word : Text) (h : Held) → steps_so test (long_or_other c waiting word o h).1 ≡ true
  long_steps None waiting word h = short_steps (short_of word) waiting word h
  long_steps (Some p) waiting word h = flag_steps waiting word (long_met c (arg_by_long c p.0) p.1 h).0 (long_met c (arg_by_long c p.0) p.1 h).1

  pub step_stops : (word : Text) (w : Walk) (h : Held) (step : Step) → steps_so test step ≡ true → stops_so test w.stopped ≡ true → stops_so test (after_step c word w h step).stopped ≡ true
  step_stops word w h (next waiting) well so_far = so_far
  step_stops word w h (trailing position) well so_far = so_far
  step_stops word w h (subcommand name) well so_far = well
  step_stops word w h value well so_far = go (arg_by_index c w.position)
    where
      go : (o : Option Rule) → stops_so test (to_positional c o word w h).stopped ≡ true
      go None = so_far
      go (Some a) = refl
