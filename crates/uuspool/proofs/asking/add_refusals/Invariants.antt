use Rattle.std.proofs.Common.{◌≡◌, take}
use Rattle.std.specs.Prelude.{⊤}
use Rattle.uu_bundle.specs.Bundles.{text_with_refused}
use Rattle.uuspool.specs.Bundles.{refused_among}
use Rattle.uuspool.specs.Internal.Asked.{WasAsked}
use Rattle.uuspool.proofs.asking.add_refusals.Given as goal

-- the text has those of the commands before this one
abbrev pub invariant-loop-command : goal.invariant-loop-command
invariant-loop-command g l = WasAsked (λ s. ⊤) (λ s. l.text.items ≡ text_with_refused l.fn.text.items (refused_among (take l.command-index l.commands) s)) l.fn.spool l.spool
