use Rattle.std.proofs.Common.{◌≡◌, ◌++◌, ℕ, List, true, map, take}
use Rattle.std.specs.List.{list_all}
use Rattle.std.specs.String.{string_bytes}
use Rattle.uu_names.specs.Name.{is_word}
use Rattle.uuspool.proofs.mailing.addresses_over.Given as goal

-- the addresses before this one with the path before each, which are words
abbrev pub invariant-loop-address : goal.invariant-loop-address
invariant-loop-address l =
    (l.words.items ≡ map (λ (address : List ℕ). string_bytes l.path ++ address) (take l.address-index l.addresses))
    × (list_all is_word (map (λ (address : List ℕ). string_bytes l.path ++ address) (take l.address-index l.addresses)) ≡ true)
