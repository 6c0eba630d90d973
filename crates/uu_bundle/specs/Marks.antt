-- Marks, by which two attempts to hand in one job are recognised and damage is found. (SHA-256:
-- FIPS 180-4. Which bytes of the digest make a mark is this project's choice.)
use Rattle.std.specs.Prelude.{ℕ, ◌/◌, List, take}
use Rattle.std.specs.Int.{from_be_bytes, w64}
use Rattle.sha2.specs.Sha256.{sha256}

-- the mark of a text: the first eight bytes of its digest as a number, the highest byte first,
-- without the last bit
abbrev pub mark_of : List ℕ → ℕ
mark_of text = from_be_bytes w64 (take 8 (sha256 text)) / 2
