-- HMAC-SHA256 (RFC 2104), on lists of bytes. Section 2 is the standard's.
use Rattle.std.specs.Prelude.{ℕ, ◌-◌, nat_le, if◌then◌else◌, List, ◌++◌, length, map, replicate, bit_xor}
use Rattle.sha2.specs.Sha256.{sha256}

-- the bytes of a block of SHA-256: B
abbrev pub block_bytes : ℕ
block_bytes = 64

-- the key itself, or its digest if it is longer than a block (2)
abbrev pub short_key : List ℕ → List ℕ
short_key key = if nat_le (length key) block_bytes then key else sha256 key

-- with zeros up to a block (2, step 1)
abbrev pub key_block : List ℕ → List ℕ
key_block key = short_key key ++ replicate (block_bytes - length (short_key key)) 0

-- each byte of the block, exclusive or this byte
abbrev pub xored : ℕ → List ℕ → List ℕ
xored byte block = map (λ each. bit_xor each byte) block

-- the byte of ipad
abbrev pub inner_byte : ℕ
inner_byte = 0x36

-- the byte of opad
abbrev pub outer_byte : ℕ
outer_byte = 0x5C

-- H(K XOR opad, H(K XOR ipad, text)) (2)
unfoldable pub hmac : List ℕ → List ℕ → List ℕ
hmac key text = sha256 (xored outer_byte (key_block key) ++ sha256 (xored inner_byte (key_block key) ++ text))
