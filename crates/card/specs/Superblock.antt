-- Block 0 of a card, which names the live interval: document 02, paper 3. Assumes nothing.
use Rattle.std.specs.Prelude.{List, ◌++◌, ℕ, replicate}
use Rattle.words.specs.Words.{pack, word}
use Rattle.crc32c.specs.Crc32c.{checksum_bytes}

unfoldable pub zeros : (n : ℕ) → List ℕ
zeros n = replicate n 0

-- what the payload begins with: "a 32-bit length (10), a two-byte kind (1), and 32-bit start and length of the live
-- interval", 14 bytes
unfoldable pub super_fields : (start len : ℕ) → List ℕ
super_fields start len = word 10 ++ (pack 2 1 ++ (word start ++ word len))

-- "the rest is zero"
unfoldable pub super_payload : (start len : ℕ) → List ℕ
super_payload start len = super_fields start len ++ zeros 4050

-- "a checksummed block"
unfoldable pub superblock : (start len : ℕ) → List ℕ
superblock start len = checksum_bytes (super_payload start len) ++ super_payload start len
