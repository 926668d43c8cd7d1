-- The two digests that document 003 prints (appendix A), as theorems about the definitions.
use Rattle.std.specs.Prelude.{ℕ, ◌≡◌, List, [], ◌∷◌, ◌++◌}
use Rattle.hash.specs.Sm3.{sm3}
use Rattle.word.specs.BigEndian.{big_endian}

-- words as bytes, each most significant byte first
unfoldable pub bytes_of : (words : List ℕ) → List ℕ
bytes_of [] = []
bytes_of (w ∷ ws) = big_endian 4 w ++ bytes_of ws

-- A.1: "abc"
unfoldable pub abc : List ℕ
abc = 0x61 ∷ 0x62 ∷ 0x63 ∷ []

-- A.2: the 64 bytes 61626364 .. 61626364
unfoldable pub sixteen_words : List ℕ
sixteen_words =
    0x61626364 ∷ 0x61626364 ∷ 0x61626364 ∷ 0x61626364 ∷ 0x61626364 ∷ 0x61626364 ∷ 0x61626364 ∷ 0x61626364
    ∷ 0x61626364 ∷ 0x61626364 ∷ 0x61626364 ∷ 0x61626364 ∷ 0x61626364 ∷ 0x61626364 ∷ 0x61626364 ∷ 0x61626364 ∷ []

unfoldable pub abcd16 : List ℕ
abcd16 = bytes_of sixteen_words

pub record Printed : Type 0 where
  pub one_block :
      sm3 abc ≡ bytes_of (0x66c7f0f4 ∷ 0x62eeedd9 ∷ 0xd1f2d46b ∷ 0xdc10e4e2 ∷ 0x4167c487 ∷ 0x5cf2f7a2 ∷ 0x297da02b ∷ 0x8f4ba8e0 ∷ [])
  pub two_blocks :
      sm3 abcd16 ≡ bytes_of (0xdebe9ff9 ∷ 0x2275b8a1 ∷ 0x38604889 ∷ 0xc18e5a4d ∷ 0x6fdb70e5 ∷ 0x387e5765 ∷ 0x293dcba3 ∷ 0x9c0c5732 ∷ [])
