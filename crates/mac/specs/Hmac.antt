-- HMAC: RFC 2104, section 2, with SM3 for H, "64-byte blocks and 32-byte results" (4/13).
use Rattle.std.specs.Prelude.{ℕ, ◌-◌, List, [], ◌∷◌, ◌++◌, cond, ltb, length, replicate}
use Rattle.std.specs.Int.Bits.{bit_xor}
use Rattle.hash.specs.Sm3.{sm3}

-- the byte 0x36, and the byte 0x5C, repeated 64 times
unfoldable pub ipad : List ℕ
ipad = replicate 64 0x36

unfoldable pub opad : List ℕ
opad = replicate 64 0x5c

-- XOR, byte by byte, as far as both go (here both have 64 bytes)
infixl 50 ◌⊕◌
unfoldable pub ◌⊕◌ : List ℕ → List ℕ → List ℕ
[] ⊕ ys = []
(x ∷ xs) ⊕ [] = []
(x ∷ xs) ⊕ (y ∷ ys) = bit_xor x y ∷ (xs ⊕ ys)

-- "a key over 64 bytes is hashed first"
unfoldable pub short_key : (key : List ℕ) → List ℕ
short_key key = cond (ltb 64 (length key)) (sm3 key) key

-- RFC 2104's K: the key, or its digest, with zeros behind it to 64 bytes
unfoldable pub key_block : (key : List ℕ) → List ℕ
key_block key = short_key key ++ replicate (64 - length (short_key key)) 0

-- H(K XOR opad, H(K XOR ipad, text))
unfoldable pub hmac : (key message : List ℕ) → List ℕ
hmac key message = let K = key_block key in sm3 ((K ⊕ opad) ++ sm3 ((K ⊕ ipad) ++ message))
