-- What the crate promises of its words.
use Rattle.std.specs.Prelude.{◌≡◌, ℕ, ◌+◌, ◌*◌, ◌/◌, ◌%◌, ◌^◌, ◌<◌, ◌↔◌, List, [], ◌∷◌, ◌++◌, length, slice_index}
use Rattle.word.specs.Rotation.{◌⊞◌, ◌<<<◌}
use Rattle.word.specs.BigEndian.{big_endian, number_of, AreBytes}

-- "+ is modulo 2^32"
abbrev pub Sum : Type 0
Sum = (x y : ℕ) → x ⊞ y ≡ (x + y) % 4294967296

-- a word rotated is a word
abbrev pub StaysAWord : Type 0
StaysAWord = (x k : ℕ) → x < 2 ^ 32 → x <<< k < 2 ^ 32

-- by no places, it is the same
abbrev pub ByNone : Type 0
ByNone = (x : ℕ) → x < 2 ^ 32 → x <<< 0 ≡ x

-- by one place: twice the word, and the bit that leaves it at the left comes in at the right. With ByBoth this fixes every turn
abbrev pub ByOne : Type 0
ByOne = (x : ℕ) → x <<< 1 ≡ x * 2 % 2 ^ 32 + x / 2 ^ 31

-- by a and then by b places, it is rotated by a + b
abbrev pub ByBoth : Type 0
ByBoth = (x a b : ℕ) → x < 2 ^ 32 → x <<< (a + b) ≡ (x <<< a) <<< b

-- document 01: "Document 004 rotates Tj by j, document 003 by j mod 32. On 32-bit words these are the same."
abbrev pub ByRemainder : Type 0
ByRemainder = (x k : ℕ) → x <<< (k % 32) ≡ x <<< k

-- "most significant byte first": a byte more makes what stands before it count 256 times
abbrev pub MostFirst : Type 0
MostFirst = (number_of [] ≡ 0) × ((bytes : List ℕ) (b : ℕ) → number_of (bytes ++ (b ∷ [])) ≡ number_of bytes * 256 + b)

-- four bytes are a word's
abbrev pub FourBytes : Type 0
FourBytes = (a b c d : ℕ) → number_of (a ∷ b ∷ c ∷ d ∷ []) ≡ a * 16777216 + b * 65536 + c * 256 + d

-- a number's n bytes are n bytes
abbrev pub AsMany : Type 0
AsMany = (n x : ℕ) → (length (big_endian n x) ≡ n) × AreBytes (big_endian n x)

-- a number comes back from its n bytes, as far as they hold it
abbrev pub NumberBack : Type 0
NumberBack = (n x : ℕ) → number_of (big_endian n x) ≡ x % 256 ^ n

-- bytes come back from their number
abbrev pub BytesBack : Type 0
BytesBack = (bytes : List ℕ) → AreBytes bytes → big_endian (length bytes) (number_of bytes) ≡ bytes

-- bytes are numbers below 256
abbrev pub BytesAre : Type 0
BytesAre = (bytes : List ℕ) → AreBytes bytes ↔ ((i : ℕ) → i < length bytes → slice_index bytes i < 256)

pub record Promises : Type 0 where
  pub sums : Sum
  pub stays_a_word : StaysAWord
  pub by_none : ByNone
  pub by_one : ByOne
  pub by_both : ByBoth
  pub by_remainder : ByRemainder
  pub most_first : MostFirst
  pub four_bytes : FourBytes
  pub bytes_are : BytesAre
  pub as_many : AsMany
  pub number_back : NumberBack
  pub bytes_back : BytesBack
