-- The laws of bytes, most significant first. Assumes nothing.
use Rattle.std.proofs.Common.{◌≡◌, ℕ, zero, suc, ◌+◌, ◌*◌, ◌/◌, ◌%◌, ◌^◌, ◌<◌, List, [], ◌∷◌, ◌++◌, length, sym, refl, ap, ◌∙◌, ap₂, suc-le-suc, mod-lt, zero-lt-suc, pow-suc, div-one, add-one, arith, length-append}
use native.Mathlib.Nat.{mod-one, div-div-eq-div-mul, pow-succ'}
use lib.Arith.{mod-mul, digits_div, digits_mod}
use Rattle.std.specs.Int.{byte_at, bytes_high_first}
use Rattle.word.specs.BigEndian.{big_endian, number_from, number_of, AreBytes}

pub length_bigEndian : (n x : ℕ) → length (big_endian n x) ≡ n
unfolding big_endian
length_bigEndian zero x = refl
length_bigEndian (suc n) x = length-append (big_endian n (x / 256)) (x % 256 ∷ []) ∙ add-one (length (big_endian n (x / 256))) ∙ ap suc (length_bigEndian n (x / 256))

pow_pos : (n : ℕ) → 0 < 256 ^ n
pow_pos zero = zero-lt-suc 0
pow_pos (suc n) = rw (pow-suc 256 n) (omega (arith, pow_pos n))

-- one byte more at the end
pub number_snoc : (high b : ℕ) (bs : List ℕ) → number_from high (bs ++ (b ∷ [])) ≡ number_from high bs * 256 + b
unfolding number_from
number_snoc high b [] = refl
number_snoc high b (c ∷ bs) = number_snoc (high * 256 + c) b bs

pub number_bytes : (n x : ℕ) → number_of (big_endian n x) ≡ x % 256 ^ n
unfolding big_endian number_from number_of
number_bytes zero x = sym (mod-one x)
number_bytes (suc n) x =
    number_snoc 0 (x % 256) (big_endian n (x / 256)) ∙ ap (λ (a : ℕ). a * 256 + x % 256) (number_bytes n (x / 256))
    ∙ sym (mod-mul x (pow_pos n) (zero-lt-suc 255)) ∙ ap (λ (a : ℕ). x % a) (sym (pow-suc 256 n))

-- the first byte of n + 1
first_byte : (n x : ℕ) → big_endian (suc n) x ≡ x / 256 ^ n % 256 ∷ big_endian n x
unfolding big_endian
first_byte zero x = ap (λ (a : ℕ). a % 256 ∷ []) (sym (div-one x))
first_byte (suc n) x =
    ap (λ (l : List ℕ). l ++ (x % 256 ∷ [])) (first_byte n (x / 256))
    ∙ ap (λ (a : ℕ). a % 256 ∷ (big_endian n (x / 256) ++ (x % 256 ∷ []))) (div-div-eq-div-mul x 256 (256 ^ n) ∙ ap (λ (a : ℕ). x / a) (sym (pow-succ' 256 n)))

-- std writes them by their places
pub high_first : (n x : ℕ) → bytes_high_first n x ≡ big_endian n x
unfolding big_endian
high_first zero x = refl
high_first (suc n) x = ap₂ (λ (b : ℕ) (l : List ℕ). b ∷ l) (by_place n x) (high_first n x) ∙ sym (first_byte n x)
  where
    by_place : (n x : ℕ) → byte_at n x ≡ x / 256 ^ n % 256
    by_place zero x = ap (λ (a : ℕ). a % 256) (sym (div-one x))
    by_place (suc n) x = refl

pub are_bytes_tail : (b : ℕ) (bs : List ℕ) → AreBytes (b ∷ bs) → AreBytes bs
unfolding AreBytes
are_bytes_tail b bs all i h = all (suc i) (suc-le-suc h)

pub are_bytes_head : (b : ℕ) (bs : List ℕ) → AreBytes (b ∷ bs) → b < 256
unfolding AreBytes
are_bytes_head b bs all = all 0 (suc-le-suc (omega arith))

are_bytes_cons : (b : ℕ) (bs : List ℕ) → b < 256 → AreBytes bs → AreBytes (b ∷ bs)
unfolding AreBytes
are_bytes_cons b bs head rest zero h = head
are_bytes_cons b bs head rest (suc i) h = rest i (omega arith)

pub are_bytes_bigEndian : (n x : ℕ) → AreBytes (big_endian n x)
unfolding AreBytes big_endian
are_bytes_bigEndian zero x = λ i h. absurd (omega arith)
are_bytes_bigEndian (suc n) x = rw (first_byte n x) (are_bytes_cons (x / 256 ^ n % 256) (big_endian n x) (mod-lt _ (zero-lt-suc 255)) (are_bytes_bigEndian n x))

-- what the number began with is left when its bytes are taken off
high_part : (high : ℕ) (bs : List ℕ) → AreBytes bs → number_from high bs / 256 ^ length bs ≡ high
unfolding number_from
high_part high [] all = div-one high
high_part high (b ∷ bs) all =
    ap (λ (a : ℕ). number_from (high * 256 + b) bs / a) (pow-suc 256 (length bs))
    ∙ sym (div-div-eq-div-mul (number_from (high * 256 + b) bs) (256 ^ length bs) 256)
    ∙ ap (λ (a : ℕ). a / 256) (high_part (high * 256 + b) bs (are_bytes_tail b bs all)) ∙ digits_div high (are_bytes_head b bs all)

bytes_from : (high : ℕ) (bs : List ℕ) → AreBytes bs → big_endian (length bs) (number_from high bs) ≡ bs
unfolding number_from big_endian
bytes_from high [] all = refl
bytes_from high (b ∷ bs) all =
    first_byte (length bs) (number_from (high * 256 + b) bs)
    ∙ ap₂ (λ (a : ℕ) (l : List ℕ). a % 256 ∷ l) (high_part (high * 256 + b) bs (are_bytes_tail b bs all)) (bytes_from (high * 256 + b) bs (are_bytes_tail b bs all))
    ∙ ap (λ (a : ℕ). a ∷ bs) (digits_mod high (are_bytes_head b bs all))

pub bytes_number : (bs : List ℕ) → AreBytes bs → big_endian (length bs) (number_of bs) ≡ bs
unfolding number_of
bytes_number bs all = bytes_from 0 bs all
