-- The SM3 standard's page (document 003), line by line and with its names where it has any; in its order, save that the iteration (5.3.1)
-- stands behind the compression function that it calls. Its padding (5.2) is the crate padding's, and the whole (5.1) the crate hash's.
-- Document 01's condensed form says the same; where 003 misprints W'j as Wj in TT1, 01 decides.
use Rattle.std.specs.Prelude.{ℕ, zero, suc, ◌+◌, ◌*◌, ◌-◌, ◌/◌, ◌%◌, ◌^◌, List, [], ◌∷◌, ◌++◌, cond, ltb, length, get_or, take, drop}
use Rattle.std.specs.Int.Bits.{bit_and, bit_or, bit_xor}
use Rattle.word.specs.Rotation.{◌⊞◌, ◌<<<◌}
use Rattle.word.specs.BigEndian.{number_of, big_endian}
use Rattle.standard.specs.declared.Words.{Words}

-- 3 Symbols: ∧, ∨, ⊕ and ¬ of words (+ and <<< are the crate word's)
infixl 50 ◌xor◌
infixl 55 ◌or◌
infixl 60 ◌and◌
abbrev pub ◌and◌ : ℕ → ℕ → ℕ
x and y = bit_and x y

abbrev pub ◌or◌ : ℕ → ℕ → ℕ
x or y = bit_or x y

abbrev pub ◌xor◌ : ℕ → ℕ → ℕ
x xor y = bit_xor x y

-- every bit of a word the other way
abbrev pub complement : ℕ → ℕ
complement x = 2 ^ 32 - 1 - x

-- 4.1 Initial value
abbrev pub IV : Words
IV =
    record {
      a = 0x7380166f;
      b = 0x4914b2b9;
      c = 0x172442d7;
      d = 0xda8a0600;
      e = 0xa96f30bc;
      f = 0x163138aa;
      g = 0xe38dee4d;
      h = 0xb0fb0e4e;
    }

-- 4.2 Constants: one for j in 0..15, the other for 16..63
unfoldable pub T : ℕ → ℕ
T j = cond (ltb j 16) 0x79cc4519 0x7a879d8a

-- 4.3 Boolean functions: the exclusive or for j in 0..15; then majority, and choice by X
unfoldable pub FF : ℕ → ℕ → ℕ → ℕ → ℕ
FF j X Y Z = cond (ltb j 16) (X xor Y xor Z) ((X and Y) or (X and Z) or (Y and Z))

unfoldable pub GG : ℕ → ℕ → ℕ → ℕ → ℕ
GG j X Y Z = cond (ltb j 16) (X xor Y xor Z) ((X and Y) or (complement X and Z))

-- 4.4 Permutations
unfoldable pub P0 : ℕ → ℕ
P0 X = X xor (X <<< 9) xor (X <<< 17)

unfoldable pub P1 : ℕ → ℕ
P1 X = X xor (X <<< 15) xor (X <<< 23)

-- 5.3.2 Message expansion. The first n words of a block, each four bytes, most significant first
unfoldable pub split : ℕ → List ℕ → List ℕ
split zero B = []
split (suc n) B = number_of (take 4 B) ∷ split n (drop 4 B)

-- Wj from the words before it, W0 .. Wj-1 in a list
unfoldable pub next_word : List ℕ → ℕ
unfolding P1
next_word W =
    let j = length W in
    P1 (get_or W (j - 16) 0 xor get_or W (j - 9) 0 xor (get_or W (j - 3) 0 <<< 15)) xor (get_or W (j - 13) 0 <<< 7) xor get_or W (j - 6) 0

-- the first words of a block and n more
unfoldable pub extended : ℕ → List ℕ → List ℕ
extended zero W = W
extended (suc n) W = let longer = extended n W in longer ++ (next_word longer ∷ [])

-- W0 .. W67 of a block: its 16 words, and 52 more
unfoldable pub expansion : List ℕ → List ℕ
expansion B = extended 52 (split 16 B)

-- W'j = Wj xor Wj+4
unfoldable pub W' : List ℕ → ℕ → ℕ
W' W j = get_or W j 0 xor get_or W (j + 4) 0

-- 5.3.3 Compression function. Round j, on the registers and on Wj and W'j
unfoldable pub round : ℕ → Words → ℕ → ℕ → Words
unfolding T FF GG P0
round j r Wj W'j =
    let SS1 = ((r.a <<< 12) ⊞ r.e ⊞ (T j <<< (j % 32))) <<< 7 in
    let SS2 = SS1 xor (r.a <<< 12) in
    let TT1 = FF j r.a r.b r.c ⊞ r.d ⊞ SS2 ⊞ W'j in
    let TT2 = GG j r.e r.f r.g ⊞ r.h ⊞ SS1 ⊞ Wj in
    record {
      d = r.c;
      c = r.b <<< 9;
      b = r.a;
      a = TT1;
      h = r.g;
      g = r.f <<< 19;
      f = r.e;
      e = P0 TT2;
    }

-- round j with its words out of W0 .. W67
unfoldable pub round_on : List ℕ → ℕ → Words → Words
round_on W j r = round j r (get_or W j 0) (W' W j)

-- the registers after the first n rounds
unfoldable pub rounds : ℕ → Words → List ℕ → Words
rounds zero v W = v
rounds (suc j) v W = round_on W j (rounds j v W)

-- two lots of eight words, xored word by word
unfoldable pub xor_words : Words → Words → Words
xor_words x y =
    record {
      a = x.a xor y.a;
      b = x.b xor y.b;
      c = x.c xor y.c;
      d = x.d xor y.d;
      e = x.e xor y.e;
      f = x.f xor y.f;
      g = x.g xor y.g;
      h = x.h xor y.h;
    }

-- V(i+1) = CF(V(i), B(i))
unfoldable pub CF : Words → List ℕ → Words
CF v B = xor_words (rounds 64 v (expansion B)) v

-- 5.3.1 Iteration: V(n) from V(0) and the first n blocks of 64 bytes
unfoldable pub iterated : ℕ → Words → List ℕ → Words
iterated zero v m = v
iterated (suc n) v m = iterated n (CF v (take 64 m)) (drop 64 m)

-- all the whole blocks of the bytes m
unfoldable pub folded : Words → List ℕ → Words
unfolding iterated
folded v m = iterated (length m / 64) v m

-- what is left after the last whole block of 64 bytes
unfoldable pub rest : List ℕ → List ℕ
rest m = drop (length m / 64 * 64) m

-- 5.4 Hash value: the eight words as 32 bytes
unfoldable pub hash_value : Words → List ℕ
hash_value v =
    big_endian 4 v.a ++ big_endian 4 v.b ++ big_endian 4 v.c ++ big_endian 4 v.d
    ++ big_endian 4 v.e ++ big_endian 4 v.f ++ big_endian 4 v.g ++ big_endian 4 v.h
