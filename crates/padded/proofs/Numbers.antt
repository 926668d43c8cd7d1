-- The last eight bytes as a number. Assumes nothing.
use Rattle.std.proofs.Common.{◌≡◌, ℕ, ◌-◌, List, [], ◌∷◌, length, drop, arith, w64, ap, ◌∙◌}
use Rattle.std.specs.Int.{from_be_bytes}
use Rattle.word.specs.BigEndian.{number_from, number_of}
use Rattle.padded.specs.Removing.{stated_bits}

pub eight_read : (bs : List ℕ) → length bs ≡ 8 → from_be_bytes w64 bs ≡ number_of bs
unfolding number_of number_from
eight_read (a ∷ (b ∷ (c ∷ (d ∷ (e ∷ (f ∷ (g ∷ (h ∷ [])))))))) long = omega arith
eight_read (a ∷ (b ∷ (c ∷ (d ∷ (e ∷ (f ∷ (g ∷ (h ∷ (i ∷ bs))))))))) long = absurd (omega arith)
eight_read (a ∷ (b ∷ (c ∷ (d ∷ (e ∷ (f ∷ (g ∷ []))))))) long = absurd (omega arith)
eight_read (a ∷ (b ∷ (c ∷ (d ∷ (e ∷ (f ∷ [])))))) long = absurd (omega arith)
eight_read (a ∷ (b ∷ (c ∷ (d ∷ (e ∷ []))))) long = absurd (omega arith)
eight_read (a ∷ (b ∷ (c ∷ (d ∷ [])))) long = absurd (omega arith)
eight_read (a ∷ (b ∷ (c ∷ []))) long = absurd (omega arith)
eight_read (a ∷ (b ∷ [])) long = absurd (omega arith)
eight_read (a ∷ []) long = absurd (omega arith)
eight_read [] long = absurd (omega arith)

-- the last eight bytes
pub last_read : (s last : List ℕ) → last ≡ drop (length s - 8) s → length (drop (length s - 8) s) ≡ 8 → from_be_bytes w64 last ≡ stated_bits s
unfolding stated_bits
last_read s last is long = ap (from_be_bytes w64) is ∙ eight_read (drop (length s - 8) s) long
