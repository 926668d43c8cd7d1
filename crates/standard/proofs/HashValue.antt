-- The 32 bytes of eight words. Assumes nothing.
use Rattle.std.proofs.Common.{◌≡◌, List, ℕ, [], ◌∷◌, flat_map, append_assoc, append-nil}
use Rattle.word.specs.BigEndian.{big_endian}
use Rattle.standard.specs.declared.Words.{Words}
use Rattle.standard.specs.Standard.{hash_value}

-- the bytes of the eight words laid one after the other
pub all_laid : (v : Words) {a b c d e f g h laid bytes : List ℕ} → a ≡ big_endian 4 v.a → b ≡ big_endian 4 v.b → c ≡ big_endian 4 v.c
    → d ≡ big_endian 4 v.d → e ≡ big_endian 4 v.e → f ≡ big_endian 4 v.f → g ≡ big_endian 4 v.g → h ≡ big_endian 4 v.h
    → laid ≡ flat_map (λ (x : List ℕ). x) (a ∷ b ∷ c ∷ d ∷ e ∷ f ∷ g ∷ h ∷ []) → bytes ≡ laid → bytes ≡ hash_value v
unfolding hash_value
all_laid v ea eb ec ed ee ef eg eh el same = rw (same, el, ea, eb, ec, ed, ee, ef, eg, eh) (simp (append_assoc, append-nil))
