-- What is promised of a text that is put together. All of it is proved in proofs/Proved.antt.
use Rattle.std.specs.Prelude.{ℕ, ◌+◌, ◌≤◌, ◌<◌, ◌≡◌, List, [], ◌++◌, length, take, drop, replicate}
use Rattle.texts.specs.Texts.{empty_text, with_part, text_of, said}
use Rattle.texts.specs.declared.Text.{Text}

-- a text as it can be: 1,024 bytes, of which it has no more
pub record Sound (t : Text) : Type 0 where
  pub room : length t.bytes ≡ 1024
  pub within : t.length ≤ 1024

pub record Promises : Type 0 where
  -- a text says the first of its bytes, as many as it has
  pub first : (t : Text) → said t ≡ take t.length t.bytes
  -- the empty text says nothing
  pub empty : empty_text ≡ record { bytes = replicate 1024 0; length = 0 }
  pub silent : said empty_text ≡ []
  -- where a part fits, the text says what it said and then the part
  pub says : (t : Text) (part : List ℕ) → Sound t → t.length + length part ≤ 1024 → said (with_part t part) ≡ said t ++ part
  -- its bytes before the part and behind it stay
  pub placed :
      (t : Text) (part : List ℕ) → Sound t → t.length + length part ≤ 1024
      → with_part t part
      ≡ record {
        bytes = take t.length t.bytes ++ (part ++ drop (t.length + length part) t.bytes);
        length = t.length + length part;
      }
  -- where it does not, nothing changes
  pub stays : (t : Text) (part : List ℕ) → 1024 < t.length + length part → with_part t part ≡ t
  -- a text stays one
  pub sound_empty : Sound empty_text
  pub sound : (t : Text) (part : List ℕ) → Sound t → Sound (with_part t part)
  -- the text of bytes says all of them and no other; and whether they came in one part or in two leaves the same text
  pub of_bytes : (bytes : List ℕ) → said (text_of bytes) ≡ bytes
  pub of_none : text_of [] ≡ empty_text
  pub joins : (one other : List ℕ) → length one + length other ≤ 1024 → with_part (text_of one) other ≡ text_of (one ++ other)
